-- Each turn reads one offset more, and what is not read stays 0.
use Rattle.std.proofs.Common.{arith}
use Rattle.offsets.proofs.Places.{read_none, read_next, read_all}
use Rattle.offsets.proofs.reduce.Goals as goal

pub loop-i-init : goal.loop-i-init
loop-i-init c = read_none c.args.offsets.now

pub loop-i-preserved : goal.loop-i-preserved
loop-i-preserved c = read_next c.args.offsets.now c.min-n.result c.min-n.ensures c.loop-i.i c.loop-i.invariant c.loop-i-test.true

pub returns : goal.returns
returns c = read_all c.args.offsets.now c.min-n.result c.min-n.ensures c.loop-i.i c.loop-i.invariant (omega arith)
