-- Each turn writes the first number of what is left.
use Rattle.std.proofs.Common.{◌-◌, ap, length, get_or, arith, append-nil, append_assoc, length-append}
use Rattle.text.proofs.Words.{ended_long}
use Rattle.text.proofs.Lines.{line_next, line_end}
use Rattle.text.proofs.write.Text.line.Goals as goal

pub number-requires : goal.number-requires
number-requires c =
    let xs = c.args.phases.now in
    let i = c.loop-i.i in
    let all = ap length (rw (line_next xs i (omega arith)) at c.loop-i.invariant) in
    omega (arith, simp length-append at all, ended_long (get_or xs i 0) (length xs - 1 - i))

pub loop-i-preserved : goal.loop-i-preserved
loop-i-preserved c =
    rw (c.number.ensures, append_assoc, ← line_next c.args.phases.now c.loop-i.i (omega arith)) c.loop-i.invariant

pub returns : goal.returns
returns c = rw (line_end c.args.phases.now c.loop-i.i (omega arith), append-nil) at c.loop-i.invariant
