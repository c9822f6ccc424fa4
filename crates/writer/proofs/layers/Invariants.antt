-- The first layers stand.
use Rattle.plan.specs.Drawing.{drawn}
use Rattle.writer.specs.Blocks.{Laid}
use Rattle.writer.proofs.layers.Given as goal

abbrev pub invariant-loop-code : goal.invariant-loop-code
invariant-loop-code l = Laid l.initial.out 0 (drawn l.ports.offsets.now l.s l.code-index) l.at l.out
