-- The first blocks stand, with the offsets of their ports.
use Rattle.plan.specs.Drawing.{step_x, step_y}
use Rattle.writer.specs.Blocks.{Laid}
use Rattle.writer.proofs.Laid.{blocks_of}
use Rattle.writer.proofs.fill.column.Given as goal

abbrev pub invariant-loop-c : goal.invariant-loop-c
invariant-loop-c l =
    Laid l.initial.out l.at
    (blocks_of l.ports.offsets.now l.s.co l.code l.s.rows l.s.columns (step_x l.step) (step_y l.step) l.c-index) l.to l.out
