-- What is added to the first blocks stands.
use Rattle.std.proofs.Common.{◌≡◌, ◌++◌, take, drop}
use lib.ListN.{replicate}
use Rattle.plan.specs.Drawing.{co_row}
use Rattle.writer.proofs.fill.co_phases.Given as goal

abbrev pub invariant-loop-q : goal.invariant-loop-q
invariant-loop-q l = l.cs ≡ take l.q (co_row l.co l.code 8) ++ drop l.q (replicate 8 0)
