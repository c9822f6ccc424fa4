-- What is written and what is left make the line.
use Rattle.std.proofs.Common.{◌≡◌, ◌++◌, drop}
use Rattle.text.specs.Words.{line_of}
use Rattle.text.proofs.write.Text.line.Given as goal

abbrev pub invariant-loop-i : goal.invariant-loop-i
invariant-loop-i l = l.self ++ line_of (drop l.i l.phases) ≡ l.fn.self ++ line_of l.phases
