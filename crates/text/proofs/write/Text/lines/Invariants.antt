-- Each turn has the line of one layer more.
use Rattle.std.proofs.Common.{◌≡◌, ◌++◌}
use Rattle.text.specs.Text.{lines_of}
use Rattle.text.proofs.write.Text.lines.Given as goal

abbrev pub invariant-loop-layer : goal.invariant-loop-layer
invariant-loop-layer l = l.self ≡ l.fn.self ++ lines_of l.layer l.p l.phases
