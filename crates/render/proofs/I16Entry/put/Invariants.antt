-- The weights of the first phases are stored.
use Rattle.std.proofs.Common.{◌≡◌, ◌*◌, ◌++◌, take, drop}
use Rattle.render.specs.Rendered.{looked_up}
use Rattle.render.proofs.I16Entry.put.Given as goal

abbrev pub invariant-loop-i : goal.invariant-loop-i
invariant-loop-i l = l.out ≡ take (2 * l.i) (looked_up l.phases) ++ drop (2 * l.i) l.initial.out
