-- Each turn has one number more written after those that stand in the array.
use Rattle.listing.proofs.LineBegun.{LineBegun}
use Rattle.listing.proofs.numbers.Given as goal

abbrev pub invariant-loop-i : goal.invariant-loop-i
invariant-loop-i l = LineBegun l.fn.xs l.i l.k l.line
