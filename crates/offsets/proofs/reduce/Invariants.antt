-- The first i are read.
use Rattle.std.proofs.Common.{◌≡◌}
use Rattle.offsets.proofs.Places.{read_to}
use Rattle.offsets.proofs.reduce.Given as goal

abbrev pub invariant-loop-i : goal.invariant-loop-i
invariant-loop-i l = l.xs ≡ read_to l.fn.offsets l.i
