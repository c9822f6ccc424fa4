-- The largest so far.
use Rattle.std.proofs.Common.{◌≡◌, max, take}
use Rattle.std.specs.List.{fold}
use Rattle.offsets.proofs.is_unfit.Given as goal

abbrev pub invariant-loop-o : goal.invariant-loop-o
invariant-loop-o l = l.largest ≡ fold max 0 (take l.o-index l.offsets)
