-- Each turn stores one byte more of the number.
use Rattle.std.proofs.Common.{◌≡◌, take}
use Rattle.groups.specs.Number.{code}
use Rattle.coding.proofs.Putting.{Begun}
use Rattle.coding.proofs.put.Given as goal

abbrev pub invariant-loop-byte : goal.invariant-loop-byte
invariant-loop-byte l = record {
  begun : Begun l.n l.rest l.byte-index;
  stored : take l.byte-index l.byte-items ≡ take l.byte-index (code l.n);
}
