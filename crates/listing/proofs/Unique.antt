-- Each public function of the crate has one outcome on every input: any two that its contract admits are equal, the number
-- of bytes and every byte of the buffer.
use mathlib.Core.Path.{◌≡◌, refl, sym}
use mathlib.Core.Bool.{Bool, true, false}
use mathlib.Core.List.{List}
use Prim.Native.Nat.{ℕ}
use Rattle.ground.specs.Unique.{Unique, UniqueLeft}
use Rattle.ground.proofs.Writes.{one_writing}
use Rattle.listing.specs.Listing.{TellsEnd}
use Rattle.listing.proofs.numbers.Reads as numbers
use Rattle.listing.proofs.end.Reads as end
use Rattle.listing.proofs.is_end.Reads as is-end
use Rattle.listing.proofs.fault.Reads as fault

pub numbers_unique : UniqueLeft numbers.Learnt (λ k e. e.1.0.now)
numbers_unique k a r r' e e' = one_writing

pub end_unique : UniqueLeft end.Learnt (λ k e. e.0.now)
end_unique k a r r' e e' = one_writing

one_told : {line : List ℕ} (t t' : Bool) → TellsEnd line t → TellsEnd line t' → t ≡ t'
one_told true t' p q = sym (q.always (p.only refl))
one_told false true p q = p.always (q.only refl)
one_told false false p q = refl

pub is_end_unique : Unique is-end.Learnt
is_end_unique k a r r' e e' = one_told r r'

pub fault_unique : UniqueLeft fault.Learnt (λ k e. e.1.1.0.now)
fault_unique k a r r' e e' = one_writing
