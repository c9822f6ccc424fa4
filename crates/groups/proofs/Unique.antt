-- Each public function of the crate has one outcome on every input: any two that its contract admits are equal.
use Rattle.std.proofs.Common.{◌≡◌, sym, ap, ◌∙◌, ℕ, Result, Ok, Err, arith}
use Rattle.ground.specs.Unique.{Unique}
use Rattle.groups.specs.declared.Fault.{Fault}
use Rattle.groups.specs.declared.Fault.TheVariants.{Ends, Padded, Large}
use Rattle.groups.specs.declared.Numeral.{Numeral}
use Rattle.groups.specs.Given.{number_of, place_of, found_of}
use Rattle.groups.proofs.Fault.number.Reads as number
use Rattle.groups.proofs.Fault.place.Reads as place
use Rattle.groups.proofs.number_at.Reads as number_at

pub number_unique : Unique number.Learnt
number_unique k a r r' e e' p q = p ∙ sym q

pub place_unique : Unique place.Learnt
place_unique k a r r' e e' p q = p ∙ sym q

-- its number and its place tell a fault
pub one_fault : (f g : Fault) → number_of f ≡ number_of g → place_of f ≡ place_of g → f ≡ g
one_fault (Ends p) (Ends q) k e = ap Ends e
one_fault (Padded p) (Padded q) k e = ap Padded e
one_fault (Large p) (Large q) k e = ap Large e
one_fault (Ends p) (Padded q) k e = absurd (omega arith)
one_fault (Ends p) (Large q) k e = absurd (omega arith)
one_fault (Padded p) (Ends q) k e = absurd (omega arith)
one_fault (Padded p) (Large q) k e = absurd (omega arith)
one_fault (Large p) (Ends q) k e = absurd (omega arith)
one_fault (Large p) (Padded q) k e = absurd (omega arith)

one_found : (s t : Result Numeral Fault) → found_of s ≡ found_of t → s ≡ t
one_found (Ok n) (Ok m) e =
    let same : n.value ≡ m.value = cc in
    let place : n.next ≡ m.next = cc in
    λ i. Ok (record { value = same i; next = place i })
one_found (Err f) (Err g) e =
    let same : number_of f ≡ number_of g = cc in
    let place : place_of f ≡ place_of g = cc in
    ap Err (one_fault f g same place)
one_found (Ok n) (Err g) e = let z : ◌≡◌ {A = ℕ} 0 1 = cc in absurd (omega arith)
one_found (Err f) (Ok m) e = let z : ◌≡◌ {A = ℕ} 0 1 = cc in absurd (omega arith)

pub number_at_unique : Unique number_at.Learnt
number_at_unique k a r r' e e' p q = one_found r r' (p ∙ sym q)
