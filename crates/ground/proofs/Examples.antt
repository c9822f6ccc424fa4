-- What the definitions of this crate are and are not: for each, an example that has it and one that has not.
use mathlib.Core.Path.{◌≡◌, refl, sym, ap, ◌∙◌}
use mathlib.Core.Bool.{true, false, true≢false}
use mathlib.Core.List.{List, [], ◌∷◌}
use Prim.Native.Nat.{ℕ, ◌<◌}
use native.Mathlib.Omega.{arith}
use lib.Dec.{eqb, eqb_refl, ltb}
use lib.ListN.{get_or}
use Rattle.ground.specs.Lists.{numbers_from, some, among, All, all_nil, all_cons}
use Rattle.ground.specs.Lists.{Member, member_first, member_further, NoRepeats, once_cons}
use Rattle.ground.specs.First.{first, numbered, None, FirstOf}
use Rattle.ground.specs.Unique.{Unique, UniqueLeft}
use Rattle.ground.specs.Copied.{Copied}
use Rattle.ground.proofs.Lists.{unlike, unlike_once}
use Rattle.ground.proofs.First.{first_none, first_of, first_only}

-- ---- the first number above 5

abbrev sample : List ℕ
sample = 3 ∷ 7 ∷ 9 ∷ []

-- of 3 and 5 there is none
pub none_large : None (ltb 5) (3 ∷ 5 ∷ [])
unfolding first numbered
none_large = first_none (ltb 5) (3 ∷ 5 ∷ []) tt refl

-- of 3, 7 and 9 there is one
pub not_none_large : None (ltb 5) sample → ⊥
unfolding among
not_none_large n = true≢false (n.at 7 tt)

-- it is 7
pub seven_first : FirstOf (ltb 5) sample 7
unfolding first
seven_first = first_of (ltb 5) sample (λ e. omega arith)

-- and no other: not 9, which comes later, nor 3, which is not above 5, nor 8, which is not in the list
pub only_seven_first : (k : ℕ) → FirstOf (ltb 5) sample k → 7 ≡ k
unfolding first
only_seven_first = first_only (ltb 5) sample

-- ---- a property of every element

-- 3 and 4 are below 5
pub all_below : All (λ x. x < 5) (3 ∷ 4 ∷ [])
all_below = all_cons {x = 3} (omega arith) (all_cons {x = 4} (omega arith) all_nil)

-- 3, 7 and 9 are not
pub not_all_below : All (λ x. x < 5) sample → ⊥
not_all_below (all_cons p (all_cons q a)) = omega arith

-- ---- elements and repeats

-- 3 to 5 are three numbers
pub three_numbers : numbers_from 3 3 ≡ 3 ∷ 4 ∷ 5 ∷ []
unfolding numbers_from
three_numbers = refl

-- 7 is an element of 3, 7 and 9
pub seven_member : Member 7 sample
seven_member = member_further (member_first refl)

-- 8 is not
pub eight_not_member : Member 8 sample → ⊥
eight_not_member (member_first e) = omega arith
eight_not_member (member_further (member_first e)) = omega arith
eight_not_member (member_further (member_further (member_first e))) = omega arith
eight_not_member (member_further (member_further (member_further x9))) = elim x9 [ ]

-- 3, 7 and 9 stand there once
pub sample_once : NoRepeats sample
unfolding some unlike
sample_once = unlike_once eqb eqb_refl sample tt

-- of 3, 7 and 3 the first stands there twice
pub three_twice : NoRepeats {A = ℕ} (3 ∷ 7 ∷ 3 ∷ []) → ⊥
three_twice (once_cons n o) = n (member_further (member_first refl))

-- ---- copies of the first two

abbrev from : List ℕ
from = 1 ∷ 2 ∷ 3 ∷ []

abbrev lent : List ℕ
lent = 7 ∷ 8 ∷ 9 ∷ []

-- the first two stand at the front of what was lent
pub two_copied : Copied from 2 lent true (1 ∷ 2 ∷ 9 ∷ [])
two_copied = record { fits = refl; stands = refl }

-- of one number not even it is copied, nor to one place
pub too_few : Copied {A = ℕ} (1 ∷ []) 2 lent false lent × Copied {A = ℕ} from 2 (7 ∷ []) false (7 ∷ [])
too_few = (record { fits = refl; stands = refl }, record { fits = refl; stands = refl })

-- what fits is not refused
pub fits_not_refused : (left : List ℕ) → Copied from 2 lent false left → ⊥
fits_not_refused left c = true≢false (sym c.fits)

-- and the place behind it is not written over
pub third_not_copied : Copied from 2 lent true from → ⊥
third_not_copied c = omega (arith, ap (λ (xs : List ℕ). get_or xs 2 0) c.stands)

-- ---- contracts of a call that is given a number, gives a number and leaves a number

-- the number given comes back
abbrev given_back : Unit {0} → ℕ → ℕ → ℕ → Type 0
given_back k a r e = r ≡ a

-- and is left too
abbrev given_and_left : Unit {0} → ℕ → ℕ → ℕ → Type 0
given_and_left k a r e = (r ≡ a) × (e ≡ a)

abbrev anything : Unit {0} → ℕ → ℕ → ℕ → Type 0
anything k a r e = Unit {0}

-- the first determines the result
pub given_back_unique : Unique given_back
given_back_unique k a r r' e e' p q = p ∙ sym q

-- but not what is left
pub given_back_not_left : UniqueLeft given_back (λ k e. e) → ⊥
given_back_not_left u = omega (arith, (u tt 0 0 0 1 2 refl refl).1)

-- the second determines both
pub given_and_left_unique : UniqueLeft given_and_left (λ k e. e)
given_and_left_unique k a r r' e e' p q = (p.0 ∙ sym q.0, p.1 ∙ sym q.1)

-- a contract that says nothing determines nothing
pub anything_not_unique : Unique anything → ⊥
anything_not_unique u = omega (arith, u tt 0 1 2 0 0 tt tt)
