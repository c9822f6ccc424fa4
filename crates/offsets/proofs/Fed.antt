-- What offsets do to columns: nothing to a difference of two layers, port by port, and nothing at all where they are 0.
use mathlib.Core.Path.{◌≡◌, refl, ap, ap₂, ◌∙◌}
use mathlib.Core.List.{List, [], ◌∷◌, ◌++◌}
use Prim.Native.Nat.{ℕ, zero, suc, ◌+◌, ◌-◌, ◌<◌}
use native.Mathlib.Nat.{mod-lt, mod-mod}
use native.Mathlib.Omega.{arith}
use lib.Dec.{lit<}
use lib.ListN.{length, take, drop, get_or, replicate}
use Rattle.ground.specs.Lists.{All, all_nil, all_cons}
use Rattle.turn.specs.Phase.{turn, phase, difference}
use Rattle.turn.specs.Exact.{differences}
use Rattle.turn.proofs.Differences.{difference_phases, difference_by, difference_back}
use Rattle.offsets.specs.Offsets.{fed}

pub length_fed : (os xs : List ℕ) → length (fed os xs) ≡ length xs
unfolding fed
length_fed [] xs = refl
length_fed (o ∷ os) [] = refl
length_fed (o ∷ os) (x ∷ xs) = ap suc (length_fed os xs)

pub fed_none : (os : List ℕ) → fed os [] ≡ []
unfolding fed
fed_none [] = refl
fed_none (o ∷ os) = refl

-- an entry with its port's offset
pub fed_at : (os xs : List ℕ) (i : ℕ) → i < length os → i < length xs
    → get_or (fed os xs) i 0 ≡ phase (get_or xs i 0 + get_or os i 0)
unfolding fed
fed_at [] xs i h k = absurd (omega (arith, h))
fed_at (o ∷ os) [] i h k = absurd (omega (arith, k))
fed_at (o ∷ os) (x ∷ xs) zero h k = refl
fed_at (o ∷ os) (x ∷ xs) (suc i) h k = fed_at os xs i (omega arith) (omega arith)

-- the same of an entry that is a phase, whether its port has an offset or not
pub fed_phase : (os xs : List ℕ) (i : ℕ) → i < length xs → get_or xs i 0 < turn
    → get_or (fed os xs) i 0 ≡ phase (get_or xs i 0 + get_or os i 0)
unfolding fed
fed_phase [] xs i h k = omega arith
fed_phase (o ∷ os) [] i h k = absurd (omega (arith, h))
fed_phase (o ∷ os) (x ∷ xs) zero h k = refl
fed_phase (o ∷ os) (x ∷ xs) (suc i) h k = fed_phase os xs i (omega arith) k

-- the first n of them
pub fed_take : (n : ℕ) (os xs : List ℕ) → take n (fed os xs) ≡ fed os (take n xs)
unfolding fed
fed_take n [] xs = refl
fed_take zero (o ∷ os) xs = refl
fed_take (suc n) (o ∷ os) [] = refl
fed_take (suc n) (o ∷ os) (x ∷ xs) = ap (λ (zs : List ℕ). phase (x + o) ∷ zs) (fed_take n os xs)

-- entries that are phases stay phases
pub fed_below : (os : List ℕ) {xs : List ℕ} → All (λ x. x < turn) xs → All (λ x. x < turn) (fed os xs)
unfolding fed
fed_below [] a = a
fed_below (o ∷ os) all_nil = all_nil
fed_below (o ∷ os) (all_cons {x = x} h a) = all_cons (mod-lt (x + o) (lit< tt)) (fed_below os a)

-- offsets of 0 leave them as they are
pub fed_zeros : (n : ℕ) {xs : List ℕ} → All (λ x. x < turn) xs → fed (replicate n 0) xs ≡ xs
unfolding fed
fed_zeros zero a = refl
fed_zeros (suc n) all_nil = refl
fed_zeros (suc n) (all_cons {x = x} h a) = ap₂ ◌∷◌ (omega arith) (fed_zeros n a)

-- the offsets of what stands after xs are those after as many
pub fed_append : (os xs ys : List ℕ) → fed os (xs ++ ys) ≡ fed os xs ++ fed (drop (length xs) os) ys
unfolding fed
fed_append [] [] ys = refl
fed_append [] (x ∷ xs) ys = ap (λ (zs : List ℕ). x ∷ xs ++ zs) refl
fed_append (o ∷ os) [] ys = refl
fed_append (o ∷ os) (x ∷ xs) ys = ap (λ (zs : List ℕ). phase (x + o) ∷ zs) (fed_append os xs ys)

-- ---- differences

difference_fed : (o x y : ℕ) → difference (phase (x + o)) (phase (y + o)) ≡ difference x y
unfolding difference
difference_fed o x y =
    difference_phases (x + o) (y + o)
    ∙ difference_by (x + o) (y + o) (difference x y) (omega (arith, difference_back x y))
    ∙ mod-mod (y + (turn - phase x)) turn

-- the difference of two layers at a port does not see the port's offset
pub differences_fed : (os xs ys : List ℕ) → differences (fed os xs) (fed os ys) ≡ differences xs ys
unfolding fed differences
differences_fed [] xs ys = refl
differences_fed (o ∷ os) [] ys = refl
differences_fed (o ∷ os) (x ∷ xs) [] = refl
differences_fed (o ∷ os) (x ∷ xs) (y ∷ ys) = ap₂ ◌∷◌ (difference_fed o x y) (differences_fed os xs ys)
