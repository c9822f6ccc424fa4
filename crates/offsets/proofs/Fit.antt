-- Which lists are refused: what is known of one that is not, that zeros are not, and that an offset reaches a turn where the
-- largest does.
use mathlib.Core.Path.{◌≡◌, refl, ap, ◌∙◌}
use mathlib.Core.Bool.{Bool, false, not, ◌||◌}
use mathlib.Core.List.{List, [], ◌∷◌}
use Prim.Native.Nat.{ℕ, zero, suc, ◌<◌}
use native.Mathlib.Omega.{arith}
use lib.Dec.{eqb, leb, eqb_refl}
use lib.ListN.{length, replicate, length-replicate}
use Rattle.std.proofs.lemmas.Bool.{or_parts}
use Rattle.std.proofs.Common.{max}
use Rattle.std.proofs.Math.Bool.{or_assoc}
use Rattle.std.specs.List.{fold}
use borrow.Author.Tests.{eqb-true, leb-true, leb-false, le-leb, lt-leb, not-false}
use Rattle.ground.specs.Lists.{some, All, all_nil, all_cons}
use Rattle.ground.proofs.Booleans.{either, is_true, or_nothing}
use Rattle.turn.specs.Phase.{turn}
use Rattle.offsets.specs.Offsets.{unfit}

below_turn : (os : List ℕ) → some (leb turn) os ≡ false → All (λ o. o < turn) os
unfolding some
below_turn [] e = all_nil
below_turn (o ∷ os) e =
    let p = or_parts (leb turn o) (some (leb turn) os) e in
    all_cons (leb-false turn o p.0) (below_turn os p.1)

pub fit_offsets : (ports : ℕ) (os : List ℕ) → unfit ports os ≡ false → (length os ≡ ports) × All (λ o. o < turn) os
unfolding unfit
fit_offsets ports os e =
    let p = or_parts (not (eqb (length os) ports)) (some (leb turn) os) e in
    (eqb-true (length os) ports (not-false _ p.0), below_turn os p.1)

-- zeros are fit
none_high : (n : ℕ) → some (leb turn) (replicate n 0) ≡ false
unfolding some
none_high zero = refl
none_high (suc n) = none_high n

pub zeros_fit : (n : ℕ) → unfit n (replicate n 0) ≡ false
unfolding unfit
zeros_fit n = rw (length-replicate {A = ℕ} n 0, none_high n, is_true (eqb n n) (eqb_refl n))

-- ---- the largest

-- the larger of two reaches a turn where one of them does
reaches_max : (k m : ℕ) → leb turn (max k m) ≡ (leb turn k || leb turn m)
reaches_max k m =
    either (leb turn k)
    (λ e. let h = leb-true turn k e in rw (e, le-leb turn (max k m) (omega arith)))
    (λ e.
    let h = leb-false turn k e in
    either (leb turn m)
    (λ f. let i = leb-true turn m f in rw (e, f, le-leb turn (max k m) (omega arith)))
    (λ f. let i = leb-false turn m f in rw (e, f, lt-leb turn (max k m) (omega arith))))

-- the largest of a list reaches a turn where one of them does
pub largest_high : (most : ℕ) (os : List ℕ) → leb turn (fold max most os) ≡ (leb turn most || some (leb turn) os)
unfolding some
largest_high most [] = or_nothing (leb turn most)
largest_high most (o ∷ os) =
    largest_high (max most o) os
    ∙ ap (λ (b : Bool). b || some (leb turn) os) (reaches_max most o)
    ∙ or_assoc (leb turn most) (leb turn o) (some (leb turn) os)
