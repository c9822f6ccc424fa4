-- The code of a column, and what it adds to the co-phases, panel by panel.
use mathlib.Core.Path.{◌≡◌, refl}
use mathlib.Core.Bool.{Bool, true, false, cond, ◌&&◌}
use mathlib.Core.List.{List, [], ◌∷◌, map}
use Prim.Native.Nat.{ℕ, ◌+◌, ◌*◌, ◌%◌, ◌<◌}
use native.Mathlib.Omega.{arith}
use lib.Dec.{T, eqb}
use lib.ListN.{get_or}
use Rattle.ground.specs.Lists.{every}
use Rattle.ground.proofs.Tests.{every_at, two_eq}
use Rattle.turn.specs.Phase.{half, phase}
use Rattle.plan.specs.Drawing.{place_of, takes, marked, co_at, co_row}
use Rattle.multi.specs.Panels.{co_phases, B, B', Column, W¹, W², beam_of, minus}
use Rattle.panels.specs.Drawing.{place, code_of}

-- ---- the code of a column

pub code_place : (c : Column) → place_of (code_of c) ≡ place (beam_of c)
code_place (W¹ B) = refl
code_place (W¹ B') = refl
code_place (W² B) = refl
code_place (W² B') = refl

-- it takes the co-phases; half a turn is added to no first polarisation, and in W² to every second
code_takes : (c : Column) → takes (code_of c) ≡ 1
code_takes (W¹ B) = refl
code_takes (W¹ B') = refl
code_takes (W² B) = refl
code_takes (W² B') = refl

abbrev right_marks : Column → ℕ → Bool
right_marks c i = eqb (marked (code_of c) (2 * i)) 0 && eqb (marked (code_of c) (2 * i + 1)) (cond (minus c) 1 0)

code_marks : (c : Column) (i : ℕ) → i < 4
    → (marked (code_of c) (2 * i) ≡ 0) × (marked (code_of c) (2 * i + 1) ≡ cond (minus c) 1 0)
unfolding every
code_marks c i h = two_eq _ 0 _ _ (every_at 4 (right_marks c) (all c) i h)
  where
    all : (c : Column) → T (every 4 (right_marks c))
    all (W¹ B) = tt
    all (W¹ B') = tt
    all (W² B) = tt
    all (W² B') = tt

-- ---- co-phases, panel by panel

module _ (c : Column) (co : List ℕ) where
  -- of panel i: x, and y with what is added
  pub record Panel (i : ℕ) (x : ℕ × ℕ) : Type 0 where
    pub first : phase (co_at co (code_of c) (2 * i)) ≡ phase x.0
    pub second : phase (co_at co (code_of c) (2 * i + 1)) ≡ phase (x.1 + cond (minus c) half 0)

  -- where nine bits hold its co-phases
  pub panel : (i : ℕ) (x : ℕ × ℕ) → i < 4
      → get_or co (2 * i) 0 % 512 ≡ get_or co (2 * i) 0 → get_or co (2 * i + 1) 0 % 512 ≡ get_or co (2 * i + 1) 0
      → phase (get_or co (2 * i) 0) ≡ phase x.0 → phase (get_or co (2 * i + 1) 0) ≡ phase x.1 → Panel i x
  unfolding co_at
  panel i x h small small' p q =
      let (even, odd) = code_marks c i h in
      record {
        first = rw (code_takes c, even, small) (omega arith);
        second = rw (code_takes c, odd, small') (by_minus (minus c));
      }
    where
      by_minus : (m : Bool) → phase (1 * get_or co (2 * i + 1) 0 + cond m 1 0 * half) ≡ phase (x.1 + cond m half 0)
      by_minus true = omega arith
      by_minus false = omega arith

  pub two_panels : {x y : ℕ × ℕ} → Panel 0 x → Panel 1 y
      → map phase (co_row co (code_of c) 4) ≡ map phase (co_phases (x ∷ y ∷ []) (minus c))
  unfolding co_row co_phases
  two_panels p q = λ i. p.first i ∷ p.second i ∷ q.first i ∷ q.second i ∷ []

  pub all_panels : {x y z w : ℕ × ℕ} → Panel 0 x → Panel 1 y → Panel 2 z → Panel 3 w
      → map phase (co_row co (code_of c) 8) ≡ map phase (co_phases (x ∷ y ∷ z ∷ w ∷ []) (minus c))
  unfolding co_row co_phases
  all_panels p q r s = λ i.
      p.first i ∷ p.second i ∷ q.first i ∷ q.second i ∷ r.first i ∷ r.second i ∷ s.first i ∷ s.second i ∷ []
