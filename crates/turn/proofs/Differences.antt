-- The differences of two columns are a product again, of the differences of their factors.
use mathlib.Core.Path.{◌≡◌, refl, sym, ap, ap₂, ◌∙◌}
use mathlib.Core.List.{List, [], ◌∷◌, ◌++◌, map, map-append}
use Prim.Native.Nat.{ℕ, zero, suc, ◌+◌, ◌*◌, ◌/◌}
use native.Mathlib.Omega.{arith}
use lib.ListN.{length, length-map}
use Rattle.turn.specs.Phase.{turn, phase, difference}
use Rattle.turn.specs.Column.{steps, product, grid, column}
use Rattle.turn.specs.Exact.{differences}
use Rattle.turn.proofs.Lists.{length_steps}

-- ---- one port

pub difference_phases : (x y : ℕ) → difference (phase x) (phase y) ≡ difference x y
unfolding difference
difference_phases x y = omega arith

-- the second is d further on than the first
pub difference_by : (x y d : ℕ) → phase y ≡ phase (x + d) → difference x y ≡ phase d
unfolding difference
difference_by x y d e = omega arith

pub difference_back : (x y : ℕ) → phase (x + difference x y) ≡ phase y
unfolding difference
difference_back x y = omega arith

difference_add : (x a y b : ℕ) → difference (x + a) (y + b) ≡ phase (difference x y + difference a b)
difference_add x a y b = difference_by (x + a) (y + b) _ (omega (arith, difference_back x y, difference_back a b))

-- ---- lists

differences_phases : (xs ys : List ℕ) → differences (map phase xs) (map phase ys) ≡ differences xs ys
unfolding differences
differences_phases [] ys = refl
differences_phases (x ∷ xs) [] = refl
differences_phases (x ∷ xs) (y ∷ ys) = ap₂ {C = List ℕ} (λ z l. z ∷ l) (difference_phases x y) (differences_phases xs ys)

differences_append : (xs ys us vs : List ℕ) → length xs ≡ length ys
    → differences (xs ++ us) (ys ++ vs) ≡ differences xs ys ++ differences us vs
unfolding differences
differences_append [] [] us vs e = refl
differences_append [] (y ∷ ys) us vs e = absurd (omega arith)
differences_append (x ∷ xs) [] us vs e = absurd (omega arith)
differences_append (x ∷ xs) (y ∷ ys) us vs e =
    ap {B = List ℕ} (λ l. difference x y ∷ l) (differences_append xs ys us vs (omega arith))

differences_shift : (x y : ℕ) (us vs : List ℕ)
    → differences (map (λ a. x + a) us) (map (λ b. y + b) vs)
    ≡ map phase (map (λ d. difference x y + d) (differences us vs))
unfolding differences
differences_shift x y [] vs = refl
differences_shift x y (a ∷ us) [] = refl
differences_shift x y (a ∷ us) (b ∷ vs) =
    ap₂ {C = List ℕ} (λ z l. z ∷ l) (difference_add x a y b) (differences_shift x y us vs)

differences_nil : (xs : List ℕ) → differences xs [] ≡ []
unfolding differences
differences_nil [] = refl
differences_nil (x ∷ xs) = refl

differences_product : (xs ys us vs : List ℕ) → length us ≡ length vs
    → differences (product xs us) (product ys vs) ≡ map phase (product (differences xs ys) (differences us vs))
unfolding differences product
differences_product [] ys us vs e = refl
differences_product (x ∷ xs) [] us vs e = differences_nil (product (x ∷ xs) us)
differences_product (x ∷ xs) (y ∷ ys) us vs e =
    simp map-append
    (differences_append (map (λ a. x + a) us) (map (λ b. y + b) vs) _ _ (simp length-map e)
    ∙ ap₂ ◌++◌ (differences_shift x y us vs) (differences_product xs ys us vs e))

pub differences_column : (co co' b b' : List ℕ) → length b ≡ length b'
    → differences (column co b) (column co' b') ≡ map phase (product (differences co co') (differences b b'))
unfolding column
differences_column co co' b b' e = differences_phases (product co b) (product co' b') ∙ differences_product co co' b b' e

-- ---- steps

-- steps of s against steps that are g longer
differences_steps : (n s s' g : ℕ) → phase s' ≡ phase (s + g) → differences (steps n s) (steps n s') ≡ map phase (steps n g)
unfolding differences steps
differences_steps zero s s' g e = refl
differences_steps (suc n) s s' g e =
    rw (
      map-append,
      differences_append (steps n s) (steps n s') _ _ (simp length_steps),
      differences_steps n s s' g e,
      difference_by (n * s) (n * s') (n * g) (further ((s + g) / turn) (s' / turn) (omega arith)),
    )
  where
    further : (a b : ℕ) → s' + turn * a ≡ s + g + turn * b → phase (n * s') ≡ phase (n * s + n * g)
    further a b e = omega (arith, ap (λ (x : ℕ). n * x) e)

pub differences_grid : (n1 s s' g n2 u u' h : ℕ) → phase s' ≡ phase (s + g) → phase u' ≡ phase (u + h)
    → differences (grid n1 s n2 u) (grid n1 s' n2 u')
    ≡ map phase (product (map phase (steps n1 g)) (map phase (steps n2 h)))
unfolding grid
differences_grid n1 s s' g n2 u u' h e e' =
    differences_product (steps n1 s) (steps n1 s') (steps n2 u) (steps n2 u') (length_steps n2 u ∙ sym (length_steps n2 u'))
    ∙ ap₂ (λ xs ys. map phase (product xs ys)) (differences_steps n1 s s' g e) (differences_steps n2 u u' h e')
