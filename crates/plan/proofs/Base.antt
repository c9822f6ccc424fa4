-- The matrix of a sound plan is 01's, doubled: its co-phases are whole eighths of a turn and its steps are even.
use mathlib.Core.Path.{◌≡◌, refl, sym, ap, ap₂, ◌∙◌}
use mathlib.Core.List.{List, [], ◌∷◌, map, map-append}
use Prim.Native.Nat.{ℕ, zero, suc, ◌+◌, ◌*◌, ◌/◌, ◌%◌, ◌<◌}
use native.Mathlib.Nat.{mul_assoc, mul_comm, div-div-eq-div-mul, mul-div-mul_left}
use native.Mathlib.Omega.{arith}
use lib.Dec.{lit<}
use lib.ListN.{length, get_or}
use Rattle.ground.specs.Lists.{join, all_nil, all_cons}
use Rattle.turn.specs.Phase.{turn, eighth, phase}
use Rattle.turn.specs.Column.{Setting, steps, product, grid, step, beam, column}
use Rattle.turn.specs.Cancel.{Multiples}
use Rattle.plan.specs.Plan.{Layer, Plan, past, column_of, matrix}
use Rattle.plan.specs.Base.{base_turn, halved, doubled, base_step, base_beam, base_column, base_matrix}
use Rattle.plan.specs.Sound.{Sound}

-- ---- lists, doubled

twice : (n s : ℕ) → n * (2 * s) ≡ 2 * (n * s)
twice n s = sym (mul_assoc n 2 s) ∙ ap (λ (m : ℕ). m * s) (mul_comm n 2) ∙ mul_assoc 2 n s

steps_doubled : (n s : ℕ) → steps n (2 * s) ≡ map doubled (steps n s)
unfolding steps
steps_doubled zero s = refl
steps_doubled (suc n) s =
    let last : n * (2 * s) ≡ 2 * (n * s) = twice n s in
    rw (steps_doubled n s, last, map-append)

added_doubled : (x : ℕ) (ys : List ℕ) → map (λ y. 2 * x + y) (map doubled ys) ≡ map doubled (map (λ y. x + y) ys)
added_doubled x [] = refl
added_doubled x (y ∷ ys) = ap₂ ◌∷◌ (omega arith) (added_doubled x ys)

product_doubled : (xs ys : List ℕ) → product (map doubled xs) (map doubled ys) ≡ map doubled (product xs ys)
unfolding product
product_doubled [] ys = refl
product_doubled (x ∷ xs) ys = rw (map-append, added_doubled x ys, product_doubled xs ys)

phases_doubled : (xs : List ℕ) → map phase (map doubled xs) ≡ map doubled (map (λ y. y % base_turn) xs)
phases_doubled [] = refl
phases_doubled (x ∷ xs) = ap₂ ◌∷◌ (omega arith) (phases_doubled xs)

-- whole eighths of a turn are even
eighths_doubled : {xs : List ℕ} → Multiples eighth xs → xs ≡ map doubled (map halved xs)
eighths_doubled all_nil = refl
eighths_doubled (all_cons {x = x} h a) = ap₂ ◌∷◌ (omega arith) (eighths_doubled a)

-- ---- beams and columns

-- an even part of a turn is twice 01's part
part_doubled : (n : ℕ) → turn / n % 2 ≡ 0 → turn / n ≡ 2 * (base_turn / n)
part_doubled n h =
    let whole : turn / n / 2 ≡ base_turn / n =
    div-div-eq-div-mul turn n 2 ∙ ap (λ (m : ℕ). turn / m) (mul_comm n 2) ∙ mul-div-mul_left {m = 2} base_turn n (lit< tt) in
    omega (arith, whole, h)

step_doubled : (n o l : ℕ) → turn / (n * o) % 2 ≡ 0 → step n o l ≡ 2 * base_step n o l
unfolding step base_step
step_doubled n o l h = rw (part_doubled (n * o) h) (twice (l % (n * o)) (base_turn / (n * o)))

beam_doubled : (c : Setting) (l m : ℕ) → turn / (c.n1 * c.o1) % 2 ≡ 0 → turn / (c.n2 * c.o2) % 2 ≡ 0
    → beam c l m ≡ map doubled (base_beam c l m)
unfolding beam base_beam grid
beam_doubled c l m h k =
    rw (step_doubled c.n1 c.o1 l h, step_doubled c.n2 c.o2 m k, steps_doubled, steps_doubled)
    (product_doubled (steps c.n1 (base_step c.n1 c.o1 l)) (steps c.n2 (base_step c.n2 c.o2 m)))

module _ (p : Plan) (s : Sound p) where
  column_doubled : (x : Layer) → Multiples eighth x.co → column_of p x ≡ map doubled (base_column p x)
  unfolding column_of column base_column
  column_doubled x h =
      ap₂ (λ (co b : List ℕ). map phase (product co b)) (eighths_doubled h)
      (beam_doubled p.block x.l x.m s.even_steps.0 s.even_steps.1)
      ∙ ap (map phase) (product_doubled (map halved x.co) (base_beam p.block x.l x.m))
      ∙ phases_doubled (product (map halved x.co) (base_beam p.block x.l x.m))

  columns_doubled : (xs : List Layer) → ((j : ℕ) → j < length xs → Multiples eighth (get_or xs j past).co)
      → join (map (column_of p) xs) ≡ map doubled (join (map (base_column p) xs))
  unfolding join
  columns_doubled [] h = refl
  columns_doubled (x ∷ xs) h =
      rw (column_doubled x (h 0 (omega arith)), columns_doubled xs (λ j k. h (suc j) (omega arith)), map-append)

  pub matrix_doubled : matrix p ≡ map doubled (base_matrix p)
  unfolding matrix base_matrix
  matrix_doubled = columns_doubled p.layers (λ j h. s.eighths j (omega (arith, s.many)))
