-- Multiples of a number stay multiples in steps, products and columns.
use mathlib.Core.Path.{◌≡◌, ap₂, ◌∙◌}
use mathlib.Core.List.{List, map}
use Prim.Native.Nat.{ℕ, zero, suc, ◌+◌, ◌*◌, ◌/◌, ◌%◌, ◌<◌}
use native.Mathlib.Nat.{zero-mod, add-mod, dvd_of_mod-eq-zero, mod-mod_of_dvd, not-suc-le-zero, le_of_suc-le-suc}
use lib.ListN.{length, get_or}
use Rattle.ground.specs.Lists.{all_nil, all_cons}
use Rattle.ground.proofs.All.{all_append, all_map}
use Rattle.turn.specs.Phase.{turn, phase}
use Rattle.turn.specs.Column.{steps, product, grid, step, column}
use Rattle.turn.specs.Cancel.{Multiples}
use Rattle.turn.proofs.Steps.{mul_multiple}

module _ (g : ℕ) where
  -- each step of a beam is a multiple of that of beam 1
  pub step_multiple : (n o l : ℕ) → turn / (n * o) % g ≡ 0 → step n o l % g ≡ 0
  unfolding step
  step_multiple n o l = mul_multiple (l % (n * o)) (turn / (n * o)) g

  pub multiples_at : {xs : List ℕ} → Multiples g xs → (i : ℕ) → i < length xs → get_or xs i 0 % g ≡ 0
  multiples_at all_nil i h = absurd (not-suc-le-zero h)
  multiples_at (all_cons p q) zero h = p
  multiples_at (all_cons p q) (suc i) h = multiples_at q i (le_of_suc-le-suc h)

  pub multiples_steps : (n s : ℕ) → s % g ≡ 0 → Multiples g (steps n s)
  unfolding steps
  multiples_steps zero s h = all_nil
  multiples_steps (suc n) s h = all_append (multiples_steps n s h) (all_cons (mul_multiple n s g h) all_nil)

  pub multiples_product : {xs ys : List ℕ} → Multiples g xs → Multiples g ys → Multiples g (product xs ys)
  unfolding product
  multiples_product all_nil q = all_nil
  multiples_product (all_cons {x} h p) q =
      all_append (all_map (λ y. x + y) (λ y k. add-mod x y g ∙ ap₂ (λ (a b : ℕ). (a + b) % g) h k ∙ zero-mod g) q)
      (multiples_product p q)

  pub multiples_grid : (n1 s n2 u : ℕ) → s % g ≡ 0 → u % g ≡ 0 → Multiples g (grid n1 s n2 u)
  unfolding grid
  multiples_grid n1 s n2 u h k = multiples_product (multiples_steps n1 s h) (multiples_steps n2 u k)

  -- where a turn is a multiple
  module _ (whole : turn % g ≡ 0) where
    pub multiples_phases : {xs : List ℕ} → Multiples g xs → Multiples g (map phase xs)
    multiples_phases = all_map phase (λ x h. mod-mod_of_dvd g x (dvd_of_mod-eq-zero g whole) ∙ h)

    pub multiples_column : {co b : List ℕ} → Multiples g co → Multiples g b → Multiples g (column co b)
    unfolding column
    multiples_column p q = multiples_phases (multiples_product p q)
