-- Lengths of the lists of phases, and what `map` does to them.
use mathlib.Core.Path.{◌≡◌, refl, ◌∙◌}
use mathlib.Core.List.{List, [], ◌∷◌}
use Prim.Native.Nat.{ℕ, zero, suc, ◌*◌}
use native.Mathlib.Omega.{arith}
use lib.ListN.{length, length-append, length-map}
use Rattle.turn.specs.Column.{Setting, steps, product, grid, beam}

pub length_steps : (n s : ℕ) → length (steps n s) ≡ n
unfolding steps
length_steps zero s = refl
length_steps (suc n) s = length-append (steps n s) (n * s ∷ []) ∙ omega (arith, length_steps n s)

pub length_product : (xs ys : List ℕ) → length (product xs ys) ≡ length xs * length ys
unfolding product
length_product [] ys = omega arith
length_product (x ∷ xs) ys = simp (length-append, length-map) (omega (arith, length_product xs ys))

pub length_grid : (n1 s n2 u : ℕ) → length (grid n1 s n2 u) ≡ n1 * n2
unfolding grid
length_grid n1 s n2 u = simp (length_product, length_steps) (omega arith)

pub length_beam : (c : Setting) (l m : ℕ) → length (beam c l m) ≡ c.n1 * c.n2
unfolding beam
length_beam c l m = length_grid c.n1 _ c.n2 _
