-- What stands where in a column, and the phases of a beam as they are printed.
use mathlib.Core.Path.{◌≡◌, sym, ap, ap₂, ◌∙◌}
use mathlib.Core.Logic.{inl, inr}
use mathlib.Core.List.{List, [], ◌∷◌, ◌++◌, map}
use Prim.Native.Nat.{ℕ, zero, suc, ◌+◌, ◌*◌, ◌/◌, ◌%◌, ◌<◌}
use native.Mathlib.Nat.{not-suc-le-zero, le_of_suc-le-suc, eq-or-lt_of_le, mod-mod, mul-div_cancel}
use native.Mathlib.Omega.{arith}
use lib.Arith.{digits_lt}
use lib.ListN.{length, get_or, length-map, get_or-append, get_or-map}
use lib.Seq.{get_or_at, get_or-append-add}
use Rattle.std.proofs.lemmas.List.{get_or-map as map_at}
use Rattle.turn.specs.Phase.{turn, phase}
use Rattle.turn.specs.Column.{Setting, Divides, steps, product, grid, step, beam, column}
use Rattle.turn.proofs.Lists.{length_steps, length_beam}
use Rattle.turn.proofs.Steps.{left_pos}

pub steps_entry : (n s i : ℕ) → i < n → get_or (steps n s) i 0 ≡ i * s
unfolding steps
steps_entry zero s i h = absurd (not-suc-le-zero h)
steps_entry (suc n) s i h = elim (eq-or-lt_of_le (le_of_suc-le-suc h)) [
  | inl e ↦ get_or_at (steps n s) (n * s) [] 0 i (length_steps n s ∙ sym e) ∙ ap (λ (k : ℕ). k * s) (sym e)
  | inr l ↦ get_or-append (steps n s) (n * s ∷ []) 0 i (omega (arith, length_steps n s)) ∙ steps_entry n s i l
]

pub product_entry : (xs ys : List ℕ) (w i j : ℕ) → length ys ≡ w → i < length xs → j < w
    → get_or (product xs ys) (i * w + j) 0 ≡ get_or xs i 0 + get_or ys j 0
unfolding product
product_entry [] ys w i j e h k = absurd (not-suc-le-zero h)
product_entry (x ∷ xs) ys w zero j e h k =
    ap (λ (n : ℕ). get_or (map (λ y. x + y) ys ++ product xs ys) n 0) (omega arith)
    ∙ get_or-append (map (λ y. x + y) ys) (product xs ys) 0 j (omega (arith, length-map ys (λ y. x + y)))
    ∙ map_at (λ y. x + y) ys j 0 0 (omega arith)
product_entry (x ∷ xs) ys w (suc i) j e h k =
    ap (λ (n : ℕ). get_or (map (λ y. x + y) ys ++ product xs ys) n 0) (omega (arith, length-map ys (λ y. x + y)))
    ∙ get_or-append-add (map (λ y. x + y) ys) (product xs ys) (i * w + j) 0
    ∙ product_entry xs ys w i j e (le_of_suc-le-suc h) k

pub grid_entry : (n1 s n2 u a b : ℕ) → a < n1 → b < n2 → get_or (grid n1 s n2 u) (a * n2 + b) 0 ≡ a * s + b * u
unfolding grid
grid_entry n1 s n2 u a b h k =
    product_entry (steps n1 s) (steps n2 u) n2 a b (length_steps n2 u) (omega (arith, length_steps n1 s)) k
    ∙ ap₂ ◌+◌ (steps_entry n1 s a h) (steps_entry n2 u b k)

-- entry i of block q
pub column_entry : (co b : List ℕ) (w q i : ℕ) → length b ≡ w → q < length co → i < w
    → get_or (column co b) (q * w + i) 0 ≡ phase (get_or co q 0 + get_or b i 0)
unfolding column
column_entry co b w q i e h k =
    get_or-map phase (product co b) (q * w + i) 0 ∙ ap phase (product_entry co b w q i e h k)

-- ---- beams

-- a beam depends on its reduced numbers alone
pub beam_reduced : (c : Setting) (l m : ℕ) → beam c (l % (c.n1 * c.o1)) (m % (c.n2 * c.o2)) ≡ beam c l m
unfolding beam step
beam_reduced c l m = rw (mod-mod l (c.n1 * c.o1), mod-mod m (c.n2 * c.o2))

-- where w divides a turn, a·l·turn/w is a steps of l·(turn/w)
pub as_printed : (a l w : ℕ) → w * (turn / w) ≡ turn → a * l * turn / w ≡ a * (l * (turn / w))
as_printed a l w e =
    ap (λ (x : ℕ). x / w) (omega (arith, ap (λ (x : ℕ). a * l * x) e))
    ∙ mul-div_cancel (a * (l * (turn / w))) (left_pos w (turn / w) e)

module _ (c : Setting) (whole : Divides c) (l m a b : ℕ) (ha : a < c.n1) (hb : b < c.n2) where
  -- a·l·turn/(N1·O1) + b·m·turn/(N2·O2), with l and m reduced
  abbrev at : ℕ
  at = a * (l % (c.n1 * c.o1)) * turn / (c.n1 * c.o1) + b * (m % (c.n2 * c.o2)) * turn / (c.n2 * c.o2)

  -- the entry of a beam at (a,b), b fastest
  pub beam_entry : get_or (beam c l m) (a * c.n2 + b) 0 ≡ at
  unfolding beam step
  beam_entry =
      grid_entry c.n1 _ c.n2 _ a b ha hb
      ∙ sym (ap₂ ◌+◌ (as_printed a _ (c.n1 * c.o1) whole.rows) (as_printed b _ (c.n2 * c.o2) whole.columns))

  -- the entry of a column at (a,b) of block q
  pub entry : (co : List ℕ) (q : ℕ) → q < length co
      → get_or (column co (beam c l m)) (q * (c.n1 * c.n2) + (a * c.n2 + b)) 0 ≡ phase (get_or co q 0 + at)
  entry co q h =
      column_entry co (beam c l m) (c.n1 * c.n2) q (a * c.n2 + b) (length_beam c l m) h (digits_lt ha hb)
      ∙ ap (λ (x : ℕ). phase (get_or co q 0 + x)) beam_entry
