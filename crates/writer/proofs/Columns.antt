-- Columns with offsets, block by block: one block more, and the sixteen places in which a block is drawn.
use mathlib.Core.Path.{◌≡◌, refl, sym, ap, ◌∙◌}
use mathlib.Core.Logic.{inl, inr}
use mathlib.Core.List.{List, [], ◌∷◌, ◌++◌}
use Prim.Native.Nat.{ℕ, zero, suc, ◌+◌, ◌*◌, ◌/◌, ◌%◌, ◌<◌, ◌≤◌}
use native.Mathlib.Nat.{zero-mul, zero-add, not-suc-le-zero, le_of_suc-le-suc, eq-or-lt_of_le, mul-le-mul, mod-lt, div-add-mod', div-lt_iff_lt-mul}
use native.Mathlib.Numerals.{add-one}
use native.Mathlib.Omega.{arith}
use lib.ListN.{length, take, get_or, length-append, get_or-append}
use lib.Seq.{get_or_at, get_or-take, length-take-le, ext_get_or}
use Rattle.turn.specs.Phase.{half, phase}
use Rattle.turn.specs.Column.{grid, column}
use Rattle.turn.proofs.Lists.{length_grid}
use Rattle.turn.proofs.Columns.{length_column, column_append}
use Rattle.turn.proofs.Entries.{grid_entry, column_entry}
use Rattle.offsets.specs.Offsets.{fed}
use Rattle.offsets.proofs.Fed.{length_fed, fed_take}
use Rattle.plan.specs.Drawing.{takes, co_at, co_row}
use Rattle.writer.specs.Blocks.{placed}

pub length_row : (co : List ℕ) (code n : ℕ) → length (co_row co code n) ≡ n
unfolding co_row
length_row co code zero = refl
length_row co code (suc n) =
    length-append (co_row co code n) (co_at co code n ∷ []) ∙ omega (arith, length_row co code n)

-- what is added to a block, and that it is less than a turn and a half
pub row_at : (co : List ℕ) (code n q : ℕ) → q < n → get_or (co_row co code n) q 0 ≡ co_at co code q
unfolding co_row
row_at co code zero q h = absurd (not-suc-le-zero h)
row_at co code (suc n) q h = elim (eq-or-lt_of_le (le_of_suc-le-suc h)) [
  | inl e ↦ get_or_at (co_row co code n) (co_at co code n) [] 0 q (length_row co code n ∙ sym e) ∙ ap (co_at co code) (sym e)
  | inr l ↦ get_or-append (co_row co code n) (co_at co code n ∷ []) 0 q (omega (arith, length_row co code n)) ∙ row_at co code n q l
]

pub co_small : (co : List ℕ) (code q : ℕ) → co_at co code q ≤ 511 + half
unfolding co_at
co_small co code q =
    let c = get_or co q 0 % 512 in
    let taken : takes code * c ≤ 511 = omega (arith, mul-le-mul {n₁ = takes code} {m₁ = c} {n₂ = 1} {m₂ = 511} (omega arith) (omega arith)) in
    omega (arith, taken)

-- one block more
pub column_next : (co : List ℕ) (code n : ℕ) (b : List ℕ)
    → column (co_row co code (n + 1)) b ≡ column (co_row co code n) b ++ column (co_at co code n ∷ []) b
unfolding co_row
column_next co code n b = rw add-one (column_append (co_row co code n) (co_at co code n ∷ []) b)

module _ (w x y c : ℕ) (some : 1 ≤ w) where
  length_block : (rows : ℕ) → length (column (c ∷ []) (grid rows x w y)) ≡ rows * w
  length_block rows = length_column (c ∷ []) (grid rows x w y) ∙ omega (arith, length_grid rows x w y)

  -- place i is in row i / w
  block_entry : (rows i : ℕ) → i < rows * w
      → get_or (column (c ∷ []) (grid rows x w y)) i 0 ≡ phase (c + (i / w * x + i % w * y))
  block_entry rows i h =
      simp (zero-mul, zero-add) at
      (column_entry (c ∷ []) (grid rows x w y) (rows * w) 0 i (length_grid rows x w y) (omega arith) h)
      ∙ ap (λ (k : ℕ). phase (c + get_or (grid rows x w y) k 0)) (sym (div-add-mod' i w))
      ∙ ap (λ (z : ℕ). phase (c + z))
      (grid_entry rows x w y (i / w) (i % w) ((div-lt_iff_lt-mul some).1 h) (mod-lt i some))

  pub length_placed : length (placed w x y c) ≡ 16
  unfolding placed
  length_placed = length-take-le 16 (column (c ∷ []) (grid 16 x w y)) (omega (arith, length_block 16))

  pub placed_entry : (i : ℕ) → i < 16 → get_or (placed w x y c) i 0 ≡ phase (c + (i / w * x + i % w * y))
  unfolding placed
  placed_entry i h = get_or-take 16 (column (c ∷ []) (grid 16 x w y)) i 0 h ∙ block_entry 16 i (omega arith)

  -- what is kept of the places is the block
  pub block_placed : (rows : ℕ) → rows * w ≤ 16 → take (rows * w) (placed w x y c) ≡ column (c ∷ []) (grid rows x w y)
  block_placed rows few =
      let long = length-take-le (rows * w) (placed w x y c) (omega (arith, length_placed)) in
      ext_get_or 0 _ _ (long ∙ sym (length_block rows)) (λ i h. same i (omega (arith, long)))
    where
      same : (i : ℕ) → i < rows * w
          → get_or (take (rows * w) (placed w x y c)) i 0 ≡ get_or (column (c ∷ []) (grid rows x w y)) i 0
      same i h =
          get_or-take (rows * w) (placed w x y c) i 0 h ∙ placed_entry i (omega arith) ∙ sym (block_entry rows i h)

  -- the places with offsets, and what is kept of them
  pub length_fed_placed : (os : List ℕ) → length (fed os (placed w x y c)) ≡ 16
  length_fed_placed os = length_fed os (placed w x y c) ∙ length_placed

  pub block_fed : (os : List ℕ) (rows : ℕ) → rows * w ≤ 16
      → take (rows * w) (fed os (placed w x y c)) ≡ fed os (column (c ∷ []) (grid rows x w y))
  block_fed os rows few = fed_take (rows * w) os (placed w x y c) ∙ ap (fed os) (block_placed rows few)
