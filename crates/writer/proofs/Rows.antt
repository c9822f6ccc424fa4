-- Places below sixteen in rows of w entries, where a product by 34 / w and a shift divide by w.
use mathlib.Core.Path.{◌≡◌, sym, ap, ap₂, ◌∙◌}
use mathlib.Core.List.{List}
use Prim.Native.Nat.{ℕ, ◌+◌, ◌-◌, ◌*◌, ◌/◌, ◌%◌, ◌<◌, ◌≤◌}
use native.Mathlib.Nat.{div-mul-le_self, mod-eq-sub-div-mul}
use native.Mathlib.Omega.{arith}
use lib.Dec.{eqb, eqb→eq}
use lib.ListN.{length, drop, get_or, length-drop}
use lib.Seq.{get_or-drop}
use Rattle.ground.specs.Lists.{every}
use Rattle.ground.proofs.Tests.{every_at}
use Rattle.turn.specs.Phase.{phase}
use Rattle.offsets.specs.Offsets.{fed}
use Rattle.offsets.proofs.Fed.{fed_at}
use Rattle.writer.specs.Blocks.{placed}
use Rattle.writer.proofs.Columns.{length_placed, placed_entry}

-- the row of place i, and its entry in the row
abbrev row : ℕ → ℕ → ℕ
row w i = i * (34 / w) / 32

abbrev rest : ℕ → ℕ → ℕ
rest w i = i - row w i * w

row_is : (w i : ℕ) → w ≤ 4 → i < 16 → row w i ≡ i / w
unfolding every
row_is w i few h =
    let tested = every_at 5 (λ u. every 16 (λ j. eqb (row u j) (j / u))) tt w (omega arith) in
    eqb→eq _ _ (every_at 16 (λ j. eqb (row w j) (j / w)) tested i h)

module _ (w i : ℕ) (some : 1 ≤ w) (few : w ≤ 4) (h : i < 16) where
  rest_is : rest w i ≡ i % w
  rest_is = rw (row_is w i few h) (sym (mod-eq-sub-div-mul i w))

  pub within : row w i * w ≤ i
  within = rw (row_is w i few h) (div-mul-le_self i w)

  entry_placed : (x y c : ℕ) → phase (c + (row w i * x + rest w i * y)) ≡ get_or (placed w x y c) i 0
  entry_placed x y c =
      ap₂ (λ (a b : ℕ). phase (c + (a * x + b * y))) (row_is w i few h) rest_is ∙ sym (placed_entry w x y c some i h)

  -- the entry that is stored, with the offset at place p + i
  pub entry_fed : (x y c p : ℕ) (os : List ℕ) → p + 16 ≤ length os
      → phase (c + (row w i * x + rest w i * y) + get_or os (p + i) 0) ≡ get_or (fed (drop p os) (placed w x y c)) i 0
  entry_fed x y c p os enough =
      let e = entry_placed x y c in
      let sum : phase (c + (row w i * x + rest w i * y) + get_or os (p + i) 0)
      ≡ phase (get_or (placed w x y c) i 0 + get_or os (p + i) 0) = omega (arith, e) in
      sum
      ∙ ap (λ (o : ℕ). phase (get_or (placed w x y c) i 0 + o)) (sym (get_or-drop p os i 0))
      ∙ sym (fed_at (drop p os) (placed w x y c) i (omega (arith, length-drop p os)) (omega (arith, length_placed w x y c some)))
