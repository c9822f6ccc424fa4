-- Lists put into a buffer one after the other, each with up to sixteen entries over its end, and those put back at last.
use mathlib.Core.Path.{◌≡◌, refl, sym, ap, ap₂, ◌∙◌, subst}
use mathlib.Core.List.{List, [], ◌∷◌, ◌++◌, append-nil, append_assoc}
use Prim.Native.Nat.{ℕ, ◌+◌, ◌-◌, ◌*◌, ◌≤◌}
use native.Mathlib.Nat.{add-zero}
use native.Mathlib.Omega.{arith}
use lib.ListN.{length, take, drop, get_or, length-append, length-drop, take-append-drop}
use lib.Seq.{drop-drop, drop_at, length-take-le}
use borrow.Rule.Slice.PartMut.{put_mid}
use Rattle.ground.proofs.Written.{take_over}
use Rattle.turn.specs.Column.{grid, column}
use Rattle.turn.proofs.Lists.{length_grid}
use Rattle.turn.proofs.Columns.{length_column}
use Rattle.offsets.specs.Offsets.{fed}
use Rattle.offsets.proofs.Fed.{length_fed, fed_append}
use Rattle.plan.specs.declared.Drawing.{Drawing}
use Rattle.plan.specs.Drawing.{height, co_at, co_row, column_at, drawn}
use Rattle.writer.specs.Blocks.{placed, Laid}
use Rattle.writer.proofs.Columns.{length_row, column_next, length_fed_placed, block_fed}
use Rattle.writer.proofs.Drawn.{drawn_next, length_drawn}

-- nothing is put down yet
pub laid_none : (lent : List ℕ) (at : ℕ) → Laid lent at [] at lent
laid_none lent at = record { place = sym (add-zero at); front = sym (append-nil (take at lent)); back = refl; long = refl }

-- what stays after a place stays after a later one
drop_later : {A : Type 0} (xs ys : List A) (m n : ℕ) → m ≤ n → drop m xs ≡ drop m ys → drop n xs ≡ drop n ys
drop_later xs ys m n h e =
    let there : m + (n - m) ≡ n = omega arith in
    ap (λ (k : ℕ). drop k xs) (sym there)
    ∙ sym (drop-drop (n - m) m xs)
    ∙ ap (drop (n - m)) e
    ∙ drop-drop (n - m) m ys
    ∙ ap (λ (k : ℕ). drop k ys) there

-- one list after another
pub laid_append : {lent mid left xs ys : List ℕ} {at to end : ℕ} → Laid lent at xs to mid → Laid mid to ys end left
    → Laid lent at (xs ++ ys) end left
laid_append {lent} {mid} {left} {xs} {ys} {at} {to} {end} p q = record {
  place = omega (arith, p.place, q.place, length-append xs ys);
  front = q.front ∙ ap (λ (l : List ℕ). l ++ ys) p.front ∙ append_assoc (take at lent) xs ys;
  back = q.back ∙ drop_later mid lent (to + 16) (end + 16) (omega (arith, q.place)) p.back;
  long = q.long ∙ p.long;
}

-- the entries from place n to place n + 16
pub sixteen : (n : ℕ) → n + 16 - n ≡ 16
sixteen n = omega arith

-- sixteen entries put in the place of those from place `at` on
put_at : (lent block : List ℕ) (at k : ℕ) → k ≡ 16 → put_mid at k lent block ≡ take at lent ++ block ++ drop (at + 16) lent
put_at lent block at k e =
    rw e (ap (λ (l : List ℕ). take at lent ++ (block ++ l)) (drop-drop 16 at lent) ∙ sym (append_assoc (take at lent) block (drop (at + 16) lent)))

-- the first h of them
pub laid_put : (lent block : List ℕ) (at h k : ℕ) → k ≡ 16 → length block ≡ 16 → h ≤ 16 → at + 16 ≤ length lent
    → Laid lent at (take h block) (at + h) (put_mid at k lent block)
laid_put lent block at h k e many few room = record {
  place = omega (arith, length-take-le h block (omega arith));
  front = take_over (take at lent) block (drop (at + 16) lent) at h put here (omega arith);
  back = drop_later left lent (at + 16) (at + h + 16) (omega arith) kept;
  long = ap length put ∙ rw length-append (rw length-append (omega (arith, here, length-drop (at + 16) lent)));
}
  where
    left : List ℕ
    left = put_mid at k lent block

    put : left ≡ take at lent ++ block ++ drop (at + 16) lent
    put = put_at lent block at k e

    here : length (take at lent) ≡ at
    here = length-take-le at lent (omega arith)

    kept : drop (at + 16) left ≡ drop (at + 16) lent
    kept = rw put (drop_at (take at lent ++ block) (drop (at + 16) lent) (at + 16) (rw length-append (omega (arith, here))))

-- ---- a column with offsets

module _ (os co : List ℕ) (code rows w x y : ℕ) where
  -- its first q blocks
  abbrev pub blocks_of : ℕ → List ℕ
  blocks_of q = fed os (column (co_row co code q) (grid rows x w y))

  length_blocks : (q : ℕ) → length (column (co_row co code q) (grid rows x w y)) ≡ q * (rows * w)
  length_blocks q = length_column _ _ ∙ ap₂ ◌*◌ (length_row co code q) (length_grid rows x w y)

  -- one block more, of which sixteen places are put down, with the offsets from place p on
  pub laid_block : {lent mid block : List ℕ} {at to : ℕ} (q p k : ℕ) → Laid lent at (blocks_of q) to mid
      → p ≡ q * (rows * w) → block ≡ fed (drop p os) (placed w x y (co_at co code q))
      → k ≡ 16 → 1 ≤ w → rows * w ≤ 16 → to + 16 ≤ length mid
      → Laid lent at (blocks_of (q + 1)) (to + rows * w) (put_mid to k mid block)
  laid_block {lent} {mid} {block} {at} {to} q p k before here drawn e some few room =
      subst (λ (xs : List ℕ). Laid lent at xs (to + rows * w) left) (sym next)
      (laid_append before (subst (λ (xs : List ℕ). Laid mid to xs (to + rows * w) left) same put))
    where
      c : ℕ
      c = co_at co code q

      left : List ℕ
      left = put_mid to k mid block

      put : Laid mid to (take (rows * w) block) (to + rows * w) left
      put = laid_put mid block to (rows * w) k e (ap length drawn ∙ length_fed_placed w x y c some (drop p os)) few room

      same : take (rows * w) block ≡ fed (drop p os) (column (c ∷ []) (grid rows x w y))
      same = ap (take (rows * w)) drawn ∙ block_fed w x y c some (drop p os) rows few

      next : blocks_of (q + 1) ≡ blocks_of q ++ fed (drop p os) (column (c ∷ []) (grid rows x w y))
      next =
          ap (fed os) (column_next co code q (grid rows x w y))
          ∙ fed_append os (column (co_row co code q) (grid rows x w y)) _
          ∙ ap (λ (n : ℕ). blocks_of q ++ fed (drop n os) (column (c ∷ []) (grid rows x w y))) (length_blocks q ∙ sym here)

  -- the place after q blocks
  pub column_place : {lent mid : List ℕ} {at to : ℕ} (q : ℕ) → Laid lent at (blocks_of q) to mid → to ≡ at + q * (rows * w)
  column_place {at = at} q p = p.place ∙ ap (λ (n : ℕ). at + n) (length_fed os _ ∙ length_blocks q)

-- ---- layers

-- one layer more
pub laid_layer : {lent mid left : List ℕ} {at end : ℕ} (os : List ℕ) (s : Drawing) (j : ℕ) → Laid lent 0 (drawn os s j) at mid
    → Laid mid at (fed os (column_at s (get_or s.codes j 0))) end left → Laid lent 0 (drawn os s (j + 1)) end left
laid_layer {lent} {mid} {left} {at} {end} os s j before next =
    subst (λ (xs : List ℕ). Laid lent 0 xs end left) (sym (drawn_next os s j)) (laid_append before next)

-- the place after j layers
pub drawn_place : {lent mid : List ℕ} {at : ℕ} (os : List ℕ) (s : Drawing) (j : ℕ) → Laid lent 0 (drawn os s j) at mid
    → at ≡ j * height s
drawn_place os s j p = p.place ∙ omega (arith, length_drawn os s j)

-- The sixteen entries past the end are put back: then all after it is as lent.
pub put_back : {mid kept : List ℕ} {end : ℕ} (lent xs : List ℕ) (k : ℕ) → Laid lent 0 xs end mid → k ≡ 16
    → kept ≡ take k (drop end lent) → put_mid end k mid kept ≡ xs ++ drop end lent
put_back {mid} {kept} {end} lent xs k p many e =
    put_at mid kept end k many
    ∙ rw (e, many)
    (ap₂ (λ (l r : List ℕ). l ++ take 16 (drop end lent) ++ r) p.front (p.back ∙ sym (drop-drop 16 end lent))
    ∙ append_assoc xs (take 16 (drop end lent)) (drop 16 (drop end lent))
    ∙ ap (λ (l : List ℕ). xs ++ l) (take-append-drop 16 (drop end lent)))
