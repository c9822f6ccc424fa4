-- Columns, block by block; co-phases count by their phase alone.
use mathlib.Core.Path.{◌≡◌, refl, sym, ap, ◌∙◌}
use mathlib.Core.List.{List, [], ◌∷◌, ◌++◌, map, append_assoc, map-map, map-append}
use Prim.Native.Nat.{ℕ, ◌*◌}
use native.Mathlib.Nat.{mod-add-mod}
use lib.ListN.{length, length-map}
use Rattle.turn.specs.Phase.{phase}
use Rattle.turn.specs.Column.{product, column}
use Rattle.turn.proofs.Lists.{length_product}

pub length_column : (xs ys : List ℕ) → length (column xs ys) ≡ length xs * length ys
unfolding column
length_column xs ys = length-map (product xs ys) phase ∙ length_product xs ys

-- the blocks of two lists of co-phases, one after the other
pub column_append : (xs xs' ys : List ℕ) → column (xs ++ xs') ys ≡ column xs ys ++ column xs' ys
unfolding column product
column_append [] xs' ys = refl
column_append (x ∷ xs) xs' ys = simp map-append (rw (column_append xs xs' ys, append_assoc))

-- co-phases may be reduced first
column_phases : (xs ys : List ℕ) → column (map phase xs) ys ≡ column xs ys
unfolding column product
column_phases [] ys = refl
column_phases (x ∷ xs) ys = simp (map-append, map-map, mod-add-mod, column_phases xs ys)

-- so that co-phases of the same phases give the same column
pub column_same : (xs xs' ys : List ℕ) → map phase xs ≡ map phase xs' → column xs ys ≡ column xs' ys
column_same xs xs' ys e = sym (column_phases xs ys) ∙ ap (λ (co : List ℕ). column co ys) e ∙ column_phases xs' ys
