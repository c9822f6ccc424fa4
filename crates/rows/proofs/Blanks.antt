-- A column with blanks below its last row has no other rows.
use mathlib.Core.Path.{◌≡◌, refl, ◌∙◌}
use mathlib.Core.List.{List, [], ◌∷◌, ◌++◌}
use Prim.Native.Nat.{ℕ, zero, suc}
use lib.ListN.{get_or}
use Rattle.turn.specs.declared.Beam.{Beam}
use Rattle.settings.specs.Ranges.{beam}

-- row i, where it is blank as where there is none
abbrev at : List Beam → ℕ → Beam
at xs i = get_or xs i (beam 0 0)

pub blank : (xs : List Beam) (i : ℕ) → at (xs ++ beam 0 0 ∷ []) i ≡ at xs i
blank [] zero = refl
blank [] (suc i) = refl
blank (x ∷ xs) zero = refl
blank (x ∷ xs) (suc i) = blank xs i

pub two_blanks : (xs : List Beam) (i : ℕ) → at (xs ++ beam 0 0 ∷ [] ++ beam 0 0 ∷ []) i ≡ at xs i
two_blanks xs i = blank (xs ++ beam 0 0 ∷ []) i ∙ blank xs i

pub three_blanks : (xs : List Beam) (i : ℕ) → at (xs ++ beam 0 0 ∷ [] ++ beam 0 0 ∷ [] ++ beam 0 0 ∷ []) i ≡ at xs i
three_blanks xs i = two_blanks (xs ++ beam 0 0 ∷ []) i ∙ blank xs i
