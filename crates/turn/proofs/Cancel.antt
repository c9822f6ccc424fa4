-- Differences that cancel: what the rounded weights need beyond exact zero. Weights cancel in opposites at any
-- phases, and in thirds at whole twelfths of a turn.
use mathlib.Core.Path.{◌≡◌}
use mathlib.Core.Logic.{◌⊎◌, inl, inr}
use mathlib.Core.Bool.{Bool}
use mathlib.Core.List.{List, map}
use Prim.Native.Nat.{ℕ, ◌+◌, ◌*◌}
use native.Mathlib.Omega.{arith}
use lib.ListN.{length}
use Rattle.turn.specs.Cancel.{Twelfths, Cancels, opposites, thirds, Invariant}
use Rattle.turn.specs.Phase.{half, third, twelfth, phase}
use Rattle.turn.specs.Column.{Setting, Divides, beam, column}
use Rattle.turn.specs.Exact.{differences, Orthogonal}
use Rattle.turn.specs.Apart.{Apart, Common, flipped, Even}
use Rattle.turn.proofs.Zero.{to_half, half_or_third}
use Rattle.turn.proofs.Differences.{differences_column}
use Rattle.turn.proofs.Steps.{gap_multiple}
use Rattle.turn.proofs.Beams.{same_length, differences_beams, beams_turned}
use Rattle.turn.proofs.Orthogonal.{opposites_invariant, orthogonal_turned, turned_by_beams, turned_by_co_phases}
use Rattle.turn.proofs.Multiples.{multiples_steps, multiples_product, multiples_phases}

-- what cancels is exactly zero
pub cancels_orthogonal : (xs ys : List ℕ) → Cancels (differences xs ys) → Orthogonal xs ys
cancels_orthogonal xs ys (opposites p) = orthogonal_turned {g = half} xs ys (omega arith) p
cancels_orthogonal xs ys (thirds p a) = orthogonal_turned {g = third} xs ys (omega arith) p

coarse_phases : {xs : List ℕ} → Twelfths xs → Twelfths (map phase xs)
coarse_phases = multiples_phases twelfth (omega arith)

-- ---- columns

-- co-phases that agree as often as they are opposite
pub opposites_cancel : (co : List ℕ) (ms ns : List Bool) → Even (length co) ms ns
    → (b b' : List ℕ) → length b ≡ length b' → Cancels (differences (column (flipped co ms) b) (column (flipped co ns) b'))
opposites_cancel co ms ns v b b' same = opposites (turned_by_co_phases _ _ b b' same (opposites_invariant co ms ns v))

-- Beams that lie whole multiples of the oversampling apart: where 3 divides the N1th and the N2th part of a turn no
-- thirds occur; or else these parts are whole twelfths, and the co-phases must be too
module _ (c : Setting) (whole : Divides c) (l m j1 j2 k1 k2 : ℕ) (a : Apart c j1 j2 k1 k2) (co co' : List ℕ) where
  abbrev between : List ℕ
  between =
      differences (column co (beam c (l + j1 * c.o1) (m + j2 * c.o2)))
      (column co' (beam c (l + k1 * c.o1) (m + k2 * c.o2)))

  coarse_between : Common c twelfth → Twelfths (differences co co') → Twelfths between
  coarse_between p h =
      rw (differences_column co co' _ _ (same_length c whole l m j1 j2 k1 k2))
      (coarse_phases (multiples_product twelfth h
      (rw (differences_beams c whole l m j1 j2 k1 k2) (coarse_phases (multiples_product twelfth
      (coarse_phases
      (multiples_steps twelfth c.n1 _ (gap_multiple c.n1 c.o1 whole.rows twelfth j1 k1 p.rows)))
      (coarse_phases
      (multiples_steps twelfth c.n2 _ (gap_multiple c.n2 c.o2 whole.columns twelfth j2 k2 p.columns))))))))

  pub beams_cancel : Common c 3 ⊎ (Common c twelfth × Twelfths (differences co co')) → Cancels between
  beams_cancel s =
      let t = beams_turned c whole l m j1 j2 k1 k2 a in
      let i : Invariant t.by between = turned_by_beams co co' _ _ (same_length c whole l m j1 j2 k1 k2) t.invariant in
      elim s [
        | inl p ↦ opposites (to_half t.some (t.multiple p) i)
        | inr p ↦ elim (half_or_third t.some i) [
          | inl h ↦ opposites h
          | inr h ↦ thirds h (coarse_between p.0 p.1)
        ]
      ]
