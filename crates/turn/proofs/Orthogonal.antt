-- Columns are exactly orthogonal where their beams lie whole oversampling steps apart, and where their co-phases agree
-- as often as they are opposite.
use mathlib.Core.Path.{◌≡◌, refl, sym, ap, ap₂, ◌∙◌, subst}
use mathlib.Core.Logic.{◌≢◌}
use mathlib.Core.Bool.{Bool, true, false, cond}
use mathlib.Core.List.{List, [], ◌∷◌, map}
use Prim.Native.Nat.{ℕ, ◌+◌, ◌-◌, ◌*◌}
use native.Mathlib.Omega.{arith}
use native.Mathlib.Nat.{mod-mod}
use lib.ListN.{length}
use Rattle.turn.specs.Apart.{flipped, differ, agreeing, differing, Even, Apart}
use Rattle.turn.specs.Phase.{turn, half, difference, phase}
use Rattle.turn.specs.Exact.{differences, ExactZero, Orthogonal}
use Rattle.turn.specs.Cancel.{total, Invariant}
use Rattle.turn.specs.Column.{Setting, Divides, beam, column}
use Rattle.turn.proofs.Invariant.{invariant-left, invariant-right, invariant-phases}
use Rattle.turn.proofs.Zero.{exact_zero}
use Rattle.turn.proofs.Differences.{differences_column}
use Rattle.turn.proofs.Beams.{same_length, beams_turned}

phases_differences : (xs ys : List ℕ) → map phase (differences xs ys) ≡ differences xs ys
unfolding differences difference
phases_differences [] ys = refl
phases_differences (x ∷ xs) [] = refl
phases_differences (x ∷ xs) (y ∷ ys) =
    ap₂ {C = List ℕ} (λ z l. z ∷ l) (mod-mod (y + (turn - phase x)) turn) (phases_differences xs ys)

-- two lists of phases whose differences some turn, no whole one, only permutes
pub orthogonal_turned : {g : ℕ} (xs ys : List ℕ) → phase g ≢ 0 → Invariant g (differences xs ys) → Orthogonal xs ys
orthogonal_turned xs ys ne p = subst ExactZero (phases_differences xs ys) (exact_zero ne p)

-- ---- either factor of two columns

module _ {g : ℕ} (co co' b b' : List ℕ) (e : length b ≡ length b') where
  pub turned_by_beams : Invariant g (differences b b') → Invariant g (differences (column co b) (column co' b'))
  turned_by_beams p = rw (differences_column co co' b b' e) (invariant-phases (invariant-right (differences co co') p))

  pub turned_by_co_phases : Invariant g (differences co co') → Invariant g (differences (column co b) (column co' b'))
  turned_by_co_phases p = rw (differences_column co co' b b' e) (invariant-phases (invariant-left (differences b b') p))

-- ---- co-phases that agree as often as they are opposite

difference_flipped : (x : ℕ) (m n : Bool) → difference (x + cond m half 0) (x + cond n half 0) ≡ cond (differ m n) half 0
unfolding difference
difference_flipped x true true = omega arith
difference_flipped x true false = omega arith
difference_flipped x false true = omega arith
difference_flipped x false false = omega arith

total_flipped : (f : ℕ → ℕ) (xs : List ℕ) (ms ns : List Bool) → length ms ≡ length xs → length ns ≡ length xs
    → total f (differences (flipped xs ms) (flipped xs ns)) ≡ agreeing ms ns * f 0 + differing ms ns * f half
unfolding total differences flipped agreeing differing
total_flipped f [] [] [] h k = omega arith
total_flipped f [] (m ∷ ms) ns h k = absurd (omega arith)
total_flipped f [] [] (n ∷ ns) h k = absurd (omega arith)
total_flipped f (x ∷ xs) [] ns h k = absurd (omega arith)
total_flipped f (x ∷ xs) (m ∷ ms) [] h k = absurd (omega arith)
total_flipped f (x ∷ xs) (m ∷ ms) (n ∷ ns) h k =
    ap₂ ◌+◌ (ap f (difference_flipped x m n)) (total_flipped f xs ms ns (omega arith) (omega arith))
    ∙ one (differ m n) (agreeing ms ns) (differing ms ns)
  where
    one : (b : Bool) (p q : ℕ)
        → f (cond b half 0) + (p * f 0 + q * f half) ≡ (cond b 0 1 + p) * f 0 + (cond b 1 0 + q) * f half
    one true p q = omega arith
    one false p q = omega arith

pub opposites_invariant : (xs : List ℕ) (ms ns : List Bool) → Even (length xs) ms ns
    → Invariant half (differences (flipped xs ms) (flipped xs ns))
opposites_invariant xs ms ns v = record {
  turned = λ f s.
      total_flipped (λ x. f (x + half)) xs ms ns v.first v.second
      ∙ ap₂ (λ (p q : ℕ). p * f half + q * f turn) v.even (sym v.even)
      ∙ ap (λ (p : ℕ). differing ms ns * f half + agreeing ms ns * p) (sym (s turn))
      ∙ omega arith
      ∙ sym (total_flipped f xs ms ns v.first v.second);
}

-- ---- the two theorems

-- columns of two beams that lie whole multiples of the oversampling apart, whatever the co-phases
pub beams_orthogonal : (c : Setting) → Divides c → (l m j1 j2 k1 k2 : ℕ) → Apart c j1 j2 k1 k2 → (co co' : List ℕ)
    → Orthogonal (column co (beam c (l + j1 * c.o1) (m + j2 * c.o2)))
    (column co' (beam c (l + k1 * c.o1) (m + k2 * c.o2)))
beams_orthogonal c whole l m j1 j2 k1 k2 a co co' =
    let t = beams_turned c whole l m j1 j2 k1 k2 a in
    orthogonal_turned _ _ t.some (turned_by_beams co co' _ _ (same_length c whole l m j1 j2 k1 k2) t.invariant)

-- columns whose co-phases agree as often as they are opposite, whatever the beams
pub opposites_orthogonal : (co : List ℕ) (ms ns : List Bool) → Even (length co) ms ns
    → (b b' : List ℕ) → length b ≡ length b' → Orthogonal (column (flipped co ms) b) (column (flipped co ns) b')
opposites_orthogonal co ms ns v b b' same =
    orthogonal_turned {g = half} _ _ (omega arith) (turned_by_co_phases _ _ b b' same (opposites_invariant co ms ns v))
