-- When the cross-sum of two columns is exactly zero: by counting ports, for each difference of their phases.
use Rattle.std.specs.Prelude.{◌≡◌, cond, List, [], ◌∷◌, ℕ, ◌+◌, ◌<◌, eqb, ℤ, pos, neg_ℤ, ◌-ℤ◌}
use Rattle.turn.specs.Phase.{half, third, sixth, difference}

-- how many of xs are e
unfoldable pub count : List ℕ → ℕ → ℕ
count [] e = 0
count (x ∷ xs) e = cond (eqb x e) 1 0 + count xs e

-- d(e) = count(e) - count(e + half a turn)
unfoldable pub d : List ℕ → ℕ → ℤ
d xs e = pos (count xs e) -ℤ pos (count xs (e + half))

-- The unit vectors at the phases xs sum to exactly zero: for every i below a sixth of a turn, d(i) = d(third + i) and
-- d(sixth + i) = -d(third + i). That is the turn's cyclotomic polynomial, x^third - x^sixth + 1.
pub record ExactZero (xs : List ℕ) : Type 0 where
  pub same : (i : ℕ) → i < sixth → d xs i ≡ d xs (third + i)
  pub opposite : (i : ℕ) → i < sixth → d xs (sixth + i) ≡ neg_ℤ (d xs (third + i))

-- the differences of two columns, port by port, second minus first
unfoldable pub differences : List ℕ → List ℕ → List ℕ
differences [] ys = []
differences (x ∷ xs) [] = []
differences (x ∷ xs) (y ∷ ys) = difference x y ∷ differences xs ys

-- two columns are exactly orthogonal: the sum over the ports of conjugate(first) times second is exactly zero
abbrev pub Orthogonal : List ℕ → List ℕ → Type 0
Orthogonal xs ys = ExactZero (differences xs ys)
