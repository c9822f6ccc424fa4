-- What tells two columns apart: co-phases that are opposite in half of the blocks, or beams whole oversampling steps apart.
use Rattle.std.specs.Prelude.{◌≡◌, ◌≢◌, ◌⊎◌, Bool, true, false, not, cond, List, [], ◌∷◌, ℕ, ◌+◌, ◌/◌, ◌%◌, length}
use Rattle.turn.specs.Phase.{turn, half}
use Rattle.turn.specs.Column.{Setting}

-- half a turn added to each co-phase that is marked
unfoldable pub flipped : List ℕ → List Bool → List ℕ
flipped [] ms = []
flipped (x ∷ xs) [] = []
flipped (x ∷ xs) (m ∷ ms) = (x + cond m half 0) ∷ flipped xs ms

-- in how many places two lists of marks agree, and in how many they differ
abbrev pub differ : Bool → Bool → Bool
differ true n = not n
differ false n = n

unfoldable pub agreeing : List Bool → List Bool → ℕ
agreeing [] ns = 0
agreeing (m ∷ ms) [] = 0
agreeing (m ∷ ms) (n ∷ ns) = cond (differ m n) 0 1 + agreeing ms ns

unfoldable pub differing : List Bool → List Bool → ℕ
differing [] ns = 0
differing (m ∷ ms) [] = 0
differing (m ∷ ms) (n ∷ ns) = cond (differ m n) 1 0 + differing ms ns

-- two lists of n marks that agree as often as they differ
pub record Even (n : ℕ) (ms ns : List Bool) : Type 0 where
  pub first : length ms ≡ n
  pub second : length ns ≡ n
  pub even : agreeing ms ns ≡ differing ms ns

-- (j1,j2) and (k1,k2) times the oversampling lead to two beams and not to one
abbrev pub Apart : Setting → ℕ → ℕ → ℕ → ℕ → Type 0
Apart c j1 j2 k1 k2 = (j1 % c.n1 ≢ k1 % c.n1) ⊎ (j2 % c.n2 ≢ k2 % c.n2)

-- m divides the N1th and the N2th part of a turn
pub record Common (c : Setting) (m : ℕ) : Type 0 where
  pub rows : turn / c.n1 % m ≡ 0
  pub columns : turn / c.n2 % m ≡ 0
