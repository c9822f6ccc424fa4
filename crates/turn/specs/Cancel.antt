-- Lists of differences that cancel: what the rounded weights need beyond exact zero.
use Rattle.std.specs.Prelude.{◌≡◌, List, [], ◌∷◌, ℕ, ◌+◌, ◌%◌}
use Rattle.ground.specs.Lists.{All}
use Rattle.turn.specs.Phase.{half, third, twelfth, phase}

-- the total of a function over a list of phases
unfoldable pub total : (ℕ → ℕ) → List ℕ → ℕ
total f [] = 0
total f (x ∷ xs) = f x + total f xs

-- f depends on the phase of its argument alone
abbrev pub Steady : (ℕ → ℕ) → Type 0
Steady f = (x : ℕ) → f (phase x) ≡ f x

-- A turn by g only permutes the phases xs: no function of a phase has another total after it. (Of the function that
-- is 1 at e and else 0: as many are at e + g as at e.)
pub record Invariant (g : ℕ) (xs : List ℕ) : Type 0 where
  pub turned : (f : ℕ → ℕ) → Steady f → total (λ x. f (x + g)) xs ≡ total f xs

abbrev pub Multiples : ℕ → List ℕ → Type 0
Multiples g xs = All (λ x. x % g ≡ 0) xs

-- whole twelfths of a turn
abbrev pub Twelfths : List ℕ → Type 0
Twelfths xs = Multiples twelfth xs

-- Weights cancel in opposites at any phases, and in thirds at whole twelfths of a turn.
pub data Cancels (xs : List ℕ) : Type 0 where
  opposites : Invariant half xs → Cancels xs
  thirds : Invariant third xs → Twelfths xs → Cancels xs
