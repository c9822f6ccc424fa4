-- What can be said of every number that is read: which bounds it has, how it stands there, and what a fault shows.
use Rattle.std.specs.Prelude.{◌≡◌, List, [], ◌∷◌, ◌++◌, ℕ, ◌+◌, ◌*◌, ◌%◌, ◌^◌, ◌<◌, ◌≤◌, length, drop}
use Rattle.ground.specs.Lists.{All}
use Rattle.groups.specs.Number.{code}

-- bytes are below 256, and numbers below 2^32
abbrev pub Below : ℕ → List ℕ → Type 0
Below bound xs = All (λ (x : ℕ). x < bound) xs

-- a number stands at a place: its code, and then the next place
pub record NumberStands (bytes : List ℕ) (at n next : ℕ) : Type 0 where
  pub fits : n < 2 ^ 32
  pub stands : drop at bytes ≡ code n ++ drop next bytes
  pub place : next ≡ at + length (code n)

-- what bytes stand for, whether in the fewest or not: seven bits of each, lowest group first
unfoldable pub worth : List ℕ → ℕ
worth [] = 0
worth (b ∷ bs) = b % 128 + 128 * worth bs

-- what a fault is by its number, where these bytes follow i of a number, all with their top bits set
pub data Shows : ℕ → ℕ → List ℕ → Type 0 where
  ends : {i : ℕ} → i ≤ 4 → Shows 1 i []
  padded : {i : ℕ} {bs : List ℕ} → 1 ≤ i → i ≤ 4 → Shows 2 i (0 ∷ bs)
  large : {b : ℕ} {bs : List ℕ} → 15 < b → Shows 3 4 (b ∷ bs)
