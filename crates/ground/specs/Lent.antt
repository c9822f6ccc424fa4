-- What a call that writes bytes into a lent buffer gives and leaves.
use Rattle.std.specs.Prelude.{◌≡◌, Bool, ◌&&◌, List, ◌++◌, ℕ, ◌+◌, ◌-◌, ◌≤◌, leb, length, take, drop, Option, Some, None}
use Rattle.ground.specs.Cases.{◌⇒◌∣◌}

-- bytes laid over what was lent from a place on; all others are as lent
abbrev pub laid : List ℕ → ℕ → List ℕ → List ℕ
laid bytes at lent = take at lent ++ bytes ++ drop (at + length bytes) lent

-- Bytes that may be written stand at the front of what was lent where they fit, and their number is given. Otherwise no
-- number is given, and all is as lent.
unfoldable pub is_written : Bool → List ℕ → List ℕ → Bool
is_written may bytes lent = may && leb (length bytes) (length lent)

pub record Writes (may : Bool) (bytes lent : List ℕ) (given : Option ℕ) (left : List ℕ) : Type 0 where
  pub gives : given ≡ (is_written may bytes lent ⇒ Some (length bytes) ∣ None)
  pub leaves : left ≡ (is_written may bytes lent ⇒ bytes ++ drop (length bytes) lent ∣ lent)

-- bytes are written from a place on, and the place after them is given
pub record Adds (bytes : List ℕ) (at : ℕ) (lent : List ℕ) (given : ℕ) (left : List ℕ) : Type 0 where
  pub long : given ≡ at + length bytes
  pub within : given ≤ length lent
  pub stands : left ≡ take at lent ++ bytes ++ drop given lent

-- The bytes from a place up to another stand at the front of what was lent, and those after them are as lent; all are where
-- the places are no part of it.
unfoldable pub is_part : ℕ → ℕ → List ℕ → Bool
is_part from to lent = leb from to && leb to (length lent)

abbrev pub to_front : ℕ → ℕ → List ℕ → List ℕ
to_front from to lent = is_part from to lent ⇒ take (to - from) (drop from lent) ++ drop (to - from) lent ∣ lent
