-- Offsets: for each port a number of parts of a turn, which its cable needs and which is added in every layer alike.
use Rattle.std.specs.Prelude.{◌≡◌, Bool, not, ◌||◌, List, [], ◌∷◌, map, ℕ, ◌+◌, ◌<◌, eqb, leb, length, take, get_or}
use Rattle.ground.specs.Lists.{places, some}
use Rattle.turn.specs.Phase.{turn, phase}

-- a column with the offsets of its ports, modulo a turn; what has no offset stays
unfoldable pub fed : List ℕ → List ℕ → List ℕ
fed [] xs = xs
fed (o ∷ os) [] = []
fed (o ∷ os) (x ∷ xs) = phase (x + o) ∷ fed os xs

-- offsets that are refused: they are not one for each port, or one of them is a turn or more
unfoldable pub unfit : ℕ → List ℕ → Bool
unfit ports offsets = not (eqb (length offsets) ports) || some (leb turn) offsets

-- offsets as they are read: the phases of the first 32, in 48 places, and 0 where there is none
unfoldable pub reduced : List ℕ → List ℕ
reduced offsets = places 48 0 (take 32 (map phase offsets))

-- phases in 48 places
abbrev pub Low : List ℕ → Type 0
Low xs = (length xs ≡ 48) × ((i : ℕ) → get_or xs i 0 < turn)
