-- Lines of words and numbers, in ASCII.
use Rattle.std.specs.Prelude.{List, [], ◌∷◌, ◌++◌, map, ℕ, zero, suc, ◌+◌, ◌/◌, ◌%◌, ltb, length}
use Rattle.ground.specs.Cases.{◌⇒◌∣◌}

abbrev pub newline : ℕ
newline = 10

abbrev pub space : ℕ
space = 32

-- `0`; the other digits follow it
abbrev pub nought : ℕ
nought = 48

-- what follows a word after which so many are left: a space, and a newline after the last
unfoldable pub ending : ℕ → ℕ
ending zero = newline
ending (suc left) = space

-- words as a line
unfoldable pub joined : List (List ℕ) → List ℕ
joined [] = []
joined (word ∷ words) = word ++ ending (length words) ∷ joined words

-- the last digit of a number
abbrev pub digit : ℕ → ℕ
digit n = nought + n % 10

-- a number in decimals, without leading zeros; of one that has more than k digits the last k
unfoldable pub decimal_in : ℕ → ℕ → List ℕ
decimal_in zero n = []
decimal_in (suc k) n = ltb n 10 ⇒ digit n ∷ [] ∣ decimal_in k (n / 10) ++ digit n ∷ []

-- a number of 64 bits has 20 digits at most
abbrev pub decimal : ℕ → List ℕ
decimal n = decimal_in 20 n

-- a number, and what follows it where so many words are left
abbrev pub ended : ℕ → ℕ → List ℕ
ended n left = decimal n ++ ending left ∷ []

-- a line of numbers
unfoldable pub line_of : List ℕ → List ℕ
line_of xs = joined (map decimal xs)

-- a word, and numbers after it
unfoldable pub headed : List ℕ → List ℕ → List ℕ
headed word xs = joined (word ∷ map decimal xs)
