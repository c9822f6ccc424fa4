-- The form of a line: N1 N2 mode v i11 i12 i13 i2, decimals of 1 to 5 digits, at most 65535, one space between, newline
-- at the end.
use Rattle.std.specs.Prelude.{◌≡◌, Bool, true, ◌&&◌, List, [], ◌∷◌, map, ℕ, ◌+◌, ◌-◌, ◌*◌, ◌≤◌, leb, length, Option, Some, None}
use Rattle.ground.specs.Lists.{each}
use Rattle.report.specs.declared.Report.{Report}
use Rattle.eight.specs.Numbers.{values_of}
use Rattle.text.specs.Words.{nought, joined}

unfoldable pub is_digit : ℕ → Bool
is_digit b = leb nought b && leb b (nought + 9)

-- the number that digits stand for, where those before them stand for n
unfoldable pub value_after : ℕ → List ℕ → ℕ
value_after n [] = n
value_after n (b ∷ bs) = value_after (10 * n + (b - nought)) bs

abbrev pub value : List ℕ → ℕ
value word = value_after 0 word

-- a decimal of 1 to 5 digits, at most 65535; leading zeros are allowed
unfoldable pub is_decimal : List ℕ → Bool
is_decimal word = each is_digit word && (leb 1 (length word) && (leb (length word) 5 && leb (value word) 65535))

-- a line that has the form, and the report that it stands for; the newline is one of its 256 bytes
pub record Form (line : List ℕ) (r : Report) : Type 0 where
  pub words : List (List ℕ)
  pub decimals : each is_decimal words ≡ true
  pub values : map value words ≡ values_of r
  pub joins : line ≡ joined words
  pub few : length line ≤ 256

-- how a line is read: as a report if it has the form of that, and as nothing if it has the form of none
abbrev pub Reads : List ℕ → Option Report → Type 0
Reads line (Some r) = Form line r
Reads line None = (r : Report) → Form line r → ⊥
