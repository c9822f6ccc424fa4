-- The lines of a listing of a log: a line of numbers (`line_of`) for each report, and what stands last.
use Rattle.std.specs.Prelude.{◌≡◌, Bool, true, List, [], ◌∷◌, ℕ, ◌*◌}
use Rattle.text.specs.Words.{joined, decimal, headed}

-- `end`
unfoldable pub end_text : List ℕ
end_text = headed (101 ∷ 110 ∷ 100 ∷ []) []

-- whether a line is `end` and its newline, and nothing else
pub record TellsEnd (line : List ℕ) (t : Bool) : Type 0 where
  pub only : t ≡ true → line ≡ end_text
  pub always : line ≡ end_text → t ≡ true

-- `fault`, its number, `at` and its place
unfoldable pub fault_text : ℕ → ℕ → List ℕ
fault_text number place =
    joined ((102 ∷ 97 ∷ 117 ∷ 108 ∷ 116 ∷ []) ∷ decimal number ∷ (97 ∷ 116 ∷ []) ∷ decimal place ∷ [])

-- no line is longer: eight numbers of ten digits, and what follows each
abbrev pub longest_line : ℕ
longest_line = 8 * 11
