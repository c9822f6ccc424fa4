-- What stands at the front of a text: the digits, and what follows them.
use Rattle.std.specs.Prelude.{◌≡◌, Bool, true, cond, ◌&&◌, List, [], ◌∷◌, ℕ, zero, suc, ◌+◌, eqb, length, get_or, drop}
use Rattle.text.specs.Words.{ending}
use Rattle.line.specs.Form.{is_digit, value, is_decimal}

-- the digits at the front of a text, at most k of them
unfoldable pub lead : ℕ → List ℕ → List ℕ
lead zero bs = []
lead (suc k) [] = []
lead (suc k) (b ∷ bs) = cond (is_digit b) (b ∷ lead k bs) []

-- the word that a line has next if it has the form
abbrev pub next : List ℕ → List ℕ
next bs = lead 5 bs

-- the next word is a decimal, and is followed by what ends a word after which so many are left
unfoldable pub is_ended : List ℕ → ℕ → Bool
is_ended bs left = is_decimal (next bs) && eqb (get_or bs (length (next bs)) 0) (ending left)

-- what is read of a text whose next word is ended so: its number, and the text after what follows it
pub record Leads (bs : List ℕ) (left number : ℕ) (after : List ℕ) : Type 0 where
  pub ended : is_ended bs left ≡ true
  pub value : number ≡ value (next bs)
  pub rest : after ≡ drop (length (next bs) + 1) bs
