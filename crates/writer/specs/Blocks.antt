-- Blocks as the code draws them, with sixteen places each; what stands in a buffer while blocks are drawn into it; and sizes.
use Rattle.std.specs.Prelude.{◌≡◌, List, [], ◌∷◌, ◌++◌, ℕ, ◌+◌, ◌*◌, ◌≤◌, length, take, drop}
use Rattle.turn.specs.Column.{grid, column}
use Rattle.plan.specs.declared.Drawing.{Drawing}
use Rattle.plan.specs.Drawing.{entries, height}

-- the first sixteen places of a block in rows of w entries, x parts of a turn from row to row and y from entry to entry, with
-- c added
unfoldable pub placed : ℕ → ℕ → ℕ → ℕ → List ℕ
placed w x y c = take 16 (column (c ∷ []) (grid 16 x w y))

-- xs stands from place `at` to place `to`. What is before, and what is sixteen entries after `to` or more, is as lent.
pub record Laid (lent : List ℕ) (at : ℕ) (xs : List ℕ) (to : ℕ) (left : List ℕ) : Type 0 where
  pub place : to ≡ at + length xs
  pub front : take to left ≡ take at lent ++ xs
  pub back : drop (to + 16) left ≡ drop (to + 16) lent
  pub long : length left ≡ length lent

-- sizes that can be drawn, in numbers
pub record DrawnIn (s : Drawing) (room : ℕ) : Type 0 where
  pub few : s.v ≤ 8
  pub pairs : s.pairs ≤ 4
  pub some : 1 ≤ s.columns
  pub narrow : s.columns ≤ 4
  pub block : entries s ≤ 16
  pub ports : height s ≤ 32
  pub fits : s.v * height s + 16 ≤ room
