-- A report in a log, and how it is written into a lent buffer from a place on.
use Rattle.std.specs.Prelude.{◌≡◌, Bool, List, ℕ, ◌+◌, leb, length, Result, Ok, Err}
use Rattle.ground.specs.Cases.{◌⇒◌∣◌}
use Rattle.ground.specs.Lists.{along}
use Rattle.ground.specs.Lent.{laid}
use Rattle.report.specs.declared.Report.{Report}
use Rattle.eight.specs.Numbers.{values_of}
use Rattle.groups.specs.Number.{code}
use Rattle.coding.specs.declared.NoRoom.{NoRoom}

-- its eight numbers, one after the other
abbrev pub coded : Report → List ℕ
coded r = along (values_of r) code

-- from a place of a buffer of so many bytes on there is room for the whole of it; from a place past the end there is none
unfoldable pub has_room : Report → ℕ → ℕ → Bool
has_room r from size = leb (from + length (coded r)) size

abbrev pub no_room : ℕ → NoRoom
no_room from = record { from = from }

-- It stands there, and the place behind it is given; or there is no room, with the place where it was to start, and all is as
-- lent.
pub record WritesReport (r : Report) (from : ℕ) (lent : List ℕ) (given : Result ℕ NoRoom) (left : List ℕ) : Type 0 where
  pub gives : given ≡ (has_room r from (length lent) ⇒ Ok (from + length (coded r)) ∣ Err (no_room from))
  pub leaves : left ≡ (has_room r from (length lent) ⇒ laid (coded r) from lent ∣ lent)
