-- Several reports, written into a lent buffer one after the other from a place on.
use Rattle.std.specs.Prelude.{◌≡◌, List, [], ◌∷◌, ℕ, suc, ◌+◌, ◌/◌, ◌%◌, eqb, ltb, length, take, Ok, Err}
use Rattle.ground.specs.Cases.{◌⇒◌∣◌}
use Rattle.ground.specs.Lent.{laid}
use Rattle.report.specs.declared.Report.{Report}
use Rattle.eight.specs.Numbers.{eights}
use Rattle.coding.specs.Coding.{coded, has_room}
use Rattle.logs.specs.declared.ReportsWritten.{ReportsWritten}
use Rattle.logs.specs.declared.Unwritten.TheVariants.{NoRoom, Incomplete}
use Rattle.logs.specs.Log.{log_of}

-- how many of them, from the first on, have room one after the other
unfoldable pub fitting : List Report → ℕ → ℕ → ℕ
fitting [] from size = 0
fitting (r ∷ rs) from size = has_room r from size ⇒ suc (fitting rs (from + length (coded r)) size) ∣ 0

-- So many of the reports of a list of numbers stand there, and all else is as lent. These are all; or there is no room for
-- the next; or none is left, and fewer than eight numbers are.
pub record WritesReports (numbers : List ℕ) (from : ℕ) (lent : List ℕ) (given : ReportsWritten) (left : List ℕ) : Type 0 where
  pub reports : given.reports ≡ fitting (eights numbers) from (length lent)
  pub all : given.all
      ≡ (ltb given.reports (length numbers / 8) ⇒ Err NoRoom ∣ eqb (length numbers % 8) 0 ⇒ Ok tt ∣ Err Incomplete)
  pub next : given.next ≡ from + length (log_of (take given.reports (eights numbers)))
  pub leaves : left ≡ laid (log_of (take given.reports (eights numbers))) from lent
