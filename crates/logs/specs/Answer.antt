-- What the calls give: the step of each case of an answer, what a reader does, and what a whole log holds.
use Rattle.std.specs.Prelude.{◌≡◌, Bool, true, false, List, ℕ, zero, suc, ◌<◌, Result, Ok, Err}
use Rattle.std.specs.Borrow.{Bor}
use Rattle.report.specs.declared.Report.{Report}
use Rattle.groups.specs.declared.Fault.{Fault}
use Rattle.groups.specs.Given.{number_of, place_of}
use Rattle.logs.specs.declared.Answer.{Answer}
use Rattle.logs.specs.declared.Answer.TheVariants.{Read, End, Faulty}
use Rattle.logs.specs.declared.Contents.{Contents}
use Rattle.logs.specs.declared.LogStep.{LogStep}
use Rattle.logs.specs.declared.Reader.{Reader}
use Rattle.logs.specs.Log.{report_step, end_step, fault_step, step_at}

abbrev pub step_of : Answer → ℕ → LogStep
step_of (Read r) next = report_step r next
step_of End next = end_step next
step_of (Faulty f) next = fault_step (number_of f) (place_of f) next

abbrev pub is_report : Answer → Bool
is_report (Read r) = true
is_report End = false
is_report (Faulty f) = false

-- of the report at a place, once its numbers are read: the report, or the fault that breaks it off
abbrev pub read_step : Result Report Fault → ℕ → ℕ → LogStep
read_step (Ok r) next from = report_step r next
read_step (Err f) next from = fault_step (number_of f) (place_of f) from

-- ---- a reader

-- a reader at the front of a log
pub record Starts (log : Bor (List ℕ)) (is : Reader) : Type 0 where
  pub holds : is.log ≡ log
  pub front : is.at ≡ 0

-- One call: the log stays, and the answer and the place where the reader then stands are the step at its place.
pub record Steps (was : Reader) (answer : Answer) (is : Reader) : Type 0 where
  pub stays : is.log ≡ was.log
  pub gives : step_of answer is.at ≡ step_at was.log.now was.at

-- ---- a whole log

-- the place after k steps
unfoldable pub place_after : List ℕ → ℕ → ℕ
place_after log zero = 0
place_after log (suc k) = (step_at log (place_after log k)).next

-- so many steps are reports, and the next is what comes last, which is none
pub record Holds (log : List ℕ) (c : Contents) : Type 0 where
  pub before : (k : ℕ) → k < c.reports → (step_at log (place_after log k)).kind ≡ 0
  pub then : step_of c.last.answer c.last.next ≡ step_at log (place_after log c.reports)
  pub over : is_report c.last.answer ≡ false
