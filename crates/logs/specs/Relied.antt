-- What can be relied on of every log: what a step tells of its bytes, which reports are handed out, what a reader's calls
-- give, and how reports that were written read back.
use Rattle.std.specs.Prelude.{◌≡◌, List, [], ◌∷◌, ◌++◌, ℕ, ◌+◌, ◌^◌, ◌<◌, ◌≤◌, eqb, length, drop, Ok}
use Rattle.ground.specs.Cases.{◌⇒◌∣◌}
use Rattle.ground.specs.Lists.{along, All}
use Rattle.ground.specs.Lent.{laid}
use Rattle.report.specs.declared.Report.{Report}
use Rattle.eight.specs.Numbers.{values_of}
use Rattle.groups.specs.Number.{code}
use Rattle.groups.specs.Relied.{Below, Shows}
use Rattle.logs.specs.declared.Answer.{Answer}
use Rattle.logs.specs.declared.LogStep.{LogStep}
use Rattle.logs.specs.declared.Reader.{Reader}
use Rattle.logs.specs.declared.ReportsWritten.{ReportsWritten}
use Rattle.logs.specs.Log.{coded, report_step, end_step, fault_step, step_at}
use Rattle.logs.specs.Answer.{Steps}

-- ---- one step

-- A report stands at a place: its eight numbers, each in its shortest form, and then the next place.
pub record Stands (log : List ℕ) (at : ℕ) (r : Report) (next : ℕ) : Type 0 where
  pub fits : Below (2 ^ 32) (values_of r)
  pub bytes : drop at log ≡ coded r ++ drop next log
  pub place : next ≡ at + length (coded r)

-- A report breaks off at the place p by fault k: from where it starts, fewer than eight numbers in their shortest form and
-- then the begun bytes of one more stand there, with nothing wrong, up to that place.
pub record Breaks (log : List ℕ) (at k p : ℕ) : Type 0 where
  pub inside : at < length log
  pub numbers : List ℕ
  pub few : length numbers < 8
  pub fits : Below (2 ^ 32) numbers
  pub begun : List ℕ
  pub topped : All (λ (b : ℕ). 128 ≤ b) begun
  pub bytes : drop at log ≡ along numbers code ++ begun ++ drop p log
  pub place : p ≡ at + length (along numbers code) + length begun
  pub shows : Shows k (length begun) (drop p log)

-- what each step tells of the log
pub data Tells (log : List ℕ) (at : ℕ) : LogStep → Type 0 where
  tells_report : {r : Report} {next : ℕ} → Stands log at r next → Tells log at (report_step r next)
  tells_end : length log ≤ at → Tells log at (end_step at)
  tells_fault : {k p : ℕ} → Breaks log at k p → Tells log at (fault_step k p at)

-- the same step where d bytes stand before the log
abbrev pub moved_by : ℕ → LogStep → LogStep
moved_by d s =
    record {
      kind = s.kind;
      fault = s.fault;
      place = eqb s.kind 2 ⇒ d + s.place ∣ 0;
      next = d + s.next;
      report = s.report;
    }

-- ---- a whole log

-- from a place on these reports are handed out, and then the end
pub data HandsOut (log : List ℕ) : ℕ → List Report → Type 0 where
  no_more : {at : ℕ} → step_at log at ≡ end_step at → HandsOut log at []
  one_and : {at next : ℕ} {r : Report} {rs : List Report} → step_at log at ≡ report_step r next → HandsOut log next rs
      → HandsOut log at (r ∷ rs)

-- the numbers of each report have at most 32 bits
unfoldable pub AllFit : List Report → Type 0
AllFit [] = Unit {0}
AllFit (r ∷ rs) = Below (2 ^ 32) (values_of r) × AllFit rs

-- calls of a reader, one after the other, and what they answer
pub data Runs : Reader → List Answer → Reader → Type 0 where
  no_call : {r : Reader} → Runs r [] r
  call_and : {was is then : Reader} {a : Answer} {more : List Answer} → Steps was a is → Runs is more then
      → Runs was (a ∷ more) then

-- ---- reports that were written

-- from a place on these reports are handed out, and the reader then stands at another
pub data Hands (log : List ℕ) : ℕ → List Report → ℕ → Type 0 where
  none_yet : {at : ℕ} → Hands log at [] at
  one_then : {at next last : ℕ} {r : Report} {rs : List Report} → step_at log at ≡ report_step r next → Hands log next rs last
      → Hands log at (r ∷ rs) last

-- they are handed out from their start on, and behind them stands what stood there before
pub record ReadsBack (lent left : List ℕ) (from : ℕ) (rs : List Report) (next : ℕ) : Type 0 where
  pub reports : Hands left from rs next
  pub behind : (at : ℕ) → next ≤ at → step_at left at ≡ step_at lent at

-- a log stands in a buffer from a place on, all of its reports were written, and all else is as lent
pub record SameAgain (log : List ℕ) (rs : List Report) (from : ℕ) (lent : List ℕ) (given : ReportsWritten) (left : List ℕ) : Type 0 where
  pub all : given.all ≡ Ok tt
  pub reports : given.reports ≡ length rs
  pub next : given.next ≡ from + length log
  pub leaves : left ≡ laid log from lent
