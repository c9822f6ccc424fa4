-- A log: reports one after the other, each of eight numbers, N1 N2 mode v i11 i12 i13 i2.
use Rattle.std.specs.Prelude.{List, [], ◌∷◌, ◌++◌, ℕ, zero, suc, ltb, length}
use Rattle.ground.specs.Cases.{◌⇒◌∣◌}
use Rattle.ground.specs.Lists.{along}
use Rattle.report.specs.declared.Report.{Report}
use Rattle.eight.specs.Numbers.{values_of, report_of}
use Rattle.groups.specs.Number.{code, Found, value, fault, number_at}
use Rattle.logs.specs.declared.LogStep.{LogStep}

-- ---- as it is written

abbrev pub coded : Report → List ℕ
coded r = along (values_of r) code

abbrev pub log_of : List Report → List ℕ
log_of rs = along rs coded

-- ---- as it is read, in numbers

-- a report, and the place behind it
abbrev pub report_step : Report → ℕ → LogStep
report_step r next = record { kind = 0; fault = 0; place = 0; next = next; report = r }

-- the end, where the reader stays
abbrev pub end_step : ℕ → LogStep
end_step at = record { kind = 1; fault = 0; place = 0; next = at; report = report_of [] }

-- a fault by its number and its place; the reader stays where the report starts
abbrev pub fault_step : ℕ → ℕ → ℕ → LogStep
fault_step k p from = record { kind = 2; fault = k; place = p; next = from; report = report_of [] }

-- after a number more is read, and after a fault nothing
unfoldable pub after : (List ℕ → ℕ → LogStep) → ℕ → List ℕ → Found → LogStep
after more from got (value n next) = more (got ++ n ∷ []) next
after more from got (fault k p) = fault_step k p from

-- k numbers are left of the report that starts at `from`, after those that are got
unfoldable pub takes : List ℕ → ℕ → ℕ → List ℕ → ℕ → LogStep
takes log from zero got at = report_step (report_of got) at
takes log from (suc k) got at = after (takes log from k) from got (number_at log at)

-- what a place of a log holds: a report or a fault before the log's end, and there and past it the end
unfoldable pub step_at : List ℕ → ℕ → LogStep
step_at log at = ltb at (length log) ⇒ takes log at 8 [] at ∣ end_step at
