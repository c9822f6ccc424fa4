-- At each turn the numbers that are left complete the report.
use Rattle.std.proofs.Common.{◌≡◌, ℕ, [], ◌-◌, take}
use Rattle.logs.specs.Log.{takes}
use Rattle.logs.proofs.report_from.Given as goal

abbrev pub invariant-loop-value : goal.invariant-loop-value
invariant-loop-value l =
    (from : ℕ) → takes l.log from (8 - l.value-index) (take l.value-index l.value-items) l.at ≡ takes l.log from 8 [] l.fn.at
