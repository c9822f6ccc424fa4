-- At each turn so many steps are reports, and what is held is the next.
use Rattle.std.proofs.Common.{◌≡◌, ◌-◌, length}
use Rattle.logs.specs.Log.{step_at}
use Rattle.logs.specs.Answer.{step_of, place_after}
use Rattle.logs.proofs.Counted.{Reported}
use Rattle.logs.proofs.reports_in.Given as goal

abbrev pub invariant-loop-last : goal.invariant-loop-last
invariant-loop-last l = record {
  reported : Reported l.log l.reports;
  holds : step_of l.last.answer l.last.next ≡ step_at l.log (place_after l.log l.reports);
}

abbrev pub decreases-loop-last : goal.decreases-loop-last
decreases-loop-last l = length l.log - place_after l.log l.reports
