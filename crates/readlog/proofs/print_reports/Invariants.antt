-- `print_reports` stays within the part and the lines, and ends: each turn takes a report.
use Rattle.std.proofs.Common.{◌-◌, ◌≤◌, length}
use Rattle.readlog.proofs.print_reports.Given as goal

abbrev pub invariant-loop-at : goal.invariant-loop-at
invariant-loop-at g l = (l.n ≤ length l.lines) × (l.at ≤ length l.part)

abbrev pub decreases-loop-at : goal.decreases-loop-at
decreases-loop-at g l = length l.part - l.at
