-- `read_input` stays within the line and ends: each turn reads some bytes more.
use Rattle.std.proofs.Common.{length, ◌-◌, ◌≤◌}
use Rattle.pmi.proofs.read_input.Given as goal

abbrev pub invariant-loop-n : goal.invariant-loop-n
invariant-loop-n g l = l.n ≤ length l.line

abbrev pub decreases-loop-n : goal.decreases-loop-n
decreases-loop-n g l = length l.line - l.n
