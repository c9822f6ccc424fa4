-- `print_log` stays within the part, counts within 64 bits, and ends: each turn reads some bytes more.
use Rattle.std.proofs.Common.{◌-◌, ◌+◌, ◌^◌, ◌≤◌, length}
use Rattle.readlog.proofs.print_log.Given as goal

abbrev pub invariant-loop-before : goal.invariant-loop-before
invariant-loop-before g l = (l.held ≤ length l.part) × (l.before ≤ 2 ^ 63 + 65536)

abbrev pub decreases-loop-before : goal.decreases-loop-before
decreases-loop-before g l = 2 ^ 63 + 65536 + length l.part - (l.before + l.held)
