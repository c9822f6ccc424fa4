-- At each turn the bytes that are left complete what is found.
use Rattle.std.proofs.Common.{◌≡◌, ◌-◌, ◌^◌, ◌<◌, ◌≤◌, max, length, drop}
use Rattle.groups.specs.Number.{scan, number_at}
use Rattle.groups.proofs.number_at.Given as goal

abbrev pub invariant-loop-at : goal.invariant-loop-at
invariant-loop-at l = record {
  few : l.at - l.from ≤ 4;
  within : l.at ≤ max l.from (length l.bytes);
  power : l.weight ≡ 128 ^ (l.at - l.from);
  small : l.value < 128 ^ (l.at - l.from);
  completes : scan (l.at - l.from) l.value l.at (drop l.at l.bytes) ≡ number_at l.bytes l.from;
}
