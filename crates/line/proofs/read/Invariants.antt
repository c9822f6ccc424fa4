-- The line is good if what is left of it is, and its numbers are those that are stored and those that are left.
use Rattle.std.proofs.Common.{◌≡◌, ◌-◌, ◌++◌, map, length, take}
use Rattle.line.specs.Form.{value}
use Rattle.line.proofs.Scanned.{words, good}
use Rattle.line.proofs.read.Given as goal

abbrev pub invariant-loop-j : goal.invariant-loop-j
invariant-loop-j l = record {
  long : length l.value-items ≡ 8;
  same : good 8 l.line ≡ good (8 - l.j) l.rest;
  found : map value (words 8 l.line) ≡ take l.j l.value-items ++ map value (words (8 - l.j) l.rest);
}
