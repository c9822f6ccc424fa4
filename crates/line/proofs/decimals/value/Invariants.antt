-- Each turn takes one digit more, and so the number is below a power of ten.
use Rattle.std.proofs.Common.{◌≡◌, ◌^◌, ◌<◌, drop}
use Rattle.line.specs.Form.{value_after, value}
use Rattle.line.proofs.decimals.value.Given as goal

abbrev pub invariant-loop-b : goal.invariant-loop-b
invariant-loop-b l = record {
  few : l.n < 10 ^ l.b-index;
  same : value_after l.n (drop l.b-index l.word) ≡ value l.word;
}
