-- A digit more makes the number ten times as large, and less than ten larger.
use Rattle.std.proofs.Common.{◌<◌, ◌≤◌, length, arith, add-one, drop-cons}
use native.Mathlib.Nat.{pow-suc}
use lib.ListN.{drop_of_length-le}
use Rattle.line.specs.Form.{value_after}
use Rattle.line.proofs.Leading.{digit_at}
use Rattle.line.proofs.decimals.value.Goals as goal

pub overflow_sub-n : goal.overflow_sub-n
overflow_sub-n c = (digit_at c.args.word.now c.loop-b.b-index c.requires.digits (omega arith)).0

pub loop-b-preserved : goal.loop-b-preserved
unfolding value_after
loop-b-preserved c =
    let word = c.args.word.now in
    let i = c.loop-b.b-index in
    let h : i < length word = omega arith in
    let digit = digit_at word i c.requires.digits h in
    record {
      few = rw (add-one i, pow-suc) (omega (arith, digit, c.loop-b.invariant.few));
      same = rw (add-one i) (rw (drop-cons word i 0 h) at c.loop-b.invariant.same);
    }

pub returns : goal.returns
unfolding value_after
returns c =
    let h : length c.args.word.now ≤ c.loop-b.b-index = omega arith in
    rw (drop_of_length-le c.args.word.now h) at c.loop-b.invariant.same
