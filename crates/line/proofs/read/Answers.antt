-- The line is as good as what is left of it.
use Rattle.std.proofs.Common.{◌≡◌, ◌∙◌, ◌-◌, sym, ap, take, arith, add-one, append-nil, length-set}
use lib.Seq.{take_all, take-suc-set, append_snoc}
use borrow.Author.Tests.{eqb-true, eqb-false}
use Rattle.eight.specs.Numbers.{values_of}
use Rattle.eight.proofs.Numbers.{values_of_eight}
use Rattle.line.proofs.Scanned.{words, good, good_not, good_next, words_next, good_some, nothing_left}
use Rattle.line.proofs.Forms.{reads_report, reads_nothing}
use Rattle.line.proofs.read.Goals as goal

pub returns-in_err-n : goal.returns-in_err-n
returns-in_err-n c =
    let l = c.loop-j in
    rw c.from_residual.ensures (reads_nothing _ (l.invariant.same ∙ good_not l.j (omega arith) l.rest.now c.in_err-n.ensures))

pub loop-j-preserved : goal.loop-j-preserved
loop-j-preserved c =
    let l = c.loop-j in
    let e = c.in_ok-n.ensures in
    let next = rw add-one at (words_next l.j (omega arith) e) in
    record {
      long = simp length-set l.invariant.long;
      same = l.invariant.same ∙ good_next l.j (omega arith) e;
      found = rw (add-one l.j, take-suc-set l.value-items l.j c.in_ok-n.n.value (omega (arith, l.invariant.long)))
          (l.invariant.found ∙ rw next (sym (append_snoc (take l.j l.value-items) _ _)));
    }

pub returns : goal.returns
unfolding good words
returns c =
    let l = c.loop-j in
    let empty = nothing_left l.rest.now (omega (arith, eqb-true _ _ (sym c.if-not-is_empty.ensures))) in
    let none : 8 - l.j ≡ 0 = omega arith in
    let all = take_all l.j l.value-items (omega (arith, l.invariant.long)) in
    let values = ap values_of c.report_of.ensures ∙ values_of_eight l.value-items l.invariant.long in
    reads_report _ (omega arith) (l.invariant.same ∙ rw (none, empty))
    (rw (none, append-nil, all) at l.invariant.found ∙ sym values)

pub returns-then-not-is_empty : goal.returns-then-not-is_empty
returns-then-not-is_empty c =
    let l = c.loop-j in
    let some = eqb-false _ _ (sym c.if-not-is_empty.ensures) in
    let none : 8 - l.j ≡ 0 = omega arith in
    reads_nothing _ (l.invariant.same ∙ rw none (good_some l.rest.now some))
