-- The tests are those of a decimal that is ended, without those that hold of any word that is found.
use Rattle.std.proofs.Common.{◌∙◌, sym, ap, length, arith, length-drop}
use borrow.Author.Tests.{eqb-true, eqb-false}
use Rattle.line.proofs.Leading.{lead_digits}
use Rattle.line.proofs.NextWord.{next_long, next_word, no_digit, too_large, none_after, other_after, leads}
use Rattle.line.proofs.decimals.next.Goals as goal
use Rattle.line.proofs.decimals.next.Goals.{then-is_empty-via-then-is_empty, then-is_empty-via-else-is_empty+then-value-gt-LARGEST, then-is_empty-via-else-is_empty+else-value-gt-LARGEST+then-end-ending}

pub value-value-requires-clause-digits : goal.value-value-requires-clause-digits
value-value-requires-clause-digits c =
    rw (next_word c.args.line.now c.leading.ensures c.split_at.ensures.front) (lead_digits 5 c.args.line.now)

pub returns-in_err-end : goal.returns-in_err-end
returns-in_err-end c =
    let bs = c.args.line.now in
    let long = next_long bs c.leading.ensures in
    let none = rw c.split_at.ensures.back at c.in_err-end.ensures.cases in
    rw c.from_residual.ensures (none_after bs c.args.left (omega (arith, length-drop c.leading.result bs, none, long)))

pub returns-then-is_empty : goal.returns-then-is_empty
returns-then-is_empty c =
    let bs = c.args.line.now in
    let word = next_word bs c.leading.ensures c.split_at.ensures.front in
    let back = sym (rw (next_long bs c.leading.ensures) at c.split_at.ensures.back) ∙ c.in_ok-end.ensures.cases.0 in
    elim c.then-is_empty.branch [
      | then-is_empty-via-then-is_empty w ↦
          no_digit bs c.args.left (ap length (sym word) ∙ eqb-true _ _ (sym w.if-is_empty.ensures))
      | then-is_empty-via-else-is_empty+then-value-gt-LARGEST w ↦
          too_large bs c.args.left (omega (arith, rw word at c.value-value.ensures, w.if-value-gt-LARGEST.true))
      | then-is_empty-via-else-is_empty+else-value-gt-LARGEST+then-end-ending w ↦
          other_after bs c.args.left back (λ e. w.if-end-ending.true (e ∙ sym w.ending.ensures))
    ]

pub returns : goal.returns
returns c =
    let bs = c.args.line.now in
    let word = next_word bs c.leading.ensures c.split_at.ensures.front in
    let back = sym (rw (next_long bs c.leading.ensures) at c.split_at.ensures.back) ∙ c.in_ok-end.ensures.cases.0 in
    let some = eqb-false _ _ (sym c.if-is_empty.ensures) in
    leads bs c.args.left back (omega (arith, ap length word, some)) c.if-value-gt-LARGEST.false
    (c.if-end-ending.false ∙ c.ending.ensures) (rw word at c.value-value.ensures)
