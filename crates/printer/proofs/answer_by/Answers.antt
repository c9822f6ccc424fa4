-- The test is that of the definition.
use borrow.Author.Tests.{eq-eqb, ne_eqb}
use Rattle.printer.specs.Prints.{answer_by}
use Rattle.printer.proofs.answer_by.Goals as goal

pub returns-then-number-ne0 : goal.returns-then-number-ne0
unfolding answer_by
returns-then-number-ne0 c = rw (ne_eqb _ 0 c.if-number-ne0.true)

pub returns : goal.returns
unfolding answer_by
returns c = rw (eq-eqb _ 0 c.if-number-ne0.false)
