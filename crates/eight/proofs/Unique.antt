-- Each public function of the crate has one outcome on every input: any two that its contract admits are equal.
use mathlib.Core.Path.{sym, ◌∙◌}
use Rattle.ground.specs.Unique.{Unique}
use Rattle.eight.proofs.report_of.Reads as report-of
use Rattle.eight.proofs.values_of.Reads as values_of

pub report_of_unique : Unique report-of.Learnt
report_of_unique k a r r' e e' p q = p ∙ sym q

pub values_of_unique : Unique values_of.Learnt
values_of_unique k a r r' e e' p q = p ∙ sym q
