-- The public function of the crate has one outcome on every input: any two that its contract admits are equal.
use mathlib.Core.Path.{sym, ◌∙◌}
use Rattle.ground.specs.Unique.{Unique}
use Rattle.report.proofs.beams_of.Reads as beams-of

pub beams_of_unique : Unique beams-of.Learnt
beams_of_unique k a r r' e e' p q = p ∙ sym q
