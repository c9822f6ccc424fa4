-- The public function of the crate has one outcome on every input: any two that its contract admits are equal.
use mathlib.Core.Path.{sym, ◌∙◌}
use Rattle.ground.specs.Unique.{Unique}
use Rattle.lookup.proofs.weight_at.Reads as weight_at

pub weight_at_unique : Unique weight_at.Learnt
weight_at_unique k a r r' e e' p q = p ∙ sym q
