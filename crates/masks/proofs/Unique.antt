-- Each public function has one outcome on every input: any two that its contract admits are equal.
use mathlib.Core.Path.{sym, ◌∙◌}
use Rattle.ground.specs.Unique.{Unique}
use Rattle.masks.proofs.admit.Reads as admit

pub admit_unique : Unique admit.Learnt
admit_unique k a r r' e e' p q = p ∙ sym q
