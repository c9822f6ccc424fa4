-- The public function has one outcome on every input.
use mathlib.Core.Path.{sym, ◌∙◌}
use Rattle.ground.specs.Unique.{Unique}
use Rattle.multi.proofs.own_of.Reads as own_of

pub own_of_unique : Unique own_of.Learnt
own_of_unique k a r r' e e' p q = p ∙ sym q
