-- Each public function of the crate has one outcome on every input: any two that its contract admits are equal.
use mathlib.Core.Path.{sym, ◌∙◌}
use Rattle.ground.specs.Unique.{Unique}
use Rattle.rows.proofs.k_two.Reads as k_two
use Rattle.rows.proofs.k_three.Reads as k-three
use Rattle.rows.proofs.k_of.Reads as k_of

pub k_two_unique : Unique k_two.Learnt
k_two_unique k a r r' e e' p q = p ∙ sym q

pub k_three_unique : Unique k-three.Learnt
k_three_unique k a r r' e e' p q = p ∙ sym q

pub k_of_unique : Unique k_of.Learnt
k_of_unique k a r r' e e' p q = p ∙ sym q
