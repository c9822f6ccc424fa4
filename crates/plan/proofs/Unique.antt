-- Each public function has one outcome on every input.
use mathlib.Core.Path.{sym, ◌∙◌}
use Rattle.ground.specs.Unique.{Unique}
use Rattle.plan.proofs.Record.refused.Reads as refused
use Rattle.plan.proofs.accept.Reads as accept

pub refused_unique : Unique refused.Learnt
refused_unique k a r r' e e' p q = p ∙ sym q

pub accept_unique : Unique accept.Learnt
accept_unique k a r r' e e' p q = p ∙ sym q
