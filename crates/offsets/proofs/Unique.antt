-- Each public function has one outcome on every input: any two that its contract admits are equal.
use mathlib.Core.Path.{refl, sym, ◌∙◌}
use Rattle.ground.specs.Unique.{Unique, UniqueLeft}
use Rattle.offsets.proofs.is_unfit.Reads as is-unfit
use Rattle.offsets.proofs.reduce.Reads as reduce
use Rattle.offsets.proofs.reduced.Reads as reduced

pub is_unfit_unique : Unique is-unfit.Learnt
is_unfit_unique k a r r' e e' p q = p ∙ sym q

pub reduce_unique : UniqueLeft reduce.Learnt (λ k e. e.1.0.now)
reduce_unique k a r r' e e' p q = (refl, p ∙ sym q)

pub reduced_unique : Unique reduced.Learnt
reduced_unique k a r r' e e' p q = p ∙ sym q
