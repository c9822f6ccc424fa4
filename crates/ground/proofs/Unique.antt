-- Each public function has one outcome on every input.
use mathlib.Core.Path.{refl, sym, ◌∙◌}
use denote.RattleType.{RattleType}
use Rattle.ground.specs.Unique.{UniqueLeft}
use Rattle.ground.proofs.copy.Reads as copy
use Rattle.ground.proofs.to_front.Reads as moved

pub copy_unique : (T : RattleType) (laws : _) (copies : _) (members : _) (row : _)
    → UniqueLeft (copy.Learnt T laws copies members row) (λ k e. e.1.1.0.now)
copy_unique T laws copies members row k a r r' e e' p q =
    let same = p.fits ∙ sym q.fits in
    (same, p.stands ∙ rw same refl ∙ sym q.stands)

pub to_front_unique : UniqueLeft moved.Learnt (λ k e. e.0.now)
to_front_unique k a r r' e e' p q = (refl, p ∙ sym q)
