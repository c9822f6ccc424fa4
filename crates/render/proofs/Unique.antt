-- Each public function of the crate has one outcome on every input: any two that its contract admits are equal.
use mathlib.Core.Path.{refl, sym, ◌∙◌}
use denote.RattleType.{RattleType}
use Rattle.ground.specs.Unique.{UniqueLeft}
use Rattle.render.proofs.entries.Reads as entries

pub entries_unique : (E : RattleType) (laws : _) (copies : _) (members : _) (row : _) (clone : _) (clone_row : _)
    → UniqueLeft (entries.Learnt E laws copies members row clone clone_row) (λ k e. e.1.1.0.now)
entries_unique E laws copies members row clone clone_row k a r r' e e' p q = (refl, p ∙ sym q)
