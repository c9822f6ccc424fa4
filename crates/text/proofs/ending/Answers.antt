-- The test is that of the definition.
use Rattle.std.proofs.Common.{◌≡◌, refl, ℕ, zero, suc}
use Rattle.text.specs.Words.{space, ending}
use Rattle.text.proofs.ending.Goals as goal

some_left : (left : ℕ) → (left ≡ 0 → ⊥) → space ≡ ending left
unfolding ending
some_left zero h = absurd (h refl)
some_left (suc left) h = refl

pub returns-then-left-eq0 : goal.returns-then-left-eq0
unfolding ending
returns-then-left-eq0 c = rw c.if-left-eq0.true

pub returns-else-left-eq0 : goal.returns-else-left-eq0
returns-else-left-eq0 c = some_left _ c.if-left-eq0.false
