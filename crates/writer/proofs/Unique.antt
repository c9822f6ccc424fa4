-- The public function has one outcome on every input.
use mathlib.Core.Path.{sym, ◌∙◌}
use Rattle.ground.specs.Unique.{UniqueLeft}
use Rattle.writer.proofs.matrix.Reads as matrix

pub matrix_unique : UniqueLeft matrix.Learnt (λ k e. e.1.1.0.now)
matrix_unique k a r r' e e' p q = (p.many ∙ sym q.many, p.stands ∙ sym q.stands)
