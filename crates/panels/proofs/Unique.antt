-- The public function has one outcome on every input.
use mathlib.Core.Path.{sym, ◌∙◌}
use Rattle.ground.specs.Unique.{Unique}
use Rattle.panels.proofs.judge.Reads as judge

pub judge_unique : Unique judge.Learnt
judge_unique k a r r' e e' p q = p ∙ sym q
