-- Each public function of the crate has one outcome on every input: any two that its contract admits are equal.
use mathlib.Core.Path.{◌≡◌, sym, ◌∙◌}
use Prim.Native.Nat.{ℕ}
use Rattle.ground.specs.Unique.{Unique}
use Rattle.turn.specs.declared.Phase.{Phase}
use Rattle.turn.proofs.PhaseFromU32.from.Reads as from
use Rattle.turn.proofs.PhaseAdd.add.Reads as add
use Rattle.turn.proofs.Phase.quarters.Reads as quarters
use Rattle.turn.proofs.Phase.eighths.Reads as eighths

one_phase : {p q : Phase} {n : ℕ} → p.parts ≡ n → q.parts ≡ n → p ≡ q
one_phase e e' = λ i. record { parts = (e ∙ sym e') i }

pub from_unique : Unique from.Learnt
from_unique k a r r' e e' = one_phase

pub add_unique : Unique add.Learnt
add_unique k a r r' e e' = one_phase

pub quarters_unique : Unique quarters.Learnt
quarters_unique k a r r' e e' = one_phase

pub eighths_unique : Unique eighths.Learnt
eighths_unique k a r r' e e' = one_phase
