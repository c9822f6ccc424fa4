-- Past eight bits a byte has zeros.
use Rattle.std.proofs.Common.{◌≡◌, ℕ, ◌/◌, ◌^◌, ◌<◌, ◌≤◌, arith}
use Rattle.std.proofs.lemmas.Grind.{common_steps}
use Rattle.std.proofs.Math.Nat.{div-eq_of_lt}
use Rattle.std.proofs.Math.Pow.{pow_mono}
use Rattle.plan.specs.Masks.{rank_barred}
use Rattle.masks.proofs.rank_barred.Goals as goal

past_byte : (byte k : ℕ) → byte < 256 → 8 ≤ k → byte / 2 ^ k ≡ 0
past_byte byte k h far =
    let all : 2 ^ 8 ≤ 2 ^ k = pow_mono far in
    div-eq_of_lt (omega arith)

pub returns : goal.returns
unfolding rank_barred
returns c = grind (arith, common_steps, past_byte)
