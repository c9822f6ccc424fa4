-- The public function has one outcome on every input, the record and every number of the buffer, whatever report it is given
-- and whatever numbers are lent.
use mathlib.Core.Path.{◌≡◌}
use mathlib.Core.List.{List}
use Prim.Native.Nat.{ℕ}
use lib.IntN.{ℤ}
use denote.RattleType.{RattleType}
use Rattle.ground.specs.Unique.{UniqueLeft}
use Rattle.plan.specs.declared.Record.{Record}
use Rattle.plan.specs.Answer.{Codebook, PhasesLeft, WeightsLeft}
use Rattle.plan.proofs.Answers.{one_answer}
use Rattle.precoder.proofs.entries.Reads as entries

pub entries_unique : (R : RattleType) (E : RattleType) (laws_r : _) (laws_e : _) (copies : _) (report : _) (row_r : _)
    (entry : _) (row_e : _) (clones : _) (row_c : _)
    → UniqueLeft (entries.Learnt R E laws_r laws_e copies report row_r entry row_e clones row_c) (λ k e. e.1.1.0.now)
entries_unique R E laws_r laws_e copies report row_r entry row_e clones row_c k a r r' e e' = one_answer

-- and so have calls for phases and for weights, of any codebook
module _ {R : Type 0} (b : Codebook R) (r : R) (mask : List ℕ) (ranks : ℕ) (offsets : List ℕ) {given given' : Record} where
  pub phases_unique : {lent left left' : List ℕ} → PhasesLeft b r mask ranks offsets lent given left
      → PhasesLeft b r mask ranks offsets lent given' left' → (given ≡ given') × (left ≡ left')
  phases_unique = one_answer

  pub weights_unique : {lent left left' : List ℤ} → WeightsLeft b r mask ranks offsets lent given left
      → WeightsLeft b r mask ranks offsets lent given' left' → (given ≡ given') × (left ≡ left')
  weights_unique = one_answer
