-- Four frauds, each against what is demanded of an accepted report, on worked reports: refuse everything, a fixed matrix,
-- the buffer as lent, layer 1 alone.
use mathlib.Core.Path.{◌≡◌, refl, ap}
use mathlib.Core.Logic.{◌≢◌}
use mathlib.Core.List.{List, [], ◌∷◌, ◌++◌}
use Prim.Native.Nat.{ℕ, ◌*◌}
use native.Mathlib.Omega.{arith}
use lib.ListN.{length, drop, get_or}
use Rattle.ground.specs.First.{numbered}
use Rattle.ground.proofs.First.{first_none}
use Rattle.report.specs.declared.Report.{Report}
use Rattle.report.specs.Listed.{asks}
use Rattle.plan.specs.declared.Record.{Record}
use Rattle.plan.specs.Offsets.{fed_matrix}
use Rattle.plan.specs.Answer.{asked, test, refusal, PhasesLeft}
use Rattle.single.specs.Plan.{plan}
use Rattle.single.specs.Single.{single}
use Rattle.plan.proofs.Worked.{ones, fresh}
use Rattle.precoder.proofs.Worked.{defined}
use Rattle.precoder.proofs.Demands.{single_demanded}

-- worked report 1, of one layer; the same with i11 = 0; and one of two layers
abbrev one : Report
one = asks 2 1 1 1 1 0 0 1

abbrev other : Report
other = asks 2 1 1 1 0 0 0 1

abbrev two : Report
two = asks 2 1 1 2 7 0 1 0

-- offsets of 0 for its four ports
abbrev zeros : List ℕ
zeros = 0 ∷ 0 ∷ 0 ∷ 0 ∷ []

-- a call with masks of ones and such offsets, on a buffer of so many entries
abbrev Call : Report → ℕ → Record → List ℕ → Type 0
Call r room = PhasesLeft single r (ones 1) 255 zeros (fresh room)

-- what is computed of each: no test refuses it, and its precoder
record WorkedOut (r : Report) (room : ℕ) (phases : List ℕ) : Type 0 where
  passes : refusal single (asked r (ones 1) 255 zeros (length (fresh room))) ≡ 0
  written : fed_matrix zeros (plan r) ≡ phases

one_known : WorkedOut one 4 (0 ∷ 48 ∷ 96 ∷ 144 ∷ [])
unfolding defined
one_known = record { passes = refl; written = refl }

other_known : WorkedOut other 4 (0 ∷ 0 ∷ 96 ∷ 96 ∷ [])
unfolding defined
other_known = record { passes = refl; written = refl }

two_known : WorkedOut two 8 (0 ∷ 336 ∷ 0 ∷ 336 ∷ 0 ∷ 144 ∷ 192 ∷ 336 ∷ [])
unfolding defined
two_known = record { passes = refl; written = refl }

-- a call with such a report is accepted, and its matrix is written
module _ {r : Report} {room : ℕ} {phases : List ℕ} (known : WorkedOut r room phases)
    {given : Record} {left : List ℕ} (call : Call r room given left) where
  accepted : given.refusal ≡ 0
  unfolding refusal numbered
  accepted =
      ((single_demanded r (ones 1) 255 zeros).accepted_exactly _ call).1
      (first_none (test single (asked r (ones 1) 255 zeros (length (fresh room)))) _ tt known.passes)

  holds : left ≡ phases ++ drop ((plan r).v * (plan r).ports) (fresh room)
  holds = rw known.written at ((single_demanded r (ones 1) 255 zeros).accepted_as_matrix call accepted).0

-- ---- the frauds

abbrev entry : ℕ → List ℕ → ℕ
entry i xs = get_or xs i 0

-- what refuses everything refuses report 1, which no test refuses
pub refuses_everything : {given : Record} {left : List ℕ} → Call one 4 given left → given.refusal ≢ 0 → ⊥
refuses_everything call h = h (accepted one_known call)

-- what leaves one and the same matrix leaves it for two reports whose second entries differ
pub fixes_the_matrix : {given given' : Record} {left : List ℕ} → Call one 4 given left → Call other 4 given' left → ⊥
fixes_the_matrix {left = left} call call' =
    let e : entry 1 left ≡ 48 = ap (entry 1) (holds one_known call) in
    let f : entry 1 left ≡ 0 = ap (entry 1) (holds other_known call') in
    omega arith

-- what leaves the buffer as lent leaves what is no phase in its first place
pub leaves_as_lent : {given : Record} → Call one 4 given (fresh 4) → ⊥
leaves_as_lent call = let e : entry 0 (fresh 4) ≡ 0 = ap (entry 0) (holds one_known call) in omega arith

-- what writes layer 1 alone leaves what is no phase in the fifth place of a report of two layers and four ports
pub writes_layer_one : {given : Record} → Call two 8 given (0 ∷ 336 ∷ 0 ∷ 336 ∷ fresh 4) → ⊥
writes_layer_one call = let e : entry 0 (fresh 4) ≡ 0 = ap (entry 4) (holds two_known call) in omega arith
