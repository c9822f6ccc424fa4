-- What a codebook is, how its reports are refused, and what a call answers: the record, and what the lent buffer then holds.
use Rattle.std.specs.Prelude.{◌≡◌, Bool, not, ◌||◌, List, ◌++◌, map, ℕ, zero, suc, ◌*◌, ◌/◌, eqb, ltb, ℤ, Result, length, drop, replicate}
use Rattle.ground.specs.Cases.{◌⇒◌∣◌}
use Rattle.ground.specs.First.{first, part}
use Rattle.refusal.specs.declared.Refusal.{Refusal}
use Rattle.refusal.specs.Outcome.{given}
use Rattle.turn.specs.declared.Beam.{Beam}
use Rattle.weight.specs.Table.{weight, numbers}
use Rattle.offsets.specs.Offsets.{unfit}
use Rattle.plan.specs.declared.Record.{Record}
use Rattle.plan.specs.declared.Drawing.{Drawing}
use Rattle.plan.specs.declared.Accepted.{Accepted}
use Rattle.plan.specs.Plan.{Plan, no_beam, named}
use Rattle.plan.specs.Offsets.{fed_matrix}
use Rattle.plan.specs.Masks.{barred, rank_barred}

-- what is asked: a report, the masks, the offsets of the ports, and for how many entries the lent buffer has room
pub record Request (R : Type 0) : Type 0 where
  pub report : R
  pub mask : List ℕ
  pub ranks : ℕ
  pub offsets : List ℕ
  pub room : ℕ

abbrev pub asked : {R : Type 0} → R → List ℕ → ℕ → List ℕ → ℕ → Request R
asked r mask ranks offsets room = record { report = r; mask = mask; ranks = ranks; offsets = offsets; room = room }

-- A codebook over reports R: the tests that need the report alone, by number; the order in which all are tried; the bytes of
-- the beam mask, the bits of it that a report reads, whether these are bits of beams and then how many there are for each
-- l; whether the beams have half their length; and the plan of a report.
pub record Codebook (R : Type 0) : Type 0 where
  pub rule : R → ℕ → Bool
  pub order : List ℕ
  pub mask_bytes : R → ℕ
  pub bits_read : R → List ℕ
  pub beamed : R → Bool
  pub width : R → ℕ
  pub is_half : R → Bool
  pub plan : R → Plan

-- the numbers whose tests every codebook shares; the others are its own
abbrev pub shared : ℕ → Bool
shared k = eqb k 3 || eqb k 5 || eqb k 10 || eqb k 13 || eqb k 11

abbrev pub own : ℕ → Bool
own k = not (shared k)

-- the refused record: the number, zeros, and no beam
abbrev pub refused : ℕ → Record
refused k = record { refusal = k; ports = 0; layers = 0; scale = 0; beams = replicate 8 no_beam }

-- the accepted record of a plan: P, v, the scale v·P, and the beams of the layers
abbrev pub planned : Plan → Record
planned p = record { refusal = 0; ports = p.ports; layers = p.v; scale = p.v * p.ports; beams = named p }

-- by the number of the refusal: the accepted record, or the refused one
abbrev pub record_of : Record → ℕ → Record
record_of accepted zero = accepted
record_of accepted (suc k) = refused (suc k)

-- the buffer, by the number of the refusal: the answer and then what was lent, and otherwise all of it as lent
abbrev pub buffer_of : {A : Type 0} → ℕ → List A → List A → List A
buffer_of zero answer lent = answer ++ drop (length answer) lent
buffer_of (suc k) answer lent = lent

-- a call that is refused by a number, or accepted where that is 0: the record that is given, and what is left in the buffer
pub record Answers {A : Type 0} (number : ℕ) (accepted : Record) (answer lent : List A) (given : Record) (left : List A)
    : Type 0 where
  pub record_is : given ≡ record_of accepted number
  pub buffer_is : left ≡ buffer_of number answer lent

module _ {R : Type 0} (b : Codebook R) where
  -- the tests that do not need the beams: 3 the bytes of the mask, 5 the rank mask, and the codebook's own
  unfoldable pub early : R → ℕ → ℕ → ℕ → Bool
  early r bytes ranks k =
      eqb k 3 ⇒ not (eqb bytes (b.mask_bytes r))
      ∣ eqb k 5 ⇒ rank_barred ranks (b.plan r).v
      ∣ b.rule r k

  -- the test of each number: 10 a barred beam, 13 the offsets, 11 the room
  unfoldable pub test : Request R → ℕ → Bool
  test q k =
      eqb k 10 ⇒ barred q.mask (b.bits_read q.report)
      ∣ eqb k 13 ⇒ unfit (b.plan q.report).ports q.offsets
      ∣ eqb k 11 ⇒ ltb q.room ((b.plan q.report).v * (b.plan q.report).ports)
      ∣ early q.report (length q.mask) q.ranks k

  -- the refusal: the first in the order that applies
  unfoldable pub refusal : Request R → ℕ
  refusal q = first (test q) b.order

  -- the refusal before there were offsets: that of the order without 13
  unfoldable pub base_refusal : Request R → ℕ
  base_refusal q = first (test q) (part (λ k. not (eqb k 13)) b.order)

  -- a call with room for so many entries, by the answer that the buffer is to hold
  abbrev pub Called : {A : Type 0} → R → List ℕ → ℕ → List ℕ → ℕ → List A → List A → Record → List A → Type 0
  Called r mask ranks offsets room answer lent given left =
      Answers (refusal (asked r mask ranks offsets room)) (planned (b.plan r)) answer lent given left

  -- a call of `phases`: an entry is a number of parts of a turn
  abbrev pub PhasesLeft : R → List ℕ → ℕ → List ℕ → List ℕ → Record → List ℕ → Type 0
  PhasesLeft r mask ranks offsets lent given left =
      Called r mask ranks offsets (length lent) (fed_matrix offsets (b.plan r)) lent given left

  -- the weights of a report's precoder with offsets, as they are stored
  unfoldable pub weights_of : List ℕ → R → List ℤ
  weights_of offsets r = numbers (map weight (fed_matrix offsets (b.plan r)))

  -- a call of `weights`: an entry is two numbers, so that 11 is given where there are fewer than 2·v·P
  abbrev pub WeightsLeft : R → List ℕ → ℕ → List ℕ → List ℤ → Record → List ℤ → Type 0
  WeightsLeft r mask ranks offsets lent given left =
      Called r mask ranks offsets (length lent / 2) (weights_of offsets r) lent given left

-- a report that is accepted, with P, v, the scale, the beams of its layers, and what is to be written
abbrev pub accepted_as : ℕ → ℕ → ℕ → List Beam → Drawing → Accepted
accepted_as p v scale beams s =
    record { given = record { refusal = 0; ports = p; layers = v; scale = scale; beams = beams }; drawing = s }

-- what a judge gives, by the number of the refusal: the accepted record with what is to be written, or the refusal
abbrev pub judged_by : Record → Drawing → ℕ → Result Accepted Refusal
judged_by accepted s k = given (record { given = accepted; drawing = s }) k
