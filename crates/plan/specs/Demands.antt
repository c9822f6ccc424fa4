-- What the library answers for, of any codebook: the three demands, and how unequal the power of the ports can become.
--
-- A call of `phases` or `weights` is given a report r, a beam mask, a rank mask, offsets of the ports and a lent buffer; it
-- gives a record and leaves the buffer. `PhasesLeft` and `WeightsLeft` say what, on every input: they are the contracts that the code is proved to
-- meet. Each is a case of `Called`, by the room that the buffer has, in entries, and by the answer that it is to hold.
-- Every codebook that is lawful answers for all of this (proofs/Demands.antt), and each is shown to be lawful.
use Rattle.std.specs.Prelude.{◌≡◌, ◌≢◌, ◌↔◌, true, List, [], ◌∷◌, ◌++◌, map, ℕ, ◌+◌, ◌-◌, ◌*◌, ◌/◌, ◌<◌, ◌≤◌, ℤ, nat_abs, length, take, drop, get_or, replicate}
use Rattle.ground.specs.Lists.{All}
use Rattle.ground.specs.First.{None, FirstOf}
use Rattle.turn.specs.Phase.{turn, phase}
use Rattle.turn.specs.Exact.{Orthogonal}
use Rattle.weight.specs.Table.{no_weight, weight, pairs}
use Rattle.weight.specs.Products.{re, im, power, Within, cross, port_power}
use Rattle.plan.specs.declared.Record.{Record}
use Rattle.plan.specs.Plan.{beams_across, beams_down, pair_of, no_beam, layer_in}
use Rattle.plan.specs.Offsets.{fed_matrix}
use Rattle.plan.specs.Base.{doubled, base_matrix}
use Rattle.plan.specs.Masks.{bit, three_bits}
use Rattle.plan.specs.Answer.{asked, Codebook, refused, planned, record_of, buffer_of, Answers, test, refusal}
use Rattle.plan.specs.Answer.{base_refusal, Called, PhasesLeft, weights_of, WeightsLeft}

module _ {R : Type 0} (b : Codebook R) (InRange : R → Type 0) (order : List ℕ) (r : R) (mask : List ℕ) (ranks : ℕ)
    (offsets : List ℕ) where
  -- P, v, the precoder of the report with the offsets of its ports, and 01's
  abbrev pub P : ℕ
  P = (b.plan r).ports

  abbrev pub v : ℕ
  v = (b.plan r).v

  abbrev pub W : List ℕ
  W = fed_matrix offsets (b.plan r)

  abbrev pub base : List ℕ
  base = base_matrix (b.plan r)

  pub record Demands : Type 1 where
    -- 1a. Every input has an answer, whatever the report, the masks and the buffer.
    pub every_input_answered : {A : Type 0} (room : ℕ) (answer lent : List A)
        → let number = refusal b (asked r mask ranks offsets room) in
        Called b r mask ranks offsets room answer lent (record_of (planned (b.plan r)) number) (buffer_of number answer lent)
    -- 1a. It has only one: two outcomes have the same record and the same buffer.
    pub answered_once : {A : Type 0} (room : ℕ) {answer lent left left' : List A} {given given' : Record}
        → Called b r mask ranks offsets room answer lent given left → Called b r mask ranks offsets room answer lent given' left'
        → (given ≡ given') × (left ≡ left')
    -- 1b. The refusals are tested in this order.
    pub refusals_in_order : b.order ≡ order
    -- 1b. The number given is that of the first fault in the order: its test holds, and none before it does.
    pub first_fault_given : {A : Type 0} (room : ℕ) {answer lent left : List A} {given : Record}
        → Called b r mask ranks offsets room answer lent given left → given.refusal ≢ 0
        → FirstOf (test b (asked r mask ranks offsets room)) order given.refusal
    -- 1c. A refusal leaves every entry of the buffer as lent, and gives zeros beside its number, and no beam but (0,0).
    pub refused_as_lent : {A : Type 0} (room : ℕ) {answer lent left : List A} {given : Record}
        → Called b r mask ranks offsets room answer lent given left → given.refusal ≢ 0
        → (left ≡ lent) × (given ≡ refused given.refusal)
    -- 1d. The numbers of an accepted report are all in range as they were reported: nothing is pulled into range.
    pub accepted_in_range : {A : Type 0} (room : ℕ) {answer lent left : List A} {given : Record}
        → Called b r mask ranks offsets room answer lent given left → given.refusal ≡ 0 → InRange r
    -- 1d. And so are the offsets: one for each port, and each below a turn.
    pub offsets_in_range : {A : Type 0} (room : ℕ) {answer lent left : List A} {given : Record}
        → Called b r mask ranks offsets room answer lent given left → given.refusal ≡ 0
        → (length offsets ≡ P) × All (λ o. o < turn) offsets
    -- 2a. An accepted report leaves its precoder, v·P phases, and after it what was lent. Its record holds 0, P, v and v·P,
    -- and the beams of its layers.
    pub accepted_as_matrix : {lent left : List ℕ} {given : Record} → PhasesLeft b r mask ranks offsets lent given left
        → given.refusal ≡ 0
        → (left ≡ W ++ drop (v * P) lent) × (length W ≡ v * P) × (given ≡ planned (b.plan r))
    -- 2a. The entry of port q in layer j is 01's phase, doubled, plus the offset of port q, modulo a turn.
    pub doubled_plus_offset : {lent left : List ℕ} {given : Record} → PhasesLeft b r mask ranks offsets lent given left
        → given.refusal ≡ 0 → (j q : ℕ) → j < v → q < P
        → get_or left (j * P + q) 0 ≡ phase (2 * get_or base (j * P + q) 0 + get_or offsets q 0)
    -- 2a. Where all offsets are 0 the answer is 01's: its refusal and its record, and its phases doubled.
    pub zeros_as_base : {lent left : List ℕ} {given : Record} → PhasesLeft b r mask ranks offsets lent given left
        → offsets ≡ replicate P 0
        → Answers (base_refusal b (asked r mask ranks offsets (length lent))) (planned (b.plan r)) (map doubled base) lent given left
    -- 2b. A report is accepted exactly when no refusal applies: no rule, no mask, no offset, and no lack of room.
    pub accepted_exactly : {A : Type 0} (room : ℕ) {answer lent left : List A} {given : Record}
        → Called b r mask ranks offsets room answer lent given left
        → given.refusal ≡ 0 ↔ None (test b (asked r mask ranks offsets room)) order
    -- 2c. Every bit of the beam mask that an accepted report reads is one.
    pub bits_read_are_one : {A : Type 0} (room : ℕ) {answer lent left : List A} {given : Record}
        → Called b r mask ranks offsets room answer lent given left → given.refusal ≡ 0
        → map (bit mask) (b.bits_read r) ≡ replicate (length (b.bits_read r)) 1
    -- 2c. The record of an accepted report names its beams: that of each layer in turn, and (0,0) in what is left of eight
    -- places. Where the mask has a bit for each beam, that of each beam named for a layer is one.
    pub named_not_barred : {A : Type 0} (room : ℕ) {answer lent left : List A} {given : Record}
        → Called b r mask ranks offsets room answer lent given left → given.refusal ≡ 0
        → (given.beams ≡ map pair_of (b.plan r).layers ++ replicate (8 - v) no_beam)
        × (b.beamed r ≡ true → map (λ x. bit mask (b.width r * x.l + x.m)) (take v given.beams) ≡ replicate v 1)
    -- 2c. The beams that are named are reduced: l is below N1·O1, and m below N2·O2.
    pub named_reduced : {A : Type 0} (room : ℕ) {answer lent left : List A} {given : Record}
        → Called b r mask ranks offsets room answer lent given left → given.refusal ≡ 0 → (j : ℕ) → j < v
        → let x = get_or given.beams j no_beam in (x.l < beams_across (b.plan r)) × (x.m < beams_down (b.plan r))
    -- 2c. Where beams have half their length, three bits are one for each layer: those of the beam (l,m) that is named for
    -- it and of its neighbours (l - 1, m) and (l + 1, m), the first numbers modulo N1·O1. (The half-length beam of
    -- (i11, i12) has l = 2·i11 and m = i12.)
    pub neighbours_not_barred : {A : Type 0} (room : ℕ) {answer lent left : List A} {given : Record}
        → Called b r mask ranks offsets room answer lent given left → given.refusal ≡ 0 → b.is_half r ≡ true
        → (j : ℕ) → j < v → let x = get_or given.beams j no_beam in
        map (bit mask) (three_bits (beams_across (b.plan r)) (b.width r) x.l x.m) ≡ 1 ∷ 1 ∷ 1 ∷ []
    -- 2d. An accepted report leaves its weights, 2·v·P numbers, and after them what was lent.
    pub accepted_as_weights : {lent left : List ℤ} {given : Record} → WeightsLeft b r mask ranks offsets lent given left
        → given.refusal ≡ 0
        → (left ≡ weights_of b offsets r ++ drop (2 * (v * P)) lent) × (length (weights_of b offsets r) ≡ 2 * (v * P))
        × (given ≡ planned (b.plan r))
    -- 2d. Weight i in the buffer is the table's pair at phase i of the precoder, x and then y.
    pub weights_of_phases : {lent left : List ℤ} {given : Record} → WeightsLeft b r mask ranks offsets lent given left
        → given.refusal ≡ 0 → (i : ℕ) → i < v * P → get_or (pairs left) i no_weight ≡ weight (get_or W i 0)
    -- 3a. Any two different layers of an accepted report's precoder are exactly orthogonal, by the rule of counts, whatever
    -- the offsets.
    pub layers_orthogonal : {A : Type 0} (room : ℕ) {answer lent left : List A} {given : Record}
        → Called b r mask ranks offsets room answer lent given left → given.refusal ≡ 0
        → (j k : ℕ) → j < v → k < v → j ≢ k → Orthogonal (layer_in P j W) (layer_in P k W)
    -- 3a. And so are any two different layers that stand in the buffer of `phases`.
    pub buffer_orthogonal : {lent left : List ℕ} {given : Record} → PhasesLeft b r mask ranks offsets lent given left
        → given.refusal ≡ 0
        → (j k : ℕ) → j < v → k < v → j ≢ k → Orthogonal (layer_in P j left) (layer_in P k left)
    -- 3b. Of any two different layers, the real and the imaginary part of the weights' cross-sum are each at most
    -- 32,768·P from zero.
    pub cross_sums_small : {lent left : List ℤ} {given : Record} → WeightsLeft b r mask ranks offsets lent given left
        → given.refusal ≡ 0 → (j k : ℕ) → j < v → k < v → j ≢ k
        → let one = layer_in P j (pairs left) in let other = layer_in P k (pairs left) in
        (nat_abs (cross re one other) ≤ 32768 * P) × (nat_abs (cross im one other) ≤ 32768 * P)
    -- 3c. The power of each weight is at most 32,768 from 268,435,456.
    pub powers_near : {lent left : List ℤ} {given : Record} → WeightsLeft b r mask ranks offsets lent given left
        → given.refusal ≡ 0
        → (i : ℕ) → i < v * P → Within 268435456 32768 32768 (power (get_or (pairs left) i no_weight))
    -- Beyond 3c: it is at most 17,304 below and 15,121 above.
    pub powers_within : {lent left : List ℤ} {given : Record} → WeightsLeft b r mask ranks offsets lent given left
        → given.refusal ≡ 0
        → (i : ℕ) → i < v * P → Within 268435456 17304 15121 (power (get_or (pairs left) i no_weight))
    -- Beyond: the power of a port, summed over its v layers, is within v times these limits of v times 268,435,456.
    pub port_power_lem : {lent left : List ℤ} {given : Record} → WeightsLeft b r mask ranks offsets lent given left
        → given.refusal ≡ 0
        → (q : ℕ) → q < P → Within (v * 268435456) (v * 17304) (v * 15121) (port_power v P q (pairs left))
    -- Beyond: the powers of any two ports differ by at most 32,425 for each layer.
    pub ports_differ : {lent left : List ℤ} {given : Record} → WeightsLeft b r mask ranks offsets lent given left
        → given.refusal ≡ 0 → (q q' : ℕ) → q < P → q' < P
        → port_power v P q (pairs left) ≤ port_power v P q' (pairs left) + v * 32425
    -- Beyond: both limits of a weight's power occur in the table, so that neither is lower.
    pub power_limits_occur : (power (weight 28) + 17304 ≡ 268435456) × (power (weight 18) ≡ 268435456 + 15121)
    -- Beyond: a buffer is too short for n weights, as 11 has it, exactly when it has fewer than 2·n numbers.
    pub room_for_weights : (lent : List ℤ) (n : ℕ) → (length lent / 2 < n) ↔ (length lent < 2 * n)
