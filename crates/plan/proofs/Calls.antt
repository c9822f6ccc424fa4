-- What a call gives and leaves, by its contract, of any lawful codebook: the layers and the weights in the buffer.
use mathlib.Core.Path.{◌≡◌, refl, sym, ap, ◌∙◌}
use mathlib.Core.List.{List, ◌++◌, map}
use Prim.Native.Nat.{ℕ, ◌+◌, ◌-◌, ◌*◌, ◌/◌, ◌%◌, ◌<◌, ◌≤◌}
use native.Mathlib.Omega.{arith}
use lib.Dec.{T}
use lib.IntN.{ℤ}
use lib.Arith.{digits_lt}
use lib.ListN.{length, take, drop, get_or, replicate, length-map, get_or-append, get_or-map}
use lib.Seq.{take_at}
use borrow.Author.Tests.{eqb-false}
use Rattle.std.proofs.lemmas.List.{get_or-map as map_at, drop-map, take-map}
use Rattle.ground.specs.Lists.{among, All}
use Rattle.ground.specs.First.{None}
use Rattle.ground.proofs.Lists.{all_same, places_append}
use Rattle.ground.proofs.First.{some_none}
use Rattle.turn.specs.declared.Beam.{Beam}
use Rattle.turn.specs.Phase.{turn, phase}
use Rattle.weight.specs.declared.Weight.{Weight}
use Rattle.weight.specs.Table.{no_weight, weight, pairs}
use Rattle.weight.specs.Products.{power, Within, full_power, power_below, power_above, port_power}
use Rattle.weight.proofs.Pairs.{length_numbers, pairs_numbers}
use Rattle.weight.proofs.Rules.{power_tight, port_within}
use Rattle.plan.specs.declared.Record.{Record}
use Rattle.plan.specs.Plan.{past, layer_at, pair_of, no_beam, named, layer_in}
use Rattle.plan.specs.Offsets.{fed_column, fed_matrix}
use Rattle.plan.specs.Base.{doubled, base_matrix}
use Rattle.plan.specs.Sound.{Sound}
use Rattle.plan.specs.Masks.{bit_of, bit, is_zero, barred}
use Rattle.plan.specs.Answer.{Codebook, asked, test, refusal, Called, PhasesLeft, weights_of}
use Rattle.plan.specs.Answer.{WeightsLeft}
use Rattle.plan.specs.Lawful.{Lawful}
use Rattle.plan.proofs.Layers.{layer_before}
use Rattle.plan.proofs.Base.{matrix_doubled}
use Rattle.plan.proofs.FedMatrix.{length_fed_matrix, fed_layer, fed_entry}
use Rattle.plan.proofs.Answers.{number_given, as_accepted}
use Rattle.plan.proofs.Passed.{accepted_none, accepted_in_range, accepted_fits, accepted_fed}

module _ {R : Type 0} (b : Codebook R) {InRange : R → Type 0} (lawful : Lawful b InRange)
    (r : R) (mask : List ℕ) (ranks : ℕ) (offsets : List ℕ) where
  abbrev P : ℕ
  P = (b.plan r).ports

  abbrev v : ℕ
  v = (b.plan r).v

  module _ (room : ℕ) {A : Type 0} {answer lent : List A} {given : Record} {left : List A}
      (call : Called b r mask ranks offsets room answer lent given left) (e : given.refusal ≡ 0) where
    zero : refusal b (asked r mask ranks offsets room) ≡ 0
    zero = sym (number_given refl call) ∙ e

    pub none_of : None (test b (asked r mask ranks offsets room)) b.order
    none_of = accepted_none b lawful r mask ranks offsets room zero

    pub in_range : InRange r
    in_range = accepted_in_range b lawful r mask ranks offsets room zero

    pub sound : Sound (b.plan r)
    sound = lawful.sound r in_range

    pub entries : length (fed_matrix offsets (b.plan r)) ≡ v * P
    entries = length_fed_matrix offsets (b.plan r) sound

    pub fits : v * P ≤ room
    fits = accepted_fits b lawful r mask ranks offsets room zero

    pub fed_so : (length offsets ≡ P) × All (λ o. o < turn) offsets
    fed_so = accepted_fed b lawful r mask ranks offsets room zero

    -- every bit that is read is one
    pub read_one : (k : ℕ) → T (among k (b.bits_read r)) → bit mask k ≡ 1
    unfolding test barred is_zero bit
    read_one k t =
        let e = (some_none (is_zero mask) (b.bits_read r) (none_of.at 10 lawful.last_three.0)).at k t in
        let z = eqb-false (bit_of (get_or mask (k / 8) 0) (k % 8)) 0 e in
        omega arith

    -- the beams that are named: those of the layers, one by one
    pub named_beams : given.beams ≡ map pair_of (b.plan r).layers ++ replicate (8 - v) no_beam
    unfolding named
    named_beams =
        let many : length (map pair_of (b.plan r).layers) ≡ v = length-map (b.plan r).layers pair_of ∙ sound.many in
        ap (λ (a : Record). a.beams) (as_accepted refl call e _ refl).1
        ∙ places_append 8 no_beam (map pair_of (b.plan r).layers) (omega (arith, many, sound.eight))
        ∙ ap (λ (n : ℕ). map pair_of (b.plan r).layers ++ replicate (8 - n) no_beam) many

    pub named_beam : (j : ℕ) → j < v → get_or given.beams j no_beam ≡ pair_of (layer_at (b.plan r) j)
    named_beam j h =
        ap (λ (xs : List Beam). get_or xs j no_beam) named_beams
        ∙ get_or-append (map pair_of (b.plan r).layers) _ no_beam j
        (omega (arith, length-map (b.plan r).layers pair_of, sound.many))
        ∙ map_at pair_of (b.plan r).layers j past no_beam (omega (arith, sound.many))

    -- where the bit of each layer's beam is one, so are those of the beams that are named
    pub named_bits : ((j : ℕ) → j < v → let x = layer_at (b.plan r) j in bit mask (b.width r * x.l + x.m) ≡ 1)
        → map (λ x. bit mask (b.width r * x.l + x.m)) (take v given.beams) ≡ replicate v 1
    named_bits ones =
        let own = map pair_of (b.plan r).layers in
        let many : length own ≡ v = length-map (b.plan r).layers pair_of ∙ sound.many in
        let bit_at : Beam → ℕ = λ x. bit mask (b.width r * x.l + x.m) in
        ap (λ (xs : List Beam). map bit_at (take v xs)) named_beams
        ∙ ap (map bit_at) (take_at own (replicate (8 - v) no_beam) v many)
        ∙ all_same bit_at 1 own no_beam
        (λ j h. rw (map_at pair_of (b.plan r).layers j past no_beam (omega (arith, many, sound.many))) (ones j (omega (arith, many))))
        ∙ ap (λ (n : ℕ). replicate n 1) many

  -- ---- an accepted call of `phases`

  module _ {lent : List ℕ} {given : Record} {left : List ℕ}
      (call : PhasesLeft b r mask ranks offsets lent given left) (e : given.refusal ≡ 0) where
    pub left_layer : (j : ℕ) → j < v → layer_in P j left ≡ fed_column offsets (b.plan r) (layer_at (b.plan r) j)
    left_layer j h =
        let long = entries _ call e in
        ap (layer_in P j) (as_accepted refl call e _ long).0
        ∙ layer_before P v j (fed_matrix offsets (b.plan r)) (drop (v * P) lent) h long
        ∙ fed_layer offsets (b.plan r) (sound _ call e) j h

    -- the entry of port q in layer j is 01's, doubled, plus the offset of port q
    pub left_entry : (j q : ℕ) → j < v → q < P
        → get_or left (j * P + q) 0 ≡ phase (2 * get_or (base_matrix (b.plan r)) (j * P + q) 0 + get_or offsets q 0)
    left_entry j q h k =
        let long = entries _ call e in
        let s = sound _ call e in
        let within : j * P + q < v * P = digits_lt h k in
        let base = base_matrix (b.plan r) in
        ap (λ (xs : List ℕ). get_or xs (j * P + q) 0) (as_accepted refl call e _ long).0
        ∙ get_or-append (fed_matrix offsets (b.plan r)) _ 0 (j * P + q) (omega (arith, long))
        ∙ fed_entry offsets (b.plan r) s (fed_so _ call e).0 j q h k
        ∙ ap (λ (xs : List ℕ). phase (get_or xs (j * P + q) 0 + get_or offsets q 0)) (matrix_doubled (b.plan r) s)
        ∙ ap (λ (n : ℕ). phase (n + get_or offsets q 0)) (get_or-map doubled base (j * P + q) 0)

  -- ---- an accepted call of `weights`

  module _ {lent : List ℤ} {given : Record} {left : List ℤ}
      (call : WeightsLeft b r mask ranks offsets lent given left) (e : given.refusal ≡ 0) where
    long_weights : length (map weight (fed_matrix offsets (b.plan r))) ≡ v * P
    long_weights = length-map (fed_matrix offsets (b.plan r)) weight ∙ entries _ call e

    pub length_weights : length (weights_of b offsets r) ≡ 2 * (v * P)
    unfolding weights_of
    length_weights = length_numbers _ ∙ ap (λ (m : ℕ). 2 * m) long_weights

    left_pairs : pairs left ≡ map weight (fed_matrix offsets (b.plan r)) ++ pairs (drop (2 * (v * P)) lent)
    unfolding weights_of
    left_pairs =
        ap pairs (as_accepted refl call e _ length_weights).0
        ∙ pairs_numbers (map weight (fed_matrix offsets (b.plan r))) (drop (2 * (v * P)) lent)

    pub left_layer_weights : (j : ℕ) → j < v
        → layer_in P j (pairs left) ≡ map weight (fed_column offsets (b.plan r) (layer_at (b.plan r) j))
    left_layer_weights j h =
        ap (layer_in P j) left_pairs
        ∙ layer_before P v j (map weight (fed_matrix offsets (b.plan r))) _ h long_weights
        ∙ rw (drop-map, take-map) (ap (map weight) (fed_layer offsets (b.plan r) (sound _ call e) j h))

    pub left_weight : (i : ℕ) → i < v * P → get_or (pairs left) i no_weight ≡ weight (get_or (fed_matrix offsets (b.plan r)) i 0)
    left_weight i h =
        ap (λ (ws : List Weight). get_or ws i no_weight) left_pairs
        ∙ get_or-append (map weight (fed_matrix offsets (b.plan r))) _ no_weight i (omega (arith, long_weights))
        ∙ map_at weight (fed_matrix offsets (b.plan r)) i 0 no_weight (omega (arith, entries _ call e))

    pub powers : (i : ℕ) → i < v * P → Within full_power power_below power_above (power (get_or (pairs left) i no_weight))
    powers i h = rw (left_weight i h) (power_tight (get_or (fed_matrix offsets (b.plan r)) i 0))

    pub port_power_lem : (q : ℕ) → q < P
        → Within (v * full_power) (v * power_below) (v * power_above) (port_power v P q (pairs left))
    port_power_lem q h = port_within full_power power_below power_above v P q (pairs left) h powers
