-- Every lawful codebook answers for the demands.
use mathlib.Core.Path.{◌≡◌, refl, sym, ◌∙◌, subst₂}
use mathlib.Core.List.{List, map-id}
use Prim.Native.Nat.{ℕ}
use native.Mathlib.Omega.{arith}
use Rattle.ground.proofs.First.{first_of, none_zero}
use Rattle.ground.proofs.Lists.{all_same, among_at}
use Rattle.turn.specs.Exact.{Orthogonal}
use Rattle.turn.proofs.Cancel.{cancels_orthogonal}
use Rattle.weight.proofs.Rules.{power_lowest, power_highest}
use Rattle.plan.specs.Plan.{beams_across, layer_at}
use Rattle.plan.specs.Masks.{bit, three_bits}
use Rattle.plan.specs.Answer.{Codebook, refusal}
use Rattle.plan.specs.Lawful.{Lawful}
use Rattle.plan.specs.Demands.{Demands}
use Rattle.plan.proofs.Answers.{number_given, one_answer, as_refused, as_accepted}
use Rattle.plan.proofs.FedMatrix as plans
use Rattle.plan.proofs.Calls as calls
use Rattle.plan.proofs.Zeros.{as_base}

pub demanded : {R : Type 0} (b : Codebook R) {InRange : R → Type 0} (order : List ℕ) → b.order ≡ order → Lawful b InRange
    → (r : R) (mask : List ℕ) (ranks : ℕ) (offsets : List ℕ) → Demands b InRange order r mask ranks offsets
unfolding refusal three_bits
demanded b order same lawful r mask ranks offsets = record {
  every_input_answered = λ room answer lent. record { record_is = refl; buffer_is = refl };
  answered_once = λ room. one_answer;
  refusals_in_order = same;
  first_fault_given = λ room call h.
      let e = number_given refl call in
      rw (← same, e) (first_of _ b.order (λ z. h (e ∙ z)));
  refused_as_lent = λ room call. as_refused refl call;
  accepted_in_range = λ room call. calls.in_range b lawful r mask ranks offsets room call;
  offsets_in_range = λ room call. calls.fed_so b lawful r mask ranks offsets room call;
  accepted_as_matrix = λ call e.
      let long = calls.entries b lawful r mask ranks offsets _ call e in
      let p = as_accepted refl call e _ long in
      (p.0, long, p.1);
  doubled_plus_offset = λ call. calls.left_entry b lawful r mask ranks offsets call;
  zeros_as_base = λ call. as_base b lawful r mask ranks offsets call;
  accepted_exactly = λ room call.
      rw (← same)
      (calls.none_of b lawful r mask ranks offsets room call, λ n. number_given refl call ∙ none_zero _ b.order n);
  bits_read_are_one = λ room call e.
      all_same (bit mask) 1 (b.bits_read r) 0
      (λ i h. calls.read_one b lawful r mask ranks offsets room call e _ (rw map-id at (among_at (λ k. k) (b.bits_read r) 0 i h)));
  named_not_barred = λ room call e.
      let range = calls.in_range b lawful r mask ranks offsets room call e in (
        calls.named_beams b lawful r mask ranks offsets room call e,
        λ h.
            calls.named_bits b lawful r mask ranks offsets room call e
            (λ j k. calls.read_one b lawful r mask ranks offsets room call e _ (lawful.beams_read_lem r range h j k)),
      );
  named_reduced = λ room call e j k.
      let s = calls.sound b lawful r mask ranks offsets room call e in
      rw (calls.named_beam b lawful r mask ranks offsets room call e j k) (s.reduced_l j k, s.reduced_m j k);
  neighbours_not_barred = λ room call e h j k.
      let range = calls.in_range b lawful r mask ranks offsets room call e in
      let x = layer_at (b.plan r) j in
      let bits = three_bits (beams_across (b.plan r)) (b.width r) x.l x.m in
      rw (calls.named_beam b lawful r mask ranks offsets room call e j k)
      (all_same (bit mask) 1 bits 0
      (λ i few.
      calls.read_one b lawful r mask ranks offsets room call e _
      (lawful.neighbours_read r range h j k _ (rw map-id at (among_at (λ k. k) bits 0 i few)))));
  accepted_as_weights = λ call e.
      let long = calls.length_weights b lawful r mask ranks offsets call e in
      let p = as_accepted refl call e _ long in
      (p.0, long, p.1);
  weights_of_phases = λ call. calls.left_weight b lawful r mask ranks offsets call;
  layers_orthogonal = λ room call e. plans.layers_orthogonal offsets (b.plan r) (calls.sound b lawful r mask ranks offsets room call e);
  buffer_orthogonal = λ call e j k h i ne.
      let column = calls.left_layer b lawful r mask ranks offsets call e in
      subst₂ Orthogonal (sym (column j h)) (sym (column k i))
      (cancels_orthogonal _ _ (plans.fed_cancels offsets (b.plan r) (calls.sound b lawful r mask ranks offsets _ call e) j k h i ne));
  cross_sums_small = λ call e j k h i ne.
      let column = calls.left_layer_weights b lawful r mask ranks offsets call e in
      rw (column j h, column k i)
      (plans.cross_small offsets (b.plan r) (calls.sound b lawful r mask ranks offsets _ call e) j k h i ne);
  powers_near = λ call e i h.
      let p = calls.powers b lawful r mask ranks offsets call e i h in
      record { low = omega arith; high = omega arith };
  powers_within = λ call. calls.powers b lawful r mask ranks offsets call;
  port_power_lem = λ call. calls.port_power_lem b lawful r mask ranks offsets call;
  ports_differ = λ call e q q' h h'.
      let p = calls.port_power_lem b lawful r mask ranks offsets call e in
      omega (arith, (p q h).high, (p q' h').low);
  power_limits_occur = (power_lowest, power_highest);
  room_for_weights = λ lent n. (λ h. omega arith, λ h. omega arith);
}
