-- The single-panel codebook is lawful.
use mathlib.Core.Path.{◌≡◌, subst}
use mathlib.Core.Logic.{inl, inr}
use mathlib.Core.Bool.{true, false, not}
use mathlib.Core.List.{List, [], ◌∷◌, map}
use Prim.Native.Nat.{ℕ, suc, ◌+◌, ◌*◌, ◌<◌}
use native.Mathlib.Omega.{arith}
use lib.Arith.{digits_lt}
use lib.Dec.{T, eqb, eqb→eq, lit<}
use lib.ListN.{get_or}
use borrow.Author.Tests.{eqb-true, eqb-false, not-true}
use Rattle.ground.specs.Lists.{among}
use Rattle.ground.specs.First.{numbered, part}
use Rattle.ground.proofs.Booleans.{either, cond_both}
use Rattle.ground.proofs.Tests.{or_cases}
use Rattle.ground.proofs.Lists.{among_at}
use Rattle.turn.specs.declared.Beam.{Beam}
use Rattle.settings.specs.Settings.{two_ports, across, down, mask_bytes}
use Rattle.settings.specs.Ranges.{beam}
use Rattle.settings.proofs.Known.{mask_bits}
use Rattle.report.specs.declared.Report.{Report}
use Rattle.report.specs.Rules.{InRange}
use Rattle.report.specs.Beams.{is_half, beams}
use Rattle.report.proofs.InRange.{in_range, in_range_none, two_ports_i2}
use Rattle.report.proofs.Moves.{length_beams}
use Rattle.report.proofs.Reached.{Reached}
use Rattle.plan.specs.Plan.{beams_across, layer_at}
use Rattle.plan.specs.Masks.{three_bits}
use Rattle.plan.specs.Lawful.{Lawful}
use Rattle.single.specs.Plan.{plan}
use Rattle.single.specs.Masks.{beam_bit, two_port_bit, neighbours, beams_read, bits_read}
use Rattle.single.specs.Single.{single}
use Rattle.single.proofs.Layers.{place_at, layer_is, place_within}
use Rattle.single.proofs.Neighbours.{whole_bits, half_beam, half_bits, half_three, read_within}
use Rattle.single.proofs.Sound.{same_beams, plan_sound}

-- ---- the bits that a report reads

-- above two ports they are those of beams within the setting
beam_bits_within : (n1 n2 : ℕ) (xs : List Beam) → ((i : ℕ) → Reached n1 n2 (get_or xs i (beam 0 0)))
    → (k : ℕ) → T (among k (map (beam_bit n2) xs)) → k < across n1 * down n2
unfolding among
beam_bits_within n1 n2 [] within k t = absurd t
beam_bits_within n1 n2 (x ∷ xs) within k t = elim (or_cases (eqb k (beam_bit n2 x)) (among k (map (beam_bit n2) xs)) t) [
  | inl q ↦ omega (arith, eqb→eq k (beam_bit n2 x) q, digits_lt (within 0).l (within 0).m)
  | inr q ↦ beam_bits_within n1 n2 xs (λ i. within (suc i)) k q
]

module _ (r : Report) (h : InRange r) where
  -- all lie in the mask
  within : (k : ℕ) → T (among k (bits_read r)) → k < 8 * mask_bytes r.n1 r.n2
  unfolding bits_read among mask_bytes two_port_bit
  within k t =
      either (two_ports r.n1)
      (λ e.
      let few = two_ports_i2 r h (eqb-true r.n1 1 e) in
      let bit : two_port_bit r < 8 = cond_both (λ k. k < 8) (eqb r.v 1) (omega arith) (omega arith) in
      elim (or_cases (eqb k (two_port_bit r)) false (rw e at t)) [
        | inl q ↦ rw e (omega (arith, eqb→eq k (two_port_bit r) q, bit))
        | inr q ↦ absurd q
      ])
      (λ e.
      rw (mask_bits r.n1 r.n2 h.setting (eqb-false r.n1 1 e))
      (beam_bits_within r.n1 r.n2 (beams_read r) (read_within r h) k (rw e at t)))

  -- and above two ports the bit of each layer's beam is among them
  beams_read_lem : not (two_ports r.n1) ≡ true → (j : ℕ) → j < r.v
      → let x = layer_at (plan r) j in T (among (down r.n2 * x.l + x.m) (bits_read r))
  beams_read_lem above j k =
      rw (layer_is r h j k)
      (either (is_half r)
      (λ e.
      rw (half_bits r h e, e, half_beam r h e)
      (unfold neighbours in among_at (beam_bit r.n2) (neighbours r.n1 r.i11 r.i12) (beam 0 0) 1 (lit< tt)))
      (λ e.
      rw (whole_bits r (not-true (two_ports r.n1) above) e)
      (among_at (beam_bit r.n2) (beams r) (beam 0 0) (place_at r j) (rw length_beams (place_within r h j k)))))

  -- and those of its neighbours, where it has half its length
  neighbours_read : is_half r ≡ true → (j : ℕ) → j < r.v
      → let x = layer_at (plan r) j in
      (k : ℕ) → T (among k (three_bits (beams_across (plan r)) (down r.n2) x.l x.m)) → T (among k (bits_read r))
  neighbours_read e j hj k t =
      subst (λ (ks : List ℕ). T (among k ks)) (half_three r h e)
      (rw (layer_is r h j hj, same_beams r h, e, half_beam r h e) at t)

pub single_lawful : Lawful single InRange
unfolding among numbered part
single_lawful = record {
  order_numbered = tt;
  last_three = (tt, tt, tt);
  in_range = λ r. (in_range r, in_range_none r);
  sound = plan_sound;
  within = within;
  beams_read_lem = beams_read_lem;
  neighbours_read = neighbours_read;
}
