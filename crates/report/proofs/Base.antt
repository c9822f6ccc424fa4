-- Where B stands, by the four ways in which it is decided: within the beams of its setting, but in mode 2 with N2 = 1.
use mathlib.Core.Path.{◌≡◌, sym, ap₂}
use mathlib.Core.Bool.{Bool, true, false, cond, or-true}
use Prim.Native.Nat.{ℕ, ◌+◌, ◌*◌, ◌/◌, ◌%◌, ◌<◌, ◌≤◌}
use native.Mathlib.Nat.{add-zero, mul-zero, zero-mod, mod-eq_of_lt}
use native.Mathlib.Omega.{arith}
use lib.Dec.{eqb}
use borrow.Author.Tests.{lt-ltb, le-ltb}
use Rattle.turn.specs.declared.Beam.{Beam}
use Rattle.settings.specs.Settings.{across, down}
use Rattle.settings.specs.Ranges.{beam, halves_i11, i11_values, halves_i12, i12_values, i2_values}
use Rattle.settings.proofs.Ranked.{i11_few, i12_few}
use Rattle.report.specs.declared.Report.{Report}
use Rattle.report.specs.Rules.{InRange}
use Rattle.report.specs.Beams.{in_mode_two, is_half, q, base, moved}

-- what stands within them is reduced as it is
within : (r : Report) (x : Beam) → x.l < across r.n1 → x.m < down r.n2 → x ≡ moved r x (beam 0 0)
unfolding moved
within r x l m =
    ap₂ {C = Beam} beam
    (sym (rw (mul-zero, add-zero) (mod-eq_of_lt l)))
    (sym (rw (mul-zero, add-zero) (mod-eq_of_lt m)))

quotient_few : (one : Bool) (i2 : ℕ) → i2 < cond one 16 8 → i2 / cond one 4 2 < 4
quotient_few true i2 h = omega arith
quotient_few false i2 h = omega arith

module _ (r : Report) (h : InRange r) where
  i12_within : r.i12 < down r.n2
  i12_within = omega (arith, h.i12, i12_few r.n1 r.n2 r.mode r.v)

  pub half_base : is_half r ≡ true → beam (2 * r.i11) r.i12 ≡ moved r (base r) (beam 0 0)
  unfolding base i11_values halves_i11
  half_base half =
      let halved : i11_values r.n1 r.n2 r.mode r.v ≡ across r.n1 / 2 = rw (half, or-true (in_mode_two r)) in
      rw half (within r (beam (2 * r.i11) r.i12) (omega (arith, h.i11)) i12_within)

  module _ (whole : is_half r ≡ false) where
    pub plain_base : in_mode_two r ≡ false → beam r.i11 r.i12 ≡ moved r (base r) (beam 0 0)
    unfolding base
    plain_base one =
        rw (whole, one)
        (within r (beam r.i11 r.i12) (omega (arith, h.i11, i11_few r.n1 r.n2 r.mode r.v)) i12_within)

    -- mode 2 halves both ranges, or that of i11 alone, and q is below 4
    module _ (acts : in_mode_two r ≡ true) where
      q_few : q r < 4
      unfolding i2_values
      q_few = quotient_few (eqb r.v 1) r.i2 (rw acts at h.i2)

      pub wide_base : 1 < r.n2
          → beam (2 * r.i11 + q r % 2) (2 * r.i12 + q r / 2) ≡ moved r (base r) (beam 0 0)
      unfolding base i11_values halves_i11 i12_values halves_i12
      wide_base wide =
          let halved : i11_values r.n1 r.n2 r.mode r.v ≡ across r.n1 / 2 = rw acts in
          let halved-too : i12_values r.n1 r.n2 r.mode r.v ≡ down r.n2 / 2 = rw (acts, lt-ltb 1 r.n2 wide) in
          rw (whole, acts, lt-ltb 1 r.n2 wide)
          (within r (beam (2 * r.i11 + q r % 2) (2 * r.i12 + q r / 2))
          (omega (arith, h.i11, q_few))
          (omega (arith, h.i12, q_few)))

      pub narrow_base : r.n2 ≤ 1 → beam ((2 * r.i11 + q r) % across r.n1) 0 ≡ moved r (base r) (beam 0 0)
      unfolding base moved
      narrow_base narrow =
          rw (whole, acts, le-ltb 1 r.n2 narrow)
          (ap₂ {C = Beam} beam (sym (rw (mul-zero, add-zero))) (sym (zero-mod (r.n2 * 1))))
