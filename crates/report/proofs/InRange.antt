-- A report is in range just where none of its own refusals applies, and then its numbers are small.
use mathlib.Core.Path.{◌≡◌}
use mathlib.Core.Bool.{false, ◌&&◌}
use Prim.Native.Nat.{◌/◌, ◌<◌, ◌≤◌}
use native.Mathlib.Omega.{arith}
use lib.Dec.{eqb, leb}
use borrow.Author.Tests.{not-false, leb-false, lt-leb, eq-eqb}
use Rattle.ground.specs.Lists.{among}
use Rattle.ground.specs.First.{first, numbered, None}
use Rattle.ground.proofs.Booleans.{cond_both, and_nothing}
use Rattle.ground.proofs.First.{first_none}
use Rattle.settings.specs.Settings.{ports}
use Rattle.settings.specs.Ranges.{mode_two, i2_values}
use Rattle.settings.proofs.Known.{known, one_by_one}
use Rattle.settings.proofs.Ranked.{rank_of, i11_few, i12_few, i2_within}
use Rattle.report.specs.declared.Report.{Report}
use Rattle.report.specs.Rules.{rule, own_order, InRange}
use Rattle.report.specs.Beams.{in_mode_two, q}

pub in_range : (r : Report) → None (rule r) own_order → InRange r
unfolding rule among
in_range r n =
    record {
      setting = not-false _ (n.at 1 tt);
      mode = not-false _ (n.at 2 tt);
      rank = not-false _ (n.at 4 tt);
      i11 = leb-false _ _ (n.at 6 tt);
      i12 = leb-false _ _ (n.at 7 tt);
      i13 = leb-false _ _ (n.at 8 tt);
      i2 = leb-false _ _ (n.at 9 tt);
    }

pub in_range_zero : (r : Report) → InRange r → first (rule r) own_order ≡ 0
unfolding first rule
in_range_zero r h =
    rw (
      h.setting,
      h.mode,
      h.rank,
      lt-leb _ _ h.i11,
      lt-leb _ _ h.i12,
      lt-leb _ _ h.i13,
      lt-leb _ _ h.i2,
    )

pub in_range_none : (r : Report) → InRange r → None (rule r) own_order
unfolding numbered
in_range_none r h = first_none (rule r) own_order tt (in_range_zero r h)

pub zero_in_range : (r : Report) → first (rule r) own_order ≡ 0 → InRange r
unfolding numbered
zero_in_range r e = in_range r (first_none (rule r) own_order tt e)

-- ---- its numbers

module _ (r : Report) (h : InRange r) where
  pub v_some : 1 ≤ r.v
  v_some = (rank_of (ports r.n1 r.n2) r.v h.rank).v_some

  pub v_few : r.v ≤ 8
  v_few = (rank_of (ports r.n1 r.n2) r.v h.rank).v_few

  pub v_fits : r.v ≤ ports r.n1 r.n2
  v_fits = (rank_of (ports r.n1 r.n2) r.v h.rank).v_fits

  pub i11_small : r.i11 < 64
  i11_small =
      omega (arith, h.i11, i11_few r.n1 r.n2 r.mode r.v, (known _ _ h.setting).across_few)

  pub i12_small : r.i12 < 16
  i12_small = omega (arith, h.i12, i12_few r.n1 r.n2 r.mode r.v, (known _ _ h.setting).down_few)

  pub q_small : q r < 16
  q_small =
      let few : r.i2 < 16 = omega (arith, h.i2, i2_within r.n1 r.mode r.v) in
      cond_both (λ n. r.i2 / n < 16) (eqb r.v 1) (omega arith) (omega arith)

-- ---- two ports: mode 2 has no effect, and there are two layers at most

pub one_mode : (r : Report) → r.n1 ≡ 1 → in_mode_two r ≡ false
unfolding mode_two
one_mode r two = rw (eq-eqb _ _ two) (and_nothing (eqb r.mode 2 && leb r.v 2))

module _ (r : Report) (h : InRange r) (two : r.n1 ≡ 1) where
  pub two_ports_v : r.v ≤ 2
  two_ports_v =
      let two_ports_lem : ports r.n1 r.n2 ≡ 2 = rw (two, one_by_one _ _ h.setting two) in
      omega (arith, v_fits r h)

  pub two_ports_i2 : r.i2 ≤ 3
  unfolding i2_values
  two_ports_i2 =
      cond_both (λ n. r.i2 < n → r.i2 ≤ 3) (eqb r.v 1) (λ k. omega arith) (λ k. omega arith)
      (rw (one_mode r two) at h.i2)
