-- A report is in range just where none of its own refusals applies, and then its numbers are small.
use mathlib.Core.Path.{◌≡◌, sym, subst}
use mathlib.Core.Logic.{inl, inr}
use mathlib.Core.Bool.{Bool, false, ◌&&◌, ◌||◌}
use mathlib.Core.List.{List}
use Prim.Native.Nat.{ℕ, ◌<◌, ◌≤◌}
use native.Mathlib.Omega.{arith}
use lib.Dec.{T, eqb, leb, ltb, eqb→eq}
use lib.ListN.{get_or}
use borrow.Author.Tests.{not-true, not-false, leb-false, ltb-false, eqb-false, lt-leb}
use Rattle.std.proofs.lemmas.Bool.{or_parts}
use Rattle.ground.specs.Lists.{among}
use Rattle.ground.specs.First.{first, numbered, None}
use Rattle.ground.proofs.Booleans.{cond_both}
use Rattle.ground.proofs.First.{first_none}
use Rattle.ground.proofs.Tests.{or_cases, and_right}
use Rattle.multi.specs.declared.PanelReport.{PanelReport}
use Rattle.multi.specs.Panels.{mode_fits, rank_fits, i14_values, i2_values, outside, rule, InRange, own_order}
use Rattle.multi.proofs.Known.{Known, known}

pub in_range : (r : PanelReport) → None (rule r) own_order → InRange r
unfolding rule among
in_range r n =
    record {
      setting = not-false _ (n.at 1 tt);
      mode = not-false _ (n.at 2 tt);
      rank = not-false _ (n.at 4 tt);
      i11 = leb-false _ _ (n.at 6 tt);
      i12 = leb-false _ _ (n.at 7 tt);
      i13 = leb-false _ _ (n.at 8 tt);
      i14 = n.at 12 tt;
      i2 = n.at 9 tt;
    }

pub in_range_zero : (r : PanelReport) → InRange r → first (rule r) own_order ≡ 0
unfolding first rule
in_range_zero r h =
    rw (
      h.setting,
      h.mode,
      h.rank,
      lt-leb _ _ h.i11,
      lt-leb _ _ h.i12,
      lt-leb _ _ h.i13,
      h.i14,
      h.i2,
    )

pub in_range_none : (r : PanelReport) → InRange r → None (rule r) own_order
unfolding numbered
in_range_none r h = first_none (rule r) own_order tt (in_range_zero r h)

pub zero_in_range : (r : PanelReport) → first (rule r) own_order ≡ 0 → InRange r
unfolding numbered
zero_in_range r e = in_range r (first_none (rule r) own_order tt e)

-- ---- its numbers

-- three numbers that are in range
module _ (values given : List ℕ) (e : outside values given ≡ false) where
  within : (get_or given 0 0 < get_or values 0 0) × (get_or given 1 0 < get_or values 1 0) × (get_or given 2 0 < get_or values 2 0)
  unfolding outside
  within =
      let out : ℕ → Bool = λ i. leb (get_or values i 0) (get_or given i 0) in
      let two = or_parts (out 0 || out 1) (out 2) e in
      let one = or_parts (out 0) (out 1) two.0 in
      (leb-false _ _ one.0, leb-false _ _ one.1, leb-false _ _ two.1)

module _ (r : PanelReport) (h : InRange r) where
  pub set : Known r.ng r.n1 r.n2
  set = known r.ng r.n1 r.n2 h.setting

  pub v_some : 1 ≤ r.v
  unfolding rank_fits
  v_some =
      let z = eqb-false r.v 0 (or_parts (eqb r.v 0) (ltb 4 r.v) (not-true _ h.rank)).0 in
      omega arith

  pub v_few : r.v ≤ 4
  unfolding rank_fits
  v_few = ltb-false 4 r.v (or_parts (eqb r.v 0) (ltb 4 r.v) (not-true _ h.rank)).1

  -- mode 2 has two panels, and where there are not two there are four
  pub mode_two_lem : r.mode ≡ 2 → r.ng ≡ 2
  unfolding mode_fits
  mode_two_lem two = elim (or_cases (eqb r.mode 1) (eqb r.mode 2 && eqb r.ng 2) (subst T (sym h.mode) tt)) [
    | inl t ↦ absurd (let one = eqb→eq r.mode 1 t in omega arith)
    | inr t ↦ eqb→eq r.ng 2 (and_right (eqb r.mode 2) (eqb r.ng 2) t)
  ]

  pub four_panels : (r.ng ≡ 2 → ⊥) → r.ng ≡ 4
  four_panels ne = elim (or_cases (eqb r.ng 2) (eqb r.ng 4) set.panels) [
    | inl t ↦ absurd (ne (eqb→eq r.ng 2 t))
    | inr t ↦ eqb→eq r.ng 4 t
  ]

  -- every number of i14 and of i2 is below 4
  pub i14_small : (get_or r.i14 0 0 < 4) × (get_or r.i14 1 0 < 4) × (get_or r.i14 2 0 < 4)
  unfolding i14_values
  i14_small =
      let few : List ℕ → Type 0 = λ ns. (get_or ns 0 0 ≤ 4) × (get_or ns 1 0 ≤ 4) × (get_or ns 2 0 ≤ 4) in
      let most : few (i14_values r.ng r.mode) =
      cond_both few (eqb r.mode 2) (omega arith, omega arith, omega arith)
      (cond_both few (eqb r.ng 2) (omega arith, omega arith, omega arith) (omega arith, omega arith, omega arith)) in
      let w = within (i14_values r.ng r.mode) r.i14 h.i14 in
      (omega (arith, w.0, most.0), omega (arith, w.1, most.1), omega (arith, w.2, most.2))

  pub i2_small : (get_or r.i2 0 0 < 4) × (get_or r.i2 1 0 < 4) × (get_or r.i2 2 0 < 4)
  unfolding i2_values
  i2_small =
      let few : List ℕ → Type 0 = λ ns. (get_or ns 0 0 ≤ 4) × (get_or ns 1 0 ≤ 4) × (get_or ns 2 0 ≤ 4) in
      let first = cond_both (λ n. n ≤ 4) (eqb r.v 1) {x = 4} {y = 2} (omega arith) (omega arith) in
      let most : few (i2_values r.mode r.v) =
      cond_both few (eqb r.mode 2) (first, omega arith, omega arith) (first, omega arith, omega arith) in
      let w = within (i2_values r.mode r.v) r.i2 h.i2 in
      (omega (arith, w.0, most.0), omega (arith, w.1, most.1), omega (arith, w.2, most.2))
