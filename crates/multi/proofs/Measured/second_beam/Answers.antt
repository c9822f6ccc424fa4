-- Steps of 4 are steps of (O1,O2), and no number is large.
use mathlib.Core.Path.{◌≡◌, sym, ap, ap₂, ◌∙◌}
use mathlib.Core.Bool.{cond}
use Prim.Native.Nat.{ℕ, ◌+◌, ◌*◌, ◌%◌, ◌<◌, ◌≤◌}
use native.Mathlib.Omega.{arith}
use lib.Dec.{eqb}
use lib.ListN.{get_or}
use Rattle.turn.specs.declared.Beam.{Beam}
use Rattle.settings.specs.Settings.{o1, o2, across, down}
use Rattle.settings.specs.Ranges.{beam, k_two, k_three}
use Rattle.settings.proofs.Known as one
use Rattle.settings.proofs.Steps.{Sized, sized, step_across, step_down}
use Rattle.multi.specs.declared.PanelReport.{PanelReport}
use Rattle.multi.specs.declared.Measured.{Measured}
use Rattle.multi.specs.Panels.{B, B', k_of, reached, InRange}
use Rattle.multi.proofs.InRange.{set}
use Rattle.multi.proofs.Columns.{base_is}
use Rattle.multi.proofs.Rows.{row_right, row_of_more, row_of_one}
use Rattle.multi.proofs.Measured.second_beam.Goals as goal

by_row : (r : PanelReport) {k : Beam} → k ≡ k_of r
    → beam ((r.i11 + o1 r.n1 * k.l) % across r.n1) ((r.i12 + o2 r.n2 * k.m) % down r.n2) ≡ reached r B'
unfolding reached
by_row r e = rw e

module _ (x : Measured) (h : InRange x.report) where
  panel : one.Known x.report.n1 x.report.n2
  panel = one.known _ _ (set _ h).one_panel

  sizes : Sized x.report.n1 x.report.n2 x.sizes
  sizes = sized _ _ x.right (set _ h).one_panel

  across_some : 0 < x.sizes.across
  across_some = omega (arith, sizes.across, panel.across_some)

  down_some : 0 < x.sizes.down
  down_some = omega (arith, sizes.down, panel.down_some)

  -- where it is moved by a row of k
  module _ (more : x.report.v ≡ 1 → ⊥) {k : Beam}
      (f : let r = x.report in k ≡ get_or (cond (eqb r.v 2) (k_two r.n1 r.n2) (k_three r.n1 r.n2)) r.i13 (beam 0 0)) where
    row_is : k ≡ k_of x.report
    row_is = f ∙ row_of_more x.report h more

    few : (k.l ≤ 4) × (k.m ≤ 4) × (x.report.i11 < 64) × (x.report.i12 < 64)
    few =
        let r = row_right x.report h in
        (rw row_is r.l_small, rw row_is r.m_small, omega (arith, h.i11, panel.across_few), omega (arith, h.i12, panel.down_few))

    -- l is that of the definition, and then so is the beam whose m is
    moved_is : (m : ℕ) → let r = x.report in m ≡ (r.i12 + o2 r.n2 * k.m) % down r.n2
        → beam ((r.i11 + 4 * k.l) % x.sizes.across) m ≡ reached r B'
    moved_is m e =
        let r = x.report in
        let along = ap (λ (w : ℕ). (r.i11 + 4 * k.l) % w) sizes.across in
        ap₂ {C = Beam} beam (along ∙ step_across r.n1 r.i11 k.l) e ∙ by_row r row_is

    -- one beam down has i12 0; and otherwise steps of 4 are steps of O2
    upward : x.sizes.down ≡ 1 → let r = x.report in r.i12 ≡ (r.i12 + o2 r.n2 * k.m) % down r.n2
    upward one =
        let w : down x.report.n2 ≡ 1 = sym sizes.down ∙ one in
        rw w (omega (arith, rw w at h.i12))

    upward_by : let r = x.report in (r.i12 + 4 * k.m) % x.sizes.down ≡ (r.i12 + o2 r.n2 * k.m) % down r.n2
    upward_by = rw sizes.down (step_down x.report.n2 x.report.i12 k.m panel.n2_some)

-- one layer has a row of nothing
alone : (r : PanelReport) → r.v ≡ 1 → reached r B' ≡ reached r B
unfolding reached
alone r one = rw (row_of_one r one)

pub returns-then-r-eq1 : goal.returns-then-r-eq1
returns-then-r-eq1 c = sym (alone _ c.if-r-eq1.true ∙ base_is _ c.requires)

pub overflow_mul-l : goal.overflow_mul-l
overflow_mul-l c = omega (arith, (few c.args.self c.requires c.if-r-eq1.false c.k_of-k.ensures).0)

pub overflow_add-l : goal.overflow_add-l
overflow_add-l c =
    let f = few c.args.self c.requires c.if-r-eq1.false c.k_of-k.ensures in
    omega (arith, f.0, f.2)

pub nonzero_rem-l : goal.nonzero_rem-l
nonzero_rem-l c = across_some c.args.self c.requires

pub returns-then-self-eq1 : goal.returns-then-self-eq1
returns-then-self-eq1 c =
    let x = c.args.self in
    let more = c.if-r-eq1.false in
    moved_is x c.requires more c.k_of-k.ensures _ (upward x c.requires more c.k_of-k.ensures c.if-self-eq1.true)

pub overflow_mul-result : goal.overflow_mul-result
overflow_mul-result c = omega (arith, (few c.args.self c.requires c.if-r-eq1.false c.k_of-k.ensures).1)

pub overflow_add-result : goal.overflow_add-result
overflow_add-result c =
    let f = few c.args.self c.requires c.if-r-eq1.false c.k_of-k.ensures in
    omega (arith, f.1, f.3)

-- whichever of the two divides
pub nonzero_rem-result : goal.nonzero_rem-result
nonzero_rem-result c = omega (arith, across_some c.args.self c.requires, down_some c.args.self c.requires)

pub returns : goal.returns
returns c =
    let x = c.args.self in
    let more = c.if-r-eq1.false in
    moved_is x c.requires more c.k_of-k.ensures _ (upward_by x c.requires more c.k_of-k.ensures)
