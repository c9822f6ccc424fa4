-- The tests are those of the refusals, in their order, by the sizes of the setting.
use mathlib.Core.Path.{◌≡◌, refl, sym}
use mathlib.Core.Bool.{true, cond}
use mathlib.Core.List.{[], ◌∷◌}
use Prim.Native.Nat.{ℕ}
use lib.Dec.{eqb, leb}
use lib.ListN.{length}
use borrow.Author.Tests.{le-leb, lt-leb}
use Rattle.ground.specs.First.{first}
use Rattle.ground.proofs.Booleans.{cond_each}
use Rattle.settings.specs.Settings.{ports}
use Rattle.multi.specs.declared.Measured.{Measured}
use Rattle.multi.specs.Panels.{is_panel_setting, panel_rows, rule}
use Rattle.multi.proofs.Known.{known}
use Rattle.multi.proofs.Measured.on_beams.Goals as goal

-- how many rows of k, by the ports of one panel
abbrev rows_by : ℕ → ℕ → ℕ
rows_by p v = cond (eqb v 1) 1 (cond (eqb v 2) (cond (eqb p 4) 2 4) (cond (eqb p 4) 1 (cond (eqb p 8) 3 4)))

rows_of : (ng n1 n2 v : ℕ) → is_panel_setting ng n1 n2 ≡ true → length (panel_rows n1 n2 v) ≡ rows_by (ports n1 n2) v
unfolding panel_rows
rows_of ng n1 n2 v e =
    let k = known ng n1 n2 e in
    cond_each length (eqb v 1) refl (cond_each length (eqb v 2) k.two_rows k.more_rows)

by_sizes : (x : Measured) → is_panel_setting x.report.ng x.report.n1 x.report.n2 ≡ true
    → first (rule x.report) (6 ∷ 7 ∷ 8 ∷ [])
    ≡ cond (leb x.sizes.across x.report.i11) 6
    (cond (leb x.sizes.down x.report.i12) 7 (cond (leb (rows_by x.sizes.ports x.report.v) x.report.i13) 8 0))
unfolding first rule
by_sizes x set =
    let r = x.report in
    rw (x.right, (known r.ng r.n1 r.n2 set).one_panel, rows_of r.ng r.n1 r.n2 r.v set)

pub returns-then-s-r : goal.returns-then-s-r
returns-then-s-r c = rw (by_sizes c.args.self c.requires, le-leb _ _ c.if-s-r.true)

pub returns-then-s-r-2 : goal.returns-then-s-r-2
returns-then-s-r-2 c = rw (by_sizes c.args.self c.requires, lt-leb _ _ c.if-s-r.false, le-leb _ _ c.if-s-r-2.true)

pub returns-then-i13_values-r : goal.returns-then-i13_values-r
returns-then-i13_values-r c =
    rw (
      by_sizes c.args.self c.requires,
      lt-leb _ _ c.if-s-r.false,
      lt-leb _ _ c.if-s-r-2.false,
      sym c.i13_values.ensures,
      le-leb _ _ c.if-i13_values-r.true,
    )

pub returns : goal.returns
returns c =
    rw (
      by_sizes c.args.self c.requires,
      lt-leb _ _ c.if-s-r.false,
      lt-leb _ _ c.if-s-r-2.false,
      sym c.i13_values.ensures,
      lt-leb _ _ c.if-i13_values-r.false,
    )
