-- The beams lie within the setting, so that their numbers are small.
use Prim.Native.Nat.{◌≤◌}
use native.Mathlib.Omega.{arith}
use Rattle.settings.proofs.Known as one
use Rattle.settings.proofs.Steps.{Sized, sized}
use Rattle.multi.specs.Panels.{Name, B, B', reached}
use Rattle.multi.proofs.InRange.{set}
use Rattle.multi.proofs.Columns.{within}
use Rattle.panels.specs.declared.ranged.Ranged.{Ranged}
use Rattle.panels.proofs.ranged.Ranged.steps.Goals as goal

module _ (x : Ranged) where
  panel : one.Known x.r.n1 x.r.n2
  panel = one.known _ _ (set x.r x.in_range).one_panel

  sized_so : Sized x.r.n1 x.r.n2 x.own.sizes
  sized_so = sized _ _ x.sizes (set x.r x.in_range).one_panel

  small : (y : Name) → ((reached x.r y).l ≤ 255) × ((reached x.r y).m ≤ 255) × (1 ≤ x.own.sizes.across) × (1 ≤ x.own.sizes.down)
  small y =
      let w = within x.r x.in_range y in (
        omega (arith, w.0, panel.across_few),
        omega (arith, w.1, panel.down_few),
        omega (arith, sized_so.across, panel.across_some),
        omega (arith, sized_so.down, panel.down_some),
      )

pub step_of-requires : goal.step_of-requires
step_of-requires c = let x = c.args.self in rw x.beams (small x B)

pub step_of-requires-2 : goal.step_of-requires-2
step_of-requires-2 c = let x = c.args.self in rw x.beams (small x B')

pub returns : goal.returns
returns c =
    let x = c.args.self in
    rw (c.step_of.ensures, c.step_of-2.ensures, x.beams, (sized_so x).across, (sized_so x).down)
