-- Steps of 4 are those of (O1,O2), and the setting has beams in both directions.
use mathlib.Core.Path.{ap₂}
use Rattle.std.proofs.Common.{ap, ◌∙◌, ℕ, ◌+◌, ◌*◌, ◌%◌}
use Rattle.turn.specs.declared.Beam.{Beam}
use Rattle.settings.specs.Ranges.{beam}
use Rattle.settings.proofs.Known.{known}
use Rattle.settings.proofs.Steps.{sized, step_across, step_down}
use Rattle.report.specs.Beams.{moved}
use Rattle.report.proofs.choice.Ranged.moved.Goals as goal

pub returns : goal.returns
unfolding moved
returns c =
    let w = c.args.self.now in
    let x = c.args.x in
    let k = c.args.k in
    let sizes = sized _ _ w.sizes_are w.in_range.setting in
    let along = ap (λ (w : ℕ). (x.l + 4 * k.l) % w) sizes.across ∙ step_across w.report.n1 x.l k.l in
    let upward = ap (λ (w : ℕ). (x.m + 4 * k.m) % w) sizes.down ∙ step_down _ x.m k.m (known _ _ w.in_range.setting).n2_some in
    ap₂ {C = Beam} beam (c.moved_along.ensures ∙ along) (c.moved_along-2.ensures ∙ upward)
