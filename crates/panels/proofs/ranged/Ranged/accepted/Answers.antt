-- What is drawn is its drawing, and beside the codes stand its beams.
use mathlib.Core.Path.{◌≡◌, ap, ◌∙◌}
use mathlib.Core.List.{List, [], ◌∷◌}
use lib.ListN.{get_or}
use Rattle.turn.specs.declared.Beam.{Beam}
use Rattle.plan.specs.declared.Lineup.{Lineup}
use Rattle.plan.specs.Plan.{no_beam, named}
use Rattle.plan.specs.Answer.{accepted_as}
use Rattle.multi.specs.declared.PanelReport.{PanelReport}
use Rattle.multi.specs.Panels.{B, B', reached, plan}
use Rattle.multi.proofs.InRange.{v_some, v_few}
use Rattle.panels.specs.Drawing.{beams_by, drawn_with, drawing_of}
use Rattle.panels.proofs.Drawn.{beams_placed}
use Rattle.panels.proofs.ranged.Ranged.accepted.Goals as goal

by_pair : (r : PanelReport) {ys : List Beam} → ys ≡ reached r B ∷ reached r B' ∷ []
    → beams_by r.v (get_or ys 0 no_beam) (get_or ys 1 no_beam) ≡ named (plan r)
by_pair r e = ap (λ (ys : List Beam). beams_by r.v (get_or ys 0 no_beam) (get_or ys 1 no_beam)) e ∙ beams_placed r

pub layers_of-requires : goal.layers_of-requires
layers_of-requires c = let x = c.args.self in (v_some x.r x.in_range, v_few x.r x.in_range)

pub returns : goal.returns
unfolding drawing_of
returns c =
    let x = c.args.self in
    let placed = ap (λ (y : Lineup). y.beams) c.layers_of.ensures ∙ by_pair x.r x.beams in
    c.accept.ensures
    ∙ (λ i. accepted_as (c.ports.ensures i) x.r.v (c.entries.ensures i) (placed i)
    (drawn_with x.r (c.steps-steps.ensures i) (c.co_of-co.ensures i) (c.layers_of.ensures i).codes))
