-- Its layers are those of the plan, and it draws by them.
use Rattle.std.proofs.Common.{◌∙◌}
use Rattle.single.specs.Drawing.{drawing_of}
use Rattle.single.proofs.InPlace.{whole_lineup_lem}
use Rattle.verdict.proofs.Given.{half_said, f_said, beam_is}
use Rattle.verdict.proofs.accepted.Goals as goal

pub accepted-requires : goal.accepted-requires
unfolding drawing_of
accepted-requires c =
    let x = c.args.x in
    let whole = half_said x.r x.in_range x.told c.requires in
    let layers = c.of_whole_beams-layers.ensures ∙ whole_lineup_lem x.r x.in_range x.b.beams (beam_is x.r x.in_range x.told) whole in
    (layers, rw (layers, whole, c.steps-steps.ensures, f_said x.r x.in_range x.told c.quarters-f.ensures))
