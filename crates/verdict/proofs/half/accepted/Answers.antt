-- Its layers are those of the plan, and it draws by them.
use Rattle.std.proofs.Common.{◌∙◌, arith}
use Rattle.single.specs.Drawing.{drawing_of}
use Rattle.single.proofs.InPlace.{half_lineup_lem}
use Rattle.verdict.proofs.Given.{half_said, f_said, beam_is}
use Rattle.verdict.proofs.half.accepted.Goals as goal

pub accepted-requires : goal.accepted-requires
unfolding drawing_of
accepted-requires c =
    let x = c.args.x in
    let half = half_said x.r x.in_range x.told c.requires in
    let layers =
    c.of_half_length_beam-layers.ensures
    ∙ half_lineup_lem x.r x.in_range _ (beam_is x.r x.in_range x.told 0 (omega arith)) half in
    (layers, rw (layers, half, c.steps-steps.ensures, c.add-both.ensures, f_said x.r x.in_range x.told c.quarters-f.ensures, c.eighths-t.ensures))
