-- The beams that are read stand in the first of four places.
use Rattle.std.proofs.Common.{ap, ◌∙◌, arith, length-take}
use Rattle.turn.specs.declared.Beam.{Beam}
use Rattle.masks.specs.Admitted.{bits_of}
use Rattle.verdict.proofs.Given.{four_places, beams_few, beams_are}
use Rattle.verdict.proofs.Asked.{beam_bits}
use Rattle.verdict.proofs.judge.Goals as goal

pub slice_bounds-beams-end : goal.slice_bounds-beams-end
slice_bounds-beams-end c =
    let x = c.in-Ok.x in
    omega (arith, four_places x.r x.in_range x.told, beams_few x.r x.in_range x.told)

pub slice_bounds-admit-end-else-x-eq1 : goal.slice_bounds-admit-end-else-x-eq1
slice_bounds-admit-end-else-x-eq1 c =
    let x = c.in-Ok.x in
    omega (arith, length-take {A = Beam}, four_places x.r x.in_range x.told, beams_few x.r x.in_range x.told)

pub admit-requires-else-x-eq1 : goal.admit-requires-else-x-eq1
admit-requires-else-x-eq1 c =
    let x = c.in-Ok.x in
    ap (bits_of x.b.sizes.down) (beams_are x.r x.in_range x.told)
    ∙ beam_bits x.r x.in_range x.told c.if-x-eq1.false c.if-x.false
