-- It is whether one of the beams has a zero bit.
use Rattle.std.proofs.Common.{◌∙◌, ◌+◌, ◌*◌, rules, tests}
use Rattle.std.proofs.lemmas.Iterator.{YieldsList-from_slice}
use Rattle.std.proofs.lemmas.Iterator.Search.{any_from_yields_List}
use Rattle.plan.specs.Masks.{is_zero}
use Rattle.masks.proofs.Bits.{zero_by_beams}
use Rattle.masks.proofs.is_barred.Goals as goal

pub returns : goal.returns
returns c =
    let a = c.args in
    any_from_yields_List (λ x. is_zero a.mask.now (a.width * x.l + x.m)) _ _ _ c.any.ensures.ran
    (YieldsList-from_slice a.beams.now cc) (λ x b q k. search (rules, tests))
    ∙ zero_by_beams a.mask.now a.width a.beams.now
