-- What it asks for is what the codebook asks for.
use Rattle.std.proofs.Common.{◌∙◌, refl}
use Rattle.masks.proofs.Refused.{admitted_refusal}
use Rattle.single.specs.Single.{indices, single}
use Rattle.verdict.proofs.Asked.{ranged_asks}
use Rattle.verdict.proofs.ranged.Ranged.admit.Goals as goal

pub returns : goal.returns
returns c =
    let a = c.args in
    let s = a.site in
    let x = a.self in
    c.admit.ensures
    ∙ admitted_refusal single x.r s.mask.now s.ranks s.offsets.now a.room indices _
    (ranged_asks x.r _ refl x.in_range x.told refl refl c.requires refl c.entries.ensures)
