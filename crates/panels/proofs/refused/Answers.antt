-- One of the report's own refusals applies, or one that is tried before it.
use mathlib.Core.Path.{◌≡◌, refl}
use Rattle.std.specs.Prelude.{Err}
use Rattle.std.proofs.lemmas.Result.{err_from_is_err_and}
use Rattle.settings.specs.declared.Refused.{Refused}
use Rattle.masks.specs.declared.Needs.{Needs}
use Rattle.masks.specs.Asks.{Asks}
use Rattle.multi.specs.declared.PanelReport.{PanelReport}
use Rattle.multi.specs.Panels.{indices, panels}
use Rattle.multi.specs.Own.{own_of}
use Rattle.multi.proofs.InRange.{in_range_zero}
use Rattle.multi.proofs.Parts.{some_number}
use Rattle.multi.proofs.Said.{barred}
use Rattle.panels.proofs.Asked.{refused_asks}
use Rattle.panels.proofs.Judged.{refused, in_range}
use Rattle.panels.proofs.refused.Goals as goal

-- what is handed over is what the codebook asks for
asks : (r : PanelReport) {why : Refused} → own_of r ≡ Err why → (x : Needs) → x.own ≡ Err why.refusal → x.bytes ≡ why.sizes.bytes
    → x.v ≡ r.v → Asks panels r indices x
asks r h x own bytes v = let b = barred r h in refused_asks r b.sizes x own b.refusal bytes v

pub returns-in_err-admit : goal.returns-in_err-admit
returns-in_err-admit c =
    let a = c.args in
    let s = a.site in
    let p = err_from_is_err_and c.from_residual.result c.from_residual.ensures.1 in
    rw (p.1, p.2) (
    refused a.r s.mask.now s.ranks s.offsets.now a.room _ (asks a.r c.requires _ refl refl refl) c.in_err-admit.ensures)

pub returns : goal.returns
returns c =
    let a = c.args in
    let s = a.site in
    let h = in_range a.r s.mask.now s.ranks s.offsets.now a.room _ (asks a.r c.requires _ refl refl refl) c.in_ok-admit.ensures in
    absurd (some_number _ (barred a.r c.requires).refusal (in_range_zero a.r h))
