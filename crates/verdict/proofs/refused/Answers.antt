-- One of the report's own refusals applies, or one that is tried before it.
use Rattle.std.proofs.Common.{◌≡◌, List, ℕ, sym, ◌∙◌, refl, rules}
use Rattle.std.specs.Prelude.{Err}
use Rattle.refusal.specs.Outcome.{outcome}
use Rattle.refusal.proofs.Outcome.{none_applies}
use Rattle.settings.specs.declared.Refused.{Refused}
use Rattle.report.specs.declared.Report.{Report}
use Rattle.report.specs.Beams.{beams_of}
use Rattle.plan.specs.Answer.{asked, refusal}
use Rattle.plan.proofs.Passed.{accepted_in_range}
use Rattle.masks.specs.declared.Needs.{Needs}
use Rattle.masks.specs.Admitted.{admitted}
use Rattle.masks.proofs.Refused.{admitted_refusal}
use Rattle.single.specs.Single.{indices, single}
use Rattle.single.proofs.Lawful.{single_lawful}
use Rattle.verdict.proofs.Asked.{refused_asks, not_refused}
use Rattle.verdict.proofs.refused.Goals as goal

-- what the shared refusals give is the codebook's refusal
same : (r : Report) (mask : List ℕ) (ranks : ℕ) (offsets : List ℕ) (room : ℕ) (x : Needs) {why : Refused} → beams_of r ≡ Err why
    → x.v ≡ r.v → x.own ≡ Err why.refusal → x.bytes ≡ why.sizes.bytes
    → admitted x mask ranks offsets room ≡ outcome (refusal single (asked r mask ranks offsets room))
same r mask ranks offsets room x h v own bytes =
    admitted_refusal single r mask ranks offsets room indices x (refused_asks r x v h own bytes)

pub returns-in_err-admit : goal.returns-in_err-admit
returns-in_err-admit c =
    let a = c.args in
    let s = a.site in
    let e = c.admit.ensures ∙ same a.r s.mask.now s.ranks s.offsets.now a.room _ c.requires refl refl refl in
    search rules

-- and there is one
pub returns : goal.returns
returns c =
    let a = c.args in
    let s = a.site in
    let e = c.admit.ensures ∙ same a.r s.mask.now s.ranks s.offsets.now a.room _ c.requires refl refl refl in
    let z = none_applies tt _ (sym e ∙ c.in_ok-admit.was) in
    absurd (not_refused a.r c.requires (accepted_in_range single single_lawful a.r s.mask.now s.ranks s.offsets.now a.room z))
