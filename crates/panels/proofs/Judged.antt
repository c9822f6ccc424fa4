-- What the shared refusals give of a report is the codebook's refusal.
use mathlib.Core.Path.{◌≡◌, sym, ap, ◌∙◌}
use mathlib.Core.List.{List}
use Prim.Native.Nat.{ℕ}
use Rattle.std.specs.Prelude.{Ok, Err}
use Rattle.refusal.specs.declared.Refusal.{Refusal}
use Rattle.refusal.specs.Outcome.{outcome}
use Rattle.refusal.proofs.Outcome.{none_applies, handed_on}
use Rattle.plan.specs.declared.Accepted.{Accepted}
use Rattle.plan.specs.Answer.{planned, asked, refusal, judged_by}
use Rattle.plan.proofs.Passed.{accepted_in_range}
use Rattle.masks.specs.declared.Needs.{Needs}
use Rattle.masks.specs.Admitted.{admitted}
use Rattle.masks.specs.Asks.{Asks}
use Rattle.masks.proofs.Refused.{admitted_refusal}
use Rattle.multi.specs.declared.PanelReport.{PanelReport}
use Rattle.multi.specs.Panels.{plan, InRange, indices, panels}
use Rattle.multi.proofs.Lawful.{panels_lawful}
use Rattle.panels.specs.Drawing.{drawing_of}

module _ (r : PanelReport) (mask : List ℕ) (ranks : ℕ) (offsets : List ℕ) (room : ℕ) (x : Needs)
    (a : Asks panels r indices x) where
  abbrev number : ℕ
  number = refusal panels (asked r mask ranks offsets room)

  same : admitted x mask ranks offsets room ≡ outcome number
  same = admitted_refusal panels r mask ranks offsets room indices x a

  -- a refusal is handed on
  pub refused : {e : Refusal} → Err e ≡ admitted x mask ranks offsets room
      → Err e ≡ judged_by (planned (plan r)) (drawing_of r) number
  refused p = sym (handed_on tt _ number (sym (p ∙ same)))

  -- where none applies the report is in range, and it is accepted
  module _ (p : Ok tt ≡ admitted x mask ranks offsets room) where
    none : number ≡ 0
    none = none_applies tt number (sym (p ∙ same))

    pub in_range : InRange r
    in_range = accepted_in_range panels panels_lawful r mask ranks offsets room none

    pub accepted : {y : Accepted} → y ≡ record { given = planned (plan r); drawing = drawing_of r }
        → Ok y ≡ judged_by (planned (plan r)) (drawing_of r) number
    accepted e = rw none (ap Ok e)
