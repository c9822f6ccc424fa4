-- A reader's calls: after a fault or the end every further call gives the same.
use mathlib.Core.Path.{◌≡◌, refl, sym, ap, ◌∙◌}
use mathlib.Core.Bool.{false, true≢false}
use mathlib.Core.List.{List, [], ◌∷◌}
use lib.ListN.{length, replicate}
use Rattle.logs.specs.declared.Answer.{Answer}
use Rattle.logs.specs.declared.LogStep.{LogStep}
use Rattle.logs.specs.declared.Reader.{Reader}
use Rattle.logs.specs.Log.{step_at}
use Rattle.logs.specs.Answer.{is_report, Steps}
use Rattle.logs.specs.Relied.{Runs, no_call, call_and}
use Rattle.logs.proofs.Answers.{kind_report, step_next}
use Rattle.logs.proofs.Counted.{no_report_stays}
use Rattle.logs.proofs.Unique.{next_unique}

-- the reader stays
no_report_leaves : {was is : Reader} {a : Answer} → is_report a ≡ false → Steps was a is → is ≡ was
no_report_leaves {was} {is} {a} over p =
    let none : (step_at was.log.now was.at).kind ≡ 0 → ⊥ = λ e.
    true≢false (sym (kind_report a is.at (ap (λ (s : LogStep). s.kind) p.gives ∙ e)) ∙ over) in
    let at = step_next a is.at ∙ ap (λ (s : LogStep). s.next) p.gives ∙ no_report_stays was.log.now
    was.at none in
    λ i. record { log = p.stays i; at = at i }

again : {was then : Reader} {a : Answer} (more : List Answer) → Steps was a was → Runs was more then
    → (more ≡ replicate (length more) a) × (then ≡ was)
again [] p no_call = (refl, refl)
again {was} {then} {a} (b ∷ more) p (call_and {is = is} q rest) =
    let same = next_unique q p in
    let all = again more p (rw same.1 at rest) in
    (ap (λ (x : Answer). x ∷ more) same.0 ∙ ap (λ (xs : List Answer). a ∷ xs) all.0, all.1)

-- Whatever is no report, a fault or the end, is given at every further call, and the reader stays.
pub repeats : {was then : Reader} (a : Answer) (more : List Answer) → is_report a ≡ false → Runs was (a ∷ more) then
    → (more ≡ replicate (length more) a) × (then ≡ was)
repeats {was} {then} a more over (call_and {is = is} p rest) =
    let stays = no_report_leaves over p in
    again more (rw stays at p) (rw stays at rest)
