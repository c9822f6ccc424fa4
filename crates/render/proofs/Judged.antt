-- A report that was judged, of any lawful codebook: refused it leaves all as lent, and else what is written of its drawing
-- is the answer.
use mathlib.Core.Path.{◌≡◌, refl, sym, ap, subst, ◌∙◌}
use mathlib.Core.List.{List}
use Prim.Native.Nat.{ℕ, ◌*◌, ◌≤◌}
use Rattle.std.specs.Prelude.{Ok, Err}
use Rattle.ground.specs.Lists.{over}
use Rattle.refusal.specs.declared.Refusal.{Refusal}
use Rattle.plan.specs.declared.Accepted.{Accepted}
use Rattle.plan.specs.declared.Drawing.{Drawing}
use Rattle.plan.specs.Plan.{Plan}
use Rattle.plan.specs.Offsets.{fed_matrix}
use Rattle.plan.specs.Sound.{Sound}
use Rattle.plan.specs.Answer.{Codebook, refused, planned, asked, refusal, Answers, judged_by}
use Rattle.plan.specs.Lawful.{Lawful}
use Rattle.plan.specs.Drawing.{Draws}
use Rattle.plan.proofs.Answers as answers
use Rattle.plan.proofs.Passed.{accepted_in_range, accepted_fits}
use Rattle.render.specs.Rendered.{fitting}
use Rattle.render.proofs.Planned as written

module _ {R : Type 0} (b : Codebook R) {InRange : R → Type 0} (lawful : Lawful b InRange)
    (drawing_of : R → Drawing) (drawing_draws : (r : R) → InRange r → Draws (b.plan r) (drawing_of r))
    (r : R) (mask : List ℕ) (ranks : ℕ) (offsets : List ℕ) (room : ℕ) where
  abbrev number : ℕ
  number = refusal b (asked r mask ranks offsets room)

  abbrev plan : Plan
  plan = b.plan r

  -- refused
  pub refused_answers : {A : Type 0} (answer lent : List A) {e : Refusal}
      → judged_by (planned plan) (drawing_of r) number ≡ Err e
      → Answers number (planned plan) answer lent (refused e.number) lent
  refused_answers = answers.answers_refused (planned plan) (drawing_of r) number

  module _ {c : Accepted} (j : judged_by (planned plan) (drawing_of r) number ≡ Ok c) where
    accepted : (number ≡ 0) × (c.given ≡ planned plan) × (c.drawing ≡ drawing_of r)
    accepted = answers.judged_accepted (planned plan) (drawing_of r) number j

    pub in_range : InRange r
    in_range = accepted_in_range b lawful r mask ranks offsets room accepted.0

    sound : Sound plan
    sound = lawful.sound r in_range

    draws : Draws plan c.drawing
    draws = subst (Draws plan) (sym accepted.2) (drawing_draws r in_range)

    -- there is room
    fits : plan.v * plan.ports ≤ room
    fits = accepted_fits b lawful r mask ranks offsets room accepted.0

    -- what is written is the answer, whatever numbers stand for entries
    pub entries_answer : {A : Type 0} (numbers_of : List ℕ → List A) {lent left : List A}
        → left ≡ over (numbers_of (fitting offsets c.drawing room)) lent
        → Answers number (planned plan) (numbers_of (fed_matrix offsets plan)) lent c.given left
    entries_answer {A} numbers_of {lent} f =
        let is = ap numbers_of (written.fitting_is offsets plan c.drawing sound draws room fits) in
        answers.answers_accepted (planned plan) (drawing_of r) number j (numbers_of (fed_matrix offsets plan)) lent _ refl
        (f ∙ ap (λ (xs : List A). over xs lent) is)
