-- Answers and their steps: a step has one answer and one place, and an answer is a report just where its step is.
use Rattle.std.proofs.Common.{◌≡◌, refl, sym, ap, ◌∙◌, true, ℕ, arith}
use Rattle.std.proofs.lemmas.Bool.{false≢true}
use Rattle.groups.proofs.Unique.{one_fault}
use Rattle.logs.specs.declared.Answer.{Answer}
use Rattle.logs.specs.declared.Answer.TheVariants.{Read, End, Faulty}
use Rattle.logs.specs.declared.LogStep.{LogStep}
use Rattle.logs.specs.declared.Taken.{Taken}
use Rattle.logs.specs.Answer.{is_report, step_of}

pub report_kind : (a : Answer) (next : ℕ) → is_report a ≡ true → (step_of a next).kind ≡ 0
report_kind (Read r) next e = refl
report_kind End next e = absurd (false≢true e)
report_kind (Faulty f) next e = absurd (false≢true e)

pub kind_report : (a : Answer) (next : ℕ) → (step_of a next).kind ≡ 0 → is_report a ≡ true
kind_report (Read r) next e = refl
kind_report End next e = absurd (omega arith)
kind_report (Faulty f) next e = absurd (omega arith)

pub step_next : (a : Answer) (next : ℕ) → next ≡ (step_of a next).next
step_next (Read r) next = refl
step_next End next = refl
step_next (Faulty f) next = refl

-- what is taken has the step of the case that it is
pub in_case : {s : LogStep} (t : Taken) (a : Answer) → t.answer ≡ a → step_of t.answer t.next ≡ s
    → step_of a t.next ≡ s
in_case t a is e = sym (ap (λ (b : Answer). step_of b t.next) is) ∙ e

-- ---- one answer

-- of one step, m and n being the places after it
module _ (m n : ℕ) where
  kinds : (a b : Answer) → step_of a m ≡ step_of b n → (step_of a m).kind ≡ (step_of b n).kind
  kinds a b e = ap (λ (s : LogStep). s.kind) e

  pub one_answer : (a b : Answer) → step_of a m ≡ step_of b n → a ≡ b
  one_answer (Read r) (Read q) e = ap Read (ap (λ (s : LogStep). s.report) e)
  one_answer End End e = refl
  one_answer (Faulty f) (Faulty g) e =
      ap Faulty (one_fault f g (ap (λ (s : LogStep). s.fault) e) (ap (λ (s : LogStep). s.place) e))
  one_answer (Read r) End e = absurd (omega (arith, kinds (Read r) End e))
  one_answer (Read r) (Faulty g) e = absurd (omega (arith, kinds (Read r) (Faulty g) e))
  one_answer End (Read q) e = absurd (omega (arith, kinds End (Read q) e))
  one_answer End (Faulty g) e = absurd (omega (arith, kinds End (Faulty g) e))
  one_answer (Faulty f) (Read q) e = absurd (omega (arith, kinds (Faulty f) (Read q) e))
  one_answer (Faulty f) End e = absurd (omega (arith, kinds (Faulty f) End e))

  pub one_next : (a b : Answer) → step_of a m ≡ step_of b n → m ≡ n
  one_next a b e = step_next a m ∙ ap (λ (s : LogStep). s.next) e ∙ sym (step_next b n)
