-- The record and the buffer of a call, refused and accepted.
use mathlib.Core.Path.{◌≡◌, refl, sym, ap, ◌∙◌}
use mathlib.Core.Logic.{◌≢◌}
use mathlib.Core.List.{List, ◌++◌}
use Prim.Native.Nat.{ℕ, zero, suc}
use lib.ListN.{length, drop}
use Rattle.std.specs.Prelude.{⊤, Ok, Err, MatchResult}
use Rattle.std.proofs.lemmas.Result.{MatchResult-at_ok, MatchResult-at_err}
use Rattle.refusal.specs.declared.Refusal.{Refusal}
use Rattle.plan.specs.declared.Record.{Record}
use Rattle.plan.specs.declared.Drawing.{Drawing}
use Rattle.plan.specs.declared.Accepted.{Accepted}
use Rattle.plan.specs.Answer.{refused, record_of, buffer_of, Answers, judged_by}

-- ---- by a number

record_number : (a : Record) (k : ℕ) → a.refusal ≡ 0 → (record_of a k).refusal ≡ k
record_number a zero e = e
record_number a (suc k) e = refl

by_refusal : {A : Type 0} (a : Record) (k : ℕ) (answer lent : List A) → k ≢ 0
    → (buffer_of k answer lent ≡ lent) × (record_of a k ≡ refused k)
by_refusal a zero answer lent h = absurd (h refl)
by_refusal a (suc k) answer lent h = (refl, refl)

-- two outcomes of a call are one
pub one_answer : {A : Type 0} {k : ℕ} {a : Record} {answer lent : List A}
    {given given' : Record} {left left' : List A} → Answers k a answer lent given left
    → Answers k a answer lent given' left' → (given ≡ given') × (left ≡ left')
one_answer p q = (p.record_is ∙ sym q.record_is, p.buffer_is ∙ sym q.buffer_is)

module _ {A : Type 0} {k : ℕ} {a : Record} (fresh : a.refusal ≡ 0) {answer lent : List A} {given : Record} {left : List A}
    (call : Answers k a answer lent given left) where
  pub number_given : given.refusal ≡ k
  number_given = ap (λ (x : Record). x.refusal) call.record_is ∙ record_number a k fresh

  pub as_refused : given.refusal ≢ 0 → (left ≡ lent) × (given ≡ refused given.refusal)
  as_refused h =
      let p = by_refusal a k answer lent (λ z. h (number_given ∙ z)) in
      (call.buffer_is ∙ p.0, call.record_is ∙ p.1 ∙ ap refused (sym number_given))

  pub as_accepted : given.refusal ≡ 0 → (n : ℕ) → length answer ≡ n → (left ≡ answer ++ drop n lent) × (given ≡ a)
  as_accepted e n l =
      let z : k ≡ 0 = sym number_given ∙ e in (
        call.buffer_is ∙ ap (λ (i : ℕ). buffer_of i answer lent) z ∙ ap (λ (i : ℕ). answer ++ drop i lent) l,
        call.record_is ∙ ap (record_of a) z,
      )

-- ---- a call that has its report judged

module _ (a : Record) (s : Drawing) (k : ℕ) where
  -- refused: its number is given, and nothing is written
  pub answers_refused : {A : Type 0} (answer lent : List A) {e : Refusal} → judged_by a s k ≡ Err e
      → Answers k a answer lent (refused e.number) lent
  answers_refused answer lent j = MatchResult-at_err (λ c. ⊤) _ _ j (by_number k)
    where
      by_number : (k : ℕ) → MatchResult (judged_by a s k) (λ c. ⊤) (λ e. Answers k a answer lent (refused e.number) lent)
      by_number zero = tt
      by_number (suc k) = record { record_is = refl; buffer_is = refl }

  -- accepted: the record is given with what is to be written
  module _ {c : Accepted} (j : judged_by a s k ≡ Ok c) where
    pub judged_accepted : (k ≡ 0) × (c.given ≡ a) × (c.drawing ≡ s)
    judged_accepted = MatchResult-at_ok _ (λ e. ⊤) _ j (by_number k)
      where
        by_number : (k : ℕ) → MatchResult (judged_by a s k) (λ c. (k ≡ 0) × (c.given ≡ a) × (c.drawing ≡ s)) (λ e. ⊤)
        by_number zero = (refl, refl, refl)
        by_number (suc k) = tt

    pub answers_accepted : {A : Type 0} (answer lent : List A) (n : ℕ) {left : List A} → length answer ≡ n
        → left ≡ answer ++ drop n lent → Answers k a answer lent c.given left
    answers_accepted answer lent n l f =
        let (none, record_is, _) = judged_accepted in
        record {
          record_is = record_is ∙ ap (record_of a) (sym none);
          buffer_is =
              f ∙ ap (λ (i : ℕ). answer ++ drop i lent) (sym l) ∙ ap (λ (i : ℕ). buffer_of i answer lent) (sym none);
        }
