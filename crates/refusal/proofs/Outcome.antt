-- What an outcome tells of its number.
use mathlib.Core.Path.{◌≡◌, refl, sym, ap, ◌∙◌}
use Prim.Native.Nat.{ℕ, zero, suc}
use Rattle.std.specs.Prelude.{⊤, Result, Ok, Err}
use Rattle.std.proofs.lemmas.Result.{MatchResult-at_err}
use Rattle.refusal.specs.declared.Refusal.{Refusal}
use Rattle.refusal.specs.Outcome.{refused, given}

abbrev number_or : {A : Type 0} → Result A Refusal → ℕ
number_or (Ok x) = 0
number_or (Err e) = e.number

pub number_of_given : {A : Type 0} (x : A) (k : ℕ) → number_or (given x k) ≡ k
number_of_given x zero = refl
number_of_given x (suc k) = refl

-- a value was given, and so no refusal applies
pub none_applies : {A : Type 0} (x : A) (k : ℕ) {y : A} → given x k ≡ Ok y → k ≡ 0
none_applies x k e = sym (number_of_given x k) ∙ ap number_or e

-- a refusal was given, and it has that number
pub one_applies : {A : Type 0} (x : A) (k : ℕ) {e : Refusal} → given x k ≡ Err e → k ≡ e.number
one_applies x k e = sym (number_of_given x k) ∙ ap number_or e

-- of another value: the refusal is handed on
pub handed_on : {A B : Type 0} (x : A) (y : B) (k : ℕ) {e : Refusal} → given x k ≡ Err e → given y k ≡ Err e
handed_on x y zero p = MatchResult-at_err (λ a. ⊤) (λ e. Ok y ≡ Err e) _ p tt
handed_on x y (suc k) p = ap Err (MatchResult-at_err (λ a. ⊤) (λ e. refused (suc k) ≡ e) _ p refl)

-- and the other value is given where the first is
pub given_too : {A B : Type 0} (x : A) (y : B) (k : ℕ) {z : A} → given x k ≡ Ok z → given y k ≡ Ok y
given_too x y k p = ap (given y) (none_applies x k p)
