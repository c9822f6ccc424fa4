-- What is given where the first of some refusals has a number.
use Rattle.std.specs.Prelude.{ℕ, zero, suc, Result, Ok, Err}
use Rattle.refusal.specs.declared.Refusal.{Refusal}

abbrev pub refused : ℕ → Refusal
refused k = record { number = k }

-- a value where none applies, the number 0, and otherwise the refusal
abbrev pub given : {A : Type 0} → A → ℕ → Result A Refusal
given x zero = Ok x
given x (suc k) = Err (refused (suc k))

-- where there is nothing to give
abbrev pub outcome : ℕ → Result Unit Refusal
outcome k = given tt k
