-- The refusals of a list in parts: what one part says, and what the whole then says.
use mathlib.Core.Path.{◌≡◌, sym, ap, ◌∙◌}
use mathlib.Core.Logic.{◌≢◌}
use mathlib.Core.Bool.{Bool}
use mathlib.Core.List.{List, ◌++◌}
use Prim.Native.Nat.{ℕ, zero, suc}
use lib.Dec.{T}
use Rattle.std.specs.Prelude.{Ok, Err}
use Rattle.ground.specs.First.{first, numbered, None}
use Rattle.ground.proofs.First.{first_none, first_stop, none_first}
use Rattle.refusal.specs.declared.Refusal.{Refusal}
use Rattle.refusal.specs.Outcome.{outcome}
use Rattle.refusal.proofs.Outcome.{none_applies}

-- a refusal has a number
pub some_number : (k : ℕ) {e : Refusal} → Err e ≡ outcome k → k ≢ 0
some_number zero p = absurd cc
some_number (suc k) p = λ z. cc

module _ (test : ℕ → Bool) (xs ys : List ℕ) where
  -- a refusal of the first part is the first of all
  pub stops : {e : Refusal} → Err e ≡ outcome (first test xs) → Err e ≡ outcome (first test (xs ++ ys))
  stops p = p ∙ ap outcome (sym (first_stop test xs ys (some_number _ p)))

  -- and where the first part has none, the rest tells
  pub none_of : T (numbered xs) → Ok tt ≡ outcome (first test xs) → None test xs
  none_of t p = first_none test xs t (none_applies tt _ (sym p))

  pub goes_on : T (numbered xs) → Ok tt ≡ outcome (first test xs)
      → outcome (first test ys) ≡ outcome (first test (xs ++ ys))
  goes_on t p = ap outcome (sym (none_first test xs ys (none_of t p)))
