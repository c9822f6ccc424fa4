-- A report, number by number.
use mathlib.Core.Path.{◌≡◌, refl, ap, ◌∙◌}
use mathlib.Core.List.{List, [], ◌∷◌, ◌++◌}
use Prim.Native.Nat.{ℕ, zero, suc, ◌+◌, ◌-◌, ◌<◌, ◌≤◌}
use native.Mathlib.Numerals.{add-one}
use native.Mathlib.Omega.{arith}
use lib.ListN.{length, take, drop, set, length-drop}
use lib.Seq.{take_all, take-suc-set}
use borrow.Author.Tests.{lt-ltb, le-ltb}
use Rattle.eight.specs.Numbers.{report_of}
use Rattle.groups.specs.Number.{Found, value, fault, number_at}
use Rattle.groups.proofs.Bytes.{scan_bounds}
use Rattle.logs.specs.declared.LogStep.{LogStep}
use Rattle.logs.specs.Log.{report_step, end_step, fault_step, after, takes, step_at}

module _ (log : List ℕ) (at : ℕ) where
  pub step_end : length log ≤ at → step_at log at ≡ end_step at
  unfolding step_at
  step_end h = rw (le-ltb at (length log) h)

  pub step_begins : at < length log → step_at log at ≡ takes log at 8 [] at
  unfolding step_at
  step_begins h = rw (lt-ltb at (length log) h)

  pub number_within : {n next : ℕ} → at ≤ length log → number_at log at ≡ value n next → next ≤ length log
  number_within h e = omega (arith, (scan_bounds (drop at log) 0 0 at e).within, length-drop at log)

module _ (log : List ℕ) (from : ℕ) where
  pub takes_fault : (left : ℕ) (got : List ℕ) (at k p : ℕ) → 0 < left → number_at log at ≡ fault k p
      → takes log from left got at ≡ fault_step k p from
  unfolding takes after
  takes_fault zero got at k p h e = absurd (omega arith)
  takes_fault (suc left) got at k p h e = ap (after (takes log from left) from got) e

  takes_more : (left : ℕ) (got : List ℕ) (at n next : ℕ) → 0 < left → number_at log at ≡ value n next
      → takes log from left got at ≡ takes log from (left - 1) (got ++ n ∷ []) next
  unfolding takes after
  takes_more zero got at n next h e = absurd (omega arith)
  takes_more (suc left) got at n next h e =
      let fewer : suc left - 1 ≡ left = omega arith in
      rw fewer (ap (after (takes log from left) from got) e)

  pub takes_all : (left : ℕ) (values : List ℕ) (j at : ℕ) → left ≡ 0 → length values ≤ j
      → takes log from left (take j values) at ≡ report_step (report_of values) at
  unfolding takes
  takes_all left values j at z h = rw (z, take_all j values h)

  -- one more is stored
  pub takes_stored : (j : ℕ) (values : List ℕ) (at n next : ℕ) → j < 8 → length values ≡ 8 → number_at log at ≡ value n next
      → takes log from (8 - j) (take j values) at ≡ takes log from (8 - (j + 1)) (take (j + 1) (set values j n)) next
  takes_stored j values at n next h l e =
      let fewer : 8 - j - 1 ≡ 8 - (j + 1) = omega arith in
      rw (add-one j, take-suc-set values j n (omega arith))
      (takes_more (8 - j) (take j values) at n next (omega arith) e
      ∙ ap (λ (left : ℕ). takes log from left (take j values ++ n ∷ []) next) (rw (add-one j) at fewer))

  -- what holds of a report that is complete, of a number more before a rest, and of a fault, holds of all that is taken
  pub takes_by : (P : ℕ → List ℕ → ℕ → LogStep → Type 0)
      → ((got : List ℕ) (at : ℕ) → P zero got at (report_step (report_of got) at))
      → ((left : ℕ) (got : List ℕ) (at n next : ℕ) (s : LogStep) → number_at log at ≡ value n next
      → P left (got ++ n ∷ []) next s → P (suc left) got at s)
      → ((left : ℕ) (got : List ℕ) (at k p : ℕ) → number_at log at ≡ fault k p → P (suc left) got at (fault_step k p from))
      → (left : ℕ) (got : List ℕ) (at : ℕ) → P left got at (takes log from left got at)
  unfolding takes after
  takes_by P whole more broken zero got at = whole got at
  takes_by P whole more broken (suc left) got at =
      on_found (number_at log at) refl (λ n next. takes_by P whole more broken left (got ++ n ∷ []) next)
    where
      on_found : (f : Found) → number_at log at ≡ f
          → ((n next : ℕ) → P left (got ++ n ∷ []) next (takes log from left (got ++ n ∷ []) next))
          → P (suc left) got at (after (takes log from left) from got f)
      on_found (value n next) e then = more left got at n next _ e (then n next)
      on_found (fault k p) e then = broken left got at k p e
