-- The reports of a whole log: where each step starts, and why they come to an end.
use mathlib.Core.Path.{◌≡◌, refl, sym, ap, ◌∙◌}
use mathlib.Core.List.{List, []}
use Prim.Native.Nat.{ℕ, ◌+◌, ◌<◌, ◌≤◌}
use native.Mathlib.Numerals.{add-one}
use native.Mathlib.Omega.{arith}
use lib.Dec.{ltb}
use lib.ListN.{length, drop, length-append, length-drop}
use borrow.Author.Tests.{ltb-true, ltb-false}
use Rattle.ground.proofs.Booleans.{either}
use Rattle.report.specs.declared.Report.{Report}
use Rattle.groups.specs.declared.Fault.{Fault}
use Rattle.groups.specs.Given.{place_of}
use Rattle.groups.proofs.Bytes.{scan_bounds}
use Rattle.groups.proofs.Faults.{scan_begun}
use Rattle.logs.specs.declared.Answer.TheVariants.{Read, Faulty}
use Rattle.logs.specs.declared.LogStep.{LogStep}
use Rattle.logs.specs.declared.Taken.{Taken}
use Rattle.logs.specs.Log.{takes, step_at}
use Rattle.logs.specs.Answer.{step_of, place_after}
use Rattle.logs.proofs.Answers.{in_case}
use Rattle.logs.proofs.Taking.{step_end, step_begins, takes_by}

-- a report takes a byte for each of its numbers, and ends within the log
module _ (log : List ℕ) (from : ℕ) where
  abbrev Moves : ℕ → List ℕ → ℕ → LogStep → Type 0
  Moves left got at s = at ≤ length log → s.kind ≡ 0 → (at + left ≤ s.next) × (s.next ≤ length log)

  takes_moves : (left : ℕ) (got : List ℕ) (at : ℕ) → Moves left got at (takes log from left got at)
  takes_moves =
      takes_by log from Moves
      (λ got at within report. (omega arith, omega arith))
      (λ left got at n next s found rest within report.
      let b = scan_bounds (drop at log) 0 0 at found in
      let after = rest (omega (arith, b.within, length-drop at log)) report in
      (omega (arith, b.some), after.1))
      (λ left got at k p found within fault. absurd (omega arith))

  pub report_moves : (step_at log from).kind ≡ 0 → (from + 8 ≤ (step_at log from).next) × ((step_at log from).next ≤ length log)
  report_moves e =
      either (ltb from (length log))
      (λ t.
      let within = ltb-true from (length log) t in
      let begins = step_begins log from within in
      rw begins (takes_moves 8 [] from (omega arith) (rw begins at e)))
      (λ t.
      let past = rw (step_end log from (ltb-false from (length log) t)) at e in
      absurd (omega arith))

  -- a fault has its place within the log, or at its length
  abbrev Within : ℕ → List ℕ → ℕ → LogStep → Type 0
  Within left got at s = at ≤ length log → s.kind ≡ 2 → s.place ≤ length log

  pub fault_within : (step_at log from).kind ≡ 2 → (step_at log from).place ≤ length log
  fault_within e =
      either (ltb from (length log))
      (λ t.
      let inside = ltb-true from (length log) t in
      let begins = step_begins log from inside in
      rw begins
      (takes_by log from Within
      (λ got at within report. absurd (omega arith))
      (λ left got at n next s found rest within. rest
      (omega (arith, (scan_bounds (drop at log) 0 0 at found).within, length-drop at log)))
      (λ left got at k p found within fault.
      let b = scan_begun (drop at log) 0 0 at (omega arith) found in
      let long = ap length b.bytes ∙ length-append b.begun b.rest in
      omega (arith, b.place, long, length-drop at log))
      8 [] from (omega arith) (rw begins at e)))
      (λ t.
      let past = rw (step_end log from (ltb-false from (length log) t)) at e in
      absurd (omega arith))

  -- where there is no report the reader stays
  pub no_report_stays : ((step_at log from).kind ≡ 0 → ⊥) → (step_at log from).next ≡ from
  no_report_stays none =
      either (ltb from (length log))
      (λ t.
      let begins = step_begins log from (ltb-true from (length log) t) in
      rw begins
      (takes_by log from
      (λ (left : ℕ) (got : List ℕ) (at : ℕ) (s : LogStep). (s.kind ≡ 0 → ⊥) → s.next ≡ from)
      (λ got at some. absurd (some refl))
      (λ left got at n next s found rest. rest)
      (λ left got at k p found some. refl)
      8 [] from (rw begins at none)))
      (λ t. ap (λ (s : LogStep). s.next) (step_end log from (ltb-false from (length log) t)))

-- the same of what is taken at a place
module _ (log : List ℕ) (at : ℕ) (t : Taken) (e : step_of t.answer t.next ≡ step_at log at) where
  pub taken_report : (r : Report) → t.answer ≡ Read r → (at + 8 ≤ t.next) × (t.next ≤ length log)
  taken_report r is =
      let step = in_case t (Read r) is e in
      let moves = report_moves log at (sym (ap (λ (s : LogStep). s.kind) step)) in
      let next = ap (λ (s : LogStep). s.next) step in
      (omega (arith, moves.0), omega (arith, moves.1))

  pub taken_fault : (f : Fault) → t.answer ≡ Faulty f → place_of f ≤ length log
  taken_fault f is =
      let step = in_case t (Faulty f) is e in
      let place = ap (λ (s : LogStep). s.place) step in
      omega (arith, fault_within log at (sym (ap (λ (s : LogStep). s.kind) step)))

-- so many steps are reports: each took some bytes of the log
pub record Reported (log : List ℕ) (n : ℕ) : Type 0 where
  pub before : (k : ℕ) → k < n → (step_at log (place_after log k)).kind ≡ 0
  pub within : place_after log n ≤ length log
  pub few : n ≤ place_after log n

module _ (log : List ℕ) where
  pub none_reported : Reported log 0
  unfolding place_after
  none_reported = record { before = λ k h. absurd (omega arith); within = omega arith; few = omega arith }

  module _ (n : ℕ) (so_far : Reported log n) (report : (step_at log (place_after log n)).kind ≡ 0) where
    pub place_next : place_after log (n + 1) ≡ (step_at log (place_after log n)).next
    unfolding place_after
    place_next = rw (add-one n)

    pub one_more : Reported log (n + 1)
    one_more =
        let moves = report_moves log (place_after log n) report in
        record {
          before = λ k h.
              either (ltb k n) (λ t. so_far.before k (ltb-true k n t)) (λ t.
              let same : k ≡ n = omega (arith, ltb-false k n t) in
              rw same report);
          within = rw place_next moves.1;
          few = omega (arith, place_next, moves.0, so_far.few);
        }

    pub later : place_after log n < place_after log (n + 1)
    later = omega (arith, place_next, (report_moves log (place_after log n) report).0)
