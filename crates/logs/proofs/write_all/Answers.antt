-- A report more stands where it was written; otherwise the next has no room. After the last, numbers may be left, fewer than
-- eight.
use Rattle.std.proofs.Common.{◌≡◌, refl, sym, ◌∙◌, ℕ, List, [], ◌*◌, ◌<◌, ◌/◌, ◌%◌, length, get_or, drop, Ok, Err, arith}
use borrow.Author.Tests.{eq-eqb, ne_eqb, eqb-true, eqb-false}
use Rattle.std.specs.Simd.{first_chunks}
use Rattle.report.specs.declared.Report.{Report}
use Rattle.eight.specs.Numbers.{report_of}
use Rattle.eight.proofs.Eights.{report_of_chunk}
use Rattle.logs.specs.declared.Unwritten.TheVariants.{Incomplete}
use Rattle.logs.proofs.Several.{none_standing, one_standing, not_standing, all_standing}
use Rattle.logs.proofs.write_all.Goals as goal

-- the next eight numbers make the next report
next_report : {r : Report} {chunks : List (List ℕ)} (k : ℕ) (numbers : List ℕ) (j : ℕ) → chunks ≡ first_chunks 8 k numbers
    → r ≡ report_of (get_or chunks j []) → j < k → r ≡ report_of (drop (8 * j) numbers)
next_report k numbers j cut is more = rw cut at is ∙ report_of_chunk k numbers j more

pub loop-reports-init : goal.loop-reports-init
loop-reports-init c = none_standing _ _ _

pub returns-in_default : goal.returns-in_default
returns-in_default c =
    let l = c.loop-reports in
    let chunks = c.as_chunks.ensures in
    let more : l.reports < length c.args.numbers.now / 8 = omega (arith, chunks.front_len) in
    let next = next_report _ c.args.numbers.now l.reports chunks.front c.report_of.ensures more in
    not_standing _ _ _ l.invariant more (rw next at c.in_default.ensures)

pub loop-reports-preserved : goal.loop-reports-preserved
loop-reports-preserved c =
    let l = c.loop-reports in
    let chunks = c.as_chunks.ensures in
    let more : l.reports < length c.args.numbers.now / 8 = omega (arith, chunks.front_len) in
    let next = next_report _ c.args.numbers.now l.reports chunks.front c.report_of.ensures more in
    one_standing _ _ _ l.invariant more (rw next at c.in-Ok.ensures)

pub returns-then-is_empty : goal.returns-then-is_empty
returns-then-is_empty c =
    let l = c.loop-reports in
    let chunks = c.as_chunks.ensures in
    let all : l.reports ≡ length c.as_chunks.result.0.now = omega (arith, l.invariant.few, chunks.front_len) in
    let none : length c.args.numbers.now % 8 ≡ 0 = omega (arith, chunks.back_len, eqb-true _ _ (sym c.if-is_empty.ensures)) in
    rw all at (all_standing _ _ _ l.invariant (omega (arith, chunks.front_len)) {all = Ok tt} (rw (eq-eqb _ 0 none) refl))

pub returns-else-is_empty : goal.returns-else-is_empty
returns-else-is_empty c =
    let l = c.loop-reports in
    let chunks = c.as_chunks.ensures in
    let all : l.reports ≡ length c.as_chunks.result.0.now = omega (arith, l.invariant.few, chunks.front_len) in
    let left = eqb-false _ _ (sym c.if-is_empty.ensures) in
    let some : length c.args.numbers.now % 8 ≡ 0 → ⊥ = λ none. left (chunks.back_len ∙ none) in
    rw all at (all_standing _ _ _ l.invariant (omega (arith, chunks.front_len)) {all = Err Incomplete} (rw (ne_eqb _ 0 some) refl))
