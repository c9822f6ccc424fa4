-- What was written reads back, with what stood behind it; and a log without fault, written again, is the same bytes.
use mathlib.Core.Path.{◌≡◌, refl, sym, ap, ◌∙◌}
use mathlib.Core.List.{List, [], ◌∷◌, ◌++◌, append-nil, append_assoc}
use Prim.Native.Nat.{ℕ, zero, suc, ◌+◌, ◌-◌, ◌*◌, ◌/◌, ◌%◌, ◌^◌, ◌<◌, ◌≤◌}
use native.Mathlib.Nat.{add-zero}
use native.Mathlib.Omega.{arith}
use lib.Dec.{leb}
use Rattle.std.specs.Prelude.{Ok}
use lib.ListN.{length, take, drop, get_or, length-append, length-take}
use lib.Seq.{take_all, drop_at}
use borrow.Author.Tests.{le-leb, lt-leb, leb-true, leb-false, le-ltb, eq-eqb}
use Rattle.ground.specs.Lists.{join, along, all_nil, all_cons}
use Rattle.ground.specs.Lent.{laid}
use Rattle.ground.proofs.Adds.{behind, laid_adds, laid_nothing}
use Rattle.ground.proofs.All.{all_or, all_drop}
use Rattle.ground.proofs.Booleans.{either}
use Rattle.ground.proofs.Lists.{length_join}
use Rattle.report.specs.declared.Report.{Report}
use Rattle.eight.specs.Numbers.{values_of, report_of, eights_of, eights}
use Rattle.eight.proofs.Eights.{eights_of_values}
use Rattle.groups.specs.Relied.{Below}
use Rattle.coding.specs.Coding.{coded, has_room, WritesReport}
use Rattle.coding.proofs.Placed.{is_placed}
use Rattle.logs.specs.declared.ReportsWritten.{ReportsWritten}
use Rattle.logs.specs.Log.{log_of, step_at}
use Rattle.logs.specs.Relied.{moved_by, none_yet, HandsOut, AllFit, ReadsBack, SameAgain}
use Rattle.logs.specs.Writing.{fitting, WritesReports}
use Rattle.logs.proofs.Parts.{step_later}
use Rattle.logs.proofs.Readback.{written_hands, read_written}

-- ---- reports that stand in a buffer

-- the step at a place depends on the bytes from there on alone
same_behind : (log other : List ℕ) (next : ℕ) → drop next log ≡ drop next other → (at : ℕ) → next ≤ at
    → step_at log at ≡ step_at other at
same_behind log other next e at h =
    let place : next + (at - next) ≡ at = omega arith in
    rw (← place)
    (step_later log next (at - next) ∙ ap (λ (xs : List ℕ). moved_by next (step_at xs (at - next))) e
    ∙ sym (step_later other next (at - next)))

laid_reads : (rs : List Report) (from : ℕ) (lent : List ℕ) → from + length (log_of rs) ≤ length lent → AllFit rs
    → ReadsBack lent (laid (log_of rs) from lent) from rs (from + length (log_of rs))
laid_reads rs from lent room fit =
    let next = from + length (log_of rs) in
    let front : length (take from lent) ≡ from = simp length-take (omega arith) in
    let here : drop from (laid (log_of rs) from lent) ≡ log_of rs ++ drop next lent =
    rw append_assoc (drop_at (take from lent) (log_of rs ++ drop next lent) from front) in
    record {
      reports = written_hands rs (laid (log_of rs) from lent) from (drop next lent) here fit;
      behind = same_behind _ lent next (behind (laid_adds (log_of rs) lent from room));
    }

-- A report that was written reads back, and behind it what stood there.
pub write_reads_back : {r : Report} {from : ℕ} {lent left : List ℕ} {next : ℕ} → Below (2 ^ 32) (values_of r)
    → WritesReport r from lent (Ok next) left → ReadsBack lent left from (r ∷ []) next
unfolding join AllFit
write_reads_back {r} {from} {lent} fits w =
    let p = is_placed w in
    let one : log_of (r ∷ []) ≡ coded r = append-nil (coded r) in
    rw (p.place, p.stands)
    (rw one at (laid_reads (r ∷ []) from lent (rw one p.room) (fits, tt)))

-- ---- several reports

-- those that fit lie within the buffer
fits_within : (rs : List Report) (from size : ℕ) → from ≤ size → from + length (log_of (take (fitting rs from size) rs)) ≤ size
unfolding fitting join has_room
fits_within [] from size h = omega arith
fits_within (r ∷ rs) from size h =
    let next = from + length (coded r) in
    let long = length-append (coded r) (log_of (take (fitting rs next size) rs)) in
    either (leb next size) (λ t. rw t (omega (arith, long, fits_within rs next size (leb-true next size t)))) (λ t. rw t (omega arith))

-- past its end none fits
none_past : (rs : List Report) (from size : ℕ) → size < from → fitting rs from size ≡ 0
unfolding fitting has_room
none_past [] from size h = refl
none_past (r ∷ rs) from size h = rw (lt-leb (from + length (coded r)) size (omega arith))

-- where there is room for all, all fit
all_fit : (rs : List Report) (from size : ℕ) → from + length (log_of rs) ≤ size → fitting rs from size ≡ length rs
unfolding fitting join has_room
all_fit [] from size h = refl
all_fit (r ∷ rs) from size h =
    let long = length-append (coded r) (log_of rs) in
    rw (le-leb (from + length (coded r)) size (omega arith), all_fit rs (from + length (coded r)) size (omega arith)) (omega arith)

-- numbers of 32 bits make reports of such numbers
take_fit : (n : ℕ) (rs : List Report) → AllFit rs → AllFit (take n rs)
unfolding AllFit
take_fit zero rs fit = tt
take_fit (suc n) [] fit = tt
take_fit (suc n) (r ∷ rs) fit = (fit.0, take_fit n rs fit.1)

eights_fit : (k : ℕ) (xs : List ℕ) → Below (2 ^ 32) xs → AllFit (eights_of k xs)
unfolding AllFit eights_of
eights_fit zero xs below = tt
eights_fit (suc k) xs below = (report_fits, eights_fit k (drop 8 xs) (all_drop 8 below))
  where
    at : (i : ℕ) → get_or xs i 0 < 2 ^ 32
    at i = all_or below (omega arith) i

    report_fits : Below (2 ^ 32) (values_of (report_of xs))
    report_fits =
        all_cons (at 0)
        (all_cons (at 1)
        (all_cons (at 2) (all_cons (at 3) (all_cons (at 4) (all_cons (at 5) (all_cons (at 6) (all_cons (at 7) all_nil)))))))

-- The reports that were written read back, and behind them what stood there.
pub write_all_reads_back : {numbers : List ℕ} {from : ℕ} {lent left : List ℕ} {given : ReportsWritten}
    → Below (2 ^ 32) numbers → WritesReports numbers from lent given left
    → ReadsBack lent left from (take given.reports (eights numbers)) given.next
unfolding join
write_all_reads_back {numbers} {from} {lent} {left} {given} below w =
    let rs = take given.reports (eights numbers) in
    let fit = take_fit given.reports (eights numbers) (eights_fit (length numbers / 8) numbers below) in
    either (leb from (length lent))
    (λ t.
    let room = rw (← w.reports) at (fits_within (eights numbers) from (length lent) (leb-true _ _ t)) in
    rw (w.next, w.leaves) (laid_reads rs from lent room fit))
    (λ t.
    let none : given.reports ≡ 0 = w.reports ∙ none_past (eights numbers) from (length lent) (leb-false _ _ t) in
    let place : given.next ≡ from = rw (none, add-zero) at w.next in
    let stays : left ≡ lent = rw none at w.leaves ∙ laid_nothing lent from in
    rw (none, place, stays) (record { reports = none_yet; behind = λ at h. refl }))

-- A log that hands out reports and then the end, written again from any place on where it has room, is the same bytes.
pub rewrites : {log : List ℕ} {rs : List Report} {from : ℕ} {lent left : List ℕ} {given : ReportsWritten} → Below 256 log
    → HandsOut log 0 rs → WritesReports (along rs values_of) from lent given left → from + length log ≤ length lent
    → SameAgain log rs from lent given left
rewrites {log} {rs} {from} {lent} {left} {given} below h w room =
    let same : log ≡ log_of rs = (read_written below h).0 in
    let reports : given.reports ≡ length rs =
    rw (eights_of_values rs) at w.reports ∙ all_fit rs from (length lent) (rw (← same) room) in
    let all : take given.reports (eights (along rs values_of)) ≡ rs =
    rw (eights_of_values rs) (take_all given.reports rs (omega arith)) in
    let many : length (along rs values_of) ≡ length rs * 8 = length_join values_of rs (report_of []) 8 (λ j k. refl) in
    let none : length (along rs values_of) % 8 ≡ 0 = omega arith in
    let few : length (along rs values_of) / 8 ≤ given.reports = omega arith in
    record {
      all = w.all ∙ rw (le-ltb _ _ few, eq-eqb _ 0 none);
      reports = reports;
      next = w.next ∙ rw (all, ← same);
      leaves = w.leaves ∙ rw (all, ← same);
    }
