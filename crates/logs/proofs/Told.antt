-- What a step tells of the log: a report that stands there in its shortest form, the end, or a report that breaks off; and
-- only the step of a place tells so.
use mathlib.Core.Path.{◌≡◌, refl, sym, ap, ◌∙◌}
use mathlib.Core.List.{List, [], ◌∷◌, ◌++◌, append-nil, append_assoc}
use Prim.Native.Nat.{ℕ, suc, ◌+◌, ◌-◌, ◌^◌, ◌<◌, ◌≤◌}
use native.Mathlib.Nat.{add-zero, zero-add}
use native.Mathlib.Omega.{arith}
use lib.Dec.{ltb}
use lib.ListN.{length, drop, length-append, length-drop}
use lib.Seq.{append_snoc}
use borrow.Author.Tests.{ltb-true, ltb-false}
use Rattle.ground.specs.Lists.{join, along, All, all_nil, all_cons}
use Rattle.ground.proofs.Booleans.{either}
use Rattle.ground.proofs.Lists.{drop_behind}
use Rattle.report.specs.declared.Report.{Report}
use Rattle.eight.specs.Numbers.{values_of, report_of}
use Rattle.eight.proofs.Numbers.{values_of_eight}
use Rattle.groups.specs.Number.{value, fault, code, number_at}
use Rattle.groups.specs.Relied.{Below, NumberStands, Shows, ends, padded, large}
use Rattle.groups.proofs.Coded.{number_reads, number_stands, code_some}
use Rattle.groups.proofs.Faults.{scan_begun, begun_scans}
use Rattle.logs.specs.declared.LogStep.{LogStep}
use Rattle.logs.specs.Log.{coded, report_step, fault_step, after, takes, step_at}
use Rattle.logs.specs.Relied.{Stands, Breaks, Tells, tells_report, tells_end, tells_fault}
use Rattle.logs.proofs.Taking.{step_end, step_begins, takes_fault, takes_by}

-- ---- what is taken stands there

module _ (log : List ℕ) (from : ℕ) (below : Below 256 log) where
  -- so many numbers, up to the next place
  record Run (count at : ℕ) (numbers : List ℕ) (next : ℕ) : Type 0 where
    long : length numbers ≡ count
    fits : Below (2 ^ 32) numbers
    bytes : drop at log ≡ along numbers code ++ drop next log
    place : next ≡ at + length (along numbers code)

  no_numbers : (at : ℕ) → Run 0 at [] at
  unfolding join
  no_numbers at = record { long = refl; fits = all_nil; bytes = refl; place = omega arith }

  number_and : {count at n next last : ℕ} {numbers : List ℕ} → NumberStands log at n next → Run count next numbers last
      → Run (suc count) at (n ∷ numbers) last
  unfolding join
  number_and {n = n} {numbers = numbers} s t = record {
    long = ap suc t.long;
    fits = all_cons s.fits t.fits;
    bytes = s.stands ∙ ap (λ (xs : List ℕ). code n ++ xs) t.bytes ∙ sym (append_assoc (code n) (along numbers code) _);
    place = t.place ∙ rw length-append (omega (arith, s.place));
  }

  -- the numbers that are left stand there, or some of them and a fault
  data Rest (left : ℕ) (got : List ℕ) (at : ℕ) : LogStep → Type 0 where
    whole : {numbers : List ℕ} {next : ℕ} {r : Report} → r ≡ report_of (got ++ numbers) → Run left at numbers next
        → Rest left got at (report_step r next)
    broken : {count next k p : ℕ} {numbers begun : List ℕ} → count < left → Run count at numbers next
        → All (λ (b : ℕ). 128 ≤ b) begun → drop next log ≡ begun ++ drop p log → p ≡ next + length begun
        → Shows k (length begun) (drop p log) → Rest left got at (fault_step k p from)

  one_more : (left : ℕ) (got : List ℕ) (at n next : ℕ) (s : LogStep) → number_at log at ≡ value n next
      → Rest left (got ++ n ∷ []) next s → Rest (suc left) got at s
  one_more left got at n next s found (whole {numbers} e run) =
      whole (e ∙ ap report_of (append_snoc got n numbers)) (number_and (number_stands below at found) run)
  one_more left got at n next s found (broken {count} few run topped bytes place shows) =
      broken {count = suc count} (omega arith) (number_and (number_stands below at found) run) topped bytes place shows

  breaks_off : (left : ℕ) (got : List ℕ) (at k p : ℕ) → number_at log at ≡ fault k p
      → Rest (suc left) got at (fault_step k p from)
  breaks_off left got at k p found =
      let t = scan_begun (drop at log) 0 0 at (omega arith) found in
      let rest = drop_behind log t.begun t.rest at p t.bytes t.place in
      let shows = rw (zero-add (length t.begun)) at t.shows in
      broken {count = 0} {k = k} {p = p} (omega arith) (no_numbers at) t.topped (rw rest t.bytes) t.place
      (rw rest shows)

  rests : (left : ℕ) (got : List ℕ) (at : ℕ) → Rest left got at (takes log from left got at)
  rests =
      takes_by log from Rest (λ got at. whole (ap report_of (sym (append-nil got))) (no_numbers at)) one_more breaks_off

  tells_rest : {s : LogStep} → from < length log → Rest 8 [] from s → Tells log from s
  tells_rest inside (whole {numbers} {next} {r} e run) =
      let same : values_of (report_of numbers) ≡ numbers = values_of_eight numbers run.long in
      let stands : Stands log from (report_of numbers) next = record {
        fits = rw same run.fits;
        bytes = run.bytes ∙ ap (λ (xs : List ℕ). along xs code ++ drop next log) (sym same);
        place = run.place ∙ ap (λ (xs : List ℕ). from + length (along xs code)) (sym same);
      } in
      tells_report {r = r} {next = next} (rw e stands)
  tells_rest inside (broken {p = p} {numbers = numbers} {begun = begun} few run topped bytes place shows) =
      tells_fault {p = p} (record {
        inside = inside;
        numbers = numbers;
        few = omega (arith, run.long);
        fits = run.fits;
        begun = begun;
        topped = topped;
        bytes = run.bytes ∙ rw bytes (sym (append_assoc (along numbers code) begun _));
        place = omega (arith, run.place);
        shows = shows;
      })

-- what a step tells is so
pub step_tells : (log : List ℕ) (at : ℕ) → Below 256 log → Tells log at (step_at log at)
step_tells log at below =
    either (ltb at (length log))
    (λ t.
    let inside = ltb-true at (length log) t in
    rw (step_begins log at inside) (tells_rest log at below inside (rests log at below 8 [] at)))
    (λ t.
    let past = ltb-false at (length log) t in
    rw (step_end log at past) (tells_end past))

-- by its kind

module _ (log : List ℕ) (at : ℕ) (below : Below 256 log) where
  pub report_stands : {r : Report} {next : ℕ} → step_at log at ≡ report_step r next → Stands log at r next
  report_stands {r} {next} e = by_kind (step_tells log at below) e
    where
      by_kind : {s : LogStep} → Tells log at s → s ≡ report_step r next → Stands log at r next
      by_kind (tells_report {r = r'} {next = next'} t) same =
          let report : r' ≡ r = ap (λ (s : LogStep). s.report) same in
          let place : next' ≡ next = ap (λ (s : LogStep). s.next) same in
          rw (← report, ← place) t
      by_kind (tells_end past) same = let z = ap (λ (s : LogStep). s.kind) same in absurd (omega arith)
      by_kind (tells_fault b) same = let z = ap (λ (s : LogStep). s.kind) same in absurd (omega arith)

  pub fault_breaks : {k p next : ℕ} → step_at log at ≡ fault_step k p next → Breaks log at k p
  fault_breaks {k} {p} {next} e = by_kind (step_tells log at below) e
    where
      by_kind : {s : LogStep} → Tells log at s → s ≡ fault_step k p next → Breaks log at k p
      by_kind (tells_report t) same = let z = ap (λ (s : LogStep). s.kind) same in absurd (omega arith)
      by_kind (tells_end past) same = let z = ap (λ (s : LogStep). s.kind) same in absurd (omega arith)
      by_kind (tells_fault {k = k'} {p = p'} b) same =
          let number : k' ≡ k = ap (λ (s : LogStep). s.fault) same in
          let place : p' ≡ p = ap (λ (s : LogStep). s.place) same in
          rw (← number, ← place) b

  pub end_past : (step_at log at).kind ≡ 1 → length log ≤ at
  end_past e = by_kind (step_tells log at below) e
    where
      by_kind : {s : LogStep} → Tells log at s → s.kind ≡ 1 → length log ≤ at
      by_kind (tells_report t) z = absurd (omega arith)
      by_kind (tells_end past) z = past
      by_kind (tells_fault b) z = absurd (omega arith)

-- a fault by its number: 1 at the log's length

nothing_follows : {k i : ℕ} {rest : List ℕ} → Shows k i rest → k ≡ 1 → rest ≡ []
nothing_follows (ends h) e = refl
nothing_follows (padded h few) e = absurd (omega arith)
nothing_follows (large h) e = absurd (omega arith)

pub ends_at_length : {log : List ℕ} {at p : ℕ} → Breaks log at 1 p → p ≡ length log
ends_at_length {log} {at} {p} b =
    let rest = ap length (nothing_follows b.shows refl) in
    let long = ap length b.bytes ∙ length-append (along b.numbers code ++ b.begun) (drop p log) in
    let front = length-append (along b.numbers code) b.begun in
    omega (arith, b.inside, length-drop at log, b.place, long, front, rest)

-- ---- and only that step tells it

module _ (log : List ℕ) (from : ℕ) where
  -- numbers that stand there are taken one after the other
  takes_over : (ns : List ℕ) (count left : ℕ) (got : List ℕ) (at : ℕ) (bs : List ℕ) → count ≡ length ns + left
      → drop at log ≡ along ns code ++ bs → Below (2 ^ 32) ns
      → takes log from count got at ≡ takes log from left (got ++ ns) (at + length (along ns code))
  unfolding join takes after
  takes_over [] count left got at bs c e fit = let same : count ≡ left = omega arith in rw
      (same, append-nil got, add-zero at)
  takes_over (n ∷ ns) count left got at bs c e (all_cons small fit) =
      let one_more : count ≡ suc (length ns + left) = omega arith in
      let here : drop at log ≡ code n ++ (along ns code ++ bs) = e ∙ append_assoc (code n) (along ns code) bs in
      let found : number_at log at ≡ value n (at + length (code n)) = rw here
      (number_reads n at (along ns code ++ bs) small) in
      let next = drop_behind log (code n) (along ns code ++ bs) at (at + length (code n)) here refl in
      let place : at + length (code n) + length (along ns code) ≡ at + length (code n ++ along ns code) =
      rw length-append (omega arith) in
      ap (λ (c : ℕ). takes log from c got at) one_more
      ∙ ap (after (takes log from (length ns + left)) from got) found
      ∙ takes_over ns (length ns + left) left (got ++ n ∷ []) (at + length (code n)) bs refl next fit
      ∙ rw (append_snoc got n ns, place)

some_bytes : (n : ℕ) (ns : List ℕ) → 0 < length (along (n ∷ ns) code)
unfolding join
some_bytes n ns = rw length-append (omega (arith, code_some n))

-- so a report is not past the end
report_inside : {log : List ℕ} {at next : ℕ} (r : Report) → Stands log at r next → at < length log
report_inside {log} {at} {next} r s =
    let some = some_bytes r.n1 (r.n2 ∷ r.mode ∷ r.v ∷ r.i11 ∷ r.i12 ∷ r.i13 ∷ r.i2 ∷ []) in
    omega (arith, length-drop at log, ap length s.bytes ∙ length-append (coded r) (drop next log), some)

pub tells_step : {log : List ℕ} {at : ℕ} {s : LogStep} → Tells log at s → step_at log at ≡ s
unfolding takes
tells_step {log} {at} (tells_report {r} {next} s) =
    step_begins log at (report_inside r s)
    ∙ takes_over log at (values_of r) 8 0 [] at (drop next log) refl s.bytes s.fits
    ∙ ap (report_step r) (sym s.place)
tells_step {log} {at} (tells_end past) = step_end log at past
tells_step {log} {at} (tells_fault {k} {p} b) =
    let done = length b.numbers in
    let last = at + length (along b.numbers code) in
    let bytes = b.bytes ∙ append_assoc (along b.numbers code) b.begun (drop p log) in
    let here = drop_behind log (along b.numbers code) (b.begun ++ drop p log) at last bytes refl in
    let place : last + length b.begun ≡ p = sym b.place in
    let found : number_at log last ≡ fault k p =
    rw here (begun_scans b.begun 0 0 last (omega arith) b.topped b.shows ∙ ap (fault k) place) in
    step_begins log at b.inside
    ∙ takes_over log at b.numbers 8 (8 - done) [] at (b.begun ++ drop p log) (omega (arith, b.few)) bytes b.fits
    ∙ takes_fault log at (8 - done) b.numbers last k p (omega (arith, b.few)) found
