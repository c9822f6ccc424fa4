-- Reports that are written one after the other read back, and a log that is read to its end is what its reports are written
-- as.
use mathlib.Core.Path.{◌≡◌, refl, sym, ap, ◌∙◌}
use mathlib.Core.List.{List, [], ◌∷◌, ◌++◌, append_assoc}
use Prim.Native.Nat.{ℕ, ◌+◌}
use native.Mathlib.Nat.{add-zero}
use native.Mathlib.Omega.{arith}
use lib.ListN.{length, drop, length-append, length-drop, drop_of_length-le}
use Rattle.ground.specs.Lists.{join}
use Rattle.ground.proofs.Lists.{drop_behind}
use Rattle.report.specs.declared.Report.{Report}
use Rattle.groups.specs.Relied.{Below}
use Rattle.logs.specs.declared.LogStep.{LogStep}
use Rattle.logs.specs.Log.{coded, log_of, end_step, step_at}
use Rattle.logs.specs.Relied.{Stands, tells_report, HandsOut, no_more, one_and, AllFit, Hands, none_yet, one_then}
use Rattle.logs.proofs.Taking.{step_end}
use Rattle.logs.proofs.Told.{tells_step, report_stands, end_past}

-- every report whose numbers have at most 32 bits can stand in a log, from any place on
pub written_reads : (rs : List Report) (log : List ℕ) (at : ℕ) → drop at log ≡ log_of rs → AllFit rs → HandsOut log at rs
unfolding join AllFit
written_reads [] log at e fit = no_more (step_end log at (omega (arith, length-drop at log, ap length e)))
written_reads (r ∷ rs) log at e fit =
    let next = at + length (coded r) in
    let rest : drop next log ≡ log_of rs = drop_behind log (coded r) (log_of rs) at next e refl in
    let stands : Stands log at r next = record { fits = fit.0; bytes = rw rest e; place = refl } in
    one_and (tells_step (tells_report stands)) (written_reads rs log next rest fit.1)

-- and nothing else stands in a log that hands out reports and then the end
pub read_written : {log : List ℕ} {at : ℕ} {rs : List Report} → Below 256 log → HandsOut log at rs
    → (drop at log ≡ log_of rs) × AllFit rs
unfolding join AllFit
read_written {log} {at} below (no_more e) =
    (drop_of_length-le log (end_past log at below (ap (λ (s : LogStep). s.kind) e)), tt)
read_written {log} {at} below (one_and {next = next} {r = r} e more) =
    let s = report_stands log at below e in
    let rest = read_written below more in
    (s.bytes ∙ ap (λ (xs : List ℕ). coded r ++ xs) rest.0, (s.fits, rest.1))

-- ---- reports, whatever follows them

-- every report whose numbers have at most 32 bits can stand in a log, from any place on, whatever follows
pub written_hands : (rs : List Report) (log : List ℕ) (at : ℕ) (rest : List ℕ) → drop at log ≡ log_of rs ++ rest → AllFit rs
    → Hands log at rs (at + length (log_of rs))
unfolding join AllFit
written_hands [] log at rest e fit = rw add-zero none_yet
written_hands (r ∷ rs) log at rest e fit =
    let next = at + length (coded r) in
    let here : drop at log ≡ coded r ++ (log_of rs ++ rest) = e ∙ append_assoc (coded r) (log_of rs) rest in
    let after : drop next log ≡ log_of rs ++ rest = drop_behind log (coded r) (log_of rs ++ rest) at next here refl in
    let stands : Stands log at r next = record { fits = fit.0; bytes = rw after here; place = refl } in
    let place : next + length (log_of rs) ≡ at + length (coded r ++ log_of rs) =
    omega (arith, length-append (coded r) (log_of rs)) in
    rw (← place) (one_then (tells_step (tells_report stands)) (written_hands rs log next rest after fit.1))

-- and nothing else stands in a log that hands out reports
pub record Written (log : List ℕ) (at : ℕ) (rs : List Report) (last : ℕ) : Type 0 where
  pub stands : drop at log ≡ log_of rs ++ drop last log
  pub place : last ≡ at + length (log_of rs)
  pub fits : AllFit rs

pub hands_written : {log : List ℕ} {at last : ℕ} {rs : List Report} → Below 256 log → Hands log at rs last
    → Written log at rs last
unfolding join AllFit
hands_written below none_yet = record { stands = refl; place = omega arith; fits = tt }
hands_written {log} {at} {last} below (one_then {next = next} {r = r} {rs = rs} e more) =
    let s = report_stands log at below e in
    let rest = hands_written below more in
    record {
      stands =
          s.bytes ∙ ap (λ (xs : List ℕ). coded r ++ xs) rest.stands ∙ sym (append_assoc (coded r) (log_of rs) (drop last log));
      place = rest.place ∙ rw length-append (omega (arith, s.place));
      fits = (s.fits, rest.fits);
    }

-- those that are handed out up to the end are all
pub hands_out : {log : List ℕ} {at last : ℕ} {rs : List Report} → Hands log at rs last → step_at log last ≡ end_step last
    → HandsOut log at rs
hands_out none_yet ends = no_more ends
hands_out (one_then e more) ends = one_and e (hands_out more ends)

-- and all that are handed out are so up to an end
pub record UpToEnd (log : List ℕ) (at : ℕ) (rs : List Report) : Type 0 where
  pub last : ℕ
  pub reports : Hands log at rs last
  pub ends : step_at log last ≡ end_step last

pub up_to_end : {log : List ℕ} {at : ℕ} {rs : List Report} → HandsOut log at rs → UpToEnd log at rs
up_to_end {at = at} (no_more e) = record { last = at; reports = none_yet; ends = e }
up_to_end (one_and e more) = let u = up_to_end more in record { last = u.last; reports = one_then e u.reports; ends = u.ends }
