-- What is held where the loop goes on is a report, so that the step behind it is the next, further on in the log.
use Rattle.std.proofs.Common.{◌≡◌, refl, sym, ap, ◌∙◌, true, arith}
use Rattle.logs.specs.declared.LogStep.{LogStep}
use Rattle.logs.specs.declared.Taken.{Taken}
use Rattle.logs.specs.Log.{step_at}
use Rattle.logs.specs.Answer.{is_report, step_of, place_after}
use Rattle.logs.proofs.Counted.{none_reported, place_next, one_more, later}
use Rattle.logs.proofs.Answers.{report_kind, step_next}
use Rattle.logs.proofs.reports_in.Goals as goal

pub loop-last-init : goal.loop-last-init
unfolding place_after
loop-last-init c = record { reported = none_reported _; holds = c.taken_at-last.ensures }

-- what is held is a report
held : {s : LogStep} (t : Taken) → step_of t.answer t.next ≡ s → is_report t.answer ≡ true → s.kind ≡ 0
held t e is = sym (ap (λ (s : LogStep). s.kind) e) ∙ report_kind t.answer t.next is

pub loop-last-smaller : goal.loop-last-smaller
loop-last-smaller c =
    let l = c.loop-last in
    let report = held l.last l.invariant.holds (rw c.in-Read.is refl) in
    let more = one_more _ l.reports l.invariant.reported report in
    omega (arith, later _ l.reports l.invariant.reported report, more.within)

pub loop-last-preserved : goal.loop-last-preserved
loop-last-preserved c =
    let l = c.loop-last in
    let report = held l.last l.invariant.holds (rw c.in-Read.is refl) in
    let next = place_next _ l.reports l.invariant.reported report in
    let place = step_next l.last.answer l.last.next ∙ ap (λ (s : LogStep). s.next) l.invariant.holds ∙ sym next in
    record {
      reported = one_more _ l.reports l.invariant.reported report;
      holds = c.taken_at-last-in-Read.ensures ∙ ap (step_at _) place;
    }
