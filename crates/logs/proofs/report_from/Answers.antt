-- A number more is stored, a number that is broken is the report's fault, and eight numbers are the report.
use Rattle.std.proofs.Common.{rules, ◌≡◌, sym, ◌∙◌, ◌-◌, take, Err, arith}
use Rattle.logs.proofs.Taking.{takes_fault, takes_all, takes_stored}
use Rattle.logs.proofs.report_from.Goals as goal

pub loop-value-preserved : goal.loop-value-preserved
loop-value-preserved c =
    let l = c.loop-value in
    let found = sym c.in_ok-number.ensures in
    λ from. sym (takes_stored _ from l.value-index l.value-items l.at _ _ (omega arith) (omega arith) found) ∙ l.invariant from

pub returns-in_err-number : goal.returns-in_err-number
returns-in_err-number c =
    let l = c.loop-value in
    let broken : c.from_residual.result ≡ Err c.in_err-number.field-0.0 = search rules in
    let fault = sym c.in_err-number.ensures in
    λ from. rw broken (sym (l.invariant from) ∙ takes_fault _ _ (8 - l.value-index) (take l.value-index l.value-items) l.at _ _ (omega arith) fault)

pub returns : goal.returns
returns c =
    let l = c.loop-value in
    λ from. rw c.report_of.ensures
    (sym (l.invariant from) ∙ takes_all _ _ (8 - l.value-index) l.value-items l.value-index l.at (omega arith) (omega arith))
