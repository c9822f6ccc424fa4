-- The first refusal that applies is given, and where none applies the beams.
use Rattle.std.proofs.Common.{◌≡◌, sym, ◌∙◌}
use Rattle.std.proofs.lemmas.Result.{err_from_is_err_and}
use Rattle.ground.specs.First.{first}
use Rattle.refusal.proofs.Outcome.{none_applies}
use Rattle.report.specs.Rules.{rule, own_order}
use Rattle.report.specs.Beams.{beams_of}
use Rattle.report.proofs.InRange.{zero_in_range}
use Rattle.report.proofs.Judged.{unranked_said, given_first, given_sizes, index_said}
use Rattle.report.proofs.beams_of.Goals as goal

pub returns-in_err-ranges : goal.returns-in_err-ranges
unfolding beams_of
returns-in_err-ranges c =
    let p = err_from_is_err_and c.from_residual.result c.from_residual.ensures.1 in
    rw (p.1, p.2) (unranked_said c.args.r c.in_err-ranges.ensures)

pub invariant_of-beams : goal.invariant_of-beams
invariant_of-beams c = record {
  in_range = zero_in_range c.args.r (given_first c.args.r c.in_ok-ranges.ensures ∙ none_applies tt _ (sym c.in-Ok.ensures));
  sizes_are = given_sizes c.args.r c.in_ok-ranges.ensures;
}

pub returns-in-Err : goal.returns-in-Err
unfolding beams_of
returns-in-Err c = index_said c.args.r c.in_ok-ranges.ensures c.in-Err.ensures

pub returns-in-Ok : goal.returns-in-Ok
unfolding beams_of
returns-in-Ok c =
    let passed : first (rule c.args.r) own_order ≡ 0 =
    given_first c.args.r c.in_ok-ranges.ensures ∙ none_applies tt _ (sym c.in-Ok.ensures) in
    rw (passed, c.beams.ensures, given_sizes c.args.r c.in_ok-ranges.ensures)
