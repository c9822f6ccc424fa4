-- The first of the parts of the order is the first of all.
use mathlib.Core.Path.{◌∙◌}
use mathlib.Core.List.{[], ◌∷◌}
use borrow.Author.Tests.{not-false}
use Rattle.std.proofs.lemmas.Result.{err_from_is_err_and}
use Rattle.ground.specs.Lists.{among}
use Rattle.ground.specs.First.{numbered}
use Rattle.multi.specs.Panels.{rule, indices}
use Rattle.multi.proofs.Parts.{stops, none_of, goes_on}
use Rattle.multi.proofs.Measured.refusal.Goals as goal

pub returns-in_err-on_setting : goal.returns-in_err-on_setting
returns-in_err-on_setting c =
    let p = err_from_is_err_and c.from_residual.result c.from_residual.ensures.1 in
    rw (p.1, p.2) (stops (rule c.args.self.report) (1 ∷ 2 ∷ 4 ∷ []) indices c.in_err-on_setting.ensures)

pub on_beams-requires : goal.on_beams-requires
unfolding rule among numbered
on_beams-requires c =
    not-false _ ((none_of (rule c.args.self.report) (1 ∷ 2 ∷ 4 ∷ []) indices tt c.in_ok-on_setting.ensures).at 1 tt)

pub returns-in_err-on_beams : goal.returns-in_err-on_beams
unfolding numbered
returns-in_err-on_beams c =
    let p = err_from_is_err_and c.from_residual-in_err-on_beams.result c.from_residual-in_err-on_beams.ensures.1 in
    let test = rule c.args.self.report in
    rw (p.1, p.2)
    (stops test (6 ∷ 7 ∷ 8 ∷ []) (12 ∷ 9 ∷ []) c.in_err-on_beams.ensures
    ∙ goes_on test (1 ∷ 2 ∷ 4 ∷ []) indices tt c.in_ok-on_setting.ensures)

pub returns : goal.returns
unfolding numbered
returns c =
    let test = rule c.args.self.report in
    c.on_phases.ensures
    ∙ goes_on test (6 ∷ 7 ∷ 8 ∷ []) (12 ∷ 9 ∷ []) tt c.in_ok-on_beams.ensures
    ∙ goes_on test (1 ∷ 2 ∷ 4 ∷ []) indices tt c.in_ok-on_setting.ensures
