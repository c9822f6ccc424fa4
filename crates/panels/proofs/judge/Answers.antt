-- The refusals are tried on what is needed, and what is given where none applies is the report's.
use mathlib.Core.Path.{sym, ◌∙◌}
use Rattle.std.proofs.lemmas.Result.{err_from_is_err_and}
use Rattle.multi.proofs.Said.{held}
use Rattle.panels.proofs.Judged.{refused, accepted}
use Rattle.panels.proofs.judge.Goals as goal

pub returns-in_err-admit : goal.returns-in_err-admit
returns-in_err-admit c =
    let a = c.args in
    let p = err_from_is_err_and c.from_residual.result c.from_residual.ensures.1 in
    rw (p.1, p.2)
    (refused a.r a.site.mask.now a.site.ranks a.site.offsets.now a.room _ c.needs.ensures c.in_err-admit.ensures)

pub returns : goal.returns
returns c =
    let a = c.args in
    accepted a.r a.site.mask.now a.site.ranks a.site.offsets.now a.room _ c.needs.ensures c.in_ok-admit.ensures
    c.accepted.ensures

pub invariant_of-x : goal.invariant_of-x
invariant_of-x c = let h = held c.args.r (sym c.own_of.ensures ∙ c.in-Ok.is) in record { in_range = h.in_range; sizes = h.sizes; beams = h.beams }
