-- A report whose beams are given is in range, and they are said of it.
use Rattle.std.proofs.Common.{sym, ◌∙◌}
use Rattle.verdict.proofs.Given.{ranged}
use Rattle.verdict.proofs.ranged.Ranged.of.Goals as goal

pub invariant_of-result : goal.invariant_of-result
invariant_of-result c =
    let (h, e) = ranged c.args.r (sym c.beams_of.ensures ∙ c.in_ok-b.was) in
    record { in_range = h; told = e }
