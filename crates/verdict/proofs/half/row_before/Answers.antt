-- Row 0 has the last before it, and others the one below.
use Rattle.std.proofs.Common.{arith}
use Rattle.std.proofs.lemmas.Grind.{common_steps}
use Rattle.single.proofs.Neighbours.{before_first, before_others}
use Rattle.verdict.proofs.half.row_before.Goals as goal

pub returns : goal.returns
returns c = grind (arith, common_steps, before_first, before_others)
