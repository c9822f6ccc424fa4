-- Each turn has one number more written into what is not written yet.
use Rattle.std.proofs.Common.{take}
use Rattle.ground.specs.Lists.{along}
use Rattle.ground.specs.Lent.{Adds}
use Rattle.groups.specs.Number.{code}
use Rattle.coding.proofs.write.Given as goal

abbrev pub invariant-loop-n : goal.invariant-loop-n
invariant-loop-n l = Adds (along (take l.n-index l.n-items) code) l.from l.fn.out l.at l.out
