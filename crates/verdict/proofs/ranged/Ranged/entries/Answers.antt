-- At most 8 layers of 32 ports.
use Rattle.std.proofs.Common.{arith}
use Rattle.verdict.proofs.Given.{entries_few}
use Rattle.verdict.proofs.ranged.Ranged.entries.Goals as goal

pub overflow_mul-result : goal.overflow_mul-result
overflow_mul-result c = let x = c.args.self in omega (arith, entries_few x.r x.in_range x.told)
