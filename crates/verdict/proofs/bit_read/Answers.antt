-- i2 of two ports is small.
use Rattle.std.proofs.Common.{arith}
use Rattle.report.proofs.InRange.{two_ports_i2}
use Rattle.verdict.proofs.bit_read.Goals as goal

pub overflow_add-result : goal.overflow_add-result
overflow_add-result c = let x = c.args.x in omega (arith, two_ports_i2 x.r x.in_range c.requires)
