-- A setting has 32 ports at most.
use native.Mathlib.Omega.{arith}
use Rattle.panels.proofs.Asked.{ports_are, ports_few}
use Rattle.panels.proofs.ranged.Ranged.ports.Goals as goal

pub overflow_mul-result : goal.overflow_mul-result
overflow_mul-result c = let x = c.args.self in omega (arith, ports_few x.r x.sizes x.in_range)

pub returns : goal.returns
returns c = let x = c.args.self in ports_are x.r x.sizes x.in_range
