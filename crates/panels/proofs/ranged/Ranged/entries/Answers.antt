-- At most 4 layers of 32 ports.
use Prim.Native.Nat.{◌≤◌}
use native.Mathlib.Nat.{mul-le-mul}
use native.Mathlib.Omega.{arith}
use Rattle.multi.proofs.InRange.{set, v_few}
use Rattle.panels.proofs.ranged.Ranged.entries.Goals as goal

pub overflow_mul-result : goal.overflow_mul-result
overflow_mul-result c =
    let x = c.args.self in
    let few : c.ports.result ≤ 32 = rw c.ports.ensures (set x.r x.in_range).ports_few in
    omega (arith, mul-le-mul (v_few x.r x.in_range) few)
