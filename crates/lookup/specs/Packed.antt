-- A weight in one number.
use Rattle.std.specs.Prelude.{ℕ, ◌+◌, ◌*◌}
use Rattle.std.specs.Int.{w16}
use Rattle.std.proofs.Common.{of_z}
use Rattle.weight.specs.declared.Weight.{Weight}

-- x in the lower 16 bits and y in the upper, each modulo 2^16
unfoldable pub packed : Weight → ℕ
packed w = of_z w16 w.x + 65536 * of_z w16 w.y
