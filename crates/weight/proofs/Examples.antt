-- What the sums, powers and limits of Products are and are not: in small numbers, and for any layer against itself.
use mathlib.Core.Path.{◌≡◌, refl, ap, ap₂}
use mathlib.Core.List.{List, [], ◌∷◌, ◌++◌, map}
use Prim.Native.Nat.{ℕ, ◌+◌, ◌*◌, ◌≤◌}
use native.Mathlib.Omega.{arith}
use lib.IntN.{ℤ, pos, negsuc, neg_ℤ, nat_abs, ◌+ℤ◌, ◌*ℤ◌}
use lib.ListN.{length, take}
use Rattle.turn.specs.Cancel.{total}
use Rattle.weight.specs.declared.Weight.{Weight}
use Rattle.weight.specs.Table.{weight, pairs}
use Rattle.weight.specs.Products.{re, im, power, Within, full_power, limit, cross, port_power}
use Rattle.weight.proofs.Rules.{power_within}

-- ---- two layers of two ports

-- 1 + 2i and 5 - 6i
abbrev first : List Weight
first = pairs (pos 1 ∷ pos 2 ∷ pos 5 ∷ neg_ℤ (pos 6) ∷ [])

-- 3 + 4i and 7 + 8i
abbrev second : List Weight
second = pairs (pos 3 ∷ pos 4 ∷ pos 7 ∷ pos 8 ∷ [])

-- at one port: conjugate(1 + 2i) times 3 + 4i is 11 - 2i
pub cross_of_one_port : (cross re (take 1 first) (take 1 second) ≡ pos 11)
    × (cross im (take 1 first) (take 1 second) ≡ neg_ℤ (pos 2))
unfolding cross pairs
cross_of_one_port = (refl, refl)

-- at both: conjugate(5 - 6i) times 7 + 8i is -13 + 82i, so the sum is -2 + 80i
pub cross_of_two_ports : (cross re first second ≡ neg_ℤ (pos 2)) × (cross im first second ≡ pos 80)
unfolding cross pairs
cross_of_two_ports = (refl, refl)

-- the layers exchanged give its conjugate
pub cross_exchanged : (cross re second first ≡ neg_ℤ (pos 2)) × (cross im second first ≡ neg_ℤ (pos 80))
unfolding cross pairs
cross_exchanged = (refl, refl)

-- the powers of the four weights
pub powers_of_both : map power (first ++ second) ≡ 5 ∷ 61 ∷ 25 ∷ 113 ∷ []
unfolding pairs
powers_of_both = refl

-- port 0 has 5 in the first layer and 25 in the second, port 1 has 61 and 113
pub port_powers_of_both : (port_power 2 2 0 (first ++ second) ≡ 30) × (port_power 2 2 1 (first ++ second) ≡ 174)
unfolding port_power pairs
port_powers_of_both = (refl, refl)

-- the first layer alone
pub port_powers_of_first : (port_power 1 2 0 (first ++ second) ≡ 5) × (port_power 1 2 1 (first ++ second) ≡ 61)
unfolding port_power pairs
port_powers_of_first = (refl, refl)

-- ---- limits

-- 98 and 103 are at most 2 below 100 and at most 3 above
pub ends_within : Within 100 2 3 98 × Within 100 2 3 103
ends_within = (record { low = omega arith; high = omega arith }, record { low = omega arith; high = omega arith })

-- 97 is not
pub below_not_within : Within 100 2 3 97 → ⊥
below_not_within w = omega (arith, w.low)

-- 104 is not
pub above_not_within : Within 100 2 3 104 → ⊥
above_not_within w = omega (arith, w.high)

-- ---- a layer against itself

square : (z : ℤ) → z *ℤ z ≡ pos (nat_abs z * nat_abs z)
square (pos n) = refl
square (negsuc n) = refl

-- the cross-sum is the power of all ports
pub cross_itself : (es : List ℕ) → cross re (map weight es) (map weight es) ≡ pos (total (λ e. power (weight e)) es)
unfolding cross total
cross_itself [] = refl
cross_itself (e ∷ es) = ap₂ ◌+ℤ◌ (ap₂ ◌+ℤ◌ (square (weight e).x) (square (weight e).y)) (cross_itself es)

powers_sum : (es : List ℕ) → length es * full_power ≤ total (λ e. power (weight e)) es + length es * limit
unfolding total
powers_sum [] = omega arith
powers_sum (e ∷ es) = omega (arith, powers_sum es, (power_within e).low)

-- so it is larger than the limit of two layers that cancel
pub cross_itself_not_small : (e : ℕ) (es : List ℕ) → let ws = map weight (e ∷ es) in
    nat_abs (cross re ws ws) ≤ limit * length (e ∷ es) → ⊥
cross_itself_not_small e es k =
    omega (arith, powers_sum (e ∷ es), ap nat_abs (cross_itself (e ∷ es)))
