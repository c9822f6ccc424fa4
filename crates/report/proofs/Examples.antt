-- A report with the largest indices that are in range, and for each refusal one that is a step out of it; and the order of
-- the list.
use mathlib.Core.Path.{◌≡◌, refl, ap}
use mathlib.Core.List.{List, [], ◌∷◌, map}
use Prim.Native.Nat.{ℕ}
use native.Mathlib.Omega.{arith}
use lib.ListN.{get_or, take}
use Rattle.ground.specs.Lists.{join, numbers_from, some}
use Rattle.ground.specs.First.{first}
use Rattle.settings.specs.Settings.{settings, is_setting}
use Rattle.settings.specs.Ranges.{mode_two, half_length, k_two, k_three, k_rows}
use Rattle.settings.specs.Ranges.{halves_i11, i11_values, halves_i12, i12_values, i13_values, i2_values}
use Rattle.report.specs.Rules.{rule, own_order, InRange}
use Rattle.report.specs.Listed.{asks, reports_of}
use Rattle.report.proofs.InRange.{in_range_zero, zero_in_range}

refusals : map (λ r. first (rule r) own_order) (
    asks 2 1 1 2 7 0 1 1
    ∷ asks 1 2 1 2 7 0 1 1
    ∷ asks 2 1 3 2 7 0 1 1
    ∷ asks 2 1 1 5 7 0 1 1
    ∷ asks 2 1 1 2 8 0 1 1
    ∷ asks 2 1 1 2 7 1 1 1
    ∷ asks 2 1 1 2 7 0 2 1
    ∷ asks 2 1 1 2 7 0 1 2
    ∷ []) ≡ 0 ∷ 1 ∷ 2 ∷ 4 ∷ 6 ∷ 7 ∷ 8 ∷ 9 ∷ []
unfolding
    some first settings is_setting mode_two half_length k_two k_three k_rows
    halves_i11 i11_values halves_i12 i12_values i13_values i2_values rule
refusals = refl

-- the last of each index is in range
pub last_in_range : InRange (asks 2 1 1 2 7 0 1 1)
last_in_range = zero_in_range (asks 2 1 1 2 7 0 1 1) (ap (λ (ks : List ℕ). get_or ks 0 0) refusals)

-- and one more is not
pub next_out_of_range : InRange (asks 2 1 1 2 8 0 1 1) → ⊥
next_out_of_range h =
    omega (arith, in_range_zero (asks 2 1 1 2 8 0 1 1) h, ap (λ (ks : List ℕ). get_or ks 4 0) refusals)

-- (2,1), mode 1, v = 2: i2 is counted up first, then i13, then i11
first_listed : take 5 (reports_of 2 1 1 2)
    ≡ asks 2 1 1 2 0 0 0 0 ∷ asks 2 1 1 2 0 0 0 1 ∷ asks 2 1 1 2 0 0 1 0 ∷ asks 2 1 1 2 0 0 1 1 ∷ asks 2 1 1 2 1 0 0 0 ∷ []
unfolding
    join numbers_from mode_two half_length k_two k_three k_rows
    halves_i11 i11_values halves_i12 i12_values i13_values i2_values reports_of
first_listed = refl
