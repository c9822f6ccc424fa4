-- What is known of a number in the cases of a `match`: one that none of the cases 0 to n - 1 has is n or more, and so is one
-- that a case of numbers from n on has.
use mathlib.Core.Path.{◌≡◌}
use mathlib.Core.Logic.{◌⊎◌, inl, inr}
use Prim.Native.Nat.{ℕ, zero, suc, ◌≤◌}
use native.Mathlib.Omega.{arith}

-- what a `match` of n such cases leaves
abbrev pub NoneOf : ℕ → ℕ → Type 0
NoneOf zero e = Unit {0}
NoneOf (suc n) e = NoneOf n e × (e ≡ n → ⊥)

pub past : (n e : ℕ) → NoneOf n e → n ≤ e
past zero e none = omega arith
past (suc n) e none = omega (arith, past n e none.0, none.1)

-- what a case of n and k numbers more says, each 2 above the one before
abbrev pub OneFrom : ℕ → ℕ → ℕ → Type 0
OneFrom n zero e = e ≡ n
OneFrom n (suc k) e = (e ≡ n) ⊎ OneFrom (suc (suc n)) k e

pub one_from : (n k e : ℕ) → OneFrom n k e → n ≤ e
one_from n zero e p = omega (arith, p)
one_from n (suc k) e (inl p) = omega (arith, p)
one_from n (suc k) e (inr q) = omega (arith, one_from (suc (suc n)) k e q)
