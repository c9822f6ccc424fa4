-- Eight numbers are those of the report that they make.
use mathlib.Core.Path.{◌≡◌, sym}
use mathlib.Core.List.{List, [], ◌∷◌}
use Prim.Native.Nat.{ℕ, zero, suc, ◌+◌, ◌≤◌}
use native.Mathlib.Omega.{arith}
use lib.ListN.{length, drop, get_or, drop_of_length-le}
use lib.Seq.{drop-cons}
use Rattle.eight.specs.Numbers.{values_of, report_of}

-- so many elements, from a place on
places : ℕ → ℕ → List ℕ → List ℕ
places zero at xs = []
places (suc n) at xs = get_or xs at 0 ∷ places n (suc at) xs

by_places : (n at : ℕ) (xs : List ℕ) → at + n ≡ length xs → drop at xs ≡ places n at xs
unfolding places
by_places zero at xs e =
    let past : length xs ≤ at = omega arith in
    drop_of_length-le xs past
by_places (suc n) at xs e = rw (drop-cons xs at 0 (omega arith), by_places n (suc at) xs (omega arith))

pub values_of_eight : (xs : List ℕ) → length xs ≡ 8 → values_of (report_of xs) ≡ xs
unfolding places
values_of_eight xs e = sym (by_places 8 0 xs (omega arith))
