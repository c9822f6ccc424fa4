-- Numbers of three digits at most.
use mathlib.Core.Path.{◌≡◌, refl}
use mathlib.Core.Bool.{true}
use mathlib.Core.List.{List, [], ◌∷◌}
use Prim.Native.Nat.{ℕ, ◌<◌}
use native.Mathlib.Omega.{arith}
use lib.Dec.{leb}
use borrow.Author.Tests.{le-leb, leb-true}
use Rattle.std.specs.List.{list_all}
use Rattle.ground.specs.Lists.{each, All, all_nil, all_cons}
use Rattle.ground.proofs.Booleans.{and_true_left, and_true_right}
use Rattle.text.specs.Text.{three_digits}

-- as the library tests them
pub short_tested : (xs : List ℕ) → list_all (λ x. leb x 999) xs ≡ three_digits xs
unfolding three_digits each
short_tested [] = refl
short_tested (x ∷ xs) = rw (short_tested xs)

pub short_all : (xs : List ℕ) → three_digits xs ≡ true → All (λ x. x < 1000) xs
unfolding three_digits each
short_all [] e = all_nil
short_all (x ∷ xs) e =
    let few = leb-true x 999 (and_true_left (leb x 999) (three_digits xs) e) in
    all_cons (omega (arith, few)) (short_all xs (and_true_right (leb x 999) (three_digits xs) e))

pub all_short : {xs : List ℕ} → All (λ x. x < 1000) xs → three_digits xs ≡ true
unfolding three_digits each
all_short all_nil = refl
all_short (all_cons {x} h a) = rw (le-leb x 999 (omega arith), all_short a)
