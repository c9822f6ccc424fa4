-- Sums, and the lengths of lists that are joined.
use mathlib.Core.Path.{◌≡◌, refl, ap, ◌∙◌}
use mathlib.Core.List.{List, [], ◌∷◌, ◌++◌, map}
use Prim.Native.Nat.{ℕ, zero, suc, ◌+◌, ◌*◌}
use native.Mathlib.Omega.{arith}
use lib.ListN.{length, get_or, length-append}
use Rattle.ground.specs.Lists.{join, along, numbers_from, sum}
use Rattle.ground.proofs.Lists.{length_join}

sum_append : (xs ys : List ℕ) → sum (xs ++ ys) ≡ sum xs + sum ys
unfolding sum
sum_append [] ys = omega arith
sum_append (x ∷ xs) ys = omega (arith, sum_append xs ys)

-- the sum of lists that are joined is that of their sums
pub sum_along : {A : Type 0} (f : A → List ℕ) (xs : List A) → sum (along xs f) ≡ sum (map (λ x. sum (f x)) xs)
unfolding sum join
sum_along f [] = refl
sum_along f (x ∷ xs) = omega (arith, sum_append (f x) (along xs f), sum_along f xs)

pub sum_plus : {A : Type 0} (f g : A → ℕ) (xs : List A) → sum (map (λ x. f x + g x) xs) ≡ sum (map f xs) + sum (map g xs)
unfolding sum
sum_plus f g [] = refl
sum_plus f g (x ∷ xs) = omega (arith, sum_plus f g xs)

-- and their length that of their lengths
pub length_along : {A B : Type 0} (f : A → List B) (g : A → ℕ) → ((x : A) → length (f x) ≡ g x) → (xs : List A)
    → length (along xs f) ≡ sum (map g xs)
unfolding sum join
length_along f g same [] = refl
length_along f g same (x ∷ xs) = omega (arith, length-append (f x) (along xs f), same x, length_along f g same xs)

pub length_numbers_from : (k n : ℕ) → length (numbers_from k n) ≡ n
unfolding numbers_from
length_numbers_from k zero = refl
length_numbers_from k (suc n) = ap suc (length_numbers_from (suc k) n)

-- of lists of w elements for each of n numbers it is the product
pub length_times : {B : Type 0} (f : ℕ → List B) (w : ℕ) → ((i : ℕ) → length (f i) ≡ w) → (k n : ℕ)
    → length (along (numbers_from k n) f) ≡ n * w
length_times f w same k n =
    length_join f (numbers_from k n) 0 w (λ j h. same (get_or (numbers_from k n) j 0)) ∙ ap (λ (m : ℕ). m * w) (length_numbers_from k n)
