-- A property of every element of a list.
use mathlib.Core.List.{List, ◌++◌, map, map-id}
use Prim.Native.Nat.{ℕ, zero, suc, ◌<◌}
use native.Mathlib.Omega.{arith}
use lib.ListN.{length, take, drop, get_or}
use Rattle.ground.specs.Lists.{All, all_nil, all_cons}

pub all_append : {P : ℕ → Type 0} {xs ys : List ℕ} → All P xs → All P ys → All P (xs ++ ys)
all_append all_nil q = q
all_append (all_cons h p) q = all_cons h (all_append p q)

pub all_map : {P Q : ℕ → Type 0} (f : ℕ → ℕ) → ((x : ℕ) → P x → Q (f x)) → {xs : List ℕ} → All P xs → All Q (map f xs)
all_map f h all_nil = all_nil
all_map f h (all_cons {x} p a) = all_cons (h x p) (all_map f h a)

pub all_each : {P Q : ℕ → Type 0} → ((x : ℕ) → P x → Q x) → {xs : List ℕ} → All P xs → All Q xs
all_each h a = rw map-id at (all_map (λ x. x) h a)

pub all_take : {P : ℕ → Type 0} (n : ℕ) {xs : List ℕ} → All P xs → All P (take n xs)
all_take zero a = all_nil
all_take (suc n) all_nil = all_nil
all_take (suc n) (all_cons h a) = all_cons h (all_take n a)

pub all_drop : {P : ℕ → Type 0} (n : ℕ) {xs : List ℕ} → All P xs → All P (drop n xs)
all_drop zero a = a
all_drop (suc n) all_nil = all_nil
all_drop (suc n) (all_cons h a) = all_drop n a

-- and so of each, by its place
pub all_at : {P : ℕ → Type 0} {xs : List ℕ} → All P xs → (d i : ℕ) → i < length xs → P (get_or xs i d)
all_at all_nil d i h = absurd (omega (arith, h))
all_at (all_cons p a) d zero h = p
all_at (all_cons p a) d (suc i) h = all_at a d i (omega arith)

-- also past the end, if it holds of what stands there
pub all_or : {P : ℕ → Type 0} {xs : List ℕ} → All P xs → {d : ℕ} → P d → (i : ℕ) → P (get_or xs i d)
all_or all_nil h i = h
all_or (all_cons p a) h zero = p
all_or (all_cons p a) h (suc i) = all_or a h i
