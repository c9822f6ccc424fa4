-- A lent list d over which a list s of n elements is written, from the front or from a place on: what stands there after
-- i stores. Over any type of element.
use mathlib.Core.Path.{◌≡◌, ◌∙◌}
use mathlib.Core.List.{List, ◌++◌}
use Prim.Native.Nat.{ℕ, ◌+◌, ◌<◌, ◌≤◌}
use native.Mathlib.Nat.{zero-add}
use native.Mathlib.Numerals.{add-one}
use native.Mathlib.Omega.{arith}
use lib.ListN.{length, take, drop, set, get_or, length-append}
use lib.Seq.{paste, paste-suc, take_all, take-append-le, take-append-add}

module _ {A : Type 0} where
  -- one store more, from place `at` on
  pub stored_at : {o : List A} {a : A} (d s : List A) (at n i : ℕ) (z : A) → o ≡ paste d at s i → a ≡ get_or s i z
      → length s ≡ n → i < n → at + n ≤ length d → set o (at + i) a ≡ paste d at s (i + 1)
  stored_at d s at n i z q e l h k = rw (q, e, add-one) (paste-suc d at s i z (omega arith) (omega arith))

  -- one store more, from the front on
  pub stored : {o : List A} {a : A} (d s : List A) (n i : ℕ) (z : A) → o ≡ take i s ++ drop i d → a ≡ get_or s i z
      → length s ≡ n → i < n → n ≤ length d → set o i a ≡ take (i + 1) s ++ drop (i + 1) d
  stored {o} d s n i z q e l h k = simp zero-add at (stored_at {o = o} d s 0 n i z (rw zero-add q) e l h (omega arith))

  -- all stores are made, from place `at` on
  pub stored_all_at : {o : List A} (d s : List A) (at n i : ℕ) → o ≡ paste d at s i → length s ≡ n → i ≡ n
      → o ≡ take at d ++ s ++ drop (at + n) d
  stored_all_at d s at n i q l e = q ∙ rw (e, take_all n s (omega arith))

  -- all stores are made, from the front on
  pub stored_all : {o : List A} (d s : List A) (n i : ℕ) → o ≡ take i s ++ drop i d → length s ≡ n → i ≡ n
      → o ≡ s ++ drop n d
  stored_all d s n i q l e = q ∙ rw (e, take_all n s (omega arith))

  -- s stands after p, and w of it are read
  pub take_over : {o : List A} (p s t : List A) (n w : ℕ) → o ≡ p ++ s ++ t → length p ≡ n → w ≤ length s
      → take (n + w) o ≡ p ++ take w s
  take_over {o} p s t n w q e h =
      let long : length p + w ≤ length (p ++ s) = rw length-append (omega arith) in
      rw (q, ← e, take-append-le (length p + w) (p ++ s) t long) (take-append-add p s w)
