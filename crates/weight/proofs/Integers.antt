-- Laws of integers that the library has not.
use mathlib.Core.Path.{◌≡◌, refl, sym, ap, ap₂, ◌∙◌}
use Prim.Native.Nat.{ℕ, zero, suc, ◌+◌, ◌*◌, ◌≤◌}
use native.Mathlib.Nat.{le_refl, mul-zero}
use native.Mathlib.Omega.{arith}
use native.Mathlib.Decide.{dec_lt}
use lib.IntN.{ℤ, pos, negsuc, neg_ℤ, nat_abs, sub_ℕ, ◌+ℤ◌, ◌-ℤ◌, ◌*ℤ◌, suc_ℤ-*ℤ, zero-*ℤ, *ℤ_comm, +ℤ_assoc, +ℤ_comm}
use lib.IntN.{+ℤ_idl, +ℤ_idr, neg_ℤ-+ℤ, neg_ℤ-neg_ℤ}
use borrow.Author.Tests.{lt-ltb, le-ltb}
use Rattle.turn.proofs.NotZero.{across}

-- ---- signs and sizes

pub mul_neg : (a b : ℤ) → a *ℤ neg_ℤ b ≡ neg_ℤ (a *ℤ b)
mul_neg (pos a) (pos zero) = rw mul-zero
mul_neg (negsuc a) (pos zero) = rw mul-zero
mul_neg (pos a) (pos (suc n)) = refl
mul_neg (negsuc a) (pos (suc n)) = sym (neg_ℤ-neg_ℤ (pos (suc a * suc n)))
mul_neg (pos a) (negsuc n) = sym (neg_ℤ-neg_ℤ (pos (a * suc n)))
mul_neg (negsuc a) (negsuc n) = refl

pub neg_mul : (a b : ℤ) → neg_ℤ a *ℤ b ≡ neg_ℤ (a *ℤ b)
neg_mul a b = *ℤ_comm (neg_ℤ a) b ∙ mul_neg b a ∙ ap neg_ℤ (*ℤ_comm b a)

pub size_neg : (z : ℤ) → nat_abs (neg_ℤ z) ≡ nat_abs z
size_neg (pos zero) = refl
size_neg (pos (suc n)) = refl
size_neg (negsuc n) = refl

size_sub : (a b : ℕ) → nat_abs (sub_ℕ a b) ≤ a + b
size_sub a b = elim (dec_lt a b) [
  | yes h ↦ rw (lt-ltb a b h) (omega arith)
  | no h ↦ rw (le-ltb a b (omega arith)) (omega arith)
]

pub size_add : (a b : ℤ) → nat_abs (a +ℤ b) ≤ nat_abs a + nat_abs b
size_add (pos a) (pos b) = le_refl (a + b)
size_add (pos a) (negsuc b) = size_sub a (suc b)
size_add (negsuc a) (pos b) = omega (arith, size_sub b (suc a))
size_add (negsuc a) (negsuc b) = omega arith

-- ---- sums

pub interchange : (a b c d : ℤ) → (a +ℤ b) +ℤ (c +ℤ d) ≡ (a +ℤ c) +ℤ (b +ℤ d)
interchange a b c d =
    rw (+ℤ_assoc a b (c +ℤ d), ← +ℤ_assoc b c d, +ℤ_comm b c, +ℤ_assoc c b d, +ℤ_assoc a c (b +ℤ d))

pub sub_sums : (a b c d : ℤ) → (a +ℤ b) -ℤ (c +ℤ d) ≡ (a -ℤ c) +ℤ (b -ℤ d)
sub_sums a b c d = ap (λ z. (a +ℤ b) +ℤ z) (neg_ℤ-+ℤ c d) ∙ interchange a b (neg_ℤ c) (neg_ℤ d)

pub mul_sum : (k : ℕ) (a b : ℤ) → pos k *ℤ (a +ℤ b) ≡ pos k *ℤ a +ℤ pos k *ℤ b
mul_sum zero a b = zero-*ℤ (a +ℤ b) ∙ sym (ap₂ ◌+ℤ◌ (zero-*ℤ a) (zero-*ℤ b))
mul_sum (suc k) a b =
    suc_ℤ-*ℤ (pos k) (a +ℤ b)
    ∙ ap (λ z. z +ℤ (a +ℤ b)) (mul_sum k a b)
    ∙ interchange (pos k *ℤ a) (pos k *ℤ b) a b
    ∙ sym (ap₂ ◌+ℤ◌ (suc_ℤ-*ℤ (pos k) a) (suc_ℤ-*ℤ (pos k) b))

-- ---- an integer as the difference of two numbers, so that totals of numbers give sums of integers

unfoldable pub above : ℤ → ℕ
above (pos n) = n
above (negsuc n) = 0

unfoldable pub below : ℤ → ℕ
below z = above (neg_ℤ z)

pub parts : (z : ℤ) → z ≡ pos (above z) -ℤ pos (below z)
unfolding above below
parts (pos zero) = refl
parts (pos (suc n)) = sym (+ℤ_idr (pos (suc n)))
parts (negsuc n) = sym (+ℤ_idl (negsuc n))

pub add_parts : (a b c d : ℕ) → (pos a -ℤ pos b) +ℤ (pos c -ℤ pos d) ≡ pos (a + c) -ℤ pos (b + d)
add_parts a b c d =
    interchange (pos a) (neg_ℤ (pos b)) (pos c) (neg_ℤ (pos d)) ∙ ap (λ z. pos (a + c) +ℤ z) (sym (neg_ℤ-+ℤ (pos b) (pos d)))

-- three integers that sum to zero
pub zero_parts : (u v w : ℤ) → u +ℤ v +ℤ w ≡ pos 0 → above u + above v + above w ≡ below u + below v + below w
zero_parts u v w e =
    omega (
      arith,
      across (above u + above v + above w) (below u + below v + below w) 0 0
          (sym (add_parts (above u + above v) (below u + below v) (above w) (below w))
          ∙ ap (λ z. z +ℤ (pos (above w) -ℤ pos (below w))) (sym (add_parts (above u) (below u) (above v) (below v)))
          ∙ ap₂ ◌+ℤ◌ (ap₂ ◌+ℤ◌ (sym (parts u)) (sym (parts v))) (sym (parts w))
          ∙ e),
    )
