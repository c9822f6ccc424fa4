-- conjugate(weight e) times weight g is near radius times the weight at g - e: tested on a quarter of a turn by a
-- quarter, and carried everywhere by the quarter rule.
use mathlib.Core.Path.{◌≡◌, refl, ap, ◌∙◌, subst}
use mathlib.Core.Bool.{Bool, ◌&&◌}
use mathlib.Core.List.{zip_with}
use Prim.Native.Nat.{ℕ, zero, suc, ◌+◌, ◌*◌, ◌/◌, ◌%◌, ◌<◌}
use native.Mathlib.Nat.{div-add-mod}
use native.Mathlib.Omega.{arith}
use lib.Dec.{T, leb}
use lib.IntN.{ℤ, pos, neg_ℤ, ◌+ℤ◌, ◌-ℤ◌, ◌*ℤ◌, neg_ℤ-neg_ℤ, neg_ℤ-+ℤ, +ℤ_comm}
use Rattle.ground.specs.Lists.{every}
use Rattle.ground.proofs.Tests.{two_le, every_at}
use Rattle.turn.specs.Phase.{quarter, phase, difference}
use Rattle.turn.proofs.Differences.{difference_back}
use Rattle.weight.specs.declared.Weight.{Weight}
use Rattle.weight.specs.Table.{radius, first_quarter, first_half, xs, ys, table, weight}
use Rattle.weight.specs.Products.{turned, re, im, off, Near, limit, product_off}
use Rattle.weight.proofs.Integers.{mul_neg, neg_mul, size_neg}
use Rattle.weight.proofs.Rules.{weight_same, quarter_more}

-- ---- the test

near? : Weight → Weight → Weight → Bool
near? w a g = leb (off (re a g) w.x) product_off && leb (off (im a g) w.y) product_off

near_yes : (w a g : Weight) → T (near? w a g) → Near product_off w a g
unfolding near?
near_yes w a g t =
    let p = two_le (off (re a g) w.x) product_off (off (im a g) w.y) product_off t in
    record { x = p.0; y = p.1 }

abbrev pair? : ℕ → ℕ → Bool
pair? d e = near? (weight d) (weight e) (weight (d + e))

row? : ℕ → Bool
row? d = every quarter (pair? d)

all_rows : T (every quarter row?)
unfolding every row? near? weight table zip_with xs ys first_half first_quarter
all_rows = tt

-- ---- what holds of a product holds of it with one factor or both a quarter further

on_re : (k ax ay gx gy wy : ℤ) → ax *ℤ neg_ℤ gy +ℤ ay *ℤ gx -ℤ k *ℤ neg_ℤ wy ≡ neg_ℤ (ax *ℤ gy -ℤ ay *ℤ gx -ℤ k *ℤ wy)
on_re k ax ay gx gy wy = simp (mul_neg, neg_ℤ-+ℤ, neg_ℤ-neg_ℤ)

near_second : {n : ℕ} (w a g : Weight) → Near n w a g → Near n (turned w) a (turned g)
near_second {n} w a g p = record {
  x = rw (on_re (pos radius) a.x a.y g.x g.y w.y, size_neg) p.y;
  y = simp (mul_neg, neg_ℤ-neg_ℤ) p.x;
}

near_both : {n : ℕ} (w a g : Weight) → Near n w a g → Near n w (turned a) (turned g)
near_both {n} w a g p = record {
  x = simp (mul_neg, neg_mul, neg_ℤ-neg_ℤ) (rw (+ℤ_comm (a.y *ℤ g.y) (a.x *ℤ g.x)) p.x);
  y = rw (neg_mul a.y, mul_neg a.x, neg_ℤ-neg_ℤ, +ℤ_comm (neg_ℤ (a.y *ℤ g.x)) (a.x *ℤ g.y)) p.y;
}

-- ---- everywhere: conjugate(weight e) times weight (d + e), against weight d

Holds : ℕ → ℕ → Type 0
Holds d e = Near product_off (weight d) (weight e) (weight (d + e))

first : (d e : ℕ) → d < quarter → e < quarter → Holds d e
unfolding Holds row?
first d e h k = near_yes _ _ _ (every_at quarter (pair? d) (every_at quarter row? all_rows d h) e k)

-- what holds below a quarter, and a quarter further wherever it holds, holds everywhere
climb : (P : ℕ → Type 0) → ((k : ℕ) → k < quarter → P k) → ((k : ℕ) → P k → P (k + quarter)) → (k : ℕ) → P k
climb P low on k = subst P (omega (arith, div-add-mod k quarter)) (up (k / quarter))
  where
    up : (q : ℕ) → P (k % quarter + quarter * q)
    up zero = subst P (omega arith) (low (k % quarter) (omega arith))
    up (suc q) = subst P (omega arith) (on (k % quarter + quarter * q) (up q))

further : (d e g : ℕ) → g ≡ d + e + quarter → weight g ≡ turned (weight (d + e))
further d e g p = ap weight p ∙ quarter_more (d + e)

holds : (d e : ℕ) → Holds d e
unfolding Holds
holds d e =
    climb (λ (k : ℕ). Holds k e)
    (λ k h. climb (λ (m : ℕ). Holds k m) (λ m l. first k m h l)
    (λ m p. rw (quarter_more m, further k m (k + (m + quarter)) (omega arith)) (near_both _ _ _ p)) e)
    (λ k p. rw (quarter_more k, further k e (k + quarter + e) (omega arith)) (near_second _ _ _ p)) d

pub product_tight : (e g : ℕ) → Near product_off (weight (difference e g)) (weight e) (weight g)
unfolding Holds
product_tight e g =
    subst (Near product_off (weight (difference e g)) (weight e))
    (weight_same (difference e g + e) g (ap phase (omega arith) ∙ difference_back e g)) (holds (difference e g) e)

pub product_within : (e g : ℕ) → Near limit (weight (difference e g)) (weight e) (weight g)
product_within e g = let p = product_tight e g in record { x = omega arith; y = omega arith }

-- the limit of `product_tight` occurs
pub product_highest : off (im (weight 20) (weight 76)) (weight (difference 20 76)).y ≡ product_off
unfolding difference weight table zip_with xs ys first_half first_quarter
product_highest = refl
