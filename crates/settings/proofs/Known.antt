-- What is known of every setting: tests computed over the list of them, and lifted to each.
use mathlib.Core.Path.{◌≡◌, sym, subst}
use mathlib.Core.Bool.{Bool, true, ◌&&◌, ◌||◌}
use Prim.Native.Nat.{ℕ, ◌*◌, ◌≤◌}
use native.Mathlib.Omega.{arith}
use lib.Dec.{T, eqb, leb, ltb, eqb→eq, leb→le, ltb→lt}
use Rattle.ground.specs.Lists.{each}
use Rattle.ground.proofs.Tests.{and_left, and_right, or_else}
use Rattle.ground.proofs.Lists.{at_some}
use Rattle.settings.specs.Settings.{settings, is_setting, ports, two_ports, across, down, mask_bytes}

module _ (n1 n2 : ℕ) where
  -- a test that passes at every setting passes at this one
  pub at_setting : (f : ℕ → ℕ → Bool) → T (each (λ s. f s.0 s.1) settings) → is_setting n1 n2 ≡ true → T (f n1 n2)
  unfolding is_setting
  at_setting f t e =
      at_some (T (f n1 n2)) (λ s. eqb n1 s.0 && eqb n2 s.1) (λ s. f s.0 s.1)
      (λ s same p.
      let e1 = eqb→eq n1 s.0 (and_left (eqb n1 s.0) (eqb n2 s.1) same) in
      let e2 = eqb→eq n2 s.1 (and_right (eqb n1 s.0) (eqb n2 s.1) same) in
      rw (e1, e2) p)
      settings t (subst T (sym e) tt)

  -- and one that passes at every setting above two ports passes at this one if it is above
  pub above_two : (f : ℕ → ℕ → Bool) → T (each (λ s. two_ports s.0 || f s.0 s.1) settings)
      → is_setting n1 n2 ≡ true → (n1 ≡ 1 → ⊥) → T (f n1 n2)
  above_two f t e more =
      or_else (two_ports n1) (f n1 n2) (λ q. more (eqb→eq n1 1 q)) (at_setting (λ a b. two_ports a || f a b) t e)

pub record Known (n1 n2 : ℕ) : Type 0 where
  pub n1_few : n1 ≤ 16
  pub n2_some : 1 ≤ n2
  pub n2_few : n2 ≤ 4
  pub antennas : n1 * n2 ≤ 16
  pub across_some : 1 ≤ across n1
  pub down_some : 1 ≤ down n2
  pub across_few : across n1 ≤ 64
  pub down_few : down n2 ≤ 16
  pub bits : across n1 * down n2 ≤ 256

pub known : (n1 n2 : ℕ) → is_setting n1 n2 ≡ true → Known n1 n2
unfolding settings each
known n1 n2 e =
    record {
      n1_few = leb→le n1 16 (at_setting n1 n2 (λ n1 n2. leb n1 16) tt e);
      n2_some = leb→le 1 n2 (at_setting n1 n2 (λ n1 n2. leb 1 n2) tt e);
      n2_few = leb→le n2 4 (at_setting n1 n2 (λ n1 n2. leb n2 4) tt e);
      antennas = leb→le (n1 * n2) 16 (at_setting n1 n2 (λ n1 n2. leb (n1 * n2) 16) tt e);
      across_some = leb→le 1 (across n1) (at_setting n1 n2 (λ n1 n2. leb 1 (across n1)) tt e);
      down_some = leb→le 1 (down n2) (at_setting n1 n2 (λ n1 n2. leb 1 (down n2)) tt e);
      across_few = leb→le (across n1) 64 (at_setting n1 n2 (λ n1 n2. leb (across n1) 64) tt e);
      down_few = leb→le (down n2) 16 (at_setting n1 n2 (λ n1 n2. leb (down n2) 16) tt e);
      bits = leb→le (across n1 * down n2) 256 (at_setting n1 n2 (λ n1 n2. leb (across n1 * down n2) 256) tt e);
    }

pub ports_few : (n1 n2 : ℕ) → is_setting n1 n2 ≡ true → ports n1 n2 ≤ 32
ports_few n1 n2 e = omega (arith, (known n1 n2 e).antennas)

-- a setting of two ports is (1,1)
pub one_by_one : (n1 n2 : ℕ) → is_setting n1 n2 ≡ true → n1 ≡ 1 → n2 ≡ 1
unfolding settings each
one_by_one n1 n2 e one =
    eqb→eq n2 1
    (or_else (ltb 1 n1) (eqb n2 1) (λ t. omega (arith, ltb→lt 1 n1 t)) (at_setting n1 n2 (λ a b. ltb 1 a || eqb b 1) tt e))

-- above two ports the mask has a bit for each beam, and at most 32 bytes
pub mask_bits : (n1 n2 : ℕ) → is_setting n1 n2 ≡ true → (n1 ≡ 1 → ⊥) → 8 * mask_bytes n1 n2 ≡ across n1 * down n2
unfolding settings each mask_bytes
mask_bits n1 n2 e more =
    eqb→eq (8 * mask_bytes n1 n2) (across n1 * down n2)
    (above_two n1 n2 (λ a b. eqb (8 * mask_bytes a b) (across a * down b)) tt e more)

pub mask_few : (n1 n2 : ℕ) → is_setting n1 n2 ≡ true → mask_bytes n1 n2 ≤ 32
unfolding settings each mask_bytes
mask_few n1 n2 e = leb→le (mask_bytes n1 n2) 32 (at_setting n1 n2 (λ a b. leb (mask_bytes a b) 32) tt e)
