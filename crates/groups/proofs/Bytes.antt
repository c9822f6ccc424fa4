-- The number at a place, byte by byte.
use mathlib.Core.Path.{◌≡◌, sym}
use mathlib.Core.Bool.{true, false}
use mathlib.Core.List.{List, [], ◌∷◌}
use Prim.Native.Nat.{ℕ, ◌+◌, ◌*◌, ◌%◌, ◌^◌, ◌<◌, ◌≤◌}
use native.Mathlib.Nat.{pow-suc, pow-le-pow_right}
use native.Mathlib.Numerals.{add-one}
use native.Mathlib.Omega.{arith}
use lib.Arith.{digits_lt}
use lib.Dec.{ltb, eqb}
use lib.ListN.{length, drop, get_or, drop_of_length-le}
use lib.Seq.{drop-cons}
use borrow.Author.Tests.{lt-ltb, le-ltb, ltb-false, eqb-true, eqb-false}
use Rattle.ground.proofs.Booleans.{either}
use Rattle.groups.specs.Number.{value, fault, is_padded, is_large, scan}

pub scan_ends : (bytes : List ℕ) (i n at : ℕ) → length bytes ≤ at → scan i n at (drop at bytes) ≡ fault 1 at
unfolding scan
scan_ends bytes i n at h = rw (drop_of_length-le bytes h)

module _ (bytes : List ℕ) (i n at : ℕ) (within : at < length bytes) where
  pub scan_padded : is_padded i (get_or bytes at 0) ≡ true → scan i n at (drop at bytes) ≡ fault 2 at
  unfolding scan
  scan_padded p = rw (drop-cons bytes at 0 within, p)

  pub scan_large : is_padded i (get_or bytes at 0) ≡ false → is_large i (get_or bytes at 0) ≡ true
      → scan i n at (drop at bytes) ≡ fault 3 at
  unfolding scan
  scan_large p l = rw (drop-cons bytes at 0 within, p, l)

  pub scan_last : is_padded i (get_or bytes at 0) ≡ false → is_large i (get_or bytes at 0) ≡ false → get_or bytes at 0 < 128
      → scan i n at (drop at bytes) ≡ value (n + get_or bytes at 0 % 128 * 128 ^ i) (at + 1)
  unfolding scan
  scan_last p l h = rw (drop-cons bytes at 0 within, p, l, lt-ltb (get_or bytes at 0) 128 h)

  pub scan_more : is_padded i (get_or bytes at 0) ≡ false → is_large i (get_or bytes at 0) ≡ false → 128 ≤ get_or bytes at 0
      → scan i n at (drop at bytes) ≡ scan (i + 1) (n + get_or bytes at 0 % 128 * 128 ^ i) (at + 1) (drop (at + 1) bytes)
  unfolding scan
  scan_more p l h = rw (drop-cons bytes at 0 within, p, l, le-ltb (get_or bytes at 0) 128 h, add-one at)

-- ---- five groups fit 32 bits

pub fifth_small : (b : ℕ) → is_large 4 b ≡ false → b ≤ 15
unfolding is_large
fifth_small b e = ltb-false 15 b e

-- a fifth byte has no top bit
pub not_fifth : (i b : ℕ) → is_large i b ≡ false → 128 ≤ b → i ≡ 4 → ⊥
not_fifth i b l h e = omega (arith, fifth_small b (rw e at l))

pub pow_next : (i : ℕ) → 128 ^ (i + 1) ≡ 128 ^ i * 128
pow_next i = rw (add-one i) (pow-suc 128 i)

-- four groups have 28 bits
four_groups : (i : ℕ) → i ≤ 3 → 128 ^ i * 128 ≤ 2 ^ 28
four_groups i h = let some : 0 < 128 = omega arith in omega (arith, pow-le-pow_right {n = 128} some h)

-- the number with one group more
pub group_fits : (i n b : ℕ) → i ≤ 4 → is_large i b ≡ false → n < 128 ^ i → n + b % 128 * 128 ^ i < 2 ^ 32
group_fits i n b few l h =
    either (eqb i 4)
    (λ t.
    let four = eqb-true i 4 t in
    let small : b % 128 < 16 = omega (arith, fifth_small b (rw four at l)) in
    rw four (omega (arith, digits_lt small (rw four at h))))
    (λ f.
    let not_four = eqb-false i 4 f in
    let group : b % 128 < 128 = omega arith in
    omega (arith, digits_lt group h, four_groups i (omega arith)))

-- the number's bytes so far, where another follows
pub record Goes (i n b : ℕ) : Type 0 where
  pub few : i ≤ 3
  pub weight : 128 ^ i * 128 ≡ 128 ^ (i + 1)
  pub fits : 128 ^ i * 128 < 2 ^ 32
  pub small : n + b % 128 * 128 ^ i < 128 ^ (i + 1)

pub goes_on : (i n b : ℕ) → i ≤ 4 → is_large i b ≡ false → 128 ≤ b → n < 128 ^ i → Goes i n b
goes_on i n b most l top h =
    let not_four = not_fifth i b l top in
    let few : i ≤ 3 = omega arith in
    let group : b % 128 < 128 = omega arith in
    record {
      few = few;
      weight = sym (pow_next i);
      fits = omega (arith, four_groups i few);
      small = omega (arith, pow_next i, digits_lt group h);
    }

-- ---- where a number ends: behind a byte, within the bytes, and after five bytes at most

pub record Bounds (i at m : ℕ) (bs : List ℕ) : Type 0 where
  pub some : at < m
  pub within : m ≤ at + length bs
  pub five : i ≤ 4 → m + i ≤ at + 5

pub scan_bounds : (bs : List ℕ) (i n at : ℕ) {v m : ℕ} → scan i n at bs ≡ value v m → Bounds i at m bs
unfolding scan
scan_bounds [] i n at e = let z : ◌≡◌ {A = ℕ} 0 1 = cc in absurd (omega arith)
scan_bounds (b ∷ bs) i n at {v} {m} e =
    either (is_padded i b) (λ p. let f = rw p at e in let z : ◌≡◌ {A = ℕ} 0 1 = cc in absurd (omega arith)) (λ p.
    either (is_large i b) (λ l. let f = rw (p, l) at e in let z : ◌≡◌ {A = ℕ} 0 1 = cc in absurd (omega arith)) (λ l.
    either (ltb b 128)
    (λ h.
    let f = rw (p, l, h) at e in
    let z : at + 1 ≡ m = cc in
    record { some = omega arith; within = omega arith; five = λ few. omega arith })
    (λ h.
    let rest = scan_bounds bs (i + 1) _ (at + 1) (rw (p, l, h) at e) in
    let not_four = not_fifth i b l (ltb-false b 128 h) in
    record {
      some = omega (arith, rest.some);
      within = omega (arith, rest.within);
      five = λ few. omega (arith, rest.five (later i few not_four));
    })))
  where
    later : (i : ℕ) → i ≤ 4 → (i ≡ 4 → ⊥) → i + 1 ≤ 4
    later i few not_four = omega arith
