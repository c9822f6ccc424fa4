-- A number's code reads back as the number, and a number that is read stood there in its code, than which none is shorter.
use mathlib.Core.Path.{◌≡◌, refl, sym, ap, ◌∙◌}
use mathlib.Core.Bool.{true, false, true≢false}
use mathlib.Core.Logic.{◌⊎◌, inl, inr}
use mathlib.Core.List.{List, [], ◌∷◌, ◌++◌}
use Prim.Native.Nat.{ℕ, zero, suc, ◌+◌, ◌*◌, ◌/◌, ◌%◌, ◌^◌, ◌<◌, ◌≤◌}
use native.Mathlib.Nat.{pow-suc, pow-le-pow_right, add-mul, mul_assoc, mul_comm, div-add-mod'}
use native.Mathlib.Omega.{arith}
use lib.Dec.{ltb, eqb}
use lib.ListN.{length, drop}
use borrow.Author.Tests.{lt-ltb, le-ltb, ltb-true, ltb-false, ne_eqb}
use Rattle.ground.specs.Lists.{all_cons}
use Rattle.ground.proofs.All.{all_drop}
use Rattle.ground.proofs.Booleans.{either, and_nothing}
use Rattle.ground.proofs.Lists.{drop_behind}
use Rattle.groups.specs.Number.{value, code_in, code, is_padded, is_large, scan, number_at}
use Rattle.groups.specs.Relied.{Below, NumberStands, worth}
use Rattle.groups.proofs.Bytes.{fifth_small, pow_next}

-- a byte that is not zero pads nothing; nor does the first
pub not_padded : (i b : ℕ) → (i ≡ 0) ⊎ (0 < b) → is_padded i b ≡ false
unfolding is_padded
not_padded i b (inl z) = rw (le-ltb 0 i (omega arith))
not_padded i b (inr h) = rw (ne_eqb b 0 (λ z. omega arith)) (and_nothing (ltb 0 i))

pub not_large : (i b : ℕ) → (i ≡ 4 → b ≤ 15) → is_large i b ≡ false
unfolding is_large
not_large i b h =
    either (eqb i 4)
    (λ e. rw e (le-ltb 15 b (h (eqb_is i 4 e))))
    (λ e. rw e)
  where
    eqb_is : (m n : ℕ) → eqb m n ≡ true → m ≡ n
    eqb_is m n e = package.borrow.Author.Tests.eqb-true m n e

-- the lowest group and the others
pub groups : (s n p : ℕ) → s + n % 128 * p + n / 128 * (p * 128) ≡ s + n * p
groups s n p =
    let whole : n / 128 * 128 * p + n % 128 * p ≡ n * p = rw (← add-mul, div-add-mod' n 128) in
    let turned : n / 128 * (p * 128) ≡ n / 128 * 128 * p = rw (mul_comm p 128) (sym (mul_assoc (n / 128) 128 p)) in
    omega (arith, whole, turned)

-- ---- one byte

pub code_one : (k n : ℕ) → n < 128 → code_in (suc k) n ≡ n ∷ []
unfolding code_in
code_one k n h = rw (lt-ltb n 128 h)

pub code_more : (k n : ℕ) → 128 ≤ n → code_in (suc k) n ≡ (128 + n % 128) ∷ code_in k (n / 128)
unfolding code_in
code_more k n h = rw (le-ltb n 128 h)

module _ (i s at b : ℕ) (bs : List ℕ) (p : is_padded i b ≡ false) (l : is_large i b ≡ false) where
  byte_last : b < 128 → scan i s at (b ∷ bs) ≡ value (s + b % 128 * 128 ^ i) (at + 1)
  unfolding scan
  byte_last h = rw (p, l, lt-ltb b 128 h)

  pub byte_more : 128 ≤ b → scan i s at (b ∷ bs) ≡ scan (i + 1) (s + b % 128 * 128 ^ i) (at + 1) bs
  unfolding scan
  byte_more h = rw (p, l, le-ltb b 128 h)

-- ---- a code reads back

one_byte : (k i n s at : ℕ) (bs : List ℕ) → i + suc k ≡ 5 → 8 * n < 128 ^ suc k → (i ≡ 0) ⊎ (0 < n) → n < 128
    → scan i s at (code_in (suc k) n ++ bs) ≡ value (s + n * 128 ^ i) (at + length (code_in (suc k) n))
one_byte k i n s at bs e h z t =
    let small : i ≡ 4 → n ≤ 15 = λ f.
    let none : k ≡ 0 = omega arith in
    let bound : 8 * n < 128 ^ 1 = rw none at h in
    omega arith in
    let same : n % 128 ≡ n = omega arith in
    rw (code_one k n t) (byte_last i s at n bs (not_padded i n z) (not_large i n small) t ∙ rw same)

more_bytes : (k i n s at : ℕ) (bs : List ℕ) → i + suc k ≡ 5 → 8 * n < 128 ^ suc k → 128 ≤ n
    → scan (i + 1) (s + n % 128 * 128 ^ i) (at + 1) (code_in k (n / 128) ++ bs)
    ≡ value (s + n % 128 * 128 ^ i + n / 128 * 128 ^ (i + 1)) (at + 1 + length (code_in k (n / 128)))
    → scan i s at (code_in (suc k) n ++ bs) ≡ value (s + n * 128 ^ i) (at + length (code_in (suc k) n))
more_bytes k i n s at bs e h t then =
    let not_fifth : i ≡ 4 → 128 + n % 128 ≤ 15 = λ f.
    let none : k ≡ 0 = omega arith in
    let bound : 8 * n < 128 ^ 1 = rw none at h in
    absurd (omega arith) in
    let low : (128 + n % 128) % 128 ≡ n % 128 = omega arith in
    let sum : s + n % 128 * 128 ^ i + n / 128 * 128 ^ (i + 1) ≡ s + n * 128 ^ i = rw (pow_next i) (groups s n (128 ^ i)) in
    let place : at + 1 + length (code_in k (n / 128)) ≡ at + suc (length (code_in k (n / 128))) = omega arith in
    rw (code_more k n t)
    (byte_more i s at (128 + n % 128) _ (not_padded i (128 + n % 128) (inr (omega arith)))
    (not_large i (128 + n % 128) not_fifth) (omega arith)
    ∙ rw low (then ∙ rw (sum, place)))

scan_code : (k i n s at : ℕ) (bs : List ℕ) → i + k ≡ 5 → 8 * n < 128 ^ k → (i ≡ 0) ⊎ (0 < n)
    → scan i s at (code_in k n ++ bs) ≡ value (s + n * 128 ^ i) (at + length (code_in k n))
scan_code zero i n s at bs e h (inl z) = absurd (omega arith)
scan_code zero i n s at bs e h (inr z) = absurd (omega (arith, h))
scan_code (suc k) i n s at bs e h z =
    either (ltb n 128) (λ t. one_byte k i n s at bs e h z (ltb-true n 128 t)) (λ t.
    let large = ltb-false n 128 t in
    let bound : 8 * n < 128 ^ k * 128 = rw (pow-suc 128 k) at h in
    more_bytes k i n s at bs e h large
    (scan_code k (i + 1) (n / 128) (s + n % 128 * 128 ^ i) (at + 1) bs (omega arith) (omega arith) (inr (omega arith))))

-- a number of 32 bits, at a place of a log
pub number_reads : (n at : ℕ) (bs : List ℕ) → n < 2 ^ 32
    → scan 0 0 at (code_in 5 n ++ bs) ≡ value n (at + length (code_in 5 n))
number_reads n at bs h =
    let same : 0 + n * 128 ^ 0 ≡ n = omega arith in
    scan_code 5 0 n 0 at bs refl (omega arith) (inl refl) ∙ rw same

-- ---- a number that is read stood there in its code

pub record Stood (k i s at v m : ℕ) (bs : List ℕ) : Type 0 where
  pub number : ℕ
  pub rest : List ℕ
  pub stands : bs ≡ code_in k number ++ rest
  pub sum : v ≡ s + number * 128 ^ i
  pub place : m ≡ at + length (code_in k number)
  pub small : 8 * number < 128 ^ k
  pub needed : (i ≡ 0) ⊎ (0 < number)

last_small : (k i b : ℕ) → i + suc k ≡ 5 → b < 128 → is_large i b ≡ false → 8 * b < 128 ^ suc k
last_small zero i b e h l = omega (arith, fifth_small b (rw (omega_four i e) at l))
  where
    omega_four : (i : ℕ) → i + 1 ≡ 5 → i ≡ 4
    omega_four i e = omega arith
last_small (suc k) i b e h l =
    let two : 2 ≤ suc (suc k) = omega arith in
    let pos : 0 < 128 = omega arith in
    omega (arith, pow-le-pow_right {n = 128} pos two)

not_zero : (i b : ℕ) → is_padded i b ≡ false → (i ≡ 0) ⊎ (0 < b)
unfolding is_padded
not_zero zero b p = inl refl
not_zero (suc i) zero p = absurd (true≢false (rw (lt-ltb 0 (suc i) (omega arith)) at p))
not_zero (suc i) (suc b) p = inr (omega arith)

module _ (i s at : ℕ) {v m : ℕ} where
  not_at_end : scan i s at [] ≡ value v m → ⊥
  unfolding scan
  not_at_end f = let z : ◌≡◌ {A = ℕ} 0 1 = cc in omega arith

  module _ (b : ℕ) (bs : List ℕ) where
    not_when_padded : is_padded i b ≡ true → scan i s at (b ∷ bs) ≡ value v m → ⊥
    unfolding scan
    not_when_padded p f = let g = rw p at f in let z : ◌≡◌ {A = ℕ} 0 1 = cc in omega arith

    not_when_large : is_padded i b ≡ false → is_large i b ≡ true → scan i s at (b ∷ bs) ≡ value v m → ⊥
    unfolding scan
    not_when_large p l f = let g = rw (p, l) at f in let z : ◌≡◌ {A = ℕ} 0 1 = cc in omega arith

-- a byte with its top bit set is not the fifth
some_left : (k i b : ℕ) → i + suc k ≡ 5 → is_large i b ≡ false → 128 ≤ b → 0 < k
some_left zero i b e l h =
    let four : i ≡ 4 = omega arith in
    absurd (omega (arith, fifth_small b (rw four at l)))
some_left (suc k) i b e l h = omega arith

-- a byte that ends the number
ends_here : (k i s at b : ℕ) (bs : List ℕ) {v m : ℕ} → i + suc k ≡ 5 → is_padded i b ≡ false → is_large i b ≡ false → b < 128
    → scan i s at (b ∷ bs) ≡ value v m → Stood (suc k) i s at v m (b ∷ bs)
ends_here k i s at b bs {v} {m} e p l h f =
    let g = sym (byte_last i s at b bs p l h) ∙ f in
    let same : b % 128 ≡ b = omega arith in
    let sum : s + b % 128 * 128 ^ i ≡ v = cc in
    let place : at + 1 ≡ m = cc in
    record {
      number = b;
      rest = bs;
      stands = rw (code_one k b h);
      sum = sym (rw same at sum);
      place = rw (code_one k b h) (sym place);
      small = last_small k i b e h l;
      needed = not_zero i b p;
    }

later_needed : (i n : ℕ) → (i + 1 ≡ 0) ⊎ (0 < n) → 0 < n
later_needed i n (inl z) = absurd (omega arith)
later_needed i n (inr h) = h

small_next : (k n c : ℕ) → 8 * n < 128 ^ k → 0 < n → c < 128 → 8 * (c + n * 128) < 128 ^ suc k
small_next zero n c h z l = absurd (omega (arith, h))
small_next (suc k) n c h z l = omega (arith, h, pow-suc 128 (suc k), pow-suc 128 k)

-- a byte that another follows
goes_on_from : (k i s at b : ℕ) (bs : List ℕ) {v m : ℕ} → i + suc k ≡ 5 → b < 256 → 128 ≤ b
    → Stood k (i + 1) (s + b % 128 * 128 ^ i) (at + 1) v m bs → Stood (suc k) i s at v m (b ∷ bs)
goes_on_from k i s at b bs {v} {m} e below h t =
    let low : (b % 128 + t.number * 128) % 128 ≡ b % 128 = omega arith in
    let high : (b % 128 + t.number * 128) / 128 ≡ t.number = omega arith in
    let byte : 128 + b % 128 ≡ b = omega arith in
    let pos : 0 < t.number = later_needed i _ t.needed in
    let code : code_in (suc k) (b % 128 + t.number * 128) ≡ b ∷ code_in k t.number =
    code_more k (b % 128 + t.number * 128) (omega arith) ∙ rw (low, high, byte) in
    record {
      number = b % 128 + t.number * 128;
      rest = t.rest;
      stands = rw code (ap (λ (xs : List ℕ). b ∷ xs) t.stands);
      sum = t.sum ∙ rw (pow_next i) (rw (low, high) at (groups s (b % 128 + t.number * 128) (128 ^ i)));
      place = rw code (omega (arith, t.place));
      small = small_next k t.number (b % 128) t.small pos (omega arith);
      needed = inr (omega arith);
    }

pub scan_stood : (bs : List ℕ) (k i s at : ℕ) {v m : ℕ} → i + k ≡ 5 → 0 < k → Below 256 bs → scan i s at bs ≡ value v m
    → Stood k i s at v m bs
scan_stood bs zero i s at e h below f = absurd (omega arith)
scan_stood [] (suc k) i s at e h below f = absurd (not_at_end i s at f)
scan_stood (b ∷ bs) (suc k) i s at e h (all_cons low below) f =
    either (is_padded i b) (λ p. absurd (not_when_padded i s at b bs p f)) (λ p.
    either (is_large i b) (λ l. absurd (not_when_large i s at b bs p l f)) (λ l.
    either (ltb b 128) (λ t. ends_here k i s at b bs e p l (ltb-true b 128 t) f) (λ t.
    let large = ltb-false b 128 t in
    goes_on_from k i s at b bs e low large
    (scan_stood bs k (i + 1) (s + b % 128 * 128 ^ i) (at + 1) (omega arith) (some_left k i b e l large) below
    (sym (byte_more i s at b bs p l large) ∙ f)))))

-- at a place of a list of bytes
pub number_stands : {bytes : List ℕ} → Below 256 bytes → (at : ℕ) {n next : ℕ} → number_at bytes at ≡ value n next
    → NumberStands bytes at n next
number_stands {bytes} below at {n} {next} found =
    let t = scan_stood (drop at bytes) 5 0 0 at refl (omega arith) (all_drop at below) found in
    let same : t.number ≡ n = omega (arith, t.sum) in
    let stood : drop at bytes ≡ code n ++ t.rest = rw same at t.stands in
    let place : next ≡ at + length (code n) = rw same at t.place in
    record {
      fits = omega (arith, t.small);
      stands = stood ∙ ap (λ (xs : List ℕ). code n ++ xs) (sym (drop_behind bytes (code n) t.rest at next stood place));
      place = place;
    }

-- ---- how long a code is

-- it has a byte, and at most five
pub code_some : (n : ℕ) → 0 < length (code_in 5 n)
unfolding code_in
code_some n = either (ltb n 128) (λ t. rw t (omega arith)) (λ t. rw t (omega arith))

code_in_few : (k n : ℕ) → length (code_in k n) ≤ k
unfolding code_in
code_in_few zero n = omega arith
code_in_few (suc k) n = either (ltb n 128) (λ t. rw t (omega arith)) (λ t. rw t (omega (arith, code_in_few k (n / 128))))

pub code_few : (n : ℕ) → length (code n) ≤ 5
code_few n = code_in_few 5 n

-- it stands for the number
code_in_worth : (k n : ℕ) → 8 * n < 128 ^ k → worth (code_in k n) ≡ n
unfolding code_in worth
code_in_worth zero n h = omega (arith, h)
code_in_worth (suc k) n h =
    either (ltb n 128) (λ t. rw t (omega (arith, ltb-true n 128 t)))
    (λ t. rw t (omega (arith, code_in_worth k (n / 128) (omega (arith, h, pow-suc 128 k)))))

pub code_worth : (n : ℕ) → n < 2 ^ 32 → worth (code n) ≡ n
code_worth n h = code_in_worth 5 n (omega arith)

-- no fewer bytes stand for it
fewest_in : (k : ℕ) (bs : List ℕ) → 0 < length bs → length (code_in k (worth bs)) ≤ length bs
unfolding code_in worth
fewest_in zero bs some = omega arith
fewest_in (suc k) [] some = absurd (omega arith)
fewest_in (suc k) (b ∷ bs) some =
    let rest : (b % 128 + 128 * worth bs) / 128 ≡ worth bs = omega arith in
    either (ltb (b % 128 + 128 * worth bs) 128) (λ t. rw t (omega arith))
    (λ t. rw (t, rest) (omega (arith, fewest_in k bs (some_worth bs (omega (arith, ltb-false (b % 128 + 128 * worth bs) 128 t))))))
  where
    some_worth : (bs : List ℕ) → 0 < worth bs → 0 < length bs
    some_worth [] h = absurd (omega arith)
    some_worth (b ∷ bs) h = omega arith

pub fewest : (bs : List ℕ) → 0 < length bs → length (code (worth bs)) ≤ length bs
fewest bs some = fewest_in 5 bs some

-- What is read as a number, wherever it stands, has as many bytes as its code: there is no shorter one that the reader
-- takes, and no other.
pub no_shorter : {bytes : List ℕ} → Below 256 bytes → (at : ℕ) {n next : ℕ} → number_at bytes at ≡ value n next
    → next ≡ at + length (code n)
no_shorter below at found = (number_stands below at found).place
