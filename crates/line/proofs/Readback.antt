-- A line of numbers that is printed reads back.
use mathlib.Core.Path.{◌≡◌, refl}
use mathlib.Core.Bool.{true}
use mathlib.Core.List.{List, [], ◌∷◌, ◌++◌, map}
use Prim.Native.Nat.{ℕ, zero, suc, ◌+◌, ◌-◌, ◌*◌, ◌/◌, ◌^◌, ◌<◌, ◌≤◌}
use native.Mathlib.Omega.{arith}
use lib.Dec.{ltb, lit≤}
use lib.ListN.{length, length-append, length-map}
use borrow.Author.Tests.{le-leb, ltb-true, lt-ltb}
use Rattle.ground.specs.Lists.{each, All, all_nil, all_cons}
use Rattle.ground.proofs.All.{all_each}
use Rattle.ground.proofs.Booleans.{either, and_true_left, and_true_right}
use Rattle.report.specs.declared.Report.{Report}
use Rattle.text.specs.Words.{nought, digit, decimal_in, decimal, line_of}
use Rattle.text.proofs.Words.{decimal_few, line_few}
use Rattle.std.specs.Prelude.{Some}
use Rattle.eight.specs.Numbers.{values_of}
use Rattle.line.specs.Form.{is_digit, value, value_after, is_decimal, Reads}
use Rattle.line.proofs.Scanned.{words, joined_found}

-- ---- digit by digit

-- one digit more
value_next : (bs : List ℕ) (b n : ℕ) → value_after n (bs ++ b ∷ []) ≡ 10 * value_after n bs + (b - nought)
unfolding value_after
value_next [] b n = refl
value_next (x ∷ bs) b n = value_next bs b (10 * n + (x - nought))

digits_next : (bs : List ℕ) (n : ℕ) → each is_digit bs ≡ true → each is_digit (bs ++ digit n ∷ []) ≡ true
unfolding each is_digit
digits_next [] n e = rw (le-leb nought (digit n) (omega arith), le-leb (digit n) (nought + 9) (omega arith))
digits_next (x ∷ bs) n e =
    rw (and_true_left (is_digit x) _ e) (digits_next bs n (and_true_right (is_digit x) _ e))

digits_all : (k n : ℕ) → each is_digit (decimal_in k n) ≡ true
unfolding decimal_in each
digits_all zero n = refl
digits_all (suc k) n =
    either (ltb n 10) (λ t. rw t (digits_next [] n refl))
    (λ t. rw t (digits_next (decimal_in k (n / 10)) n (digits_all k (n / 10))))

digits_some : (k n : ℕ) → 1 ≤ length (decimal_in (suc k) n)
unfolding decimal_in
digits_some k n = either (ltb n 10) (λ t. rw t (omega arith)) (λ t. rw t (simp length-append (omega arith)))

value_back : (k n : ℕ) → n < 10 ^ suc k → value (decimal_in (suc k) n) ≡ n
unfolding decimal_in value_after
value_back zero n h = rw (lt-ltb n 10 (omega arith)) (omega arith)
value_back (suc k) n h =
    let tenth = decimal_in (suc k) (n / 10) in
    either (ltb n 10) (λ t. rw t (omega (arith, ltb-true n 10 t)))
    (λ t. rw (t, value_next tenth (digit n) 0) (omega (arith, value_back k (n / 10) (omega arith))))

-- a number that has the size of a line's is printed as a decimal of its value
pub decimal_reads : (n : ℕ) → n ≤ 65535 → (is_decimal (decimal n) ≡ true) × (value (decimal n) ≡ n)
unfolding is_decimal
decimal_reads n h =
    let same = value_back 19 n (omega arith) in (
      rw (
        digits_all 20 n,
        le-leb 1 _ (digits_some 19 n),
        le-leb _ 5 (decimal_few 5 n (lit≤ tt) (omega arith)),
        same,
        le-leb n 65535 h,
      ),
      same,
    )

-- ---- lines

all_read : {xs : List ℕ} → All (λ x. x ≤ 65535) xs
    → (each is_decimal (map decimal xs) ≡ true) × (map value (map decimal xs) ≡ xs)
unfolding each
all_read all_nil = (refl, refl)
all_read (all_cons {x} h a) =
    let first = decimal_reads x h in
    let later = all_read a in
    (rw first.0 later.0, rw (first.1, later.1))

-- the words of a line of numbers that is printed have their values
pub row_reads : (xs : List ℕ) → All (λ x. x ≤ 65535) xs → map value (words (length xs) (line_of xs)) ≡ xs
unfolding line_of
row_reads xs a =
    let read = all_read a in
    rw (← length-map xs decimal, (joined_found (map decimal xs) read.0).1) read.1

-- and the line of a report's numbers is read as that report
pub report_reads : (r : Report) → All (λ x. x ≤ 65535) (values_of r) → Reads (line_of (values_of r)) (Some r)
unfolding line_of
report_reads r a =
    let read = all_read a in
    let few = line_few 5 (lit≤ tt) (all_each (λ x h. omega arith) a) in
    record {
      words = map decimal (values_of r);
      decimals = read.0;
      values = read.1;
      joins = refl;
      few = omega (arith, few);
    }
