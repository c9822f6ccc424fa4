-- How many bytes a number has, by its size: as many as are done once the last is left.
use Rattle.std.proofs.Common.{◌≡◌, sym, ℕ, ◌/◌, ◌^◌, ◌<◌, ◌≤◌, length, arith}
use Rattle.groups.specs.Number.{code}
use Rattle.coding.proofs.Putting.{Begun, begun_none, begun_more, begun_last}

pub one : (n : ℕ) → n ≤ 127 → 1 ≡ length (code n)
one n h = sym (begun_last (begun_none n (omega arith)) (omega arith))

module _ (n : ℕ) (h : n < 2 ^ 32) where
  after_one : 128 ≤ n → Begun n (n / 128) 1
  after_one m = begun_more (begun_none n h) m

  after_two : 16384 ≤ n → Begun n (n / 128 / 128) 2
  after_two m = begun_more (after_one (omega arith)) (omega arith)

  after_three : 2097152 ≤ n → Begun n (n / 128 / 128 / 128) 3
  after_three m = begun_more (after_two (omega arith)) (omega arith)

pub two : (n : ℕ) → 128 ≤ n → n ≤ 16383 → 2 ≡ length (code n)
two n m h = sym (begun_last (after_one n (omega arith) m) (omega arith))

pub three : (n : ℕ) → 16384 ≤ n → n ≤ 2097151 → 3 ≡ length (code n)
three n m h = sym (begun_last (after_two n (omega arith) m) (omega arith))

pub four : (n : ℕ) → 2097152 ≤ n → n ≤ 268435455 → 4 ≡ length (code n)
four n m h = sym (begun_last (after_three n (omega arith) m) (omega arith))

pub five : (n : ℕ) → 268435456 ≤ n → n < 2 ^ 32 → 5 ≡ length (code n)
five n m h = sym (begun_last (begun_more (after_three n h (omega arith)) (omega arith)) (omega arith))
