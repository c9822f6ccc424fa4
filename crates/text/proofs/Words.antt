-- Numbers in decimals and lines of numbers: digit by digit, and how long they are.
use mathlib.Core.Path.{◌≡◌, sym, ◌∙◌}
use mathlib.Core.List.{List, [], ◌∷◌}
use Prim.Native.Nat.{ℕ, zero, suc, ◌+◌, ◌*◌, ◌/◌, ◌^◌, ◌<◌, ◌≤◌}
use native.Mathlib.Nat.{suc-mul}
use native.Mathlib.Omega.{arith}
use lib.Dec.{ltb, lit≤}
use lib.ListN.{length, length-append}
use borrow.Author.Tests.{lt-ltb}
use borrow.Author.Rules.{rules}
use Rattle.std.specs.Fmt.{decimal as written}
use Rattle.std.proofs.lemmas.Fmt.{AppendsLastDigit, decimal_from_appends, length-decimal-le}
use Rattle.ground.specs.Lists.{All, all_nil, all_cons}
use Rattle.ground.proofs.Booleans.{either}
use Rattle.text.specs.Words.{ending, joined, decimal_in, decimal, ended, line_of}

-- ---- digit by digit

last_digit : AppendsLastDigit decimal_in
unfolding decimal_in
last_digit = search rules

-- those that the library writes
pub decimal_written : (n : ℕ) → n < 2 ^ 64 → written n ≡ decimal n
decimal_written n h = sym (decimal_from_appends decimal_in last_digit 20 n h (length-decimal-le 20 n (lit≤ tt) (omega arith) h))

-- the bytes of a number that is formatted
pub formatted : {bytes text : List ℕ} (n : ℕ) → n < 2 ^ 64 → bytes ≡ text → text ≡ written n → bytes ≡ decimal n
formatted n h value format = value ∙ format ∙ decimal_written n h

-- ---- how long they are

decimal_in_few : (k d n : ℕ) → n < 10 ^ suc d → length (decimal_in k n) ≤ suc d
unfolding decimal_in
decimal_in_few zero d n h = omega arith
decimal_in_few (suc k) zero n h = rw (lt-ltb n 10 (omega arith)) (omega arith)
decimal_in_few (suc k) (suc d) n h =
    either (ltb n 10) (λ t. rw t (omega arith))
    (λ t. rw t (simp length-append (omega (arith, decimal_in_few k d (n / 10) (omega arith)))))

pub decimal_few : (d n : ℕ) → 1 ≤ d → n < 10 ^ d → length (decimal n) ≤ d
decimal_few zero n some h = absurd (omega arith)
decimal_few (suc d) n some h = decimal_in_few 20 d n h

-- and the byte after them
pub ended_long : (n left : ℕ) → length (ended n left) ≡ length (decimal n) + 1
ended_long n left = length-append (decimal n) (ending left ∷ [])

pub ended_few : (d n left : ℕ) → 1 ≤ d → n < 10 ^ d → length (ended n left) ≤ d + 1
ended_few d n left some h = omega (arith, ended_long n left, decimal_few d n some h)

-- d digits at most and a byte after them for each number
pub line_few : (d : ℕ) → 1 ≤ d → {xs : List ℕ} → All (λ x. x < 10 ^ d) xs → length (line_of xs) ≤ length xs * suc d
unfolding line_of joined
line_few d some all_nil = omega arith
line_few d some (all_cons {x} {xs} h a) =
    simp length-append (omega (arith, decimal_few d x some h, line_few d some a, suc-mul (length xs) (suc d)))
