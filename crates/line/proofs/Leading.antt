-- The digits at the front of a text.
use mathlib.Core.Path.{◌≡◌, refl, ap, ◌∙◌}
use mathlib.Core.Bool.{true, false, ◌&&◌}
use mathlib.Core.List.{List, [], ◌∷◌, ◌++◌}
use Prim.Native.Nat.{ℕ, zero, suc, ◌+◌, ◌<◌, ◌≤◌}
use native.Mathlib.Omega.{arith}
use lib.Dec.{eqb, leb}
use lib.ListN.{length, take, drop, get_or}
use lib.Seq.{take_at}
use borrow.Author.Tests.{le-leb, leb-true}
use Rattle.std.specs.Char.{is_ascii_digit}
use Rattle.std.specs.List.{prefix_len}
use Rattle.ground.proofs.Booleans.{either, and_true_left, and_true_right}
use Rattle.ground.specs.Lists.{each}
use Rattle.text.specs.Words.{nought, ending}
use Rattle.line.specs.Form.{is_digit, value, is_decimal}
use Rattle.line.specs.Scan.{lead, next, is_ended}

-- as the library counts them
pub lead_counted : (k : ℕ) (bs : List ℕ) → prefix_len is_ascii_digit (take k bs) ≡ length (lead k bs)
unfolding lead is_digit
lead_counted zero bs = refl
lead_counted (suc k) [] = refl
lead_counted (suc k) (b ∷ bs) =
    either (is_digit b) (λ e. rw (e, lead_counted k bs) (omega arith)) (λ e. rw e)

-- ---- what leads: digits, at most so many

pub lead_digits : (k : ℕ) (bs : List ℕ) → each is_digit (lead k bs) ≡ true
unfolding lead each
lead_digits zero bs = refl
lead_digits (suc k) [] = refl
lead_digits (suc k) (b ∷ bs) = either (is_digit b) (λ e. rw (e, e) (lead_digits k bs)) (λ e. rw e)

pub lead_few : (k : ℕ) (bs : List ℕ) → length (lead k bs) ≤ k
unfolding lead
lead_few zero bs = omega arith
lead_few (suc k) [] = omega arith
lead_few (suc k) (b ∷ bs) = either (is_digit b) (λ e. rw e (omega (arith, lead_few k bs))) (λ e. rw e (omega arith))

-- it stands at the front
pub lead_front : (k : ℕ) (bs : List ℕ) → bs ≡ lead k bs ++ drop (length (lead k bs)) bs
unfolding lead
lead_front zero bs = refl
lead_front (suc k) [] = refl
lead_front (suc k) (b ∷ bs) = either (is_digit b) (λ e. rw e (ap (λ (x : List ℕ). b ∷ x) (lead_front k bs))) (λ e. rw e)

pub lead_taken : (k : ℕ) (bs : List ℕ) → take (length (lead k bs)) bs ≡ lead k bs
lead_taken k bs = ap (take (length (lead k bs))) (lead_front k bs) ∙ take_at (lead k bs) _ _ refl

-- digits are found where they are followed by a byte that is none
pub lead_word : (k : ℕ) (w : List ℕ) (x : ℕ) (bs : List ℕ) → each is_digit w ≡ true → length w ≤ k → is_digit x ≡ false
    → lead k (w ++ x ∷ bs) ≡ w
unfolding lead each
lead_word zero [] x bs d h n = refl
lead_word zero (b ∷ w) x bs d h n = absurd (omega arith)
lead_word (suc k) [] x bs d h n = rw n
lead_word (suc k) (b ∷ w) x bs d h n =
    rw (and_true_left (is_digit b) _ d)
    (ap (λ (y : List ℕ). b ∷ y) (lead_word k w x bs (and_true_right (is_digit b) _ d) (omega arith) n))

-- what leads is an ended decimal if it has a digit, is at most 65535, and is followed by what ends it
pub ended_next : (bs : List ℕ) (left : ℕ) → is_ended bs left
    ≡ (leb 1 (length (next bs)) && leb (value (next bs)) 65535 && eqb (get_or bs (length (next bs)) 0) (ending left))
unfolding is_ended is_decimal
ended_next bs left = rw (lead_digits 5 bs, le-leb (length (next bs)) 5 (lead_few 5 bs))

-- ---- in what leads each byte is a digit

pub digit_at : (bs : List ℕ) (i : ℕ) → each is_digit bs ≡ true → i < length bs
    → (nought ≤ get_or bs i 0) × (get_or bs i 0 ≤ nought + 9)
unfolding each is_digit
digit_at [] i e h = absurd (omega arith)
digit_at (b ∷ bs) zero e h =
    let digit = and_true_left (is_digit b) _ e in
    (leb-true nought b (and_true_left _ (leb b (nought + 9)) digit), leb-true b (nought + 9) (and_true_right (leb nought b) _ digit))
digit_at (b ∷ bs) (suc i) e h = digit_at bs i (and_true_right (is_digit b) _ e) (omega arith)
