-- A number as it is written, byte by byte: how many bytes are done, and which are left.
use Rattle.std.proofs.Common.{◌≡◌, refl, sym, ap, ◌∙◌, List, [], ◌∷◌, ◌++◌, ℕ, zero, suc, ◌+◌, ◌*◌, ◌/◌, ◌%◌, ◌^◌, ◌<◌, ◌≤◌, add-one, arith, length, take, drop, set, get_or, length-drop}
use native.Mathlib.Nat.{pow-suc}
use lib.Dec.{ltb}
use lib.Seq.{take-suc, take-suc-set, take_all, drop-cons}
use borrow.Author.Tests.{ltb-true, ltb-false}
use Rattle.ground.specs.Lent.{Adds}
use Rattle.ground.proofs.Adds.{adds_byte}
use Rattle.ground.proofs.Booleans.{either}
use Rattle.groups.specs.Number.{code_in, code}
use Rattle.groups.proofs.Coded.{code_one, code_more}

-- a list has an element at a place, and these after it
record Next (xs : List ℕ) (k b : ℕ) (ys : List ℕ) : Type 0 where
  within : k < length xs
  front : take (k + 1) xs ≡ take k xs ++ b ∷ []
  back : drop (k + 1) xs ≡ ys

goes_on_with : (xs : List ℕ) (k b : ℕ) (ys : List ℕ) → drop k xs ≡ b ∷ ys → Next xs k b ys
goes_on_with xs k b ys e =
    let h : k < length xs = omega (arith, length-drop k xs, ap length e) in
    let split : get_or xs k 0 ∷ drop (suc k) xs ≡ b ∷ ys = sym (drop-cons xs k 0 h) ∙ e in
    let head : get_or xs k 0 ≡ b = cc in
    let tail : drop (suc k) xs ≡ ys = cc in
    record { within = h; front = rw (add-one k) (take-suc xs k 0 h ∙ rw head); back = rw (add-one k) tail }

-- ---- k bytes of a number are done, and those of the rest are left

pub record Begun (n rest k : ℕ) : Type 0 where
  pub left : ℕ
  pub five : k + suc left ≡ 5
  pub small : 8 * rest < 128 ^ suc left
  pub others : drop k (code n) ≡ code_in (suc left) rest

pub begun_none : (n : ℕ) → n < 2 ^ 32 → Begun n n 0
begun_none n h = record { left = 4; five = refl; small = omega arith; others = refl }

module _ {n rest k : ℕ} where
  next_more : (b : Begun n rest k) → 128 ≤ rest → Next (code n) k (128 + rest % 128) (code_in b.left (rest / 128))
  next_more b h = goes_on_with (code n) k _ _ (b.others ∙ code_more b.left rest h)

  next_last : Begun n rest k → rest < 128 → Next (code n) k rest []
  next_last b h = goes_on_with (code n) k _ _ (b.others ∙ code_one b.left rest h)

  -- a byte that another follows is not the fifth
  pub begun_more : Begun n rest k → 128 ≤ rest → Begun n (rest / 128) (k + 1)
  begun_more b h = go b.left b.five b.small (next_more b h).back
    where
      go : (left : ℕ) → k + suc left ≡ 5 → 8 * rest < 128 ^ suc left → drop (k + 1) (code n) ≡ code_in left (rest / 128)
          → Begun n (rest / 128) (k + 1)
      go zero five small others = absurd (omega (arith, small))
      go (suc left) five small others =
          record { left = left; five = omega arith; small = omega (arith, small, pow-suc 128 (suc left)); others = others }

  -- one below 128 is the last
  pub begun_last : Begun n rest k → rest < 128 → length (code n) ≡ k + 1
  begun_last b h =
      let last = next_last b h in
      omega (arith, last.within, length-drop (k + 1) (code n), ap length last.back)

  -- one is left
  pub begun_inside : Begun n rest k → k < length (code n)
  begun_inside b =
      either (ltb rest 128) (λ t. (next_last b (ltb-true rest 128 t)).within) (λ t. (next_more b (ltb-false rest 128 t)).within)

module _ {n rest k : ℕ} (b : Begun n rest k) where
  -- the byte that is next is the last just where no other is left
  pub more_left : k + 1 < length (code n) → 128 ≤ rest
  more_left h =
      either (ltb rest 128) (λ t. let last = begun_last b (ltb-true rest 128 t) in absurd (omega arith)) (λ t. ltb-false rest 128 t)

  pub none_left : length (code n) ≡ k + 1 → rest < 128
  none_left e =
      either (ltb rest 128) (λ t. ltb-true rest 128 t) (λ t.
      let more = begun_inside (begun_more b (ltb-false rest 128 t)) in
      absurd (omega arith))

  -- ---- and those that are done stand at the front
  pub stored_more : (front : List ℕ) → take k front ≡ take k (code n) → k < length front → 128 ≤ rest
      → take (k + 1) (set front k (128 + rest % 128)) ≡ take (k + 1) (code n)
  stored_more front so_far within h =
      rw (add-one k) (take-suc-set front k (128 + rest % 128) within)
      ∙ ap (λ (xs : List ℕ). xs ++ (128 + rest % 128) ∷ []) so_far ∙ sym (next_more b h).front

  pub stored_last : (lent front : List ℕ) → length front ≡ k → k < length lent → take k front ≡ take k (code n) → rest < 128
      → Adds (code n) 0 lent (k + 1) (set (front ++ drop k lent) k rest)
  stored_last lent front long room so_far h =
      let all : take k (code n) ++ rest ∷ [] ≡ code n =
      sym (next_last b h).front ∙ take_all (k + 1) (code n) (omega (arith, begun_last b h)) in
      let same : front ≡ take k (code n) = sym (take_all k front (omega arith)) ∙ so_far in
      let before : Adds (take k (code n)) 0 lent k (front ++ drop k lent) =
      record { long = omega (arith, ap length same); within = omega arith; stands = rw same } in
      rw all at (adds_byte before rest room)
