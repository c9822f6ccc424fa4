-- Words and lines: a text that is good is the words that are found in it, joined; and decimals, joined, are good.
use mathlib.Core.Path.{◌≡◌, refl, sym, ap, ◌∙◌}
use mathlib.Core.Bool.{Bool, true, false, false≢true, ◌&&◌}
use mathlib.Core.List.{List, [], ◌∷◌, ◌++◌, map}
use Prim.Native.Nat.{ℕ, zero, suc, ◌+◌, ◌-◌, ◌<◌}
use native.Mathlib.Numerals.{add-one}
use native.Mathlib.Omega.{arith}
use lib.Dec.{leb, ltb}
use lib.ListN.{length, drop, get_or, get_or-eq_default}
use lib.Seq.{drop-cons, drop-append-add, get_or-append_seam}
use borrow.Author.Tests.{eq-eqb, eqb-true, leb-true, ltb-true, ltb-false}
use Rattle.ground.proofs.Booleans.{either, and_true_left, and_true_right}
use Rattle.ground.specs.Lists.{each}
use Rattle.text.specs.Words.{ending, joined}
use Rattle.line.specs.Form.{is_digit, value, is_decimal}
use Rattle.line.specs.Scan.{next, is_ended, Leads}
use Rattle.line.proofs.Leading.{lead_front, lead_word}

-- the text after the next word and the byte that follows it
unfoldable pub rest : List ℕ → List ℕ
rest bs = drop (suc (length (next bs))) bs

-- the words that a text has if it has the form, so many of them
unfoldable pub words : ℕ → List ℕ → List (List ℕ)
words zero bs = []
words (suc left) bs = next bs ∷ words left (rest bs)

-- so many words, each a decimal that is followed by what has to follow it, and nothing after them
unfoldable pub good : ℕ → List ℕ → Bool
good zero [] = true
good zero (b ∷ bs) = false
good (suc left) bs = is_ended bs left && good left (rest bs)

length_words : (n : ℕ) (bs : List ℕ) → length (words n bs) ≡ n
unfolding words
length_words zero bs = refl
length_words (suc left) bs = ap suc (length_words left (rest bs))

-- ---- what follows a word

-- it is no digit, and is not 0
ending_kind : (left : ℕ) → (is_digit (ending left) ≡ false) × (0 < ending left)
unfolding is_digit ending
ending_kind zero = (refl, omega arith)
ending_kind (suc left) = (refl, omega arith)

module _ (bs : List ℕ) (left : ℕ) (e : is_ended bs left ≡ true) where
  ended_byte : get_or bs (length (next bs)) 0 ≡ ending left
  unfolding is_ended
  ended_byte = eqb-true _ _ (and_true_right (is_decimal (next bs)) _ e)

  -- a byte follows the word
  pub ended_within : length (next bs) < length bs
  ended_within =
      either (ltb (length (next bs)) (length bs)) (λ t. ltb-true _ _ t)
      (λ t. absurd (omega (arith, get_or-eq_default bs 0 (ltb-false _ _ t), ended_byte, ending_kind left)))

  -- the text is its next word, the byte that follows it, and the rest
  ended_joined : bs ≡ next bs ++ ending left ∷ rest bs
  unfolding rest
  ended_joined =
      lead_front 5 bs
      ∙ rw (drop-cons bs (length (next bs)) 0 ended_within, ended_byte)

-- ---- what is good is the words that are found, joined

pub good_found : (n : ℕ) (bs : List ℕ) → good n bs ≡ true
    → (each is_decimal (words n bs) ≡ true) × (bs ≡ joined (words n bs))
unfolding good words each is_ended joined
good_found zero [] e = (refl, refl)
good_found zero (b ∷ bs) e = absurd (false≢true e)
good_found (suc left) bs e =
    let here = and_true_left (is_ended bs left) _ e in
    let later = good_found left (rest bs) (and_true_right (is_ended bs left) _ e) in (
      rw (and_true_left (is_decimal (next bs)) _ here) later.0,
      rw (length_words left (rest bs), ← later.1) (ended_joined bs left here),
    )

-- ---- decimals, joined, are good, and are found

module _ (w : List ℕ) (d : is_decimal w ≡ true) (left : ℕ) (bs : List ℕ) where
  next_joined : next (w ++ ending left ∷ bs) ≡ w
  unfolding is_decimal
  next_joined =
      let h = and_true_right (each is_digit w) _ d in
      let few = and_true_left (leb (length w) 5) _ (and_true_right (leb 1 (length w)) _ h) in
      lead_word 5 w (ending left) bs (and_true_left (each is_digit w) _ d) (leb-true _ _ few) (ending_kind left).0

  rest_joined : rest (w ++ ending left ∷ bs) ≡ bs
  unfolding rest
  rest_joined = rw (next_joined, ← add-one (length w)) (drop-append-add w (ending left ∷ bs) 1)

  ended : is_ended (w ++ ending left ∷ bs) left ≡ true
  unfolding is_ended
  ended = rw (next_joined, d, get_or-append_seam w (ending left) bs 0, eq-eqb (ending left) (ending left) refl)

pub joined_found : (ws : List (List ℕ)) → each is_decimal ws ≡ true
    → (good (length ws) (joined ws) ≡ true) × (words (length ws) (joined ws) ≡ ws)
unfolding good words each joined
joined_found [] d = (refl, refl)
joined_found (w ∷ ws) d =
    let first = and_true_left (is_decimal w) _ d in
    let n = length ws in
    let later = joined_found ws (and_true_right (is_decimal w) _ d) in
    rw (ended w first n (joined ws), rest_joined w first n (joined ws), next_joined w first n (joined ws))
    (later.0, rw later.1)

-- ---- of eight words, j of which are read

module _ (j : ℕ) (h : j < 8) where
  so_many : 8 - j ≡ suc (7 - j)
  so_many = omega arith

  fewer : 8 - (j + 1) ≡ 7 - j
  fewer = omega arith

  pub good_not : (bs : List ℕ) → is_ended bs (7 - j) ≡ false → good (8 - j) bs ≡ false
  unfolding good
  good_not bs e = rw (so_many, e)

  module _ {bs : List ℕ} {number : ℕ} {after : List ℕ} (l : Leads bs (7 - j) number after) where
    after_is : rest bs ≡ after
    unfolding rest
    after_is = rw add-one at (sym l.rest)

    pub good_next : good (8 - j) bs ≡ good (8 - (j + 1)) after
    unfolding good
    good_next = rw (so_many, fewer, l.ended, after_is)

    pub words_next : map value (words (8 - j) bs) ≡ number ∷ map value (words (8 - (j + 1)) after)
    unfolding words
    words_next = rw (so_many, fewer, after_is, l.value)

pub good_some : (bs : List ℕ) → (length bs ≡ 0 → ⊥) → good 0 bs ≡ false
unfolding good
good_some [] h = absurd (h refl)
good_some (b ∷ bs) h = refl

pub nothing_left : (bs : List ℕ) → length bs ≡ 0 → bs ≡ []
nothing_left [] e = refl
nothing_left (b ∷ bs) e = absurd (omega arith)
