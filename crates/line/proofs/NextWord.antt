-- When the next word of a text is an ended decimal, by what is found at the front.
use mathlib.Core.Path.{◌≡◌, sym, ap, ◌∙◌}
use mathlib.Core.Bool.{false}
use mathlib.Core.List.{List, ◌∷◌}
use Prim.Native.Nat.{ℕ, ◌<◌, ◌≤◌}
use native.Mathlib.Nat.{add-zero}
use native.Mathlib.Omega.{arith}
use lib.ListN.{length, take, drop, get_or}
use lib.Seq.{drop-drop, get_or-drop}
use borrow.Author.Tests.{le-leb, lt-leb, eq-eqb, ne_eqb}
use Rattle.std.specs.Char.{is_ascii_digit}
use Rattle.std.specs.List.{prefix_len}
use Rattle.ground.proofs.Booleans.{either, and_nothing}
use Rattle.text.specs.Words.{ending}
use Rattle.line.specs.Form.{value}
use Rattle.line.specs.Scan.{next, is_ended, Leads}
use Rattle.line.proofs.Leading.{lead_counted, lead_taken, ended_next}
use Rattle.line.proofs.Scanned.{ended_within}

-- what is counted is the length of the next word
pub next_long : {n : ℕ} (bs : List ℕ) → n ≡ prefix_len is_ascii_digit (take 5 bs) → n ≡ length (next bs)
next_long bs e = e ∙ lead_counted 5 bs

pub next_word : {n : ℕ} {word : List ℕ} (bs : List ℕ) → n ≡ prefix_len is_ascii_digit (take 5 bs) → word ≡ take n bs → word ≡ next bs
next_word bs e w = w ∙ rw (next_long bs e) (lead_taken 5 bs)

module _ (bs : List ℕ) (left : ℕ) where
  pub no_digit : length (next bs) ≡ 0 → is_ended bs left ≡ false
  no_digit e = rw (ended_next bs left, lt-leb 1 (length (next bs)) (omega arith))

  pub too_large : 65535 < value (next bs) → is_ended bs left ≡ false
  too_large h = rw (ended_next bs left, lt-leb (value (next bs)) 65535 h, and_nothing _)

  pub none_after : length bs ≤ length (next bs) → is_ended bs left ≡ false
  none_after h = either (is_ended bs left) (λ t. absurd (omega (arith, ended_within bs left t))) (λ f. f)

  module _ {b : ℕ} {after : List ℕ} (e : drop (length (next bs)) bs ≡ b ∷ after) where
    byte_after : get_or bs (length (next bs)) 0 ≡ b
    byte_after =
        rw (add-zero (length (next bs))) at (sym (get_or-drop (length (next bs)) bs 0 0))
        ∙ ap (λ (xs : List ℕ). get_or xs 0 0) e

    pub other_after : (b ≡ ending left → ⊥) → is_ended bs left ≡ false
    other_after n = rw (ended_next bs left, byte_after, ne_eqb b (ending left) n, and_nothing _)

    pub leads : {number : ℕ} → 1 ≤ length (next bs) → number ≤ 65535 → b ≡ ending left → number ≡ value (next bs)
        → Leads bs left number after
    leads some few k v =
        let small : value (next bs) ≤ 65535 = omega arith in
        record {
          ended = rw (ended_next bs left, byte_after, eq-eqb b (ending left) k, le-leb 1 (length (next bs)) some, le-leb (value (next bs)) 65535 small);
          value = v;
          rest = ap (drop 1) (sym e) ∙ drop-drop 1 (length (next bs)) bs;
        }
