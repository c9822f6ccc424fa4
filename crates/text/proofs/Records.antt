-- The text of a record: by its refusal, by its numbers, and how long it is.
use mathlib.Core.Path.{◌≡◌}
use mathlib.Core.Bool.{Bool, true, ◌&&◌}
use mathlib.Core.List.{List, ◌++◌}
use Prim.Native.Nat.{ℕ, ◌*◌, ◌<◌, ◌≤◌}
use native.Mathlib.Nat.{mul-le-mul}
use native.Mathlib.Omega.{arith}
use lib.Dec.{eqb, leb, lit<, lit≤}
use lib.ListN.{length, take, drop, length-append, length-take, take-append-drop}
use borrow.Author.Tests.{leb-true, le-leb, eq-eqb, ne_eqb}
use Rattle.ground.specs.Lists.{All}
use Rattle.ground.proofs.Booleans.{and_true_left, and_true_right, cond_both}
use Rattle.plan.specs.declared.Record.{Record}
use Rattle.text.specs.Text.{lines_of, ok_text, refused_text, unreadable_text, record_text, three_digits, printable}
use Rattle.text.specs.Text.{longest}
use Rattle.text.proofs.Digits.{short_all}
use Rattle.text.proofs.Words.{ended_few}
use Rattle.text.proofs.Lines.{lines_few, lines_before, ok_words, ok_few, refused_words, unreadable_bytes}

-- ---- by its refusal

module _ (a : Record) (phases : List ℕ) where
  pub text_accepted : a.refusal ≡ 0 → record_text a phases ≡ ok_text a ++ lines_of a.layers a.ports phases
  unfolding record_text
  text_accepted e = rw (eq-eqb a.refusal 0 e)

  pub text_refused : (a.refusal ≡ 0 → ⊥) → record_text a phases ≡ refused_text a.refusal
  unfolding record_text
  text_refused e = rw (ne_eqb a.refusal 0 e)

-- phases after those of its layers make no difference
pub text_before : (a : Record) (xs ys : List ℕ) → a.refusal ≡ 0 → length xs ≡ a.layers * a.ports
    → record_text a (xs ++ ys) ≡ record_text a xs
text_before a xs ys e l =
    let lines = lines_before a.layers a.ports a.layers xs ys (omega arith) l in
    rw (text_accepted a xs e, text_accepted a (xs ++ ys) e, lines)

-- ---- by its numbers: those of a record that is printed

pub record Limits (a : Record) : Type 0 where
  pub refusal : a.refusal ≤ 999
  pub ports : a.ports ≤ 32
  pub layers : a.layers ≤ 8
  pub scale : a.scale ≤ 999

module _ (a : Record) (phases : List ℕ) where
  abbrev numbers : Bool
  numbers = leb a.refusal 999 && leb a.ports 32 && leb a.layers 8 && leb a.scale 999

  abbrev many : Bool
  many = leb (a.layers * a.ports) (length phases)

  abbrev short : Bool
  short = three_digits (take (a.layers * a.ports) phases)

  pub limits : printable a phases ≡ true → Limits a
  unfolding printable
  limits e =
      let refusal = leb a.refusal 999 in
      let ports = leb a.ports 32 in
      let layers = leb a.layers 8 in
      let scale = leb a.scale 999 in
      let four = and_true_left numbers many (and_true_left (numbers && many) short e) in
      let three = and_true_left (refusal && ports && layers) scale four in
      let two = and_true_left (refusal && ports) layers three in
      record {
        refusal = leb-true _ _ (and_true_left refusal ports two);
        ports = leb-true _ _ (and_true_right refusal ports two);
        layers = leb-true _ _ (and_true_right (refusal && ports) layers three);
        scale = leb-true _ _ (and_true_right (refusal && ports && layers) scale four);
      }

  -- and phases for them
  pub phases_many : printable a phases ≡ true → a.layers * a.ports ≤ length phases
  unfolding printable
  phases_many e = leb-true _ _ (and_true_right numbers many (and_true_left (numbers && many) short e))

  pub phases_short : printable a phases ≡ true → short ≡ true
  unfolding printable
  phases_short e = and_true_right (numbers && many) short e

  pub within_limits : Limits a → a.layers * a.ports ≤ length phases → short ≡ true → printable a phases ≡ true
  unfolding printable
  within_limits l h t =
      rw (
        le-leb _ _ l.refusal,
        le-leb _ _ l.ports,
        le-leb _ _ l.layers,
        le-leb _ _ l.scale,
        le-leb _ _ h,
        t,
      )

-- ---- how long it is

text_within : (a : Record) (phases : List ℕ) → Limits a
    → length (lines_of a.layers a.ports phases) ≤ 4 * (a.layers * a.ports) → length (record_text a phases) ≤ longest
unfolding record_text
text_within a phases l lines =
    let entries : a.layers * a.ports ≤ 8 * 32 = mul-le-mul l.layers l.ports in
    let first = ok_few a (omega (arith, l.ports)) (omega (arith, l.layers)) (omega (arith, l.scale)) in
    let number = ended_few 3 a.refusal 0 (lit≤ tt) (omega (arith, l.refusal)) in
    cond_both (λ (text : List ℕ). length text ≤ longest) (eqb a.refusal 0)
    (simp length-append (omega (arith, first, lines)))
    (rw refused_words (rw length-append (omega (arith, number))))

-- no text of phases of three digits is longer than the longest
pub record_few : (a : Record) (phases : List ℕ) → Limits a → All (λ x. x < 1000) phases
    → length (record_text a phases) ≤ longest
record_few a phases l short = text_within a phases l (lines_few a.ports phases short a.layers)

-- nor is one that is printed
pub printable_few : (a : Record) (phases : List ℕ) → printable a phases ≡ true → length (record_text a phases) ≤ longest
printable_few a phases e =
    let n = a.layers * a.ports in
    let size : length (take n phases) ≡ n = simp length-take (omega (arith, phases_many a phases e)) in
    let same = lines_before a.layers a.ports a.layers (take n phases) (drop n phases) (omega arith) size in
    let few = lines_few a.ports (take n phases) (short_all _ (phases_short a phases e)) a.layers in
    text_within a phases (limits a phases e) (rw (rw take-append-drop at same) few)

-- and none is empty
pub record_some : (a : Record) (phases : List ℕ) → 0 < length (record_text a phases)
unfolding record_text
record_some a phases =
    cond_both (λ (text : List ℕ). 0 < length text) (eqb a.refusal 0)
    (rw ok_words (simp length-append (omega arith)))
    (rw refused_words (simp length-append (omega arith)))

pub unreadable_few : length unreadable_text ≤ longest
unreadable_few = rw unreadable_bytes (omega arith)

pub unreadable_some : 0 < length unreadable_text
unreadable_some = rw unreadable_bytes (lit< tt)
