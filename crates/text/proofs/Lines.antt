-- The lines of a matrix and the first line of a text: how they are written, and how long they are.
use mathlib.Core.Path.{◌≡◌, refl}
use mathlib.Core.List.{List, [], ◌∷◌, ◌++◌, append_assoc}
use Prim.Native.Nat.{ℕ, zero, suc, ◌+◌, ◌-◌, ◌*◌, ◌<◌, ◌≤◌}
use native.Mathlib.Numerals.{add-one}
use native.Mathlib.Omega.{arith}
use lib.Dec.{lit≤, leb}
use lib.ListN.{length, take, drop, get_or, length-append, length-take, length-drop, length-map, drop_of_length-le}
use lib.Seq.{drop-cons}
use borrow.Author.Tests.{leb-true, leb-false}
use Rattle.ground.proofs.Booleans.{either}
use Rattle.ground.specs.Lists.{All}
use Rattle.ground.proofs.All.{all_take, all_drop}
use Rattle.plan.specs.declared.Record.{Record}
use Rattle.plan.specs.Plan.{layer_in}
use Rattle.plan.proofs.Layers.{layer_before}
use Rattle.text.specs.Words.{ending, joined, decimal, ended, line_of, headed}
use Rattle.text.specs.Text.{lines_of, ok_text, refused_text, unreadable_text}
use Rattle.text.proofs.Words.{ended_few, line_few}

-- ---- lines for layers

-- a line from a number on: that number, what follows it, and the line from the next on
pub line_next : (xs : List ℕ) (i : ℕ) → i < length xs
    → line_of (drop i xs) ≡ ended (get_or xs i 0) (length xs - 1 - i) ++ line_of (drop (i + 1) xs)
unfolding line_of joined
line_next xs i h =
    let left : length xs - 1 - i ≡ length (drop (suc i) xs) = rw length-drop (omega arith) in
    rw (drop-cons xs i 0 h, add-one i, left, length-map (drop (suc i) xs) decimal) (simp append_assoc)

-- nothing is left of it after the last
pub line_end : (xs : List ℕ) (i : ℕ) → length xs ≤ i → line_of (drop i xs) ≡ []
unfolding line_of joined
line_end xs i h = rw (drop_of_length-le xs h)

module _ (p : ℕ) (xs : List ℕ) where
  -- lines have p numbers at most
  pub lines_few : All (λ x. x < 1000) xs → (n : ℕ) → length (lines_of n p xs) ≤ 4 * (n * p)
  unfolding lines_of
  lines_few a zero = omega arith
  lines_few a (suc n) =
      let short : length (layer_in p n xs) ≤ p = simp length-take (omega arith) in
      let line = line_few 3 (lit≤ tt) (all_take p (all_drop (n * p) a)) in
      simp length-append (omega (arith, lines_few a n, line))

  -- one more
  pub lines_next : (n : ℕ) → lines_of (n + 1) p xs ≡ lines_of n p xs ++ line_of (take p (drop (n * p) xs))
  unfolding lines_of
  lines_next n = rw (add-one n)

  -- fewer are no longer
  pub lines_within : (n v : ℕ) → n ≤ v → length (lines_of n p xs) ≤ length (lines_of v p xs)
  unfolding lines_of
  lines_within n zero h = let none : n ≡ 0 = omega arith in rw none (omega arith)
  lines_within n (suc v) h =
      either (leb n v) (λ e. simp length-append (omega (arith, lines_within n v (leb-true n v e))))
      (λ e. let all : n ≡ suc v = omega (arith, leb-false n v e) in rw all (omega arith))

-- what stands after v layers makes no difference to their lines
pub lines_before : (n p v : ℕ) (xs ys : List ℕ) → n ≤ v → length xs ≡ v * p → lines_of n p (xs ++ ys) ≡ lines_of n p xs
unfolding lines_of
lines_before zero p v xs ys h e = refl
lines_before (suc n) p v xs ys h e = rw (lines_before n p v xs ys (omega arith) e, layer_before p v n xs ys h e)

-- ---- the first line, word by word

pub ok_words : (a : Record) → ok_text a
    ≡ (111 ∷ 107 ∷ 32 ∷ []) ++ ended a.ports 2 ++ ended a.layers 1
    ++ ended a.scale 0
unfolding ok_text headed joined ending
ok_words a = simp append_assoc

pub ok_long : (a : Record) → length (ok_text a)
    ≡ 3 + length (ended a.ports 2) + length (ended a.layers 1) + length (ended a.scale 0)
ok_long a = rw (ok_words a) (simp length-append (omega arith))

pub refused_words : (k : ℕ) → refused_text k
    ≡ (114 ∷ 101 ∷ 102 ∷ 117 ∷ 115 ∷ 101 ∷ 100 ∷ 32 ∷ []) ++ ended k 0
unfolding refused_text headed joined ending
refused_words k = refl

pub unreadable_bytes : unreadable_text ≡ 117 ∷ 110 ∷ 114 ∷ 101 ∷ 97 ∷ 100 ∷ 97 ∷ 98 ∷ 108 ∷ 101 ∷ 10 ∷ []
unfolding unreadable_text headed joined ending
unreadable_bytes = refl

-- `ok 32 8 256` and a newline
pub ok_few : (a : Record) → a.ports < 100 → a.layers < 10 → a.scale < 1000 → length (ok_text a) ≤ 12
ok_few a h k l =
    let ports = ended_few 2 a.ports 2 (lit≤ tt) h in
    let layers = ended_few 1 a.layers 1 (lit≤ tt) k in
    let scale = ended_few 3 a.scale 0 (lit≤ tt) l in
    omega (arith, ok_long a)
