-- The lines of a listing: word by word, and how long they are.
use mathlib.Core.Path.{◌≡◌, refl}
use mathlib.Core.List.{List, [], ◌∷◌, ◌++◌, append_assoc}
use Prim.Native.Nat.{ℕ, ◌+◌, ◌^◌, ◌<◌, ◌≤◌}
use native.Mathlib.Omega.{arith}
use lib.Dec.{lit≤}
use lib.ListN.{length, length-append}
use Rattle.ground.specs.Lists.{All}
use Rattle.ground.proofs.All.{all_each}
use Rattle.text.specs.Words.{ending, joined, ended, line_of, headed}
use Rattle.text.proofs.Words.{ended_few, line_few}
use Rattle.listing.specs.Listing.{end_text, fault_text, longest_line}

-- ---- word by word

pub end_bytes : end_text ≡ 101 ∷ 110 ∷ 100 ∷ 10 ∷ []
unfolding end_text headed joined ending
end_bytes = refl

-- `fault` and `at`, with the space after each
abbrev pub fault_word : List ℕ
fault_word = 102 ∷ 97 ∷ 117 ∷ 108 ∷ 116 ∷ 32 ∷ []

abbrev pub at_word : List ℕ
at_word = 97 ∷ 116 ∷ 32 ∷ []

pub fault_words : (number place : ℕ) → fault_text number place
    ≡ fault_word ++ ended number 2 ++ at_word ++ ended place 0
unfolding fault_text joined ending
fault_words number place = simp append_assoc

pub fault_long : (number place : ℕ) → length (fault_text number place)
    ≡ 6 + length (ended number 2) + 3 + length (ended place 0)
fault_long number place = rw (fault_words number place) (simp length-append (omega arith))

-- ---- how long they are: none is longer than the longest

pub numbers_few : (xs : List ℕ) → length xs ≡ 8 → All (λ x. x < 2 ^ 32) xs → length (line_of xs) ≤ longest_line
numbers_few xs e a = omega (arith, line_few 10 (lit≤ tt) (all_each (λ x h. omega arith) a))

pub end_few : length end_text ≤ longest_line
end_few = rw end_bytes (omega arith)

pub fault_few : (number place : ℕ) → number < 2 ^ 32 → place < 2 ^ 64 → length (fault_text number place) ≤ longest_line
fault_few number place h k =
    let first = ended_few 10 number 2 (lit≤ tt) (omega arith) in
    let second = ended_few 20 place 0 (lit≤ tt) (omega arith) in
    omega (arith, fault_long number place)
