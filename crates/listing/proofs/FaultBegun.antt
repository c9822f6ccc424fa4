-- The line of a fault, as it is begun word by word.
use mathlib.Core.Path.{◌≡◌}
use mathlib.Core.Bool.{true}
use mathlib.Core.List.{List, ◌++◌}
use Prim.Native.Nat.{ℕ, ◌+◌, ◌-◌, ◌^◌, ◌<◌, ◌≤◌}
use native.Mathlib.Omega.{arith}
use lib.ListN.{length, take, drop, length-append}
use borrow.Rule.Slice.PartMut.{put_mid}
use Rattle.std.specs.Prelude.{Some}
use Rattle.ground.specs.Lent.{Writes}
use Rattle.text.specs.Words.{ended}
use Rattle.listing.specs.Listing.{fault_text, longest_line}
use Rattle.listing.proofs.Begun.{Begun, begun_front, begun_long, begun_then}
use Rattle.listing.proofs.Listed.{fault_word, at_word, fault_words, fault_long, fault_few}

-- what stands after a text was written into the bytes from k on
abbrev pub with : ℕ → List ℕ → List ℕ → List ℕ
with k line part = put_mid k (longest_line - k) line part

-- what was lent of them
abbrev pub rest : ℕ → List ℕ → List ℕ
rest k line = take (longest_line - k) (drop k line)

module _ (number place : ℕ) (h : number < 2 ^ 32) (l : place < 2 ^ 64) where
  room : 6 + length (ended number 2) + 3 + length (ended place 0) ≤ longest_line
  room = omega (arith, fault_few number place h l, fault_long number place)

  module _ {k : ℕ} {lent line : List ℕ} (e : length lent ≡ longest_line) (w : Writes true fault_word lent (Some k) line) where
    pub first : Begun fault_word k line
    first = begun_front fault_word lent e w

    pub first_room : k + length (ended number 2) ≤ longest_line
    first_room = omega (arith, begun_long first, room)

    module _ {n : ℕ} {part : List ℕ} (v : Writes true (ended number 2) (rest k line) (Some n) part) where
      pub second : Begun (fault_word ++ ended number 2) (k + n) (with k line part)
      second = begun_then first (ended number 2) first_room v

      pub second_room : k + n + length at_word ≤ longest_line
      second_room = omega (arith, begun_long second, length-append fault_word (ended number 2), room)

      module _ {m : ℕ} {next : List ℕ} (u : Writes true at_word (rest (k + n) (with k line part)) (Some m) next) where
        pub third : Begun (fault_word ++ ended number 2 ++ at_word) (k + n + m) (with (k + n) (with k line part) next)
        third = begun_then second at_word second_room u

        pub third_room : k + n + m + length (ended place 0) ≤ longest_line
        third_room =
            omega (
              arith,
              begun_long third,
              length-append (fault_word ++ ended number 2) at_word,
              length-append fault_word (ended number 2),
              room,
            )

        pub fourth : {i : ℕ} {last : List ℕ}
            → Writes true (ended place 0) (rest (k + n + m) (with (k + n) (with k line part) next)) (Some i) last
            → Begun (fault_text number place) (k + n + m + i) (with (k + n + m) (with (k + n) (with k line part) next) last)
        fourth t = rw fault_words (begun_then third (ended place 0) third_room t)
