-- The line of numbers, as it is begun number by number.
use mathlib.Core.Path.{◌≡◌, refl}
use mathlib.Core.Bool.{true}
use mathlib.Core.List.{List, [], ◌++◌, append-nil, append_assoc}
use Prim.Native.Nat.{ℕ, ◌+◌, ◌-◌, ◌*◌, ◌^◌, ◌<◌, ◌≤◌}
use native.Mathlib.Omega.{arith}
use lib.Dec.{lit≤}
use lib.ListN.{length, take, drop, get_or}
use borrow.Rule.Slice.PartMut.{put_mid}
use Rattle.std.specs.Prelude.{Option, Some, None}
use Rattle.ground.specs.Lent.{Writes}
use Rattle.ground.proofs.Writes.{written}
use Rattle.text.specs.Words.{ended, line_of}
use Rattle.text.proofs.Words.{ended_few}
use Rattle.text.proofs.Lines.{line_next, line_end}
use Rattle.listing.specs.Listing.{longest_line}
use Rattle.listing.proofs.Begun.{Begun, begun_nothing, begun_then, begun_some, begun_put}

-- k bytes of the array, eleven at most for each of i numbers, are the line as far as these
pub record LineBegun (xs : List ℕ) (i k : ℕ) (line : List ℕ) : Type 0 where
  pub text : List ℕ
  pub begun : Begun text k line
  pub whole : text ++ line_of (drop i xs) ≡ line_of xs
  pub few : k ≤ 11 * i

pub line_none : (xs line : List ℕ) → length line ≡ longest_line → LineBegun xs 0 0 line
line_none xs line e = record { text = []; begun = begun_nothing line e; whole = refl; few = omega arith }

module _ {xs line : List ℕ} {i k left : ℕ} (l : LineBegun xs i k line) (e : left ≡ length xs - 1 - i) (h : i < length xs)
    (eight : length xs ≡ 8) (x : get_or xs i 0 < 2 ^ 32) where
  -- the next number has room
  short : length (ended (get_or xs i 0) left) ≤ 11
  short = ended_few 10 (get_or xs i 0) left (lit≤ tt) (omega arith)

  pub line_more : {n : ℕ} {part : List ℕ}
      → Writes true (ended (get_or xs i 0) left) (take (longest_line - k) (drop k line)) (Some n) part
      → LineBegun xs (i + 1) (k + n) (put_mid k (longest_line - k) line part)
  line_more w =
      let room : k + length (ended (get_or xs i 0) left) ≤ longest_line = omega (arith, short, l.few) in
      record {
        text = l.text ++ ended (get_or xs i 0) left;
        begun = begun_then l.begun _ room w;
        whole = rw (append_assoc, e, ← line_next xs i h) l.whole;
        few = omega (arith, short, l.few, (written w).long);
      }

  pub line_some : {part : List ℕ}
      → Writes true (ended (get_or xs i 0) left) (take (longest_line - k) (drop k line)) None part → ⊥
  line_some w = begun_some l.begun _ (omega (arith, short, l.few)) w

pub line_put : {xs line : List ℕ} {i k : ℕ} {n : Option ℕ} {lent left : List ℕ} → LineBegun xs i k line → length xs ≤ i
    → Writes true (take k line) lent n left → Writes true (line_of xs) lent n left
line_put {xs} {i = i} l h w =
    let all = rw (line_end xs i h, append-nil) at l.whole in
    rw (← all) (begun_put l.begun w)
