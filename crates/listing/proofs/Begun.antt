-- A line that is begun in an array that is long enough for any: how a text is written after what stands there, and how it is
-- copied.
use mathlib.Core.Path.{◌≡◌, ◌∙◌}
use mathlib.Core.Bool.{true}
use mathlib.Core.List.{List, [], ◌++◌}
use Prim.Native.Nat.{ℕ, ◌+◌, ◌-◌, ◌≤◌}
use native.Mathlib.Omega.{arith}
use lib.ListN.{length, take, drop, length-take, length-drop}
use borrow.Rule.Slice.PartMut.{put_mid}
use Rattle.std.specs.Prelude.{Option, Some, None}
use Rattle.ground.specs.Lent.{Writes, Adds}
use Rattle.ground.proofs.Adds.{front, adds_nothing, adds_then, adds_length}
use Rattle.ground.proofs.Writes.{written, not_written, adds_rest}
use Rattle.listing.specs.Listing.{longest_line}

-- the first k bytes of the array are the text
pub record Begun (text : List ℕ) (k : ℕ) (line : List ℕ) : Type 0 where
  pub empty : List ℕ
  pub full : length empty ≡ longest_line
  pub adds : Adds text 0 empty k line

pub begun_nothing : (line : List ℕ) → length line ≡ longest_line → Begun [] 0 line
begun_nothing line e = record { empty = line; full = e; adds = adds_nothing line 0 (omega arith) }

-- a text at the front
pub begun_front : {k : ℕ} {left : List ℕ} (text line : List ℕ) → length line ≡ longest_line
    → Writes true text line (Some k) left → Begun text k left
begun_front text line e w =
    let all = written w in
    record {
      empty = line;
      full = e;
      adds = record { long = omega (arith, all.long); within = all.within; stands = rw (← all.long) at all.stands };
    }

module _ {text line : List ℕ} {k : ℕ} (b : Begun text k line) where
  pub begun_full : length line ≡ longest_line
  begun_full = adds_length b.adds ∙ b.full

  pub begun_within : k ≤ longest_line
  begun_within = omega (arith, b.adds.within, b.full)

  pub begun_long : k ≡ length text
  begun_long = omega (arith, b.adds.long)

  -- a callee that was lent `&mut line[k..]` has written the text that follows
  pub begun_then : {n : ℕ} {left : List ℕ} (more : List ℕ) → k + length more ≤ longest_line
      → Writes true more (take (longest_line - k) (drop k line)) (Some n) left
      → Begun (text ++ more) (k + n) (put_mid k (longest_line - k) line left)
  begun_then more h w =
      record {
        empty = b.empty;
        full = b.full;
        adds = adds_then b.adds (adds_rest more line k begun_full h w);
      }

  -- it has room, and so some number is given
  pub begun_some : {left : List ℕ} (more : List ℕ) → k + length more ≤ longest_line
      → Writes true more (take (longest_line - k) (drop k line)) None left → ⊥
  begun_some more h w =
      let few = not_written w in
      omega (arith, length-take (longest_line - k) (drop k line), length-drop k line, begun_full)

  -- what stands is what is copied
  pub begun_put : {n : Option ℕ} {lent left : List ℕ} → Writes true (take k line) lent n left → Writes true text lent n left
  begun_put w = rw (front b.adds) at w
