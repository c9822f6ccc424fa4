-- Bytes that are written from a place of a lent buffer on: how some are written after others.
use mathlib.Core.Path.{◌≡◌, refl, sym, ap, ◌∙◌}
use mathlib.Core.Bool.{Bool}
use mathlib.Core.List.{List, [], ◌∷◌, ◌++◌, append-nil, append_assoc}
use Prim.Native.Nat.{ℕ, suc, ◌+◌, ◌-◌, ◌<◌, ◌≤◌}
use native.Mathlib.Nat.{add-zero}
use native.Mathlib.Numerals.{add-one}
use native.Mathlib.Omega.{arith}
use lib.ListN.{length, take, drop, set, length-append, length-take, length-drop, take-append-drop}
use lib.Seq.{take_at, take_all, drop_at, drop-drop, drop-length, drop-cons, set_at, sets, sets-eq}
use borrow.Author.Tests.{le-leb}
use Rattle.ground.specs.Copied.{Copied}
use Rattle.ground.specs.Lent.{laid, Adds}

-- none is written
pub adds_nothing : (lent : List ℕ) (at : ℕ) → at ≤ length lent → Adds [] at lent at lent
adds_nothing lent at h = record { long = omega arith; within = h; stands = rw append-nil (sym (take-append-drop at lent)) }

-- they are stored one after the other
pub adds_stores : {bytes : List ℕ} (stores lent : List ℕ) (at : ℕ) → bytes ≡ stores → at + length stores ≤ length lent
    → Adds bytes at lent (at + length stores) (sets lent at stores)
adds_stores stores lent at e h =
    record { long = ap (λ (x : List ℕ). at + length x) (sym e); within = h; stands = rw e (sets-eq stores lent at h) }

-- they stand at the front of what was lent from a place on
pub adds_part : {left : List ℕ} (bytes lent : List ℕ) (at : ℕ) → at + length bytes ≤ length lent
    → left ≡ bytes ++ drop (length bytes) (drop at lent)
    → Adds bytes at lent (at + length bytes) (take at lent ++ (left ++ drop (length lent - at) (drop at lent)))
adds_part bytes lent at h e =
    let end : at + (length lent - at) ≡ length lent = omega arith in
    let none : drop (length lent - at) (drop at lent) ≡ [] =
    drop-drop (length lent - at) at lent ∙ ap (λ (k : ℕ). drop k lent) end ∙ drop-length lent in
    record { long = refl; within = h; stands = rw (none, append-nil, e, drop-drop) (simp append_assoc) }

-- they were copied there
pub adds_copy : {done : Bool} {left : List ℕ} (from lent : List ℕ) (at : ℕ) → at + length from ≤ length lent
    → Copied from (length from) (take (length lent - at) (drop at lent)) done left
    → Adds from at lent (at + length from) (take at lent ++ (left ++ drop (length lent - at) (drop at lent)))
adds_copy {left = left} from lent at h c =
    let n = length from in
    let rest = take_all (length lent - at) (drop at lent) (rw length-drop (omega arith)) in
    let room = le-leb n (length (drop at lent)) (rw length-drop (omega arith)) in
    let copied = rw rest at c in
    adds_part from lent at h
    (copied.stands ∙ rw (copied.fits, le-leb n n (omega arith), room, take_all n from (omega arith)))

module _ {bytes lent left : List ℕ} {at n : ℕ} (a : Adds bytes at lent n left) where
  -- what stands before the place where they end
  length_front : length (take at lent ++ bytes) ≡ n
  length_front = simp (length-append, length-take) (omega (arith, a.long, a.within))

  pub front : take n left ≡ take at lent ++ bytes
  front = rw a.stands (take_at (take at lent ++ bytes) (drop n lent) n length_front)

  -- what follows is as lent
  pub behind : drop n left ≡ drop n lent
  behind = rw a.stands (drop_at (take at lent ++ bytes) (drop n lent) n length_front)

  -- the buffer keeps its length
  pub adds_length : length left ≡ length lent
  adds_length =
      rw a.stands (simp (length-append, length-take, length-drop) (omega (arith, a.long, a.within)))

  -- one byte more
  pub adds_byte : (b : ℕ) → n < length lent → Adds (bytes ++ b ∷ []) at lent (n + 1) (set left n b)
  adds_byte b h = record {
    long = simp length-append (omega (arith, a.long));
    within = omega arith;
    stands =
        rw (a.stands, add-one, drop-cons lent n 0 h)
        (set_at (take at lent ++ bytes) _ (drop (suc n) lent) b n length_front
        ∙ simp append_assoc);
  }

  -- those that follow
  pub adds_then : {more last : List ℕ} {k : ℕ} → Adds more n left k last → Adds (bytes ++ more) at lent k last
  adds_then {more} {last} {k} b =
      let past : n + length more ≡ k = sym b.long in
      let rest : drop k left ≡ drop k lent =
      rw (← past, ← drop-drop (length more) n left, ← drop-drop (length more) n lent, behind) in
      record {
        long = simp length-append (omega (arith, a.long, b.long));
        within = omega (arith, b.within, adds_length);
        stands = b.stands ∙ rw (front, rest) (simp append_assoc);
      }

  -- they are laid over what was lent
  pub adds_laid : left ≡ laid bytes at lent
  adds_laid = a.stands ∙ ap (λ (k : ℕ). take at lent ++ bytes ++ drop k lent) a.long

pub laid_adds : (bytes lent : List ℕ) (at : ℕ) → at + length bytes ≤ length lent
    → Adds bytes at lent (at + length bytes) (laid bytes at lent)
laid_adds bytes lent at h = record { long = refl; within = h; stands = refl }

pub laid_nothing : (lent : List ℕ) (at : ℕ) → laid [] at lent ≡ lent
laid_nothing lent at = simp (append-nil, add-zero) (take-append-drop at lent)
