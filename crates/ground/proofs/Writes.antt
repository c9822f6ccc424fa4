-- Bytes that are written where they fit: what a rest that is lent then holds, and what their number says.
use mathlib.Core.Path.{◌≡◌, refl, sym, ◌∙◌}
use mathlib.Core.Bool.{Bool, true, false, ◌&&◌}
use mathlib.Core.List.{List, ◌++◌}
use Prim.Native.Nat.{ℕ, ◌+◌, ◌-◌, ◌<◌, ◌≤◌}
use native.Mathlib.Nat.{zero-add}
use native.Mathlib.Omega.{arith}
use lib.Dec.{leb}
use lib.ListN.{length, take, drop, length-drop}
use lib.Seq.{take_all}
use borrow.Author.Tests.{le-leb, lt-leb, leb-true, leb-false}
use borrow.Rule.Slice.PartMut.{put_mid}
use Rattle.std.specs.Prelude.{Option, Some, None}
use Rattle.std.specs.Option.{unwrap_or}
use Rattle.ground.specs.Cases.{◌⇒◌∣◌}
use Rattle.ground.specs.Copied.{Copied}
use Rattle.ground.specs.Lent.{is_written, Writes, Adds}
use Rattle.ground.proofs.Adds.{adds_part, adds_laid}

pub writes_nothing : (bytes lent : List ℕ) → Writes false bytes lent None lent
unfolding is_written
writes_nothing bytes lent = record { gives = refl; leaves = refl }

-- more than are lent are not written
pub writes_too_many : (bytes lent : List ℕ) → length lent < length bytes → Writes true bytes lent None lent
unfolding is_written
writes_too_many bytes lent h =
    let full = lt-leb (length bytes) (length lent) h in
    record { gives = rw full; leaves = rw full }

-- where they fit they are written
pub fits_written : (bytes lent : List ℕ) → length bytes ≤ length lent → is_written true bytes lent ≡ true
unfolding is_written
fits_written bytes lent h = le-leb (length bytes) (length lent) h

-- they stand at the front
pub writes_front : {left : List ℕ} (bytes lent : List ℕ) → length bytes ≤ length lent
    → left ≡ bytes ++ drop (length bytes) lent → Writes true bytes lent (Some (length bytes)) left
writes_front bytes lent h e =
    let fits = fits_written bytes lent h in
    record { gives = rw fits; leaves = rw fits e }

-- they are copied
pub writes_copy : {done : Bool} {left : List ℕ} (bytes lent : List ℕ) → Copied bytes (length bytes) lent done left
    → Writes true bytes lent (done ⇒ Some (length bytes) ∣ None) left
unfolding is_written
writes_copy {done} bytes lent c =
    let all : take (length bytes) bytes ≡ bytes = take_all (length bytes) bytes (omega arith) in
    let fits : done ≡ leb (length bytes) (length lent) = rw (le-leb (length bytes) (length bytes) (omega arith)) at c.fits in
    record { gives = rw fits; leaves = rw (fits, all) at c.stands }

-- ---- what is given says whether they were written

pub record Written (bytes lent : List ℕ) (n : ℕ) (left : List ℕ) : Type 0 where
  pub long : n ≡ length bytes
  pub within : n ≤ length lent
  pub stands : left ≡ bytes ++ drop (length bytes) lent

pub written : {may : Bool} {bytes lent left : List ℕ} {n : ℕ} → Writes may bytes lent (Some n) left → Written bytes lent n left
unfolding is_written
written {may} {bytes} {lent} {left} {n} w = go may (leb (length bytes) (length lent)) refl w.gives w.leaves
  where
    go : (m b : Bool) → leb (length bytes) (length lent) ≡ b → Some n ≡ (m && b ⇒ Some (length bytes) ∣ None)
        → left ≡ (m && b ⇒ bytes ++ drop (length bytes) lent ∣ lent) → Written bytes lent n left
    go true true f e l =
        let long : n ≡ length bytes = cc in
        record { long = long; within = omega (arith, leb-true (length bytes) (length lent) f); stands = l }
    go true false f e l = absurd (cc)
    go false b f e l = absurd (cc)

-- and so many lie in the lent buffer, none where nothing was written
pub written_within : {may : Bool} {bytes lent left : List ℕ} (given : Option ℕ) → Writes may bytes lent given left
    → unwrap_or given 0 ≤ length lent
written_within (Some n) w = (written w).within
written_within None w = omega arith

-- none is given where they do not fit
pub not_written : {bytes lent left : List ℕ} → Writes true bytes lent None left → length lent < length bytes
unfolding is_written
not_written {bytes} {lent} w = go (leb (length bytes) (length lent)) refl w.gives
  where
    go : (b : Bool) → leb (length bytes) (length lent) ≡ b → None ≡ (b ⇒ Some (length bytes) ∣ None)
        → length lent < length bytes
    go true f e = absurd (cc)
    go false f e = leb-false (length bytes) (length lent) f

-- ---- bytes that are written from a place on

-- at the front
pub adds_front : {n : ℕ} {bytes lent left : List ℕ} → Adds bytes 0 lent n left → Writes true bytes lent (Some n) left
adds_front {bytes = bytes} {lent = lent} a =
    let long = rw zero-add at a.long in
    rw long (writes_front bytes lent (omega (arith, a.long, a.within)) (rw zero-add at (adds_laid a)))

-- a callee was lent `&mut out[at..]` of an `out` that has so many bytes, and there was room
pub adds_rest : {n size : ℕ} {left : List ℕ} (bytes out : List ℕ) (at : ℕ) → length out ≡ size → at + length bytes ≤ size
    → Writes true bytes (take (size - at) (drop at out)) (Some n) left
    → Adds bytes at out (at + n) (put_mid at (size - at) out left)
adds_rest {n} {size} {left} bytes out at e h w =
    let rest = take_all (size - at) (drop at out) (rw length-drop (omega arith)) in
    let all = written (rw rest at w) in
    rw (all.long, ← e) (adds_part bytes out at (omega arith) all.stands)

-- ---- one outcome

pub one_writing : {may : Bool} {bytes lent left left' : List ℕ} {given given' : Option ℕ} → Writes may bytes lent given left
    → Writes may bytes lent given' left' → (given ≡ given') × (left ≡ left')
one_writing p q = (p.gives ∙ sym q.gives, p.leaves ∙ sym q.leaves)
