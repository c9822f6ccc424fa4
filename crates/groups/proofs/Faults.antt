-- A number that breaks off: its bytes up to the fault have their top bits set, and the fault is the one that they show.
use mathlib.Core.Path.{◌≡◌, refl, sym, ap, ◌∙◌}
use mathlib.Core.Bool.{false}
use mathlib.Core.Logic.{inr}
use mathlib.Core.List.{List, [], ◌∷◌, ◌++◌}
use Prim.Native.Nat.{ℕ, suc, ◌+◌, ◌<◌, ◌≤◌}
use native.Mathlib.Nat.{add-zero}
use native.Mathlib.Omega.{arith}
use lib.Dec.{ltb, eqb}
use lib.ListN.{length}
use borrow.Author.Tests.{lt-ltb, ltb-true, ltb-false, eqb-true, eq-eqb}
use Rattle.ground.specs.Lists.{All, all_nil, all_cons}
use Rattle.ground.proofs.Booleans.{either, and_true_left, and_true_right}
use Rattle.groups.specs.Number.{fault, is_padded, is_large, scan}
use Rattle.groups.specs.Relied.{Shows, ends, padded, large}
use Rattle.groups.proofs.Bytes.{not_fifth}
use Rattle.groups.proofs.Coded.{not_padded, not_large, byte_more}

abbrev Topped : List ℕ → Type 0
Topped bs = All (λ (b : ℕ). 128 ≤ b) bs

-- where i bytes of a number stand before these
pub record Begun (i at k p : ℕ) (bs : List ℕ) : Type 0 where
  pub begun : List ℕ
  pub rest : List ℕ
  pub bytes : bs ≡ begun ++ rest
  pub topped : Topped begun
  pub place : p ≡ at + length begun
  pub shows : Shows k (i + length begun) rest

at_once : {i at k p k' : ℕ} {bs : List ℕ} → fault k' at ≡ fault k p → Shows k' i bs → Begun i at k p bs
at_once {i} {at} {k} {p} {k'} {bs} e s =
    let number : k' ≡ k = cc in
    let place : at ≡ p = cc in
    record {
      begun = [];
      rest = bs;
      bytes = refl;
      topped = all_nil;
      place = omega arith;
      shows = rw (add-zero i) (rw number at s);
    }

pub scan_begun : (bs : List ℕ) (i s at : ℕ) {k p : ℕ} → i ≤ 4 → scan i s at bs ≡ fault k p → Begun i at k p bs
unfolding scan is_padded is_large
scan_begun [] i s at few e = at_once e (ends few)
scan_begun (b ∷ bs) i s at {k} {p} few e =
    either (is_padded i b)
    (λ t.
    let null : b ≡ 0 = eqb-true b 0 (and_true_right (ltb 0 i) (eqb b 0) t) in
    let some = ltb-true 0 i (and_true_left (ltb 0 i) (eqb b 0) t) in
    at_once (rw t at e) (rw null (padded some few)))
    (λ t.
    either (is_large i b)
    (λ l.
    let four : i ≡ 4 = eqb-true i 4 (and_true_left (eqb i 4) (ltb 15 b) l) in
    let above = ltb-true 15 b (and_true_right (eqb i 4) (ltb 15 b) l) in
    at_once (rw (t, l) at e) (rw four (large above)))
    (λ l.
    either (ltb b 128)
    (λ h. let g = rw (t, l, h) at e in let z : ◌≡◌ {A = ℕ} 0 1 = cc in absurd (omega arith))
    (λ h.
    let top = ltb-false b 128 h in
    let not_four = not_fifth i b l top in
    let then = scan_begun bs (i + 1) _ (at + 1) (fewer i few not_four) (rw (t, l, h) at e) in
    let size : i + 1 + length then.begun ≡ i + suc (length then.begun) = omega arith in
    record {
      begun = b ∷ then.begun;
      rest = then.rest;
      bytes = ap (λ (xs : List ℕ). b ∷ xs) then.bytes;
      topped = all_cons top then.topped;
      place = omega (arith, then.place);
      shows = rw size at then.shows;
    })))
  where
    fewer : (i : ℕ) → i ≤ 4 → (i ≡ 4 → ⊥) → i + 1 ≤ 4
    fewer i few not_four = omega arith

-- ---- and back

-- a fault is shown after four bytes at most
shows_few : {k j : ℕ} {bs : List ℕ} → Shows k j bs → j ≤ 4
shows_few (ends h) = h
shows_few (padded h few) = few
shows_few (large h) = omega arith

shown : (i s at : ℕ) {k j : ℕ} {bs : List ℕ} → j ≡ i → Shows k j bs → scan i s at bs ≡ fault k at
unfolding scan is_padded is_large
shown i s at e (ends h) = refl
shown i s at e (padded h few) = rw (lt-ltb 0 i (omega arith))
shown i s at e (large {b} {bs} h) = rw (not_zero b h, eq-eqb i 4 (sym e), lt-ltb 15 b h)
  where
    not_zero : (b : ℕ) → 15 < b → is_padded i b ≡ false
    not_zero b h = not_padded i b (inr (omega arith))

pub begun_scans : (begun : List ℕ) (i s at : ℕ) {k j : ℕ} {bs : List ℕ} → j ≡ i + length begun → Topped begun
    → Shows k j bs → scan i s at (begun ++ bs) ≡ fault k (at + length begun)
begun_scans [] i s at e all_nil s' = rw (add-zero at) (shown i s at (omega arith) s')
begun_scans (b ∷ begun) i s at {k} {j} {bs} e (all_cons top topped) s' =
    let few = shows_few s' in
    let step = byte_more i s at b (begun ++ bs) (not_padded i b (inr (omega arith)))
    (not_large i b (λ four. absurd (omega arith))) top in
    let place : at + 1 + length begun ≡ at + suc (length begun) = omega arith in
    step ∙ begun_scans begun (i + 1) _ (at + 1) (omega arith) topped s' ∙ rw place
