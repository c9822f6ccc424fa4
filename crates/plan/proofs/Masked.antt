-- What a mask and the room do to a refusal, for any codebook.
use mathlib.Core.Path.{◌≡◌, refl}
use mathlib.Core.Bool.{Bool, true, false, cond}
use mathlib.Core.List.{List, [], ◌∷◌, map}
use Prim.Native.Nat.{ℕ, ◌*◌, ◌≤◌}
use native.Mathlib.Omega.{arith}
use lib.Dec.{T, eqb, ltb}
use lib.ListN.{length}
use borrow.Author.Tests.{le-ltb, ltb-false}
use Rattle.ground.specs.Lists.{some}
use Rattle.ground.specs.First.{numbered}
use Rattle.ground.proofs.First.{first_none, none_zero, first_cong}
use Rattle.plan.specs.Masks.{bit, is_zero, barred}
use Rattle.plan.specs.Answer.{asked, Codebook, test, refusal}

-- masks that agree on the bits that are read bar alike
barred_same : (mask mask' ks : List ℕ) → map (bit mask) ks ≡ map (bit mask') ks → barred mask ks ≡ barred mask' ks
unfolding barred some is_zero
barred_same mask mask' [] e = refl
barred_same mask mask' (k ∷ ks) e =
    let one : bit mask k ≡ bit mask' k = cc in
    let others : map (bit mask) ks ≡ map (bit mask') ks = cc in
    rw (one, barred_same mask mask' ks others)

module _ {R : Type 0} (b : Codebook R) (r : R) where
  -- a refusal depends on the mask by its length and the bits that the report reads alone
  pub by_bits_read : (mask mask' : List ℕ) (ranks : ℕ) (offsets : List ℕ) (room : ℕ) → length mask ≡ length mask'
      → map (bit mask) (b.bits_read r) ≡ map (bit mask') (b.bits_read r)
      → refusal b (asked r mask ranks offsets room) ≡ refusal b (asked r mask' ranks offsets room)
  unfolding refusal test
  by_bits_read mask mask' ranks offsets room l e =
      first_cong _ _ (λ k. rw (l, barred_same mask mask' (b.bits_read r) e)) b.order

  -- more room refuses nothing that less accepts
  pub more_room : T (numbered b.order) → (mask : List ℕ) (ranks : ℕ) (offsets : List ℕ) (room room' : ℕ)
      → room ≤ room'
      → refusal b (asked r mask ranks offsets room) ≡ 0 → refusal b (asked r mask ranks offsets room') ≡ 0
  unfolding refusal test
  more_room t mask ranks offsets room room' h e =
      let n = first_none (test b (asked r mask ranks offsets room)) b.order t e in
      let needed = (b.plan r).v * (b.plan r).ports in
      let fits : ltb room needed ≡ false → ltb room' needed ≡ false =
      λ f. let g = ltb-false room needed f in le-ltb room' needed (omega arith) in
      none_zero (test b (asked r mask ranks offsets room')) b.order
      (record { at = λ k a. by_room (eqb k 10) (eqb k 13) (eqb k 11) _ _ _ _ _ fits (n.at k a) })
    where
      by_room : (a o c z u x y w : Bool) → (x ≡ false → y ≡ false) → cond a z (cond o u (cond c x w)) ≡ false
          → cond a z (cond o u (cond c y w)) ≡ false
      by_room true o c z u x y w h e = e
      by_room false true c z u x y w h e = e
      by_room false false true z u x y w h e = h e
      by_room false false false z u x y w h e = e
