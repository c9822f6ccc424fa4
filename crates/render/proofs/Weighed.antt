-- The weights that are looked up, stored over a lent list, two numbers each.
use mathlib.Core.Path.{◌≡◌, sym, ap, ◌∙◌}
use mathlib.Core.List.{List, ◌++◌, map}
use Prim.Native.Nat.{ℕ, ◌+◌, ◌*◌, ◌%◌, ◌<◌, ◌≤◌}
use native.Mathlib.Omega.{arith}
use lib.IntN.{ℤ}
use lib.ListN.{length, take, drop, set, get_or, length-map, get_or-map}
use Rattle.ground.proofs.Written.{stored}
use Rattle.weight.specs.declared.Weight.{Weight}
use Rattle.weight.specs.Table.{entry}
use Rattle.weight.proofs.Pairs.{length_numbers, numbers_x, numbers_y}
use Rattle.render.specs.Rendered.{looked_up}

pub length_looked_up : (xs : List ℕ) → length (looked_up xs) ≡ 2 * length xs
unfolding looked_up
length_looked_up xs = length_numbers _ ∙ ap (λ (m : ℕ). 2 * m) (length-map xs (λ e. entry (e % 512)))

module _ (phases : List ℕ) (d : List ℤ) (i : ℕ) (k : i < length phases) (room : 2 * length phases ≤ length d) where
  abbrev here : Weight
  here = entry (get_or phases i 0 % 512)

  -- one weight more is stored: x, and y after it
  pub weight_stored : {o : List ℤ} {x y : ℤ} → o ≡ take (2 * i) (looked_up phases) ++ drop (2 * i) d → x ≡ here.x → y ≡ here.y
      → set (set o (2 * i) x) (2 * i + 1) y ≡ take (2 * (i + 1)) (looked_up phases) ++ drop (2 * (i + 1)) d
  unfolding looked_up
  weight_stored {o} {x} {y} q ex ey =
      let two : 2 * i + 1 + 1 ≡ 2 * (i + 1) = omega arith in
      let long = length_looked_up phases in
      rw two at
      (stored d (looked_up phases) (2 * length phases) (2 * i + 1) past.y
      (stored d (looked_up phases) (2 * length phases) (2 * i) past.x q (ex ∙ at_x) long (omega arith) room)
      (ey ∙ at_y) long (omega arith) room)
    where
      past : Weight
      past = entry 0

      found : List Weight
      found = map (λ e. entry (e % 512)) phases

      weight_at : here ≡ get_or found i past
      weight_at = sym (get_or-map (λ e. entry (e % 512)) phases i 0)

      at_x : here.x ≡ get_or (looked_up phases) (2 * i) past.x
      at_x = ap (λ (w : Weight). w.x) weight_at ∙ sym (numbers_x found past i)

      at_y : here.y ≡ get_or (looked_up phases) (2 * i + 1) past.y
      at_y = ap (λ (w : Weight). w.y) weight_at ∙ sym (numbers_y found past i)
