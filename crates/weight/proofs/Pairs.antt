-- Weights as they are stored: where the numbers of each stand, and what is read back.
use mathlib.Core.Path.{◌≡◌, refl, ap, ◌∙◌}
use mathlib.Core.List.{List, [], ◌∷◌, ◌++◌, map}
use Prim.Native.Nat.{ℕ, zero, suc, ◌+◌, ◌*◌, ◌<◌}
use native.Mathlib.Omega.{arith}
use lib.IntN.{ℤ}
use lib.ListN.{length, get_or}
use Rattle.std.proofs.lemmas.List.{get_or-map}
use Rattle.turn.specs.Column.{steps}
use Rattle.turn.proofs.Lists.{length_steps}
use Rattle.turn.proofs.Entries.{steps_entry}
use Rattle.weight.specs.declared.Weight.{Weight}
use Rattle.weight.specs.Table.{no_weight, numbers, pairs}

pub one_weight : {v w : Weight} → v.x ≡ w.x → v.y ≡ w.y → v ≡ w
one_weight p q = λ i. record { x = p i; y = q i }

-- where x and y of weight i stand
pub numbers_x : (ws : List Weight) (z : Weight) (i : ℕ) → get_or (numbers ws) (2 * i) z.x ≡ (get_or ws i z).x
unfolding numbers
numbers_x [] z i = refl
numbers_x (w ∷ ws) z zero = refl
numbers_x (w ∷ ws) z (suc i) = let e : 2 * suc i ≡ suc (suc (2 * i)) = omega arith in rw e (numbers_x ws z i)

pub numbers_y : (ws : List Weight) (z : Weight) (i : ℕ) → get_or (numbers ws) (2 * i + 1) z.y ≡ (get_or ws i z).y
unfolding numbers
numbers_y [] z i = refl
numbers_y (w ∷ ws) z zero = refl
numbers_y (w ∷ ws) z (suc i) = let e : 2 * suc i + 1 ≡ suc (suc (2 * i + 1)) = omega arith in rw e (numbers_y ws z i)

pub length_numbers : (ws : List Weight) → length (numbers ws) ≡ 2 * length ws
unfolding numbers
length_numbers [] = refl
length_numbers (w ∷ ws) = omega (arith, length_numbers ws)

-- what is stored is read again
pub pairs_numbers : (ws : List Weight) (ns : List ℤ) → pairs (numbers ws ++ ns) ≡ ws ++ pairs ns
unfolding numbers pairs
pairs_numbers [] ns = refl
pairs_numbers (w ∷ ws) ns = ap {B = List Weight} (λ (vs : List Weight). w ∷ vs) (pairs_numbers ws ns)

-- ---- a function of weights over whole steps

pub map_steps_at : (f : ℕ → Weight) (n s k : ℕ) → k < n → get_or (map f (steps n s)) k no_weight ≡ f (k * s)
map_steps_at f n s k h = get_or-map f (steps n s) k 0 no_weight (rw length_steps h) ∙ ap f (steps_entry n s k h)
