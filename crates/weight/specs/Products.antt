-- Products of weights, the cross-sum of two layers, and powers.
use Rattle.std.specs.Prelude.{List, [], ◌∷◌, ℕ, zero, suc, ◌+◌, ◌*◌, ◌≤◌, ℤ, pos, neg_ℤ, nat_abs, ◌+ℤ◌, ◌-ℤ◌, ◌*ℤ◌, get_or}
use Rattle.weight.specs.declared.Weight.{Weight}
use Rattle.weight.specs.Table.{radius, no_weight}

-- a quarter more: (x,y) turned into (-y,x)
abbrev pub turned : Weight → Weight
turned w = record { x = neg_ℤ w.y; y = w.x }

-- the real and the imaginary part of conjugate(a) times g
abbrev pub re : Weight → Weight → ℤ
re a g = a.x *ℤ g.x +ℤ a.y *ℤ g.y

abbrev pub im : Weight → Weight → ℤ
im a g = a.x *ℤ g.y -ℤ a.y *ℤ g.x

-- the power of a weight: x² + y²
abbrev pub power : Weight → ℕ
power w = nat_abs w.x * nat_abs w.x + nat_abs w.y * nat_abs w.y

-- how far a part of a product is from radius times a part of a weight
abbrev pub off : ℤ → ℤ → ℕ
off p w = nat_abs (p -ℤ pos radius *ℤ w)

-- conjugate(a) times g is radius times w, each part to within n
pub record Near (n : ℕ) (w a g : Weight) : Type 0 where
  pub x : off (re a g) w.x ≤ n
  pub y : off (im a g) w.y ≤ n

-- x is at most n below c, and at most m above
pub record Within (c n m x : ℕ) : Type 0 where
  pub low : c ≤ x + n
  pub high : x ≤ c + m

-- 268,435,456: the power that every weight is near
abbrev pub full_power : ℕ
full_power = radius * radius

-- the scope's limit: of a part of a product against radius times the weight at the difference, and of a power against
-- the full one
abbrev pub limit : ℕ
limit = 32768

-- the largest that occur: of a part of a product, of a power below and of a power above
abbrev pub product_off : ℕ
product_off = 25237

abbrev pub power_below : ℕ
power_below = 17304

abbrev pub power_above : ℕ
power_above = 15121

-- a part of the cross-sum of two layers: the sum over the ports of that part of conjugate(first) times second
unfoldable pub cross : (Weight → Weight → ℤ) → List Weight → List Weight → ℤ
cross part [] vs = pos 0
cross part (w ∷ ws) [] = pos 0
cross part (w ∷ ws) (v ∷ vs) = part w v +ℤ cross part ws vs

-- the power of port q, summed over the layers: the first v of a list that has p weights to a layer
unfoldable pub port_power : ℕ → ℕ → ℕ → List Weight → ℕ
port_power zero p q ws = 0
port_power (suc v) p q ws = port_power v p q ws + power (get_or ws (v * p + q) no_weight)
