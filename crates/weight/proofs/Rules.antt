-- The rules of the table, each compared or tested over the whole of it, which antt computes; and the power of a port.
use mathlib.Core.Path.{◌≡◌, refl, sym, ap, ◌∙◌}
use mathlib.Core.Bool.{Bool, ◌&&◌}
use mathlib.Core.List.{List, map, zip_with}
use Prim.Native.Nat.{ℕ, zero, suc, ◌+◌, ◌*◌, ◌/◌, ◌%◌, ◌<◌}
use native.Mathlib.Nat.{mod-mod, suc-mul}
use native.Mathlib.Omega.{arith}
use lib.Dec.{T, leb}
use lib.ListN.{get_or}
use lib.IntN.{ℤ, pos, ◌+ℤ◌}
use lib.Arith.{digits_lt}
use Rattle.ground.specs.Lists.{every}
use Rattle.ground.proofs.Tests.{two_le, every_at}
use Rattle.turn.specs.Phase.{turn, half, quarter, third, twelfth, phase}
use Rattle.turn.specs.Column.{steps}
use Rattle.weight.specs.declared.Weight.{Weight}
use Rattle.weight.specs.Table.{first_quarter, first_half, xs, ys, table, no_weight, weight}
use Rattle.weight.specs.Products.{turned, power, Within, full_power, limit, power_below, power_above, port_power}
use Rattle.weight.proofs.Pairs.{map_steps_at}

-- ---- the weight of a number is that of its phase

pub weight_phase : (e : ℕ) → weight (phase e) ≡ weight e
unfolding weight
weight_phase e = ap (λ (n : ℕ). get_or table n no_weight) (mod-mod e turn)

pub weight_same : (a b : ℕ) → phase a ≡ phase b → weight a ≡ weight b
weight_same a b e = sym (weight_phase a) ∙ ap weight e ∙ weight_phase b

-- its two parts
abbrev pub x : ℕ → ℤ
x e = (weight e).x

abbrev pub y : ℕ → ℤ
y e = (weight e).y

-- two functions of which the first n values, in a list, are the same
agree : (f g : ℕ → Weight) (n : ℕ) → map f (steps n 1) ≡ map g (steps n 1) → (k : ℕ) → k < n → f k ≡ g k
agree f g n q k h = sym (at f) ∙ ap (λ ws. get_or ws k no_weight) q ∙ at g
  where
    at : (u : ℕ → Weight) → get_or (map u (steps n 1)) k no_weight ≡ u k
    at u = map_steps_at u n 1 k h ∙ ap u (omega arith)

-- ---- a quarter more turns (x,y) into (-y,x)

quarters : map (λ e. weight (e + quarter)) (steps turn 1) ≡ map (λ e. turned (weight e)) (steps turn 1)
unfolding steps weight table zip_with xs ys first_half first_quarter
quarters = refl

pub quarter_more : (e : ℕ) → weight (e + quarter) ≡ turned (weight e)
quarter_more e =
    weight_same (e + quarter) (phase e + quarter) (omega arith)
    ∙ agree (λ e. weight (e + quarter)) (λ e. turned (weight e)) turn quarters (phase e) (omega arith)
    ∙ ap turned (weight_phase e)

-- so half a turn more turns it into its opposite
pub half_more : (e : ℕ) → weight (e + half) ≡ turned (turned (weight e))
half_more e = ap weight (omega arith) ∙ quarter_more (e + quarter) ∙ ap turned (quarter_more e)

-- ---- three weights a third of a turn apart sum to zero, at every whole twelfth of a turn

abbrev three : (Weight → ℤ) → ℕ → ℤ
three part e = part (weight e) +ℤ part (weight (e + third)) +ℤ part (weight (e + (third + third)))

abbrev sums : ℕ → Weight
sums k = record { x = three (λ w. w.x) (twelfth * k); y = three (λ w. w.y) (twelfth * k) }

thirds : map sums (steps (turn / twelfth) 1) ≡ map (λ k. no_weight) (steps (turn / twelfth) 1)
unfolding steps weight table zip_with xs ys first_half first_quarter
thirds = refl

pub record Balanced (part : Weight → ℤ) (e : ℕ) : Type 0 where
  pub zero_sum : three part e ≡ pos 0

pub balanced : (e : ℕ) → e % twelfth ≡ 0 → Balanced (λ w. w.x) e × Balanced (λ w. w.y) e
balanced e h = (
  record { zero_sum = at (λ w. w.x) ∙ ap (λ (w : Weight). w.x) zero },
  record { zero_sum = at (λ w. w.y) ∙ ap (λ (w : Weight). w.y) zero },
)
  where
    k : ℕ
    k = phase e / twelfth

    zero : sums k ≡ no_weight
    zero = agree sums (λ k. no_weight) (turn / twelfth) thirds k (omega arith)

    at : (part : Weight → ℤ) → three part e ≡ three part (twelfth * k)
    at part =
        rw (
          weight_same e (twelfth * k) (omega arith),
          weight_same (e + third) (twelfth * k + third) (omega arith),
          weight_same (e + (third + third)) (twelfth * k + (third + third)) (omega arith),
        )

pub thirds_sum : (x 0 +ℤ x third +ℤ x (third + third) ≡ pos 0) × (y 0 +ℤ y third +ℤ y (third + third) ≡ pos 0)
thirds_sum = ((balanced 0 (omega arith)).0.zero_sum, (balanced 0 (omega arith)).1.zero_sum)

-- ---- powers

power? : ℕ → Bool
power? e = leb (full_power) (power (weight e) + power_below) && leb (power (weight e)) (full_power + power_above)

powers : T (every turn power?)
unfolding every power? weight table zip_with xs ys first_half first_quarter
powers = tt

pub power_tight : (e : ℕ) → Within full_power power_below power_above (power (weight e))
unfolding power?
power_tight e =
    rw (← weight_phase e)
    (let w = weight (phase e) in
    let t = two_le full_power (power w + power_below) (power w) (full_power + power_above)
    (every_at turn power? powers (phase e) (omega arith)) in
    record { low = t.0; high = t.1 })

pub power_within : (e : ℕ) → Within full_power limit limit (power (weight e))
power_within e = let p = power_tight e in record { low = omega arith; high = omega arith }

-- both ends occur
pub power_lowest : power (weight 28) + power_below ≡ full_power
unfolding weight table zip_with xs ys first_half first_quarter
power_lowest = refl

pub power_highest : power (weight 18) ≡ full_power + power_above
unfolding weight table zip_with xs ys first_half first_quarter
power_highest = refl

-- where each of v times p weights has a power within n below and m above c, a port has one within v times these
pub port_within : (c n m v p q : ℕ) (ws : List Weight) → q < p
    → ((i : ℕ) → i < v * p → Within c n m (power (get_or ws i no_weight)))
    → Within (v * c) (v * n) (v * m) (port_power v p q ws)
unfolding port_power
port_within c n m zero p q ws h each = record { low = omega arith; high = omega arith }
port_within c n m (suc v) p q ws h each =
    let before = port_within c n m v p q ws h (λ i k. each i (omega (arith, suc-mul v p))) in
    let last = each (v * p + q) (digits_lt (omega arith) h) in
    record {
      low = omega (arith, suc-mul v c, suc-mul v n, before.low, last.low);
      high = omega (arith, suc-mul v c, suc-mul v m, before.high, last.high);
    }
