-- Two columns whose differences cancel have a small cross-sum in 16-bit weights: port by port the product is near
-- radius times the weight at the difference, and these weights sum to zero.
use mathlib.Core.Path.{◌≡◌, refl, sym, ap, ap₂, ◌∙◌}
use mathlib.Core.List.{List, [], ◌∷◌, map}
use Prim.Native.Nat.{ℕ, ◌+◌, ◌*◌, ◌≤◌}
use native.Mathlib.Nat.{le_trans}
use native.Mathlib.Omega.{arith}
use lib.ListN.{length}
use lib.IntN.{ℤ, pos, neg_ℤ, nat_abs, ◌+ℤ◌, ◌-ℤ◌, ◌*ℤ◌, +ℤ_idr, +ℤ_invr}
use Rattle.ground.specs.Lists.{All, all_nil, all_cons}
use Rattle.ground.proofs.All.{all_each}
use Rattle.turn.specs.Phase.{difference, half, third}
use Rattle.turn.specs.Exact.{differences}
use Rattle.turn.specs.Cancel.{Cancels, total, Invariant, opposites, thirds}
use Rattle.turn.proofs.Invariant.{total_cong, invariant-add}
use Rattle.weight.specs.declared.Weight.{Weight}
use Rattle.weight.specs.Table.{radius, weight}
use Rattle.weight.specs.Products.{re, im, off, limit, cross, turned}
use Rattle.weight.proofs.Integers.{size_add, sub_sums, mul_sum, above, below, parts, add_parts, zero_parts}
use Rattle.weight.proofs.Rules.{x, y, weight_phase, half_more, Balanced, balanced}
use Rattle.weight.proofs.Products.{product_within}

unfoldable pub sum : (ℕ → ℤ) → List ℕ → ℤ
sum f [] = pos 0
sum f (e ∷ es) = f e +ℤ sum f es

-- ---- a sum as the difference of two totals

sum_parts : (f : ℕ → ℤ) (es : List ℕ) → sum f es ≡ pos (total (λ e. above (f e)) es) -ℤ pos (total (λ e. below (f e)) es)
unfolding sum total
sum_parts f [] = refl
sum_parts f (e ∷ es) =
    ap₂ ◌+ℤ◌ (parts (f e)) (sum_parts f es)
    ∙ add_parts (above (f e)) (below (f e)) (total (λ g. above (f g)) es) (total (λ g. below (f g)) es)

sum_zero : (f : ℕ → ℤ) (es : List ℕ) → total (λ e. above (f e)) es ≡ total (λ e. below (f e)) es → sum f es ≡ pos 0
sum_zero f es e = sum_parts f es ∙ rw e (+ℤ_invr (pos (total (λ e. below (f e)) es)))

-- ---- opposites and thirds, for a function of a phase

module _ (part : Weight → ℤ) where
  abbrev f : ℕ → ℤ
  f e = part (weight e)

  -- a turn that only permutes the phases
  same_total : (h : ℤ → ℕ) {g : ℕ} {es : List ℕ} → Invariant g es
      → total (λ e. h (f (e + g))) es ≡ total (λ e. h (f e)) es
  same_total h p = p.turned (λ e. h (f e)) (λ e. ap (λ w. h (part w)) (weight_phase e))

  sum_opposites : ((w : Weight) → part (turned (turned w)) ≡ neg_ℤ (part w)) → {es : List ℕ} → Invariant half es
      → sum f es ≡ pos 0
  unfolding below
  sum_opposites opposite {es} p =
      sum_zero f es
      (sym (same_total above p) ∙ total_cong (λ e. ap above (ap part (half_more e) ∙ opposite (weight e))) es)

  -- each weight with the two a third and two thirds on, added up
  three_totals : {es : List ℕ} → All (Balanced part) es
      → total (λ e. above (f e)) es + total (λ e. above (f (e + third))) es + total (λ e. above (f (e + (third + third)))) es
      ≡ total (λ e. below (f e)) es + total (λ e. below (f (e + third))) es + total (λ e. below (f (e + (third + third)))) es
  unfolding total
  three_totals all_nil = refl
  three_totals (all_cons {x = e} b a) =
      omega (arith, zero_parts (f e) (f (e + third)) (f (e + (third + third))) b.zero_sum, three_totals a)

  sum_thirds : {es : List ℕ} → Invariant third es → All (Balanced part) es → sum f es ≡ pos 0
  sum_thirds {es} p a =
      let q = invariant-add p p in
      sum_zero f es
      (omega (arith, three_totals a, same_total above p, same_total above q, same_total below p, same_total below q))

-- ---- weights

pub weights_sum : {es : List ℕ} → Cancels es → (sum x es ≡ pos 0) × (sum y es ≡ pos 0)
weights_sum (opposites p) = (sum_opposites (λ w. w.x) (λ w. refl) p, sum_opposites (λ w. w.y) (λ w. refl) p)
weights_sum (thirds p a) = (
  sum_thirds (λ w. w.x) p (all_each (λ e h. (balanced e h).0) a),
  sum_thirds (λ w. w.y) p (all_each (λ e h. (balanced e h).1) a),
)

-- ---- cross-sums

-- the cross-sum of the weights of two columns of phases
abbrev pub between : (Weight → Weight → ℤ) → List ℕ → List ℕ → ℤ
between part es gs = cross part (map weight es) (map weight gs)

-- a part of the product, and the same part of a weight
module _ (part : Weight → Weight → ℤ) (f : ℕ → ℤ)
    (near : (e g : ℕ) → off (part (weight e) (weight g)) (f (difference e g)) ≤ limit) where
  cross_near : (es gs : List ℕ) → off (between part es gs) (sum f (differences es gs)) ≤ limit * length es
  unfolding cross sum differences
  cross_near [] gs = omega arith
  cross_near (e ∷ es) [] = omega arith
  cross_near (e ∷ es) (g ∷ gs) =
      let s = sum f (differences es gs) in
      rw (mul_sum radius (f (difference e g)) s, sub_sums)
      (le_trans
      (size_add (part (weight e) (weight g) -ℤ pos radius *ℤ f (difference e g)) (between part es gs -ℤ pos radius *ℤ s))
      (omega (arith, near e g, cross_near es gs)))

  cross_small : (es gs : List ℕ) → sum f (differences es gs) ≡ pos 0 → nat_abs (between part es gs) ≤ limit * length es
  cross_small es gs z = rw (z, +ℤ_idr) at (cross_near es gs)

pub cross_bound : (es gs : List ℕ) → Cancels (differences es gs)
    → (nat_abs (between re es gs) ≤ limit * length es) × (nat_abs (between im es gs) ≤ limit * length es)
cross_bound es gs c = (
  cross_small re x (λ e g. (product_within e g).x) es gs (weights_sum c).0,
  cross_small im y (λ e g. (product_within e g).y) es gs (weights_sum c).1,
)
