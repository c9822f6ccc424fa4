-- Totals of a function over a list of phases, and lists that a turn by g only permutes: what keeps that.
use mathlib.Core.Path.{◌≡◌, refl, sym, ap, ap₂, ◌∙◌}
use mathlib.Core.List.{List, [], ◌∷◌, ◌++◌, map}
use Prim.Native.Nat.{ℕ, zero, suc, ◌+◌, ◌*◌}
use native.Mathlib.Nat.{zero-add, mod-add-mod, zero-mul, suc-mul}
use native.Mathlib.Omega.{arith}
use Rattle.turn.specs.Phase.{turn, phase}
use Rattle.turn.specs.Column.{product, steps}
use Rattle.turn.specs.Cancel.{total, Steady, Invariant}

pub total_cong : {f g : ℕ → ℕ} → ((x : ℕ) → f x ≡ g x) → (xs : List ℕ) → total f xs ≡ total g xs
total_cong e xs = λ i. total (λ x. e x i) xs

pub total_append : (f : ℕ → ℕ) (xs ys : List ℕ) → total f (xs ++ ys) ≡ total f xs + total f ys
unfolding total
total_append f [] ys = sym (zero-add (total f ys))
total_append f (x ∷ xs) ys = omega (arith, total_append f xs ys)

pub total_map : (f h : ℕ → ℕ) (xs : List ℕ) → total f (map h xs) ≡ total (λ x. f (h x)) xs
unfolding total
total_map f h [] = refl
total_map f h (x ∷ xs) = ap (λ n. f (h x) + n) (total_map f h xs)

pub total_product : (f : ℕ → ℕ) (xs ys : List ℕ) → total f (product xs ys) ≡ total (λ x. total (λ y. f (x + y)) ys) xs
unfolding total product
total_product f [] ys = refl
total_product f (x ∷ xs) ys = simp (total_append, total_map, total_product f xs ys)

pub steady_same : {f : ℕ → ℕ} → Steady f → (x y : ℕ) → phase x ≡ phase y → f x ≡ f y
steady_same {f} s x y e = sym (s x) ∙ ap f e ∙ s y

pub steady_shift : {f : ℕ → ℕ} → Steady f → (g : ℕ) → Steady (λ x. f (x + g))
steady_shift s g x = steady_same s (phase x + g) (x + g) (mod-add-mod x turn g)

-- ---- turns

-- two turns, one after the other
pub invariant-add : {g h : ℕ} {xs : List ℕ} → Invariant g xs → Invariant h xs → Invariant (g + h) xs
invariant-add {g} {h} {xs} p q = record {
  turned = λ f s.
      total_cong (λ x. ap f (omega arith)) xs
      ∙ p.turned (λ x. f (x + h)) (steady_shift s h)
      ∙ q.turned f s;
}

-- only the phase of g counts
pub invariant-same : {g h : ℕ} {xs : List ℕ} → phase g ≡ phase h → Invariant g xs → Invariant h xs
invariant-same {g} {h} {xs} e p = record {
  turned = λ f s. total_cong (λ x. steady_same s (x + h) (x + g) (omega arith)) xs ∙ p.turned f s;
}

-- a map that depends on the phase alone and goes with the turn
invariant-map : {g : ℕ} {xs : List ℕ} (h : ℕ → ℕ) → ((x : ℕ) → phase (h (phase x)) ≡ phase (h x))
    → ((x : ℕ) → phase (h x + g) ≡ phase (h (x + g))) → Invariant g xs → Invariant g (map h xs)
invariant-map {g} {xs} h e e' p = record {
  turned = λ f s.
      simp total_map
      (total_cong (λ x. steady_same s (h x + g) (h (x + g)) (e' x)) xs
      ∙ p.turned (λ x. f (h x)) (λ x. steady_same s (h (phase x)) (h x) (e x)));
}

pub invariant-phases : {g : ℕ} {xs : List ℕ} → Invariant g xs → Invariant g (map phase xs)
invariant-phases = invariant-map phase (omega arith) (omega arith)

pub invariant-shift : {g : ℕ} {ys : List ℕ} (x : ℕ) → Invariant g ys → Invariant g (map (λ y. x + y) ys)
invariant-shift x = invariant-map (λ y. x + y) (omega arith) (omega arith)

pub invariant-append : {g : ℕ} {xs ys : List ℕ} → Invariant g xs → Invariant g ys → Invariant g (xs ++ ys)
invariant-append p q = record { turned = λ f s. simp total_append (ap₂ ◌+◌ (p.turned f s) (q.turned f s)) }

-- ---- a product, by either factor

pub invariant-right : {g : ℕ} (xs : List ℕ) {ys : List ℕ} → Invariant g ys → Invariant g (product xs ys)
unfolding product total
invariant-right [] p = record { turned = λ f s. refl }
invariant-right (x ∷ xs) p = invariant-append (invariant-shift x p) (invariant-right xs p)

pub invariant-left : {g : ℕ} {xs : List ℕ} (ys : List ℕ) → Invariant g xs → Invariant g (product xs ys)
invariant-left {g} {xs} ys p = record {
  turned = λ f s.
      simp total_product
      (total_cong (λ x. total_cong (λ y. ap f (omega arith)) ys) xs
      ∙ p.turned (λ x. total (λ y. f (x + y)) ys) (λ x. total_cong (λ y. steady_shift s y x) ys));
}

-- ---- steps

-- one step on, the first is dropped and one more is added
one_on : (f : ℕ → ℕ) (n s : ℕ) → total (λ x. f (x + s)) (steps n s) + f 0 ≡ total f (steps n s) + f (n * s)
unfolding total steps
one_on f zero s = ap (λ (x : ℕ). 0 + f x) (sym (zero-mul s))
one_on f (suc n) s = simp total_append (omega (arith, one_on f n s, ap f (suc-mul n s)))

-- n steps of s that come round to where they began
pub invariant-steps : (n s : ℕ) → phase (n * s) ≡ 0 → Invariant s (steps n s)
invariant-steps n s e = record {
  turned = λ f st.
      let r = one_on f n s in
      let w = steady_same st (n * s) 0 e in
      omega arith;
}
