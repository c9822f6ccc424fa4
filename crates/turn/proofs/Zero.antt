-- A list of phases that some turn only permutes sums to exactly zero.
use mathlib.Core.Path.{◌≡◌, refl, sym, ap, ◌∙◌, subst}
use mathlib.Core.Logic.{◌≢◌, ◌⊎◌, inl, inr}
use mathlib.Core.Bool.{Bool, false, cond, ◌||◌}
use mathlib.Core.List.{List, [], ◌∷◌, map}
use Prim.Native.Nat.{ℕ, zero, suc, ◌+◌, ◌%◌, ◌<◌}
use native.Mathlib.Nat.{mod-mod, mod-lt}
use native.Mathlib.Decide.{ℕ_discrete}
use native.Mathlib.Omega.{arith}
use lib.Dec.{T, eqb, eqb→eq, lit<}
use lib.IntN.{pos, neg_ℤ, ◌+ℤ◌, ◌-ℤ◌, +ℤ_invr, +ℤ_comm, neg_ℤ-+ℤ, neg_ℤ-neg_ℤ}
use borrow.Author.Tests.{eq-eqb, ne_eqb}
use Rattle.ground.specs.Lists.{every}
use Rattle.ground.proofs.Tests.{or_cases, or_else, every_at}
use Rattle.turn.specs.Phase.{turn, half, third, sixth, phase}
use Rattle.turn.specs.Exact.{count, d, ExactZero}
use Rattle.turn.specs.Cancel.{total, Invariant}
use Rattle.turn.proofs.Invariant.{total_cong, total_map, invariant-add, invariant-same}

-- ---- counts

-- 1 where x is e, and else 0
abbrev pub hit : ℕ → ℕ → ℕ
hit x e = cond (eqb x e) 1 0

count_total : (xs : List ℕ) (e : ℕ) → count xs e ≡ total (λ x. hit x e) xs
unfolding count total
count_total [] e = refl
count_total (x ∷ xs) e = ap (λ n. hit x e + n) (count_total xs e)

-- as many are at e + g as at e
count_turned : {g : ℕ} {xs : List ℕ} → Invariant g xs → (e e' : ℕ) → (e' ≡ e + g) × (e' < turn)
    → count (map phase xs) e ≡ count (map phase xs) e'
count_turned {g} {xs} p e e' q =
    simp (count_total, total_map)
    (total_cong alike xs ∙ p.turned (λ x. hit (phase x) e') (λ x. ap (λ y. hit y e') (mod-mod x turn)))
  where
    alike : (x : ℕ) → hit (phase x) e ≡ hit (phase (x + g)) e'
    alike x = elim (ℕ_discrete (phase x) e) [
      | yes r ↦ rw (eq-eqb (phase (x + g)) e' (omega arith), eq-eqb (phase x) e r)
      | no n ↦ rw (ne_eqb (phase (x + g)) e' (omega arith), ne_eqb (phase x) e n)
    ]

-- ---- half a turn, and a third

-- the opposite of a difference
pub neg_sub : (m n : ℕ) → pos m -ℤ pos n ≡ neg_ℤ (pos n -ℤ pos m)
neg_sub m n =
    sym (neg_ℤ-+ℤ (pos n) (neg_ℤ (pos m)) ∙ ap (λ z. neg_ℤ (pos n) +ℤ z) (neg_ℤ-neg_ℤ (pos m)) ∙ +ℤ_comm (neg_ℤ (pos n)) (pos m))

pub zero_by_half : {xs : List ℕ} → Invariant half xs → ExactZero (map phase xs)
zero_by_half {xs} p = record {
  same = λ i h. rw (none i (omega arith), none (third + i) (omega arith));
  opposite = λ i h. rw (none (sixth + i) (omega arith), none (third + i) (omega arith));
}
  where
    none : (e : ℕ) → e < half → d (map phase xs) e ≡ pos 0
    none e h =
        unfold d in rw (count_turned p e (e + half) (omega arith)) (+ℤ_invr (pos (count (map phase xs) (e + half))))

pub zero_by_third : {xs : List ℕ} → Invariant third xs → ExactZero (map phase xs)
unfolding d
zero_by_third {xs} p = record {
  same = λ i h.
      rw (count_turned p i (third + i) (omega arith), count_turned p (i + half) (third + i + half) (omega arith));
  opposite = λ i h.
      rw (
        count_turned p (sixth + i) (i + half) (omega arith),
        count_turned p (i + half) (third + i + half) (omega arith),
        ← count_turned p (third + i) (sixth + i + half) (omega arith),
      )
      (neg_sub (count (map phase xs) (third + i + half)) (count (map phase xs) (third + i)));
}

-- ---- any other part of a turn comes to one of the two by doubling

-- does doubling g, fewer than n times, come to t
reaches : ℕ → ℕ → ℕ → Bool
reaches t zero g = false
reaches t (suc n) g = eqb g t || reaches t n (phase (g + g))

follow : (t n g : ℕ) {xs : List ℕ} → T (reaches t n g) → Invariant g xs → Invariant t xs
unfolding reaches
follow t zero g r p = absurd r
follow t (suc n) g {xs} r p = elim (or_cases (eqb g t) (reaches t n (phase (g + g))) r) [
  | inl a ↦ subst (λ (h : ℕ). Invariant h xs) (eqb→eq g t a) p
  | inr b ↦ follow t n (phase (g + g)) b (invariant-same (sym (mod-mod (g + g) turn)) (invariant-add p p))
]

-- half a turn where 3 divides g, and else a third of a turn
part_of : ℕ → ℕ
part_of g = cond (eqb (g % 3) 0) half third

-- doubling comes to it: computed, phase by phase
reached? : ℕ → Bool
reached? g = eqb g 0 || reaches (part_of g) 16 g

all_reached : T (every turn reached?)
unfolding every reached? reaches part_of
all_reached = tt

to_part : {g : ℕ} {xs : List ℕ} → phase g ≢ 0 → Invariant g xs → Invariant (part_of (phase g)) xs
unfolding reached?
to_part {g} ne p =
    let t : T (reached? (phase g)) = every_at turn reached? all_reached (phase g) (mod-lt g (lit< tt)) in
    follow (part_of (phase g)) 16 (phase g) (or_else (eqb (phase g) 0) _ (λ z. ne (eqb→eq _ 0 z)) t)
    (invariant-same (sym (mod-mod g turn)) p)

pub to_half : {g : ℕ} {xs : List ℕ} → phase g ≢ 0 → g % 3 ≡ 0 → Invariant g xs → Invariant half xs
unfolding part_of
to_half {g} ne three p = rw (eq-eqb (phase g % 3) 0 (omega arith)) at (to_part ne p)

pub half_or_third : {g : ℕ} {xs : List ℕ} → phase g ≢ 0 → Invariant g xs → Invariant half xs ⊎ Invariant third xs
unfolding part_of
half_or_third {g} ne p = elim (ℕ_discrete (g % 3) 0) [
  | yes e ↦ inl (to_half ne e p)
  | no n ↦ inr (rw (ne_eqb (phase g % 3) 0 (omega arith)) at (to_part ne p))
]

-- a turn by any g that is not a whole turn
pub exact_zero : {g : ℕ} {xs : List ℕ} → phase g ≢ 0 → Invariant g xs → ExactZero (map phase xs)
exact_zero ne p = elim (half_or_third ne p) [ inl h ↦ zero_by_half h | inr t ↦ zero_by_third t ]
