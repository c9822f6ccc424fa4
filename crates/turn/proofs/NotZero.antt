-- What is not exactly zero: one phase more than a list that is, so any single phase, and any column against itself. No
-- equation of the rule follows from the others, at any i below a sixth of a turn.
use mathlib.Core.Path.{◌≡◌, refl, sym, ap, ◌∙◌}
use mathlib.Core.Logic.{◌≢◌}
use mathlib.Core.List.{List, [], ◌∷◌}
use Prim.Native.Nat.{ℕ, ◌+◌, ◌-◌, ◌*◌, ◌%◌, ◌<◌}
use native.Mathlib.Nat.{zero-mul}
use native.Mathlib.Decide.{dec_lt, ℕ_discrete}
use native.Mathlib.Omega.{arith}
use lib.IntN.{pos, neg_ℤ, nat_abs, ◌+ℤ◌, ◌-ℤ◌, +ℤ_assoc, +ℤ_comm, -ℤ-+ℤ_cancel}
use lib.ListN.{length}
use borrow.Author.Tests.{eq-eqb, ne_eqb}
use Rattle.turn.specs.Phase.{turn, half, third, sixth, difference}
use Rattle.turn.specs.Exact.{count, d, ExactZero, differences, Orthogonal}
use Rattle.turn.proofs.Zero.{hit, neg_sub}

-- ---- the rule between numbers of ports

-- equal differences, without a minus
pub across : (a b c e : ℕ) → pos a -ℤ pos b ≡ pos c -ℤ pos e → a + e ≡ c + b
across a b c e p =
    ap nat_abs
    (sym (ap (λ z. z +ℤ pos e) (-ℤ-+ℤ_cancel (pos a) (pos b)))
    ∙ ap (λ z. z +ℤ pos b +ℤ pos e) p
    ∙ +ℤ_assoc (pos c -ℤ pos e) (pos b) (pos e)
    ∙ ap (λ z. (pos c -ℤ pos e) +ℤ z) (+ℤ_comm (pos b) (pos e))
    ∙ sym (+ℤ_assoc (pos c -ℤ pos e) (pos e) (pos b))
    ∙ ap (λ z. z +ℤ pos b) (-ℤ-+ℤ_cancel (pos c) (pos e)))

-- the first equation at i
pub same_counts : (xs : List ℕ) → ExactZero xs → (i : ℕ) → i < sixth
    → count xs i + count xs (third + i + half) ≡ count xs (third + i) + count xs (i + half)
unfolding d
same_counts xs z i h = across _ _ _ _ (z.same i h)

-- the second
pub opposite_counts : (xs : List ℕ) → ExactZero xs → (i : ℕ) → i < sixth
    → count xs (sixth + i) + count xs (third + i) ≡ count xs (third + i + half) + count xs (sixth + i + half)
unfolding d
opposite_counts xs z i h = across _ _ _ _ (z.opposite i h ∙ sym (neg_sub (count xs (third + i + half)) _))

-- ---- what is not exactly zero

-- 1 where e is x or its opposite
abbrev hits : ℕ → ℕ → ℕ
hits e x = hit e x + hit e (x + half)

-- so that e is at one of two places x and y of half a turn, where x is its own
hits_one : (e x y : ℕ) → e < turn → x ≡ e % half → y < half → y ≢ x → hits e x + hits e y ≡ 1
hits_one e x y h q l n =
    rw (ne_eqb e y (omega arith), ne_eqb e (y + half) (omega arith))
    (elim (ℕ_discrete e x) [
      | yes p ↦ rw (eq-eqb e x p, ne_eqb e (x + half) (omega arith))
      | no p ↦ rw (ne_eqb e x p, eq-eqb e (x + half) (omega arith))
    ])

-- one phase more than a list that sums to zero
pub one_more_not_zero : (e : ℕ) → e < turn → (xs : List ℕ) → ExactZero xs → ExactZero (e ∷ xs) → ⊥
unfolding count
one_more_not_zero e h xs z z' = elim (dec_lt (e % half) sixth) [
  | yes k ↦ even_same (e % half) k (hits_one e (e % half) (third + e % half) h refl (omega arith) (omega arith))
  | no n ↦ elim (dec_lt (e % half) third) [
    | yes k ↦ let i = e % half - sixth in
        even_opposite i (omega arith) (hits_one e (sixth + i) (third + i) h (omega arith) (omega arith) (omega arith))
    | no m ↦ let i = e % half - third in
        even_same i (omega arith) (omega (arith, hits_one e (third + i) i h (omega arith) (omega arith) (omega arith)))
  ]
]
  where
    even_same : (i : ℕ) → i < sixth → hits e i + hits e (third + i) ≢ 1
    even_same i k = omega (arith, same_counts xs z i k, same_counts (e ∷ xs) z' i k)

    even_opposite : (i : ℕ) → i < sixth → hits e (sixth + i) + hits e (third + i) ≢ 1
    even_opposite i k = omega (arith, opposite_counts xs z i k, opposite_counts (e ∷ xs) z' i k)

-- the empty list sums to zero
pub nothing_zero : ExactZero []
unfolding d count
nothing_zero = record { same = λ i h. refl; opposite = λ i h. refl }

-- a single phase never does
pub one_phase_not_zero : (e : ℕ) → e < turn → ExactZero (e ∷ []) → ⊥
one_phase_not_zero e h = one_more_not_zero e h [] nothing_zero

-- ---- every equation is needed

-- xs does not sum to zero, and every equation of the rule holds of it but the first at i and the second at k, of which
-- there is none where that is a sixth of a turn
pub record AllBut (xs : List ℕ) (i k : ℕ) : Type 0 where
  pub not_zero : ExactZero xs → ⊥
  pub same : (j : ℕ) → j < sixth → j ≢ i → d xs j ≡ d xs (third + j)
  pub opposite : (j : ℕ) → j < sixth → j ≢ k → d xs (sixth + j) ≡ neg_ℤ (d xs (third + j))

all_but : (e i k : ℕ) → e < third → ((j : ℕ) → j < sixth → j ≢ i → j ≢ e)
    → ((j : ℕ) → j < sixth → j ≢ k → sixth + j ≢ e) → AllBut (e ∷ []) i k
all_but e i k h f g = record {
  not_zero = one_phase_not_zero e (omega arith);
  same = λ j l n. rw (never j (omega arith) (f j l n), never (third + j) (omega arith) (omega arith));
  opposite = λ j l n. rw (never (sixth + j) (omega arith) (g j l n), never (third + j) (omega arith) (omega arith));
}
  where
    never : (x : ℕ) → x < half → x ≢ e → d (e ∷ []) x ≡ pos 0
    never x l n = unfold d count in rw (ne_eqb e x (omega arith), ne_eqb e (x + half) (omega arith))

-- the phase i breaks the first equation at i and no other
pub same_needed : (i : ℕ) → i < sixth → AllBut (i ∷ []) i sixth
same_needed i h = all_but i i sixth (omega arith) (omega arith) (omega arith)

-- a sixth of a turn on, it breaks the second at i and no other
pub opposite_needed : (i : ℕ) → i < sixth → AllBut ((sixth + i) ∷ []) sixth i
opposite_needed i h = all_but (sixth + i) sixth i (omega arith) (omega arith) (omega arith)

-- ---- columns

-- each port of a column against itself has difference 0
count_itself : (xs : List ℕ) (e : ℕ) → count (differences xs xs) e ≡ length xs * hit 0 e
unfolding count differences
count_itself [] e = sym (zero-mul _)
count_itself (x ∷ xs) e = rw (difference_itself x) (omega (arith, count_itself xs e))
  where
    difference_itself : (x : ℕ) → difference x x ≡ 0
    difference_itself x = unfold difference in omega arith

-- a column that has ports is not orthogonal to itself
pub itself_not_orthogonal : (x : ℕ) (xs : List ℕ) → Orthogonal (x ∷ xs) (x ∷ xs) → ⊥
itself_not_orthogonal x xs z =
    omega (
      arith,
      same_counts (differences (x ∷ xs) (x ∷ xs)) z 0 (omega arith),
      count_itself (x ∷ xs) 0,
      count_itself (x ∷ xs) third,
      count_itself (x ∷ xs) half,
      count_itself (x ∷ xs) (third + half),
    )
