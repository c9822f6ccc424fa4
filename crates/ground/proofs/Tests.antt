-- Tests that antt computes, and what a passed test says.
use mathlib.Core.Path.{◌≡◌, sym, subst}
use mathlib.Core.Logic.{◌⊎◌, inl, inr}
use mathlib.Core.Bool.{Bool, true, false, ◌&&◌, ◌||◌}
use Prim.Native.Nat.{ℕ, zero, suc, ◌<◌, ◌≤◌}
use native.Mathlib.Nat.{not-suc-le-zero, le_of_suc-le-suc, eq-or-lt_of_le}
use lib.Dec.{T, eqb, eqb_refl, eqb→eq, leb, leb→le}
use Rattle.ground.specs.Lists.{every}

pub and_left : (a b : Bool) → T (a && b) → T a
and_left true b t = tt
and_left false b t = t

pub and_right : (a b : Bool) → T (a && b) → T b
and_right true b t = t
and_right false b t = absurd t

pub and_both : (a b : Bool) → T a → T b → T (a && b)
and_both true b t u = u
and_both false b t u = t

pub or_cases : (a b : Bool) → T (a || b) → T a ⊎ T b
or_cases true b t = inl tt
or_cases false b t = inr t

pub or_else : (a b : Bool) → (T a → ⊥) → T (a || b) → T b
or_else true b n t = absurd (n tt)
or_else false b n t = t

pub or_left : (a b : Bool) → T a → T (a || b)
or_left true b t = tt
or_left false b t = absurd t

pub or_right : (a b : Bool) → T b → T (a || b)
or_right true b t = tt
or_right false b t = t

-- two facts of one test
pub two_le : (a b c d : ℕ) → T (leb a b && leb c d) → (a ≤ b) × (c ≤ d)
two_le a b c d t = (leb→le a b (and_left (leb a b) (leb c d) t), leb→le c d (and_right (leb a b) (leb c d) t))

pub two_eq : (a b c d : ℕ) → T (eqb a b && eqb c d) → (a ≡ b) × (c ≡ d)
two_eq a b c d t = (eqb→eq a b (and_left (eqb a b) (eqb c d) t), eqb→eq c d (and_right (eqb a b) (eqb c d) t))

pub eq→eqb : (m n : ℕ) → m ≡ n → T (eqb m n)
eq→eqb m n e = subst (λ (k : ℕ). T (eqb m k)) e (eqb_refl m)

-- what every number below n passes, each does
pub every_at : (n : ℕ) (f : ℕ → Bool) → T (every n f) → (k : ℕ) → k < n → T (f k)
unfolding every
every_at zero f t k h = absurd (not-suc-le-zero h)
every_at (suc n) f t k h = elim (eq-or-lt_of_le (le_of_suc-le-suc h)) [
  | inl e ↦ subst (λ (m : ℕ). T (f m)) (sym e) (and_left (f n) (every n f) t)
  | inr l ↦ every_at n f (and_right (f n) (every n f) t) k l
]
