-- Truth values.
use mathlib.Core.Path.{◌≡◌, refl, sym}
use mathlib.Core.Bool.{Bool, true, false, cond, ◌&&◌, ◌||◌, and-false, beq, true≢false, false≢true}
use lib.Dec.{T}

-- what follows from either side of a test
pub either : {A : Type 0} (b : Bool) → (b ≡ true → A) → (b ≡ false → A) → A
either true p q = p refl
either false p q = q refl

pub is_false : (b : Bool) → (b ≡ true → ⊥) → false ≡ b
is_false true h = absurd (h refl)
is_false false h = refl

pub is_true : (b : Bool) → T b → b ≡ true
is_true true t = refl
is_true false t = absurd t

pub same_truth : (a b : Bool) → T (beq a b) → a ≡ b
same_truth true true t = refl
same_truth false false t = refl
same_truth true false t = absurd t
same_truth false true t = absurd t

-- what holds of both holds of either
pub cond_both : {A : Type 0} (P : A → Type 0) (b : Bool) {x y : A} → P x → P y → P (cond b x y)
cond_both P true p q = p
cond_both P false p q = q

-- a function's value is that of the side that is taken
pub cond_each : {A B : Type 0} (f : A → B) (b : Bool) {x y : A} {m n : B} → f x ≡ m → f y ≡ n → f (cond b x y) ≡ cond b m n
cond_each f true p q = p
cond_each f false p q = q

pub or_nothing : (a : Bool) → a ≡ (a || false)
or_nothing a = sym (mathlib.Core.Bool.or-false a)

pub and_true_left : (a b : Bool) → (a && b) ≡ true → a ≡ true
and_true_left true b e = refl
and_true_left false b e = e

pub and_true_right : (a b : Bool) → (a && b) ≡ true → b ≡ true
and_true_right true b e = e
and_true_right false b e = absurd (false≢true e)

pub and_nothing : (a : Bool) → (a && false) ≡ false
and_nothing = and-false
