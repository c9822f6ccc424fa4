-- Definitions by cases.
use Rattle.std.specs.Prelude.{Bool, cond}

infixr 10 ◌⇒◌∣◌
-- the first whose test holds, and what stands last where none does
abbrev pub ◌⇒◌∣◌ : {A : Type 0} → Bool → A → A → A
test ⇒ x ∣ y = cond test x y
