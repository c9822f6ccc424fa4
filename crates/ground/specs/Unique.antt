-- What it means that a contract determines the outcome of a call.
use Rattle.std.specs.Prelude.{◌≡◌}

-- What a contract says of a call with arguments a, its result and what it leaves: the result is determined.
-- (`F.Learnt` is what the source's `ensures` of F tells a caller; k stands for lifetimes.)
abbrev pub Unique : {K : Type 0} {A R E : K → Type 0} → ((k : K) → A k → R k → E k → Type 0) → Type 0
Unique {K} {A} {R} {E} says = (k : K) (a : A k) (r r' : R k) (e e' : E k) → says k a r e → says k a r' e' → r ≡ r'

-- The same where a buffer is lent: what stands in it afterwards is determined too. (`left` picks that of what a call
-- leaves.)
abbrev pub UniqueLeft : {K : Type 0} {A R E : K → Type 0} {L : Type 0}
    → ((k : K) → A k → R k → E k → Type 0) → ((k : K) → E k → L) → Type 0
UniqueLeft {K} {A} {R} {E} says left =
    (k : K) (a : A k) (r r' : R k) (e e' : E k) → says k a r e → says k a r' e' → (r ≡ r') × (left k e ≡ left k e')
