-- Elements of lists: where they stand, what is known of them, and that none stands there twice.
use mathlib.Core.Path.{◌≡◌, refl, sym, subst, ◌∙◌}
use mathlib.Core.Logic.{◌≢◌, ◌⊎◌, inl, inr}
use mathlib.Core.List.{List, [], ◌∷◌, ◌++◌}
use Prim.Native.Nat.{ℕ, zero, suc, ◌+◌, ◌<◌, ◌≤◌}
use native.Mathlib.Nat.{eq-or-lt_of_le}
use native.Mathlib.Omega.{arith}
use Rattle.ground.specs.Lists.{join, along, numbers_from, Member, member_first, member_further}
use Rattle.ground.specs.Lists.{NoRepeats, once_nil, once_cons}

-- ---- two lists, one after the other

module _ {A : Type 0} where
  member_left : {x : A} {xs : List A} (ys : List A) → Member x xs → Member x (xs ++ ys)
  member_left ys (member_first e) = member_first e
  member_left ys (member_further m) = member_further (member_left ys m)

  member_right : {x : A} (xs : List A) {ys : List A} → Member x ys → Member x (xs ++ ys)
  member_right [] m = m
  member_right (z ∷ xs) m = member_further (member_right xs m)

  member_either : {x : A} (xs ys : List A) → Member x (xs ++ ys) → Member x xs ⊎ Member x ys
  member_either [] ys m = inr m
  member_either (z ∷ xs) ys (member_first e) = inl (member_first e)
  member_either (z ∷ xs) ys (member_further m) = elim (member_either xs ys m) [
    | inl p ↦ inl (member_further p)
    | inr p ↦ inr p
  ]

  once_append : {xs ys : List A} → NoRepeats xs → NoRepeats ys → ((x : A) → Member x xs → Member x ys → ⊥)
      → NoRepeats (xs ++ ys)
  once_append once_nil q disjoint = q
  once_append {ys = ys} (once_cons {x} {xs} n p) q disjoint =
      once_cons {x = x}
      (λ m. elim (member_either xs ys m) [
        | inl l ↦ n l
        | inr r ↦ disjoint x (member_first refl) r
      ])
      (once_append p q (λ y l r. disjoint y (member_further l) r))

-- three elements that all differ
pub three_once : {A : Type 0} {x y z : A} → x ≢ y → x ≢ z → y ≢ z → NoRepeats (x ∷ y ∷ z ∷ [])
three_once {A} {x} {y} {z} xy xz yz = once_cons first (once_cons second (once_cons none once_nil))
  where
    none : Member z [] → ⊥
    none = elim [ ]

    second : Member y (z ∷ []) → ⊥
    second (member_first e) = yz e
    second (member_further x4) = elim x4 [ ]

    first : Member x (y ∷ z ∷ []) → ⊥
    first (member_first e) = xy e
    first (member_further (member_first e)) = xz e
    first (member_further (member_further x7)) = elim x7 [ ]

-- ---- along a list

-- a property of every element, and none stands there twice
pub record Listing {A : Type 0} (P : A → Type 0) (xs : List A) : Type 0 where
  pub has : (x : A) → Member x xs → P x
  pub once : NoRepeats xs

pub listing_one : {A : Type 0} {P : A → Type 0} (x : A) → P x → Listing P (x ∷ [])
listing_one {A} {P} x p = record { has = one; once = once_cons none once_nil }
  where
    one : (y : A) → Member y (x ∷ []) → P y
    one y (member_first e) = subst P (sym e) p
    one y (member_further x4) = elim x4 [ ]

    none : Member x [] → ⊥
    none = elim [ ]

module _ {A B : Type 0} (f : A → List B) where
  -- what is listed for an element is listed along the list
  pub member_along : {x : A} {y : B} (xs : List A) → Member x xs → Member y (f x) → Member y (along xs f)
  unfolding join
  member_along {x} {y} (z ∷ xs) (member_first e) p = member_left (along xs f) (subst (λ (w : A). Member y (f w)) e p)
  member_along (z ∷ xs) (member_further m) p = member_right (f z) (member_along xs m p)
  member_along {x = x} {y = y} [] x3 p = elim x3 [ ]

  member_of_along : {y : B} (xs : List A) → Member y (along xs f) → (x : A) × Member x xs × Member y (f x)
  unfolding join
  member_of_along (x ∷ xs) m = elim (member_either (f x) (along xs f) m) [
    | inl p ↦ (x, member_first refl, p)
    | inr p ↦ let found = member_of_along xs p in (found.0, member_further found.1, found.2)
  ]
  member_of_along {y = y} [] m = elim m [ ]

  -- what is listed once for each element, and tells which, is listed once along the list
  once_along : (key : B → A) {xs : List A} → NoRepeats xs
      → ((x : A) → Member x xs → NoRepeats (f x) × ((y : B) → Member y (f x) → key y ≡ x)) → NoRepeats (along xs f)
  unfolding join
  once_along key once_nil known = once_nil
  once_along key (once_cons {x} {xs} n o) known =
      let front = known x (member_first refl) in
      once_append front.0 (once_along key o (λ z m. known z (member_further m)))
      (λ y p q.
      let found = member_of_along xs q in
      let told = (known found.0 (member_further found.1)).1 y found.2 in
      n (subst (λ (z : A). Member z xs) (sym told ∙ front.1 y p) found.1))

  pub listing_along : {P : B → Type 0} (key : B → A) {xs : List A} → NoRepeats xs
      → ((x : A) → Member x xs → Listing (λ y. P y × (key y ≡ x)) (f x)) → Listing P (along xs f)
  listing_along {P} key {xs} o known =
      record {
        has = λ y m. let found = member_of_along xs m in ((known found.0 found.1).has y found.2).0;
        once = once_along key o (λ x m. ((known x m).once, λ y p. ((known x m).has y p).1));
      }

-- ---- numbers

pub number_member : (k n : ℕ) {x : ℕ} → k ≤ x → x < k + n → Member x (numbers_from k n)
unfolding numbers_from
number_member k zero h l = absurd (omega arith)
number_member k (suc n) h l = elim (eq-or-lt_of_le h) [
  | inl e ↦ member_first (sym e)
  | inr p ↦ member_further (number_member (suc k) n p (omega arith))
]

pub member_number : (k n : ℕ) {x : ℕ} → Member x (numbers_from k n) → (k ≤ x) × (x < k + n)
unfolding numbers_from
member_number k (suc n) (member_first e) = (omega arith, omega arith)
member_number k (suc n) (member_further m) = let h = member_number (suc k) n m in (omega arith, omega arith)
member_number k zero x3 = elim x3 [ ]

pub numbers_once : (k n : ℕ) → NoRepeats (numbers_from k n)
unfolding numbers_from
numbers_once k zero = once_nil
numbers_once k (suc n) =
    once_cons {x = k} {xs = numbers_from (suc k) n} (λ m. omega (arith, member_number (suc k) n m)) (numbers_once (suc k) n)
