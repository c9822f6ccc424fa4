-- Lists that are mapped and joined, and elements of them.
use mathlib.Core.Path.{◌≡◌, refl, sym, ap, subst, ◌∙◌}
use mathlib.Core.Logic.{inl, inr}
use mathlib.Core.Bool.{Bool, true, not, ◌&&◌}
use mathlib.Core.List.{List, [], ◌∷◌, ◌++◌, map, append-nil, append_assoc}
use Prim.Native.Nat.{ℕ, zero, suc, ◌+◌, ◌-◌, ◌*◌, ◌<◌, ◌≤◌}
use native.Mathlib.Nat.{zero-mul, not-suc-le-zero, le_of_suc-le-suc}
use native.Mathlib.Omega.{arith}
use lib.Dec.{T, T_not, eqb, eqb_refl}
use lib.ListN.{length, get_or, take, drop, set, replicate, length-append}
use lib.Seq.{get_or-take, get_or-drop, take_at, drop_at, drop-drop, drop-append-add}
use Rattle.ground.specs.Lists.{join, places, some, each, among, Member, member_first, member_further}
use Rattle.ground.specs.Lists.{NoRepeats, once_nil, once_cons}
use Rattle.ground.proofs.Tests.{and_left, and_right, or_cases, or_left, or_right}

-- what stands behind the front of a part of a list
pub drop_behind : {A : Type 0} (xs front rest : List A) (at m : ℕ) → drop at xs ≡ front ++ rest → m ≡ at + length front
    → drop m xs ≡ rest
drop_behind xs front rest at m e p =
    ap (λ (k : ℕ). drop k xs) p
    ∙ sym (drop-drop (length front) at xs)
    ∙ ap (drop (length front)) e
    ∙ drop_at front rest (length front) refl

-- ---- lists that are mapped

-- at once, or one after the other
pub map_twice : {A B C : Type 0} (f : A → C) (g : B → C) (h : A → B) → ((x : A) → f x ≡ g (h x)) → (xs : List A)
    → map f xs ≡ map g (map h xs)
map_twice f g h e [] = refl
map_twice f g h e (x ∷ xs) = λ i. e x i ∷ map_twice f g h e xs i

-- to one and the same
pub all_same : {A B : Type 0} (f : A → B) (b : B) (xs : List A) (x : A)
    → ((i : ℕ) → i < length xs → f (get_or xs i x) ≡ b) → map f xs ≡ replicate (length xs) b
all_same f b [] x h = refl
all_same f b (y ∷ xs) x h = rw (h 0 (omega arith), all_same f b xs x (λ i k. h (suc i) (omega arith)))

-- ---- lists in so many places

places_nil : {A : Type 0} (n : ℕ) (x : A) → places n x [] ≡ replicate n x
unfolding places
places_nil zero x = refl
places_nil (suc n) x = ap (λ xs. x ∷ xs) (places_nil n x)

-- a list of x alone
pub places_same : {A : Type 0} (n m : ℕ) (x : A) → places n x (replicate m x) ≡ replicate n x
unfolding places
places_same n zero x = places_nil n x
places_same zero (suc m) x = refl
places_same (suc n) (suc m) x = ap (λ xs. x ∷ xs) (places_same n m x)

pub places_append : {A : Type 0} (n : ℕ) (x : A) (ys : List A) → length ys ≤ n
    → places n x ys ≡ ys ++ replicate (n - length ys) x
unfolding places
places_append n x [] h =
    let e : n ≡ n - 0 = omega arith in
    places_nil n x ∙ ap (λ (k : ℕ). replicate k x) e
places_append zero x (y ∷ ys) h = absurd (not-suc-le-zero h)
places_append (suc n) x (y ∷ ys) h =
    let e : n - length ys ≡ suc n - suc (length ys) = omega arith in
    ap (λ xs. y ∷ xs) (places_append n x ys (le_of_suc-le-suc h)) ∙ ap (λ (k : ℕ). y ∷ (ys ++ replicate k x)) e

pub length_places : {A : Type 0} (n : ℕ) (x : A) (ys : List A) → length (places n x ys) ≡ n
unfolding places
length_places zero x ys = refl
length_places (suc n) x [] = ap suc (length_places n x [])
length_places (suc n) x (y ∷ ys) = ap suc (length_places n x ys)

-- an element, and x past the last
pub places_at : {A : Type 0} (n : ℕ) (x : A) (ys : List A) (i : ℕ) → i < n → get_or (places n x ys) i x ≡ get_or ys i x
unfolding places
places_at zero x ys i h = absurd (not-suc-le-zero h)
places_at (suc n) x [] zero h = refl
places_at (suc n) x [] (suc i) h = places_at n x [] i (le_of_suc-le-suc h)
places_at (suc n) x (y ∷ ys) zero h = refl
places_at (suc n) x (y ∷ ys) (suc i) h = places_at n x ys i (le_of_suc-le-suc h)

-- one element more is put into its place
pub places_next : {A : Type 0} (n : ℕ) (x : A) (ys : List A) (i : ℕ) → i < length ys → i < n
    → set (places n x (take i ys)) i (get_or ys i x) ≡ places n x (take (suc i) ys)
unfolding places
places_next n x [] i h k = absurd (not-suc-le-zero h)
places_next zero x (y ∷ ys) i h k = absurd (not-suc-le-zero k)
places_next (suc n) x (y ∷ ys) zero h k = refl
places_next (suc n) x (y ∷ ys) (suc i) h k =
    ap (λ xs. y ∷ xs) (places_next n x ys i (le_of_suc-le-suc h) (le_of_suc-le-suc k))

-- ---- tests over a list

-- an element of a list, by its number, stands among them
pub among_at : {A : Type 0} (f : A → ℕ) (xs : List A) (x : A) (i : ℕ) → i < length xs → T (among (f (get_or xs i x)) (map f xs))
unfolding among
among_at f [] x i h = absurd (not-suc-le-zero h)
among_at f (y ∷ xs) x zero h = or_left (eqb (f y) (f y)) _ (eqb_refl (f y))
among_at f (y ∷ xs) x (suc i) h = or_right (eqb (f (get_or xs i x)) (f y)) _ (among_at f xs x i (le_of_suc-le-suc h))

-- What is told of each element, and carries over from an element that is found to what was looked for, holds of that.
pub at_some : {A : Type 0} (P : Type 0) (found test : A → Bool) → ((x : A) → T (found x) → T (test x) → P)
    → (xs : List A) → T (each test xs) → T (some found xs) → P
unfolding some each
at_some P found test carry [] t e = absurd e
at_some P found test carry (x ∷ xs) t e = elim (or_cases (found x) (some found xs) e) [
  | inl q ↦ carry x q (and_left (test x) (each test xs) t)
  | inr q ↦ at_some P found test carry xs (and_right (test x) (each test xs) t) q
]

module _ {A : Type 0} where
  -- an element that passes a test is found by it, and what is found is what was looked for
  pub some_at : (found : A → Bool) {x : A} {xs : List A} → Member x xs → T (found x) → T (some found xs)
  unfolding some
  some_at found {xs = y ∷ ys} (member_first e) t = or_left (found y) (some found ys) (subst (λ (z : A). T (found z)) e t)
  some_at found {xs = y ∷ ys} (member_further m) t = or_right (found y) (some found ys) (some_at found m t)
  some_at found {xs = []} x6 t = elim x6 [ ]

  pub member_some : (found : A → Bool) {x : A} → ((y : A) → T (found y) → x ≡ y) → (xs : List A) → T (some found xs)
      → Member x xs
  unfolding some
  member_some found same [] t = absurd t
  member_some found same (y ∷ ys) t = elim (or_cases (found y) (some found ys) t) [
    | inl p ↦ member_first (same y p)
    | inr p ↦ member_further (member_some found same ys p)
  ]

  -- no element passes the test with one after it
  unfoldable pub unlike : (A → A → Bool) → List A → Bool
  unlike same [] = true
  unlike same (x ∷ xs) = not (some (same x) xs) && unlike same xs

  pub unlike_once : (same : A → A → Bool) → ((x : A) → T (same x x)) → (xs : List A) → T (unlike same xs) → NoRepeats xs
  unfolding unlike
  unlike_once same equal [] t = once_nil
  unlike_once same equal (x ∷ xs) t =
      once_cons
      (λ m. T_not (some (same x) xs) (and_left (not (some (same x) xs)) (unlike same xs) t) (some_at (same x) m (equal x)))
      (unlike_once same equal xs (and_right (not (some (same x) xs)) (unlike same xs) t))

-- ---- lists of w elements, one after the other

module _ {A B : Type 0} (f : A → List B) where
  -- one list more
  pub join_next : (xs : List A) (j : ℕ) (x : A) → j < length xs
      → join (map f (take (suc j) xs)) ≡ join (map f (take j xs)) ++ f (get_or xs j x)
  unfolding join
  join_next [] j x h = absurd (not-suc-le-zero h)
  join_next (y ∷ xs) zero x h = append-nil (f y)
  join_next (y ∷ xs) (suc j) x h = rw (join_next xs j x (le_of_suc-le-suc h), append_assoc)

  -- the first of them are no longer than all
  pub join_few : (xs : List A) (j : ℕ) → length (join (map f (take j xs))) ≤ length (join (map f xs))
  unfolding join
  join_few xs zero = omega arith
  join_few [] (suc j) = omega arith
  join_few (x ∷ xs) (suc j) = simp length-append (omega (arith, join_few xs j))

  pub length_join : (xs : List A) (x : A) (w : ℕ) → ((j : ℕ) → j < length xs → length (f (get_or xs j x)) ≡ w)
      → length (join (map f xs)) ≡ length xs * w
  unfolding join
  length_join [] x w h = sym (zero-mul w)
  length_join (y ∷ xs) x w h =
      rw length-append (omega (arith, h 0 (omega arith), length_join xs x w (λ j k. h (suc j) (omega arith))))

  pub join_part : (xs : List A) (x : A) (w : ℕ) → ((j : ℕ) → j < length xs → length (f (get_or xs j x)) ≡ w)
      → (j : ℕ) → j < length xs → take w (drop (j * w) (join (map f xs))) ≡ f (get_or xs j x)
  unfolding join
  join_part [] x w l j h = absurd (not-suc-le-zero h)
  join_part (y ∷ xs) x w l zero h = rw zero-mul (take_at (f y) (join (map f xs)) w (l 0 (omega arith)))
  join_part (y ∷ xs) x w l (suc j) h =
      let e : suc j * w ≡ length (f y) + j * w = omega (arith, l 0 (omega arith)) in
      rw (e, drop-append-add) (join_part xs x w (λ m p. l (suc m) (omega arith)) j (omega arith))

  pub join_entry : (xs : List A) (x : A) (z : B) (w : ℕ) → ((j : ℕ) → j < length xs → length (f (get_or xs j x)) ≡ w)
      → (j i : ℕ) → j < length xs → i < w → get_or (join (map f xs)) (j * w + i) z ≡ get_or (f (get_or xs j x)) i z
  join_entry xs x z w l j i h k =
      sym (get_or-take w _ i z k ∙ get_or-drop (j * w) (join (map f xs)) i z)
      ∙ ap (λ ys. get_or ys i z) (join_part xs x w l j h)
