-- Lists joined, lists of numbers, tests over lists, elements and repeats, and what holds of every element.
use Rattle.std.specs.Prelude.{◌≡◌, Bool, true, false, ◌&&◌, ◌||◌, List, [], ◌∷◌, ◌++◌, map, ℕ, zero, suc, ◌+◌, eqb, length, drop}

-- the lists of a list, one after the other
unfoldable pub join : {A : Type 0} → List (List A) → List A
join [] = []
join (x ∷ xs) = x ++ join xs

-- what f lists for each element, one after the other
abbrev pub along : {A B : Type 0} → List A → (A → List B) → List B
along xs f = join (map f xs)

-- a list laid over the front of another
abbrev pub over : {A : Type 0} → List A → List A → List A
over xs ys = xs ++ drop (length xs) ys

-- n places: from the front on what stands in a list, and x in those that it leaves
unfoldable pub places : {A : Type 0} → ℕ → A → List A → List A
places zero x ys = []
places (suc n) x [] = x ∷ places n x []
places (suc n) x (y ∷ ys) = y ∷ places n x ys

-- n numbers from k on: k, k + 1, ..
unfoldable pub numbers_from : ℕ → ℕ → List ℕ
numbers_from k zero = []
numbers_from k (suc n) = k ∷ numbers_from (suc k) n

unfoldable pub sum : List ℕ → ℕ
sum [] = 0
sum (x ∷ xs) = x + sum xs

-- some element passes the test
unfoldable pub some : {A : Type 0} → (A → Bool) → List A → Bool
some test [] = false
some test (x ∷ xs) = test x || some test xs

-- each element passes it
unfoldable pub each : {A : Type 0} → (A → Bool) → List A → Bool
each test [] = true
each test (x ∷ xs) = test x && each test xs

-- every number below n passes it
unfoldable pub every : ℕ → (ℕ → Bool) → Bool
every zero test = true
every (suc n) test = test n && every n test

-- k stands in a list
unfoldable pub among : ℕ → List ℕ → Bool
among k [] = false
among k (x ∷ xs) = eqb k x || among k xs

-- a property of every element
pub data All (P : ℕ → Type 0) : List ℕ → Type 0 where
  all_nil : All P []
  all_cons : {x : ℕ} {xs : List ℕ} → P x → All P xs → All P (x ∷ xs)

-- x is an element of a list: the first, or one further on
pub data Member {A : Type 0} (x : A) : List A → Type 0 where
  member_first : {y : A} {ys : List A} → x ≡ y → Member x (y ∷ ys)
  member_further : {y : A} {ys : List A} → Member x ys → Member x (y ∷ ys)

-- no element stands in a list twice: none is an element of the rest
pub data NoRepeats {A : Type 0} : List A → Type 0 where
  once_nil : NoRepeats []
  once_cons : {x : A} {xs : List A} → (Member x xs → ⊥) → NoRepeats xs → NoRepeats (x ∷ xs)
