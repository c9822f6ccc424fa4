-- The first of a list of numbers whose test holds; what it means that none does; parts of a list.
use mathlib.Core.Path.{◌≡◌, refl, ap, ◌∙◌}
use mathlib.Core.Logic.{◌≢◌, inl, inr}
use mathlib.Core.Bool.{Bool, true, false, cond, ◌&&◌, ◌||◌}
use mathlib.Core.List.{List, [], ◌∷◌, ◌++◌, append-nil}
use Prim.Native.Nat.{ℕ}
use native.Mathlib.Omega.{arith}
use lib.Dec.{T, eqb, ltb, eqb_refl, eqb→eq, ltb→lt}
use Rattle.std.proofs.lemmas.Bool.{or_parts}
use Rattle.ground.specs.Lists.{some, among}
use Rattle.ground.specs.First.{first, numbered, part, None, FirstOf}
use Rattle.ground.proofs.Booleans.{either}
use Rattle.ground.proofs.Tests.{and_left, and_right, or_cases, or_left, or_right}

module _ (test : ℕ → Bool) where
  none_nil : None test []
  unfolding among
  none_nil = record { at = λ k t. absurd t }

  none_cons : (k : ℕ) (ks : List ℕ) → test k ≡ false → None test ks → None test (k ∷ ks)
  unfolding among
  none_cons k ks e n = record {
    at = λ j t. elim (or_cases (eqb j k) (among j ks) t) [
      | inl q ↦ ap test (eqb→eq j k q) ∙ e
      | inr q ↦ n.at j q
    ];
  }

  none_parts : (k : ℕ) (ks : List ℕ) → None test (k ∷ ks) → (test k ≡ false) × None test ks
  unfolding among
  none_parts k ks n = (
    n.at k (or_left (eqb k k) (among k ks) (eqb_refl k)),
    record { at = λ j t. n.at j (or_right (eqb j k) (among j ks) t) },
  )

  -- where none of the first part holds, it is the first of the rest
  pub none_first : (xs ys : List ℕ) → None test xs → first test (xs ++ ys) ≡ first test ys
  unfolding first
  none_first [] ys n = refl
  none_first (x ∷ xs) ys n = let p = none_parts x xs n in rw p.0 (none_first xs ys p.1)

  -- where no test holds the number is 0
  pub none_zero : (ks : List ℕ) → None test ks → first test ks ≡ 0
  unfolding first
  none_zero ks n = rw append-nil at (none_first ks [] n)

  -- and where it is 0 none holds
  pub first_none : (ks : List ℕ) → T (numbered ks) → first test ks ≡ 0 → None test ks
  unfolding first numbered
  first_none [] t e = none_nil
  first_none (k ∷ ks) t e =
      either (test k)
      (λ f. absurd (let z = ltb→lt 0 k (and_left (ltb 0 k) (numbered ks) t) in omega (arith, rw f at e)))
      (λ f. none_cons k ks f (first_none ks (and_right (ltb 0 k) (numbered ks) t) (rw f at e)))

  -- one that holds in the first part is the first of all
  pub first_stop : (xs ys : List ℕ) → first test xs ≢ 0 → first test (xs ++ ys) ≡ first test xs
  unfolding first
  first_stop [] ys h = absurd (h refl)
  first_stop (x ∷ xs) ys h = either (test x) (λ f. rw f) (λ f. rw f (first_stop xs ys (rw f at h)))

  -- a number whose test does not hold may be put in anywhere
  pub first_insert : (xs ys : List ℕ) (k : ℕ) → test k ≡ false → first test (xs ++ (k ∷ ys)) ≡ first test (xs ++ ys)
  unfolding first
  first_insert [] ys k e = rw e
  first_insert (x ∷ xs) ys k e = ap (λ (n : ℕ). cond (test x) x n) (first_insert xs ys k e)

  -- the first of the whole is the first of any part that keeps it
  pub first_part : (keep : ℕ → Bool) (ks : List ℕ) → keep (first test ks) ≡ true
      → first test (part keep ks) ≡ first test ks
  unfolding first part
  first_part keep [] e = refl
  first_part keep (k ∷ ks) e =
      either (test k) (λ f. rw (f, rw f at e, f))
      (λ f.
      let rest = first_part keep ks (rw f at e) in
      either (keep k) (λ g. rw (f, g, f) rest) (λ g. rw (f, g) rest))

  -- a number of which FirstOf tells is that number, so there is no other
  pub first_only : (ks : List ℕ) (k : ℕ) → FirstOf test ks k → first test ks ≡ k
  unfolding first
  first_only ks k f =
      ap (first test) f.parts ∙ none_first f.before (k ∷ f.after) f.none_before ∙ rw f.holds

  -- a test of a list holds only where the first is not 0, and the first stands in the list
  pub first_of : (ks : List ℕ) → first test ks ≢ 0 → FirstOf test ks (first test ks)
  unfolding first
  first_of [] h = absurd (h refl)
  first_of (k ∷ ks) h =
      either (test k)
      (λ f. rw f (record { before = []; after = ks; parts = refl; holds = f; none_before = none_nil }))
      (λ f.
      let p = first_of ks (rw f at h) in
      rw f
      (record {
        before = k ∷ p.before;
        after = p.after;
        parts = ap {B = List ℕ} (λ ys. k ∷ ys) p.parts;
        holds = p.holds;
        none_before = none_cons k p.before f p.none_before;
      }))

-- tests that agree find the same number
pub first_cong : (test test' : ℕ → Bool) → ((k : ℕ) → test k ≡ test' k) → (ks : List ℕ) → first test ks ≡ first test' ks
first_cong test test' e ks = λ i. first (λ k. e k i) ks

-- where some test holding is excluded, none holds
pub some_none : (test : ℕ → Bool) (ks : List ℕ) → some test ks ≡ false → None test ks
unfolding some
some_none test [] e = none_nil test
some_none test (k ∷ ks) e =
    let p = or_parts (test k) (some test ks) e in
    none_cons test k ks p.0 (some_none test ks p.1)

-- every number of js stands in ks
abbrev pub all_among : List ℕ → List ℕ → Bool
all_among [] ks = true
all_among (j ∷ js) ks = among j ks && all_among js ks

-- none of a list: none of any part
pub none_within : (test : ℕ → Bool) (js ks : List ℕ) → T (all_among js ks) → None test ks → None test js
none_within test [] ks t n = none_nil test
none_within test (j ∷ js) ks t n =
    none_cons test j js (n.at j (and_left (among j ks) (all_among js ks) t))
    (none_within test js ks (and_right (among j ks) (all_among js ks) t) n)

-- what is kept stands in the list, and is kept
pub among_part : (keep : ℕ → Bool) (ks : List ℕ) (k : ℕ) → T (among k (part keep ks)) → T (keep k) × T (among k ks)
unfolding part among
among_part keep [] k t = absurd t
among_part keep (x ∷ ks) k t =
    let later : T (among k (part keep ks)) → T (keep k) × T (eqb k x || among k ks) =
    λ q. let p = among_part keep ks k q in (p.0, or_right (eqb k x) (among k ks) p.1) in
    either (keep x)
    (λ f. elim (or_cases (eqb k x) (among k (part keep ks)) (rw f at t)) [
      | inl q ↦ (rw (eqb→eq k x q, f) tt, or_left (eqb k x) (among k ks) q)
      | inr q ↦ later q
    ])
    (λ f. later (rw f at t))
