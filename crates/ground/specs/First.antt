-- Tests by number: the first of a list of numbers whose test holds.
use Rattle.std.specs.Prelude.{◌≡◌, Bool, true, false, ◌&&◌, List, [], ◌∷◌, ◌++◌, ℕ, T, ltb}
use Rattle.ground.specs.Cases.{◌⇒◌∣◌}
use Rattle.ground.specs.Lists.{among}

-- the first number whose test holds, and 0 where none does
unfoldable pub first : (ℕ → Bool) → List ℕ → ℕ
first test [] = 0
first test (k ∷ ks) = test k ⇒ k ∣ first test ks

-- every number is above 0
unfoldable pub numbered : List ℕ → Bool
numbered [] = true
numbered (k ∷ ks) = ltb 0 k && numbered ks

-- those that are kept, in their order
unfoldable pub part : (ℕ → Bool) → List ℕ → List ℕ
part keep [] = []
part keep (k ∷ ks) = keep k ⇒ k ∷ part keep ks ∣ part keep ks

-- no test of the list holds
pub record None (test : ℕ → Bool) (ks : List ℕ) : Type 0 where
  pub at : (k : ℕ) → T (among k ks) → test k ≡ false

-- k is the first of the list whose test holds
pub record FirstOf (test : ℕ → Bool) (ks : List ℕ) (k : ℕ) : Type 0 where
  pub before : List ℕ
  pub after : List ℕ
  pub parts : ks ≡ before ++ (k ∷ after)
  pub holds : test k ≡ true
  pub none_before : None test before
