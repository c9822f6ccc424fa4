-- What tells two layers apart by their beams, as a test that antt computes.
use mathlib.Core.Logic.{◌≢◌, ⊎_map}
use mathlib.Core.Bool.{Bool, not, ◌||◌}
use Prim.Native.Nat.{ℕ, ◌%◌}
use lib.Dec.{T, eqb, T_not}
use Rattle.ground.proofs.Tests.{or_cases, eq→eqb}
use Rattle.turn.specs.Column.{Setting}
use Rattle.turn.specs.Apart.{Apart}

-- the beams that stand (j1,j2) and (k1,k2) steps of the oversampling from one beam are two
abbrev pub two_beams : ℕ → ℕ → ℕ → ℕ → ℕ → ℕ → Bool
two_beams n1 n2 j1 j2 k1 k2 = not (eqb (j1 % n1) (k1 % n1)) || not (eqb (j2 % n2) (k2 % n2))

pub two_beams_lem : (c : Setting) (j1 j2 k1 k2 : ℕ) → T (two_beams c.n1 c.n2 j1 j2 k1 k2) → Apart c j1 j2 k1 k2
two_beams_lem c j1 j2 k1 k2 t =
    ⊎_map (differ _ _) (differ _ _)
    (or_cases (not (eqb (j1 % c.n1) (k1 % c.n1))) (not (eqb (j2 % c.n2) (k2 % c.n2))) t)
  where
    differ : (m n : ℕ) → T (not (eqb m n)) → m ≢ n
    differ m n t e = T_not (eqb m n) t (eq→eqb m n e)
