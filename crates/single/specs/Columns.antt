-- The columns by rank.
use Rattle.std.specs.Prelude.{List, [], ◌∷◌, ℕ, ◌+◌}
use Rattle.turn.specs.Phase.{half}

-- the beams of a report, and what may be added to the second polarisation: nothing, half a turn, f, or f and half a turn
pub data Name : Type 0 where
  B : Name
  B' : Name
  B'' : Name
  B''' : Name

pub data Added : Type 0 where
  o : Added
  ½ : Added
  f : Added
  f+½ : Added

-- [x; y]: a beam in both polarisations, y a phase added to the second
pub record Bracket : Type 0 where
  pub beam : Name
  pub added : Added

infix 68 ◌⨾◌
abbrev pub ◌⨾◌ : Name → Added → Bracket
x ⨾ y = record { beam = x; added = y }

-- the columns of one to eight layers; at v = 3 and 4 those of P < 16
unfoldable pub by_rank : List (List Bracket)
by_rank =
    (B ⨾ f ∷ [])
    ∷ (B ⨾ f ∷ B' ⨾ f+½ ∷ [])
    ∷ (B ⨾ f ∷ B' ⨾ f ∷ B ⨾ f+½ ∷ [])
    ∷ (B ⨾ f ∷ B' ⨾ f ∷ B ⨾ f+½ ∷ B' ⨾ f+½ ∷ [])
    ∷ (B ⨾ f ∷ B ⨾ f+½ ∷ B' ⨾ o ∷ B' ⨾ ½ ∷ B'' ⨾ o ∷ [])
    ∷ (B ⨾ f ∷ B ⨾ f+½ ∷ B' ⨾ f ∷ B' ⨾ f+½ ∷ B'' ⨾ o ∷ B'' ⨾ ½ ∷ [])
    ∷ (B ⨾ f ∷ B ⨾ f+½ ∷ B' ⨾ f ∷ B'' ⨾ o ∷ B'' ⨾ ½ ∷ B''' ⨾ o ∷ B''' ⨾ ½ ∷ [])
    ∷ (B ⨾ f ∷ B ⨾ f+½ ∷ B' ⨾ f ∷ B' ⨾ f+½ ∷ B'' ⨾ o ∷ B'' ⨾ ½ ∷ B''' ⨾ o ∷ B''' ⨾ ½ ∷ []) ∷ []

-- the place of a beam among those of the report
abbrev pub place : Name → ℕ
place B = 0
place B' = 1
place B'' = 2
place B''' = 3

-- y of [x; y], for the phase f of the report
abbrev pub phase_of : ℕ → Added → ℕ
phase_of fn o = 0
phase_of fn ½ = half
phase_of fn f = fn
phase_of fn f+½ = fn + half

-- v = 3 and 4 at P ≥ 16: what is added to the four quarters, by layer, for the phases f and t of the report
unfoldable pub quarters : ℕ → ℕ → List (List ℕ)
quarters fn t =
    (0 ∷ t ∷ fn ∷ (fn + t) ∷ [])
    ∷ (0 ∷ (t + half) ∷ fn ∷ (fn + t + half) ∷ [])
    ∷ (0 ∷ t ∷ (fn + half) ∷ (fn + t + half) ∷ [])
    ∷ (0 ∷ (t + half) ∷ (fn + half) ∷ (fn + t) ∷ []) ∷ []
