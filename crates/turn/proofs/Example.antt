-- Exactly orthogonal columns whose differences come in thirds and not in opposites: layers 1 and 2 of setting (3,2)
-- at three layers, i13 = 3 and the rest 0. And two columns that are not orthogonal: those of neighbouring beams.
use mathlib.Core.Path.{◌≡◌, refl}
use mathlib.Core.Logic.{◌⊎◌, inl, inr}
use mathlib.Core.Bool.{Bool, ◌||◌}
use mathlib.Core.List.{List, [], ◌∷◌}
use Prim.Native.Nat.{ℕ, ◌+◌, ◌*◌, ◌<◌}
use native.Mathlib.Omega.{arith}
use lib.Dec.{T, eqb, eqb→eq}
use Rattle.turn.specs.Phase.{half, third, difference}
use Rattle.turn.specs.Column.{Setting, steps, product, grid, step, beam, column}
use Rattle.turn.specs.Exact.{count, differences, Orthogonal}
use Rattle.ground.specs.Lists.{every}
use Rattle.ground.proofs.Tests.{every_at, or_cases}
use Rattle.turn.proofs.Orthogonal.{beams_orthogonal}
use Rattle.turn.proofs.NotZero.{same_counts}

unfoldable pub setting : Setting
setting = record { n1 = 3; n2 = 2; o1 = 4; o2 = 4 }

unfoldable pub layer1 : List ℕ
layer1 = column (0 ∷ 0 ∷ []) (beam setting 0 0)

-- k is (2·O1, 0)
unfoldable pub layer2 : List ℕ
layer2 = column (0 ∷ 0 ∷ []) (beam setting 8 0)

unfoldable pub between : List ℕ
between = differences layer1 layer2

-- two phases of 0, two of two thirds of a turn, two of a third; twice
pub layer2_is : layer2
    ≡ 0 ∷ 0 ∷ 2 * third ∷ 2 * third ∷ third ∷ third ∷ 0 ∷ 0 ∷ 2 * third ∷ 2 * third ∷ third ∷ third ∷ []
unfolding layer2 setting column beam grid step steps product
layer2_is = refl

-- the differences are 0, a third and two thirds of a turn, four ports each
pub counts : (count between 0 ≡ 4) × (count between third ≡ 4) × (count between (2 * third) ≡ 4)
unfolding between layer1 layer2 setting column beam grid step steps product differences difference count
counts = (refl, refl, refl)

-- no difference has its opposite among them
unpaired : ℕ → Bool
unpaired e = eqb (count between e) 0 || eqb (count between (e + half)) 0

all_unpaired : T (every half unpaired)
unfolding every unpaired between layer1 layer2 setting column beam grid step steps product differences difference count
all_unpaired = tt

pub no_opposites : (e : ℕ) → e < half → (count between e ≡ 0) ⊎ (count between (e + half) ≡ 0)
unfolding unpaired
no_opposites e h = elim (or_cases (eqb (count between e) 0) _ (every_at half unpaired all_unpaired e h)) [
  | inl t ↦ inl (eqb→eq _ 0 t)
  | inr t ↦ inr (eqb→eq _ 0 t)
]

-- and yet the two layers are exactly orthogonal
pub orthogonal : Orthogonal layer1 layer2
unfolding layer1 layer2 setting
orthogonal = beams_orthogonal setting (record { rows = refl; columns = refl }) 0 0 0 0 2 0 (inl (omega arith)) _ _

-- the next beam, which is no whole oversampling step on
unfoldable pub next : List ℕ
next = column (0 ∷ 0 ∷ []) (beam setting 1 0)

-- it is not orthogonal to layer 1: four ports have the difference 0, and none has a third of a turn or an opposite
pub next_not_orthogonal : Orthogonal layer1 next → ⊥
unfolding layer1 next setting column beam grid step steps product differences difference count
next_not_orthogonal z =
    let four : 4 + 0 ≡ 0 + 0 = same_counts (differences layer1 next) z 0 (omega arith) in
    omega arith
