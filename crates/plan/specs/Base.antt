-- The precoder as 01 counts it: in parts twice as large, of which a turn has half as many.
use Rattle.std.specs.Prelude.{List, map, ℕ, ◌*◌, ◌/◌, ◌%◌}
use Rattle.ground.specs.Lists.{join}
use Rattle.turn.specs.Phase.{turn}
use Rattle.turn.specs.Column.{Setting, product, grid}
use Rattle.plan.specs.Plan.{Layer, Plan}

-- 01's parts of a full turn
abbrev pub base_turn : ℕ
base_turn = turn / 2

-- a number of parts, counted in 01's; and back
abbrev pub halved : ℕ → ℕ
halved x = x / 2

abbrev pub doubled : ℕ → ℕ
doubled x = 2 * x

-- the phase from one antenna to the next, for beam l reduced
unfoldable pub base_step : ℕ → ℕ → ℕ → ℕ
base_step n o l = l % (n * o) * (base_turn / (n * o))

-- the beam (l,m)
unfoldable pub base_beam : Setting → ℕ → ℕ → List ℕ
base_beam c l m = grid c.n1 (base_step c.n1 c.o1 l) c.n2 (base_step c.n2 c.o2 m)

-- the entries of a layer: its co-phases times its beam
unfoldable pub base_column : Plan → Layer → List ℕ
base_column p x = map (λ y. y % base_turn) (product (map halved x.co) (base_beam p.block x.l x.m))

-- the precoder: layer after layer
unfoldable pub base_matrix : Plan → List ℕ
base_matrix p = join (map (base_column p) p.layers)
