-- When a plan is sound: v layers of P entries, beams of one setting, any two layers told apart.
use Rattle.std.specs.Prelude.{◌≡◌, ◌≢◌, ◌⊎◌, Bool, List, ℕ, ◌+◌, ◌*◌, ◌/◌, ◌%◌, ◌<◌, ◌≤◌, length}
use Rattle.turn.specs.Phase.{turn, eighth, twelfth}
use Rattle.turn.specs.Column.{Setting, Divides}
use Rattle.turn.specs.Exact.{differences}
use Rattle.turn.specs.Cancel.{Multiples, Twelfths}
use Rattle.turn.specs.Apart.{flipped, Even, Apart, Common}
use Rattle.plan.specs.Plan.{Layer, Plan, layer_at}

-- whole steps of (O1,O2) from the beam (l,m), reduced
pub record StepsFrom (c : Setting) (l m k1 k2 : ℕ) (x : Layer) : Type 0 where
  pub across : x.l ≡ (l + k1 * c.o1) % (c.n1 * c.o1)
  pub down : x.m ≡ (m + k2 * c.o2) % (c.n2 * c.o2)

-- Two layers are told apart by their co-phases, which agree as often as they are opposite; or by their beams, which are two
-- and whole steps apart. Then thirds do not occur, or all is whole twelfths of a turn.
pub data Told (c : Setting) (x y : Layer) : Type 0 where
  by_co_phases : (co : List ℕ) (ms ns : List Bool) → x.co ≡ flipped co ms → y.co ≡ flipped co ns
      → Even (length co) ms ns → Told c x y
  by_beams : (l m j1 j2 k1 k2 : ℕ) → StepsFrom c l m j1 j2 x → StepsFrom c l m k1 k2 y → Apart c j1 j2 k1 k2
      → Common c 3 ⊎ (Common c twelfth × Twelfths (differences x.co y.co)) → Told c x y

-- Beside its sizes: the beam of each layer is reduced; its co-phases are one for each block, whole eighths of a turn; and
-- the steps of a beam are even, so that 01's parts count them.
pub record Sound (p : Plan) : Type 0 where
  pub whole : Divides p.block
  pub all : p.blocks * (p.block.n1 * p.block.n2) ≡ p.ports
  pub few : p.ports ≤ 32
  pub narrow : p.block.n2 ≤ 4
  pub even : p.blocks % 2 ≡ 0
  pub two : 2 ≤ p.blocks
  pub panels : p.blocks ≤ 8
  pub many : length p.layers ≡ p.v
  pub some : 1 ≤ p.v
  pub eight : p.v ≤ 8
  pub reduced_l : (j : ℕ) → j < p.v → (layer_at p j).l < p.block.n1 * p.block.o1
  pub reduced_m : (j : ℕ) → j < p.v → (layer_at p j).m < p.block.n2 * p.block.o2
  pub long : (j : ℕ) → j < p.v → length (layer_at p j).co ≡ p.blocks
  pub eighths : (j : ℕ) → j < p.v → Multiples eighth (layer_at p j).co
  pub even_steps : (turn / (p.block.n1 * p.block.o1) % 2 ≡ 0) × (turn / (p.block.n2 * p.block.o2) % 2 ≡ 0)
  pub told : (j k : ℕ) → j < p.v → k < p.v → j ≢ k → Told p.block (layer_at p j) (layer_at p k)
