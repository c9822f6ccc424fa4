-- What is drawn of the numbers that the writer is handed.
use Rattle.std.specs.Prelude.{◌≡◌, Bool, ◌&&◌, Option, Some, None, List, [], ◌∷◌, ◌++◌, ℕ, zero, suc, ◌+◌, ◌*◌, ◌/◌, ◌%◌, ◌^◌, ◌<◌, leb, length, get_or}
use Rattle.ground.specs.Cases.{◌⇒◌∣◌}
use Rattle.ground.specs.Lists.{over}
use Rattle.turn.specs.Phase.{half}
use Rattle.turn.specs.Column.{grid, column}
use Rattle.offsets.specs.Offsets.{fed}
use Rattle.plan.specs.declared.Drawing.{Drawing}
use Rattle.plan.specs.Plan.{Plan, layer_at, column_of}

-- the entries of a block, and of a column
abbrev pub entries : Drawing → ℕ
entries s = s.rows * s.columns

abbrev pub height : Drawing → ℕ
height s = 2 * (s.pairs * entries s)

-- the code of a layer: the place of its beam, whether it takes the co-phases, and whether half a turn is added to block q
abbrev pub place_of : ℕ → ℕ
place_of code = code / 512 % 4

abbrev pub takes : ℕ → ℕ
takes code = code / 256 % 2

abbrev pub marked : ℕ → ℕ → ℕ
marked code q = code / 2 ^ q % 2

-- what is added to block q, and to the first n blocks; of a co-phase nine bits are read
unfoldable pub co_at : List ℕ → ℕ → ℕ → ℕ
co_at co code q = takes code * (get_or co q 0 % 512) + marked code q * half

unfoldable pub co_row : List ℕ → ℕ → ℕ → List ℕ
co_row co code zero = []
co_row co code (suc n) = co_row co code n ++ (co_at co code n ∷ [])

-- the two steps of a beam
abbrev pub step_x : ℕ → ℕ
step_x step = step % 512

abbrev pub step_y : ℕ → ℕ
step_y step = step / 512 % 512

-- the beam at a place
unfoldable pub beam_at : Drawing → ℕ → List ℕ
beam_at s place =
    let step = get_or s.steps place 0 in
    grid s.rows (step_x step) s.columns (step_y step)

-- the column of a layer, by its code
unfoldable pub column_at : Drawing → ℕ → List ℕ
column_at s code = column (co_row s.co code (2 * s.pairs)) (beam_at s (place_of code))

-- the first n layers with offsets, one after the other
unfoldable pub drawn : List ℕ → Drawing → ℕ → List ℕ
drawn offsets s zero = []
drawn offsets s (suc n) = drawn offsets s n ++ fed offsets (column_at s (get_or s.codes n 0))

-- sizes that can be drawn in a buffer of so many entries, with sixteen past the last
unfoldable pub drawable : Drawing → ℕ → Bool
drawable s room =
    leb s.v 8 && leb s.pairs 4 && leb 1 s.columns && leb s.columns 4 && leb (entries s) 16
    && leb (height s) 32 && leb (s.v * height s + 16) room

-- the layers, where they can be drawn in a buffer of so many entries, and else nothing
unfoldable pub layers_in : List ℕ → Drawing → ℕ → List ℕ
layers_in offsets s room = drawable s room ⇒ drawn offsets s s.v ∣ []

-- the layers stand at the front of a lent list, and so many entries they are; no number where they cannot be drawn in it
pub record Written (offsets : List ℕ) (s : Drawing) (lent : List ℕ) (n : Option ℕ) (left : List ℕ) : Type 0 where
  pub many : n ≡ (drawable s (length lent) ⇒ Some (length (layers_in offsets s (length lent))) ∣ None)
  pub stands : left ≡ over (layers_in offsets s (length lent)) lent

-- the numbers stand for a plan: its sizes, and layer by layer its columns
pub record Draws (p : Plan) (s : Drawing) : Type 0 where
  pub v : s.v ≡ p.v
  pub pairs : 2 * s.pairs ≡ p.blocks
  pub rows : s.rows ≡ p.block.n1
  pub columns : s.columns ≡ p.block.n2
  pub layers : (j : ℕ) → j < p.v → column_at s (get_or s.codes j 0) ≡ column_of p (layer_at p j)
