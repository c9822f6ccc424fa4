-- What a precoder is made of, for any codebook: layers, each a beam and what is added to each block of its ports.
use Rattle.std.specs.Prelude.{List, [], map, ℕ, ◌*◌, get_or, take, drop}
use Rattle.ground.specs.Lists.{join, places}
use Rattle.turn.specs.declared.Beam.{Beam}
use Rattle.turn.specs.Column.{Setting, beam, column}

-- a layer: its beam (l,m), reduced, and its co-phases
pub record Layer : Type 0 where
  pub l : ℕ
  pub m : ℕ
  pub co : List ℕ

-- A plan: P ports and v layers. A column has so many blocks, each a beam of one setting; half-length beams are those of
-- N1/2 rows and twice the oversampling.
pub record Plan : Type 0 where
  pub ports : ℕ
  pub v : ℕ
  pub blocks : ℕ
  pub block : Setting
  pub layers : List Layer

-- N1·O1: how many l there are, of whole beams and of half-length ones; and N2·O2, how many m
abbrev pub beams_across : Plan → ℕ
beams_across p = p.block.n1 * p.block.o1

abbrev pub beams_down : Plan → ℕ
beams_down p = p.block.n2 * p.block.o2

-- past the last layer
abbrev pub past : Layer
past = record { l = 0; m = 0; co = [] }

abbrev pub layer_at : Plan → ℕ → Layer
layer_at p j = get_or p.layers j past

-- the beam of a layer, and that of none
abbrev pub pair_of : Layer → Beam
pair_of x = record { l = x.l; m = x.m }

abbrev pub no_beam : Beam
no_beam = record { l = 0; m = 0 }

-- the beams of the layers, each in its place of eight; (0,0) in those past the last
unfoldable pub named : Plan → List Beam
named p = places 8 no_beam (map pair_of p.layers)

-- the entries of a layer
unfoldable pub column_of : Plan → Layer → List ℕ
column_of p x = column x.co (beam p.block x.l x.m)

-- the precoder: layer after layer
unfoldable pub matrix : Plan → List ℕ
matrix p = join (map (column_of p) p.layers)

-- layer j of a list that has p entries to a layer
abbrev pub layer_in : {A : Type 0} → ℕ → ℕ → List A → List A
layer_in p j xs = take p (drop (j * p) xs)
