-- A precoder with offsets: to the entries of every layer those of their ports are added.
use Rattle.std.specs.Prelude.{List, map, ℕ}
use Rattle.ground.specs.Lists.{join}
use Rattle.offsets.specs.Offsets.{fed}
use Rattle.plan.specs.Plan.{Layer, Plan, column_of}

-- the entries of a layer with offsets
unfoldable pub fed_column : List ℕ → Plan → Layer → List ℕ
fed_column offsets p x = fed offsets (column_of p x)

-- the precoder with offsets: layer after layer
unfoldable pub fed_matrix : List ℕ → Plan → List ℕ
fed_matrix offsets p = join (map (fed_column offsets p) p.layers)
