-- The drawing of a sound plan: what is written of it is the precoder, with the offsets of its ports.
use mathlib.Core.Path.{◌≡◌, sym, ap, ◌∙◌}
use mathlib.Core.List.{List}
use Prim.Native.Nat.{ℕ, ◌+◌, ◌*◌, ◌≤◌}
use native.Mathlib.Nat.{mul_assoc, mul-le-mul, mul-le-mul_right}
use native.Mathlib.Omega.{arith}
use lib.ListN.{length}
use borrow.Author.Rules.{rules}
use borrow.Author.Tests.{le-leb}
use Rattle.turn.proofs.Steps.{left_pos}
use Rattle.plan.specs.declared.Drawing.{Drawing}
use Rattle.plan.specs.Plan.{Plan}
use Rattle.plan.specs.Offsets.{fed_matrix}
use Rattle.plan.specs.Sound.{Sound}
use Rattle.plan.specs.Drawing.{entries, height, layers_in, Draws}
use Rattle.plan.proofs.FedMatrix.{length_fed_matrix}
use Rattle.writer.proofs.Drawn.{drawn_matrix, sizes_drawable}
use Rattle.writer.proofs.Room.{layers_drawn}
use Rattle.render.specs.Rendered.{fitting}

-- no beam of a sound plan is without entries
module _ (p : Plan) (sound : Sound p) where
  rows_some : 1 ≤ p.block.n1
  rows_some = let c = p.block in left_pos c.n1 _ (sym (mul_assoc c.n1 c.o1 _) ∙ sound.whole.rows)

  columns_some : 1 ≤ p.block.n2
  columns_some = let c = p.block in left_pos c.n2 _ (sym (mul_assoc c.n2 c.o2 _) ∙ sound.whole.columns)

  pub ports_some : 1 ≤ p.ports
  ports_some =
      let block = mul-le-mul rows_some columns_some in
      omega (arith, sound.all, mul-le-mul sound.two block)

module _ (os : List ℕ) (p : Plan) (s : Drawing) (sound : Sound p) (draws : Draws p s) where
  -- a column has an entry for each port
  height_is : height s ≡ p.ports
  height_is =
      let block = p.block.n1 * p.block.n2 in
      rw (draws.rows, draws.columns) (omega (arith, ap (λ (k : ℕ). k * block) draws.pairs, sound.all))

  -- at most 8 layers of 32 ports
  entries_few : p.v * p.ports ≤ 256
  entries_few = mul-le-mul sound.eight sound.few

  layers_are : (room : ℕ) → p.v * p.ports + 16 ≤ room → layers_in os s room ≡ fed_matrix os p
  layers_are room h =
      let c = p.block in
      let columns = columns_some p sound in
      let block : entries s ≡ c.n1 * c.n2 = rw (draws.rows, draws.columns) in
      let two = mul-le-mul_right (c.n1 * c.n2) sound.two in
      let fits : s.v * height s + 16 ≤ room = rw (draws.v, height_is) h in
      let ports : height s ≤ 32 = rw height_is sound.few in
      layers_drawn os s room (sizes_drawable s room (search rules))
      ∙ drawn_matrix os p s sound.many draws.layers draws.v

  -- where there is room, the precoder is written
  pub fitting_is : (room : ℕ) → p.v * p.ports ≤ room → fitting os s room ≡ fed_matrix os p
  unfolding fitting
  fitting_is room h =
      rw (layers_are 272 (omega (arith, entries_few)), le-leb (length (fed_matrix os p)) room (omega (arith, length_fed_matrix os p sound)))
