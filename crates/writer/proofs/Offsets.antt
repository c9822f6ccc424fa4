-- What is drawn with offsets as they are read is what is drawn with the offsets themselves, since columns are of phases.
use mathlib.Core.Path.{◌≡◌, refl, ap₂}
use mathlib.Core.List.{List, ◌++◌}
use Prim.Native.Nat.{ℕ, zero, suc, ◌*◌, ◌<◌, ◌≤◌}
use native.Mathlib.Omega.{arith}
use lib.ListN.{get_or}
use Rattle.ground.specs.Lists.{All}
use Rattle.turn.specs.Phase.{turn}
use Rattle.turn.specs.Column.{product, column}
use Rattle.offsets.specs.Offsets.{reduced}
use Rattle.offsets.proofs.Places.{fed_reduced}
use Rattle.plan.specs.declared.Drawing.{Drawing}
use Rattle.plan.specs.Drawing.{height, place_of, co_row, beam_at, column_at, drawn}
use Rattle.plan.proofs.Matrix.{phases_below}
use Rattle.writer.proofs.Drawn.{length_column_at}

pub columns_below : (s : Drawing) (code : ℕ) → All (λ e. e < turn) (column_at s code)
unfolding column_at column
columns_below s code = phases_below (product (co_row s.co code (2 * s.pairs)) (beam_at s (place_of code)))

pub drawn_reduced : (offsets : List ℕ) (s : Drawing) (n : ℕ) → height s ≤ 32 → drawn (reduced offsets) s n ≡ drawn offsets s n
unfolding drawn
drawn_reduced offsets s zero h = refl
drawn_reduced offsets s (suc n) h =
    let code = get_or s.codes n 0 in
    ap₂ {C = List ℕ} ◌++◌ (drawn_reduced offsets s n h)
    (fed_reduced offsets (column_at s code) (omega (arith, length_column_at s code)) (columns_below s code))
