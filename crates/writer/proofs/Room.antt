-- The layers that a buffer has room for.
use mathlib.Core.Path.{◌≡◌, ap, ◌∙◌}
use mathlib.Core.Bool.{true, false}
use mathlib.Core.List.{List, []}
use Prim.Native.Nat.{ℕ, ◌+◌, ◌*◌, ◌≤◌}
use lib.ListN.{length}
use Rattle.plan.specs.declared.Drawing.{Drawing}
use Rattle.plan.specs.Drawing.{height, drawn, drawable, layers_in}
use Rattle.writer.proofs.Drawn.{length_drawn, drawable_sizes, sizes_drawable}

module _ (os : List ℕ) (s : Drawing) (room : ℕ) where
  pub layers_drawn : drawable s room ≡ true → layers_in os s room ≡ drawn os s s.v
  unfolding layers_in
  layers_drawn e = rw e

  pub layers_none : drawable s room ≡ false → layers_in os s room ≡ []
  unfolding layers_in
  layers_none e = rw e

  pub length_layers : drawable s room ≡ true → length (layers_in os s room) ≡ s.v * height s
  length_layers e = ap length (layers_drawn e) ∙ length_drawn os s s.v

-- sizes that can be drawn can be in any buffer that the layers fit
pub resized : (s : Drawing) (a b : ℕ) → drawable s b ≡ true → s.v * height s + 16 ≤ a → drawable s a ≡ true
resized s a b e h =
    let z = drawable_sizes s b e in
    sizes_drawable s a
    (record { few = z.few; pairs = z.pairs; some = z.some; narrow = z.narrow; block = z.block; ports = z.ports; fits = h })
