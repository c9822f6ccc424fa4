-- The halves of a pair are read as they were written.
use mathlib.Core.Path.{◌≡◌, ap, ◌∙◌}
use Prim.Native.Nat.{ℕ, ◌/◌, ◌%◌}
use lib.IntN.{ℤ}
use mir.Syntax.{w16}
use mir.Val.{to_z, of_z}
use mir.Facts.{to_z-of_z}
use Rattle.weight.specs.Table.{entry}
use Rattle.weight.proofs.Pairs.{one_weight}
use Rattle.lookup.proofs.Halves.{entry_fits, read_x, read_y}
use Rattle.lookup.proofs.weight_at.Goals as goal

pub returns : goal.returns
returns c =
    let w = entry (c.args.e % 512) in
    let pair = c.pair_at-pair.ensures in
    let fits = entry_fits (c.args.e % 512) in
    let x : c.cast_signed-x.result ≡ w.x = c.cast_signed-x.ensures ∙ ap (λ (n : ℕ). to_z w16 (n % 65536)) pair ∙ read_x w fits.0 in
    let y : c.cast_signed-y.result ≡ w.y = c.cast_signed-y.ensures ∙ ap (λ (n : ℕ). to_z w16 (n / 65536)) pair ∙ read_y w fits.0 fits.1 in
    one_weight (ap (λ (z : ℤ). to_z w16 (of_z w16 z)) x ∙ to_z-of_z fits.0) (ap (λ (z : ℤ). to_z w16 (of_z w16 z)) y ∙ to_z-of_z fits.1)
