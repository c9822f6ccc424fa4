-- The bits of beams: whether one of them is zero, by the beams.
use Rattle.std.proofs.Common.{◌≡◌, refl, ap, ◌||◌, List, [], ◌∷◌, ℕ, ◌+◌, ◌*◌}
use Rattle.std.specs.List.{list_any}
use Rattle.ground.specs.Lists.{some}
use Rattle.turn.specs.declared.Beam.{Beam}
use Rattle.plan.specs.Masks.{is_zero, barred}
use Rattle.masks.specs.Admitted.{bits_of}

pub zero_by_beams : (mask : List ℕ) (width : ℕ) (xs : List Beam)
    → list_any (λ x. is_zero mask (width * x.l + x.m)) xs ≡ barred mask (bits_of width xs)
unfolding barred some bits_of
zero_by_beams mask width [] = refl
zero_by_beams mask width (x ∷ xs) =
    ap (λ b. is_zero mask (width * x.l + x.m) || b) (zero_by_beams mask width xs)
