-- How many reports are in range, computed for every setting, mode and rank.
use mathlib.Core.Path.{◌≡◌, refl, ◌∙◌}
use mathlib.Core.List.{[], ◌∷◌, map}
use Prim.Native.Nat.{◌+◌}
use Rattle.ground.specs.Lists.{join, numbers_from, sum}
use Rattle.ground.proofs.Sums.{sum_along, sum_plus}
use Rattle.settings.specs.Settings.{settings}
use Rattle.settings.specs.Ranges.{ranks_of, mode_two, half_length, k_rows, k_two, k_three}
use Rattle.settings.specs.Ranges.{halves_i11, i11_values, halves_i12, i12_values, i13_values, i2_values}
use Rattle.settings.specs.Counts.{reports_at, counts_by_rank}

pub reports_mode_one : map (counts_by_rank 1) settings ≡
    (4 ∷ 2 ∷ [])
    ∷ (32 ∷ 32 ∷ 16 ∷ 16 ∷ [])
    ∷ (256 ∷ 512 ∷ 384 ∷ 384 ∷ 128 ∷ 128 ∷ 128 ∷ 128 ∷ [])
    ∷ (64 ∷ 128 ∷ 96 ∷ 96 ∷ 32 ∷ 32 ∷ 16 ∷ 16 ∷ [])
    ∷ (384 ∷ 768 ∷ 768 ∷ 768 ∷ 192 ∷ 192 ∷ 96 ∷ 96 ∷ [])
    ∷ (96 ∷ 192 ∷ 192 ∷ 192 ∷ 48 ∷ 48 ∷ 48 ∷ 48 ∷ [])
    ∷ (512 ∷ 1024 ∷ 512 ∷ 512 ∷ 256 ∷ 256 ∷ 128 ∷ 128 ∷ [])
    ∷ (128 ∷ 256 ∷ 128 ∷ 128 ∷ 64 ∷ 64 ∷ 64 ∷ 64 ∷ [])
    ∷ (768 ∷ 1536 ∷ 768 ∷ 768 ∷ 384 ∷ 384 ∷ 384 ∷ 384 ∷ [])
    ∷ (768 ∷ 1536 ∷ 768 ∷ 768 ∷ 384 ∷ 384 ∷ 192 ∷ 192 ∷ [])
    ∷ (192 ∷ 384 ∷ 192 ∷ 192 ∷ 96 ∷ 96 ∷ 96 ∷ 96 ∷ [])
    ∷ (1024 ∷ 2048 ∷ 1024 ∷ 1024 ∷ 512 ∷ 512 ∷ 512 ∷ 512 ∷ [])
    ∷ (1024 ∷ 2048 ∷ 1024 ∷ 1024 ∷ 512 ∷ 512 ∷ 256 ∷ 256 ∷ [])
    ∷ (256 ∷ 512 ∷ 256 ∷ 256 ∷ 128 ∷ 128 ∷ 128 ∷ 128 ∷ [])
    ∷ []
unfolding settings numbers_from ranks_of counts_by_rank reports_at i11_values halves_i11 i12_values halves_i12 i13_values i2_values
    mode_two half_length k_rows k_two k_three
reports_mode_one = refl

pub reports_mode_two : map (counts_by_rank 2) settings ≡
    (4 ∷ 2 ∷ [])
    ∷ (64 ∷ 64 ∷ 16 ∷ 16 ∷ [])
    ∷ (256 ∷ 512 ∷ 384 ∷ 384 ∷ 128 ∷ 128 ∷ 128 ∷ 128 ∷ [])
    ∷ (128 ∷ 256 ∷ 96 ∷ 96 ∷ 32 ∷ 32 ∷ 16 ∷ 16 ∷ [])
    ∷ (384 ∷ 768 ∷ 768 ∷ 768 ∷ 192 ∷ 192 ∷ 96 ∷ 96 ∷ [])
    ∷ (192 ∷ 384 ∷ 192 ∷ 192 ∷ 48 ∷ 48 ∷ 48 ∷ 48 ∷ [])
    ∷ (512 ∷ 1024 ∷ 512 ∷ 512 ∷ 256 ∷ 256 ∷ 128 ∷ 128 ∷ [])
    ∷ (256 ∷ 512 ∷ 128 ∷ 128 ∷ 64 ∷ 64 ∷ 64 ∷ 64 ∷ [])
    ∷ (768 ∷ 1536 ∷ 768 ∷ 768 ∷ 384 ∷ 384 ∷ 384 ∷ 384 ∷ [])
    ∷ (768 ∷ 1536 ∷ 768 ∷ 768 ∷ 384 ∷ 384 ∷ 192 ∷ 192 ∷ [])
    ∷ (384 ∷ 768 ∷ 192 ∷ 192 ∷ 96 ∷ 96 ∷ 96 ∷ 96 ∷ [])
    ∷ (1024 ∷ 2048 ∷ 1024 ∷ 1024 ∷ 512 ∷ 512 ∷ 512 ∷ 512 ∷ [])
    ∷ (1024 ∷ 2048 ∷ 1024 ∷ 1024 ∷ 512 ∷ 512 ∷ 256 ∷ 256 ∷ [])
    ∷ (512 ∷ 1024 ∷ 256 ∷ 256 ∷ 128 ∷ 128 ∷ 128 ∷ 128 ∷ [])
    ∷ []
unfolding settings numbers_from ranks_of counts_by_rank reports_at i11_values halves_i11 i12_values halves_i12 i13_values i2_values
    mode_two half_length k_rows k_two k_three
reports_mode_two = refl

-- all of them, in both modes
pub counts_sum : sum (map (λ s. sum (counts_by_rank 1 s) + sum (counts_by_rank 2 s)) settings) ≡ 78892
unfolding sum join
counts_sum =
    sum_plus (λ s. sum (counts_by_rank 1 s)) (λ s. sum (counts_by_rank 2 s)) settings
    ∙ rw (← sum_along (counts_by_rank 1) settings, ← sum_along (counts_by_rank 2) settings, reports_mode_one, reports_mode_two)
