-- How many reports are in range, for every setting, mode and rank.
use Rattle.std.specs.Prelude.{List, map, ℕ, ◌*◌}
use Rattle.settings.specs.Settings.{ports}
use Rattle.settings.specs.Ranges.{ranks_of, i11_values, i12_values, i13_values, i2_values}

-- of a setting, mode and rank: the values of each index, multiplied
unfoldable pub reports_at : ℕ → ℕ → ℕ → ℕ → ℕ
reports_at n1 n2 mode v = i11_values n1 n2 mode v * i12_values n1 n2 mode v * i13_values n1 n2 v * i2_values n1 mode v

-- of a setting and mode, rank by rank
unfoldable pub counts_by_rank : ℕ → ℕ × ℕ → List ℕ
counts_by_rank mode s = map (reports_at s.0 s.1 mode) (ranks_of (ports s.0 s.1))
