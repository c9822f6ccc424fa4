-- The reports in range, as a list: of every setting, mode and rank, every value of i11, i12, i13 and i2, the last fastest.
use Rattle.std.specs.Prelude.{List, [], ◌∷◌, ℕ}
use Rattle.ground.specs.Lists.{along, numbers_from}
use Rattle.settings.specs.Settings.{settings, ports}
use Rattle.settings.specs.Ranges.{modes, ranks_of, i11_values, i12_values, i13_values, i2_values}
use Rattle.report.specs.declared.Report.{Report}

-- N1 N2 mode v i11 i12 i13 i2, as the printing program reads them
abbrev pub asks : ℕ → ℕ → ℕ → ℕ → ℕ → ℕ → ℕ → ℕ → Report
asks n1 n2 mode v i11 i12 i13 i2 =
    record { n1 = n1; n2 = n2; mode = mode; v = v; i11 = i11; i12 = i12; i13 = i13; i2 = i2 }

-- of one setting, mode and rank
unfoldable pub reports_of : ℕ → ℕ → ℕ → ℕ → List Report
reports_of n1 n2 mode v =
    along (numbers_from 0 (i11_values n1 n2 mode v)) (λ i11.
    along (numbers_from 0 (i12_values n1 n2 mode v)) (λ i12.
    along (numbers_from 0 (i13_values n1 n2 v)) (λ i13.
    along (numbers_from 0 (i2_values n1 mode v)) (λ i2.
    asks n1 n2 mode v i11 i12 i13 i2 ∷ []))))

-- of all
unfoldable pub all_reports : List Report
all_reports =
    along settings (λ s.
    along modes (λ mode.
    along (ranks_of (ports s.0 s.1)) (λ v.
    reports_of s.0 s.1 mode v)))
