-- The refusals that need the report alone, by number.
use Rattle.std.specs.Prelude.{◌≡◌, Bool, true, false, not, List, [], ◌∷◌, ℕ, ◌<◌, eqb, leb}
use Rattle.ground.specs.Cases.{◌⇒◌∣◌}
use Rattle.settings.specs.Settings.{is_setting, ports}
use Rattle.settings.specs.Ranges.{is_mode, is_rank, i11_values, i12_values, i13_values, i2_values}
use Rattle.report.specs.declared.Report.{Report}

-- the test of each number: the setting, the mode, the rank, and the indices
unfoldable pub rule : Report → ℕ → Bool
rule r k =
    eqb k 1 ⇒ not (is_setting r.n1 r.n2)
    ∣ eqb k 2 ⇒ not (is_mode r.mode)
    ∣ eqb k 4 ⇒ not (is_rank (ports r.n1 r.n2) r.v)
    ∣ eqb k 6 ⇒ leb (i11_values r.n1 r.n2 r.mode r.v) r.i11
    ∣ eqb k 7 ⇒ leb (i12_values r.n1 r.n2 r.mode r.v) r.i12
    ∣ eqb k 8 ⇒ leb (i13_values r.n1 r.n2 r.v) r.i13
    ∣ eqb k 9 ⇒ leb (i2_values r.n1 r.mode r.v) r.i2
    ∣ false

-- the order in which they are tried
abbrev pub own_order : List ℕ
own_order = 1 ∷ 2 ∷ 4 ∷ 6 ∷ 7 ∷ 8 ∷ 9 ∷ []

-- all numbers are in range
pub record InRange (r : Report) : Type 0 where
  pub setting : is_setting r.n1 r.n2 ≡ true
  pub mode : is_mode r.mode ≡ true
  pub rank : is_rank (ports r.n1 r.n2) r.v ≡ true
  pub i11 : r.i11 < i11_values r.n1 r.n2 r.mode r.v
  pub i12 : r.i12 < i12_values r.n1 r.n2 r.mode r.v
  pub i13 : r.i13 < i13_values r.n1 r.n2 r.v
  pub i2 : r.i2 < i2_values r.n1 r.mode r.v
