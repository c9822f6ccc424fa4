-- What is said of a report by its own numbers: an answer, or why it is refused and what follows from its setting.
use Rattle.std.specs.Prelude.{not, ℕ, zero, suc, Result, Ok, Err}
use Rattle.ground.specs.Cases.{◌⇒◌∣◌}
use Rattle.refusal.specs.Outcome.{refused}
use Rattle.settings.specs.declared.Sizes.{Sizes}
use Rattle.settings.specs.declared.Refused.{Refused}
use Rattle.settings.specs.Settings.{is_setting, ports}
use Rattle.settings.specs.Ranges.{is_mode, is_rank}

abbrev pub refused_with : ℕ → Sizes → Refused
refused_with k s = record { refusal = refused k; sizes = s }

-- the answer where no refusal applies, the number 0
abbrev pub told : {A : Type 0} → A → Sizes → ℕ → Result A Refused
told x s zero = Ok x
told x s (suc k) = Err (refused_with (suc k) s)

-- which of the setting, the mode and the rank is none, and 0 where each index has values
abbrev pub unranked : ℕ → ℕ → ℕ → ℕ → ℕ
unranked n1 n2 mode v = not (is_setting n1 n2) ⇒ 1 ∣ not (is_mode mode) ⇒ 2 ∣ not (is_rank (ports n1 n2) v) ⇒ 4 ∣ 0
