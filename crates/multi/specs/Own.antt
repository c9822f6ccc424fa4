-- What a report's own numbers say.
use Rattle.std.specs.Prelude.{[], ◌∷◌, Result}
use Rattle.ground.specs.First.{first}
use Rattle.settings.specs.declared.Refused.{Refused}
use Rattle.settings.specs.Settings.{sizes_of}
use Rattle.settings.specs.Outcome.{told}
use Rattle.multi.specs.declared.PanelReport.{PanelReport}
use Rattle.multi.specs.declared.Own.{Own}
use Rattle.multi.specs.Panels.{B, B', reached, rule, own_order}

-- the sizes of one panel, and B and B′; or the first refusal and the same sizes
abbrev pub own_of : PanelReport → Result Own Refused
own_of r =
    told (record { sizes = sizes_of r.n1 r.n2; beams = reached r B ∷ reached r B' ∷ [] }) (sizes_of r.n1 r.n2)
    (first (rule r) own_order)
