-- The multi-panel codebook answers for the demands (crates/plan/specs/Demands.antt), with 12 between 8 and 9, and 13
-- just before 11.
use mathlib.Core.Path.{refl}
use mathlib.Core.List.{List, [], ◌∷◌}
use Prim.Native.Nat.{ℕ}
use Rattle.plan.specs.Demands.{Demands}
use Rattle.plan.proofs.Demands.{demanded}
use Rattle.multi.specs.declared.PanelReport.{PanelReport}
use Rattle.multi.specs.Panels.{InRange, panels}
use Rattle.multi.proofs.Lawful.{panels_lawful}

-- of every report, beam mask, rank mask and list of offsets
pub panels_demanded : (r : PanelReport) (mask : List ℕ) (ranks : ℕ) (offsets : List ℕ)
    → Demands panels InRange (1 ∷ 2 ∷ 3 ∷ 4 ∷ 5 ∷ 6 ∷ 7 ∷ 8 ∷ 12 ∷ 9 ∷ 10 ∷ 13 ∷ 11 ∷ []) r mask ranks offsets
panels_demanded = demanded panels _ refl panels_lawful
