-- What the writer is handed of a report.
use Rattle.std.specs.Prelude.{List, [], ◌∷◌, map, ℕ, ◌+◌, ◌-◌, ◌*◌, ◌/◌, eqb, get_or}
use Rattle.ground.specs.Cases.{◌⇒◌∣◌}
use Rattle.ground.specs.Lists.{places}
use Rattle.turn.specs.declared.Beam.{Beam}
use Rattle.turn.specs.Phase.{turn, quarter, phase}
use Rattle.settings.specs.Settings.{across, down}
use Rattle.plan.specs.declared.Drawing.{Drawing}
use Rattle.plan.specs.declared.Lineup.{Lineup}
use Rattle.plan.specs.Plan.{no_beam}
use Rattle.multi.specs.declared.PanelReport.{PanelReport}
use Rattle.multi.specs.Panels.{Name, B, B', Column, W¹, W², beam_of, by_rank, reached}

-- the code of a column: 512 times the place of its beam, 256 for the co-phases, and where it is W² a bit for every second
-- block of up to eight
abbrev pub place : Name → ℕ
place B = 0
place B' = 1

abbrev pub code_of : Column → ℕ
code_of (W¹ x) = 512 * place x + 256
code_of (W² x) = 512 * place x + 256 + 0b10101010

-- the codes of a rank, in eight places
unfoldable pub codes_of : ℕ → List ℕ
codes_of v = places 8 0 (map code_of (get_or by_rank (v - 1) []))

-- the beam that a name stands for, of two
abbrev pub chosen : Beam → Beam → Name → Beam
chosen a b B = a
chosen a b B' = b

-- the beams of a rank's layers, in eight places
unfoldable pub beams_by : ℕ → Beam → Beam → List Beam
beams_by v a b = places 8 no_beam (map (λ c. chosen a b (beam_of c)) (get_or by_rank (v - 1) []))

-- the layers of a rank: their codes, and their beams
abbrev pub lineup_of : ℕ → Beam → Beam → Lineup
lineup_of v a b = record { codes = codes_of v; beams = beams_by v a b }

-- the co-phases of W¹ in whole quarters of a turn, in eight places
unfoldable pub quarters_of : PanelReport → List ℕ
quarters_of r =
    let p : ℕ → ℕ = λ i. get_or r.i14 i 0 in
    let n : ℕ → ℕ = λ i. get_or r.i2 i 0 in
    eqb r.mode 2 ⇒ 0 ∷ n 0 ∷ (p 0 + n 1) ∷ (p 1 + n 2) ∷ 0 ∷ 0 ∷ 0 ∷ 0 ∷ []
    ∣ eqb r.ng 2 ⇒ 0 ∷ n 0 ∷ p 0 ∷ (n 0 + p 0) ∷ 0 ∷ 0 ∷ 0 ∷ 0 ∷ []
    ∣ 0 ∷ n 0 ∷ p 0 ∷ (n 0 + p 0) ∷ p 1 ∷ (n 0 + p 1) ∷ p 2 ∷ (n 0 + p 2) ∷ []

abbrev pub in_parts : List ℕ → List ℕ
in_parts ns = map (λ n. phase (n * quarter)) ns

-- the steps of a beam in parts of a turn, x + 512·y
abbrev pub step_of : PanelReport → Beam → ℕ
step_of r x = x.l * (turn / across r.n1) + 512 * (x.m * (turn / down r.n2))

-- those of B and B′, in four places
abbrev pub steps_of : PanelReport → List ℕ
steps_of r = step_of r (reached r B) ∷ step_of r (reached r B') ∷ 0 ∷ 0 ∷ []

abbrev pub drawn_with : PanelReport → List ℕ → List ℕ → List ℕ → Drawing
drawn_with r steps co codes =
    record { v = r.v; pairs = r.ng; rows = r.n1; columns = r.n2; steps = steps; co = co; codes = codes }

unfoldable pub drawing_of : PanelReport → Drawing
drawing_of r = drawn_with r (steps_of r) (in_parts (quarters_of r)) (codes_of r.v)
