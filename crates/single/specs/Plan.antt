-- The precoder of a report: its layers, each co-phases times a beam.
use Rattle.std.specs.Prelude.{List, [], ◌∷◌, map, ℕ, ◌*◌, ◌-◌, ◌/◌, get_or, take}
use Rattle.ground.specs.Cases.{◌⇒◌∣◌}
use Rattle.turn.specs.declared.Beam.{Beam}
use Rattle.turn.specs.Phase.{quarter, eighth}
use Rattle.turn.specs.Column.{Setting}
use Rattle.settings.specs.Settings.{ports, o1, o2}
use Rattle.settings.specs.Ranges.{beam}
use Rattle.report.specs.declared.Report.{Report}
use Rattle.report.specs.Beams.{is_half, n, beams}
use Rattle.plan.specs.Plan.{Layer, Plan}
use Rattle.single.specs.Columns.{Bracket, by_rank, place, phase_of, quarters}

-- f(n) and, at half-length beams, t(p) with p = i13
abbrev pub f_of : Report → ℕ
f_of r = n r * quarter

abbrev pub t_of : Report → ℕ
t_of r = r.i13 * eighth

-- a beam with its co-phases
abbrev pub with_beam : Beam → List ℕ → Layer
with_beam x co = record { l = x.l; m = x.m; co = co }

-- [x; y] for the report's beams and f: nothing is added to the first polarisation, and y to the second
unfoldable pub whole : Report → Bracket → Layer
whole r c = with_beam (get_or (beams r) (place c.beam) (beam 0 0)) (0 ∷ phase_of (f_of r) c.added ∷ [])

-- a layer of half-length beams: four quarters
unfoldable pub quartered : Report → List ℕ → Layer
quartered r co = with_beam (get_or (beams r) 0 (beam 0 0)) co

-- Two ports have the columns of one and two layers, with a beam of one entry of phase 0.
unfoldable pub layers : Report → List Layer
layers r =
    is_half r ⇒ map (quartered r) (take r.v (quarters (f_of r) (t_of r)))
    ∣ map (whole r) (get_or by_rank (r.v - 1) [])

-- a column has two blocks of N1 by N2 antennas, or for half-length beams four of N1/2 by N2, with as many beams
abbrev pub blocks : Report → ℕ
blocks r = is_half r ⇒ 4 ∣ 2

abbrev pub rows : Report → ℕ
rows r = is_half r ⇒ r.n1 / 2 ∣ r.n1

abbrev pub block_of : Report → Setting
block_of r = record { n1 = rows r; n2 = r.n2; o1 = is_half r ⇒ 2 * o1 r.n1 ∣ o1 r.n1; o2 = o2 r.n2 }

abbrev pub plan : Report → Plan
plan r = record { ports = ports r.n1 r.n2; v = r.v; blocks = blocks r; block = block_of r; layers = layers r }
