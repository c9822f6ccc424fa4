-- What the writer is handed of a report.
use Rattle.std.specs.Prelude.{List, [], ◌∷◌, map, ℕ, ◌+◌, ◌*◌, ◌-◌, ◌/◌, eqb, get_or, replicate}
use Rattle.ground.specs.Cases.{◌⇒◌∣◌}
use Rattle.ground.specs.Lists.{places}
use Rattle.turn.specs.declared.Beam.{Beam}
use Rattle.turn.specs.Phase.{turn, phase}
use Rattle.settings.specs.Settings.{across, down}
use Rattle.report.specs.declared.Report.{Report}
use Rattle.report.specs.Beams.{is_half, beams, four}
use Rattle.plan.specs.declared.Drawing.{Drawing}
use Rattle.plan.specs.declared.Lineup.{Lineup}
use Rattle.plan.specs.Plan.{no_beam, named}
use Rattle.single.specs.Columns.{Added, o, ½, f, f+½, Bracket, by_rank, place}
use Rattle.single.specs.Plan.{f_of, t_of, blocks, rows, plan}

-- the code of [x; y]: 512 times the place of the beam, 256 more where f is added, and 2 where half a turn is
abbrev pub added_code : Added → ℕ
added_code o = 0
added_code ½ = 2
added_code f = 256
added_code f+½ = 258

abbrev pub code_of : Bracket → ℕ
code_of b = 512 * place b.beam + added_code b.added

-- the columns of a rank; above eight, those of eight
unfoldable pub ranked : ℕ → List Bracket
ranked v = get_or by_rank (v - 1) (get_or by_rank 7 [])

-- the codes of a rank, in eight places
unfoldable pub codes_of : ℕ → List ℕ
codes_of v = places 8 0 (map code_of (ranked v))

-- those of half-length beams: half a turn is added to quarters 2 and 4, 3 and 4, 2 and 3
abbrev pub half_codes : List ℕ
half_codes = 256 ∷ 266 ∷ 268 ∷ 262 ∷ 0 ∷ 0 ∷ 0 ∷ 0 ∷ []

-- the layers of a rank whose whole beams B, B', B'' and B''' are given: their codes, and their beams
abbrev pub whole_lineup : ℕ → List Beam → Lineup
whole_lineup v xs = record {
  codes = codes_of v;
  beams = places 8 no_beam (map (λ c. get_or xs (place c.beam) no_beam) (ranked v));
}

-- those of a half-length beam: three, or of any other rank four
abbrev pub half_lineup : ℕ → Beam → Lineup
half_lineup v x = record { codes = half_codes; beams = places 8 no_beam (replicate (eqb v 3 ⇒ 3 ∣ 4) x) }

-- the layers of a report: their codes, and their beams
abbrev pub lineup_of : Report → Lineup
lineup_of r = record { codes = is_half r ⇒ half_codes ∣ codes_of r.v; beams = named (plan r) }

-- the co-phases that a layer may take: f, or for half-length beams t, f and f + t
abbrev pub co_phases : Report → List ℕ
co_phases r =
    is_half r ⇒ 0 ∷ phase (t_of r) ∷ phase (f_of r) ∷ phase (phase (f_of r) + phase (t_of r)) ∷ 0 ∷ 0 ∷ 0 ∷ 0 ∷ []
    ∣ 0 ∷ phase (f_of r) ∷ 0 ∷ 0 ∷ 0 ∷ 0 ∷ 0 ∷ 0 ∷ []

-- the steps of a beam in parts of a turn, x + 512·y
abbrev pub step_of : Report → Beam → ℕ
step_of r x = x.l * (turn / across r.n1) + 512 * (x.m * (turn / down r.n2))

unfoldable pub drawing_of : Report → Drawing
drawing_of r = record {
  v = r.v;
  pairs = blocks r / 2;
  rows = rows r;
  columns = r.n2;
  steps = four (step_of r) (beams r);
  co = co_phases r;
  codes = (lineup_of r).codes;
}
