-- The beams of a report: B, and how far B', B'' and B''' stand from it.
use Rattle.std.specs.Prelude.{Bool, ◌||◌, List, [], ◌∷◌, map, Result, ℕ, ◌+◌, ◌*◌, ◌/◌, ◌%◌, ◌≤◌, eqb, leb, ltb, length, get_or}
use Rattle.ground.specs.Cases.{◌⇒◌∣◌}
use Rattle.ground.specs.First.{first}
use Rattle.turn.specs.declared.Beam.{Beam}
use Rattle.settings.specs.declared.Sizes.{Sizes}
use Rattle.settings.specs.declared.Refused.{Refused}
use Rattle.settings.specs.Settings.{ports, o1, o2, across, down, sizes_of}
use Rattle.settings.specs.Outcome.{told}
use Rattle.settings.specs.Ranges.{beam, mode_two, half_length, k_rows}
use Rattle.report.specs.declared.Report.{Report}
use Rattle.report.specs.declared.Beams.{Beams}
use Rattle.report.specs.Rules.{rule, own_order}

-- mode 2 and half-length beams, of a report
abbrev pub in_mode_two : Report → Bool
in_mode_two r = mode_two r.n1 r.mode r.v

abbrev pub is_half : Report → Bool
is_half r = half_length (ports r.n1 r.n2) r.v

-- g, and q = i2 / g of mode 2
abbrev pub g : ℕ → ℕ
g v = eqb v 1 ⇒ 4 ∣ 2

abbrev pub q : Report → ℕ
q r = r.i2 / g r.v

-- n of f(n)
unfoldable pub n : Report → ℕ
n r = in_mode_two r ⇒ r.i2 % g r.v ∣ r.i2

-- B. The half-length beam of (i11,i12) is N1/2 rows of the beam (2·i11, i12): at row a 2·a·i11 steps, N1·O1 of which are a
-- turn.
unfoldable pub base : Report → Beam
base r =
    is_half r ⇒ beam (2 * r.i11) r.i12
    ∣ in_mode_two r ⇒ (ltb 1 r.n2 ⇒ beam (2 * r.i11 + q r % 2) (2 * r.i12 + q r / 2) ∣ beam (2 * r.i11 + q r) 0)
    ∣ beam r.i11 r.i12

-- how far B, B', .. stand from B, in steps of (O1,O2): at v = 5 and 6, at v = 7 and 8, and at every rank
abbrev pub five_six : ℕ → List Beam
five_six n2 = ltb 1 n2 ⇒ beam 0 0 ∷ beam 1 0 ∷ beam 1 1 ∷ [] ∣ beam 0 0 ∷ beam 1 0 ∷ beam 2 0 ∷ []

abbrev pub seven_eight : ℕ → List Beam
seven_eight n2 =
    ltb 1 n2 ⇒ beam 0 0 ∷ beam 1 0 ∷ beam 0 1 ∷ beam 1 1 ∷ [] ∣ beam 0 0 ∷ beam 1 0 ∷ beam 2 0 ∷ beam 3 0 ∷ []

unfoldable pub moves : Report → List Beam
moves r =
    leb 7 r.v ⇒ seven_eight r.n2
    ∣ leb 5 r.v ⇒ five_six r.n2
    ∣ eqb r.v 1 || is_half r ⇒ beam 0 0 ∷ []
    ∣ beam 0 0 ∷ get_or (k_rows r.n1 r.n2 r.v) r.i13 (beam 0 0) ∷ []

-- a beam moved so, reduced
unfoldable pub moved : Report → Beam → Beam → Beam
moved r x k = beam ((x.l + o1 r.n1 * k.l) % across r.n1) ((x.m + o2 r.n2 * k.m) % down r.n2)

-- the beams that the report's columns use
unfoldable pub beams : Report → List Beam
beams r = map (moved r (base r)) (moves r)

-- what four beams have, (0,0) in unused places
abbrev pub four : {A : Type 0} → (Beam → A) → List Beam → List A
four f xs =
    f (get_or xs 0 (beam 0 0)) ∷ f (get_or xs 1 (beam 0 0)) ∷ f (get_or xs 2 (beam 0 0)) ∷ f (get_or xs 3 (beam 0 0)) ∷ []

-- what is said of a report whose beams are given
abbrev pub said_of : Report → Sizes → Bool → ℕ → List Beam → Beams
said_of r s half count xs = record { sizes = s; beams = four (λ x. x) xs; count = count; n = n r; half = half }

-- numbers far from the limits of the code's arithmetic
pub record Small (x : Beam) : Type 0 where
  pub l : x.l ≤ 255
  pub m : x.m ≤ 255

-- what is said of one in range
abbrev pub said_all : Report → Sizes → Beams
said_all r s = said_of r s (is_half r) (length (beams r)) (beams r)

-- what the report's own numbers say, by the number of its refusal
abbrev pub said : Report → ℕ → Result Beams Refused
said r k = told (said_all r (sizes_of r.n1 r.n2)) (sizes_of r.n1 r.n2) k

unfoldable pub beams_of : Report → Result Beams Refused
beams_of r = said r (first (rule r) own_order)
