-- The multi-panel codebook, in the order of 5.2.2.2.2.
use Rattle.std.specs.Prelude.{◌≡◌, Bool, true, false, not, ◌&&◌, ◌||◌, List, [], ◌∷◌, map, ℕ, ◌+◌, ◌-◌, ◌*◌, ◌%◌, ◌<◌, eqb, leb, ltb, length, get_or}
use Rattle.ground.specs.Cases.{◌⇒◌∣◌}
use Rattle.ground.specs.Lists.{some}
use Rattle.turn.specs.declared.Beam.{Beam}
use Rattle.turn.specs.Phase.{turn, half, quarter, eighth}
use Rattle.settings.specs.Settings.{o1, o2, across, down, mask_bytes}
use Rattle.settings.specs.Ranges.{beam, k_two}
use Rattle.plan.specs.Plan.{Layer, Plan}
use Rattle.plan.specs.Answer.{Codebook}
use Rattle.multi.specs.declared.PanelReport.{PanelReport}

-- Table 5.2.2.2.2-1: (Ng,N1,N2) for 8, 16 and 32 ports. N1 and N2 are those of one panel, and so are O1 and O2.
unfoldable pub panel_settings : List (ℕ × ℕ × ℕ)
panel_settings =
    (2, 2, 1)
    ∷ (2, 4, 1) ∷ (4, 2, 1) ∷ (2, 2, 2)
    ∷ (2, 8, 1) ∷ (4, 4, 1) ∷ (2, 4, 2) ∷ (4, 2, 2) ∷ []

unfoldable pub is_panel_setting : ℕ → ℕ → ℕ → Bool
is_panel_setting ng n1 n2 = some (λ s. eqb ng s.0 && eqb n1 s.1 && eqb n2 s.2) panel_settings

-- P
abbrev pub panel_ports : ℕ → ℕ → ℕ → ℕ
panel_ports ng n1 n2 = 2 * ng * (n1 * n2)

-- mode 1 or 2 for two panels, mode 1 for four
unfoldable pub mode_fits : ℕ → ℕ → Bool
mode_fits ng mode = eqb mode 1 || (eqb mode 2 && eqb ng 2)

-- 1 to 4 layers
unfoldable pub rank_fits : ℕ → Bool
rank_fits v = not (eqb v 0 || ltb 4 v)

-- Table 5.2.2.2.2-2: the rows (k1,k2) for i13 at v = 3 and 4, in steps of (O1,O2), column by column
unfoldable pub k_three_four : ℕ → ℕ → List Beam
k_three_four n1 n2 =
    eqb n1 2 && eqb n2 1 ⇒ beam 1 0 ∷ []
    ∣ eqb n1 4 && eqb n2 1 ⇒ beam 1 0 ∷ beam 2 0 ∷ beam 3 0 ∷ []
    ∣ eqb n1 8 && eqb n2 1 ⇒ beam 1 0 ∷ beam 2 0 ∷ beam 3 0 ∷ beam 4 0 ∷ []
    ∣ eqb n1 2 && eqb n2 2 ⇒ beam 1 0 ∷ beam 0 1 ∷ beam 1 1 ∷ []
    ∣ eqb n1 4 && eqb n2 2 ⇒ beam 1 0 ∷ beam 0 1 ∷ beam 1 1 ∷ beam 2 0 ∷ []
    ∣ []

-- at v = 2 those of Table 5.2.2.2.1-3; at v = 1 there are none, and i13 has the one value 0
unfoldable pub panel_rows : ℕ → ℕ → ℕ → List Beam
panel_rows n1 n2 v = eqb v 1 ⇒ beam 0 0 ∷ [] ∣ eqb v 2 ⇒ k_two n1 n2 ∣ k_three_four n1 n2

-- φ(n), a(p) and b(n). An eighth of a turn is forward in a and back in b, so that a(p)·b(n) is p + n quarters of a turn.
abbrev pub φ : ℕ → ℕ
φ n = n * quarter

abbrev pub a : ℕ → ℕ
a p = eighth + p * quarter

abbrev pub b : ℕ → ℕ
b n = (turn - eighth) + n * quarter

-- what stands before v in the rows of W¹, two to a panel: the polarisations of a panel stand together
unfoldable pub coefficients : PanelReport → List (ℕ × ℕ)
coefficients r =
    let p : ℕ → ℕ = λ i. get_or r.i14 i 0 in
    let n : ℕ → ℕ = λ i. get_or r.i2 i 0 in
    let panel : ℕ → ℕ × ℕ = λ x. (φ x, φ (n 0) + φ x) in
    eqb r.mode 2 ⇒ (0, φ (n 0)) ∷ (a (p 0) + b (n 1), a (p 1) + b (n 2)) ∷ []
    ∣ eqb r.ng 2 ⇒ (0, φ (n 0)) ∷ panel (p 0) ∷ []
    ∣ (0, φ (n 0)) ∷ panel (p 0) ∷ panel (p 1) ∷ panel (p 2) ∷ []

-- in W² half a turn is added to the second polarisation of every panel
unfoldable pub co_phases : List (ℕ × ℕ) → Bool → List ℕ
co_phases [] minus = []
co_phases (c ∷ cs) minus = c.0 ∷ (c.1 + (minus ⇒ half ∣ 0)) ∷ co_phases cs minus

-- B is v(l,m) and B′ is v(l',m')
pub data Name : Type 0 where
  B : Name
  B' : Name

pub data Column : Type 0 where
  W¹ : Name → Column
  W² : Name → Column

abbrev pub beam_of : Column → Name
beam_of (W¹ x) = x
beam_of (W² x) = x

abbrev pub minus : Column → Bool
minus (W¹ x) = false
minus (W² x) = true

-- Tables 5.2.2.2.2-3 to -6: the columns of one to four layers
unfoldable pub by_rank : List (List Column)
by_rank =
    (W¹ B ∷ [])
    ∷ (W¹ B ∷ W² B' ∷ [])
    ∷ (W¹ B ∷ W¹ B' ∷ W² B ∷ [])
    ∷ (W¹ B ∷ W¹ B' ∷ W² B ∷ W² B' ∷ []) ∷ []

-- (k1,k2) in steps of (O1,O2); how far a beam stands from (i11,i12); and the beam, reduced
abbrev pub k_of : PanelReport → Beam
k_of r = get_or (panel_rows r.n1 r.n2 r.v) r.i13 (beam 0 0)

abbrev pub move : Beam → Name → Beam
move k B = beam 0 0
move k B' = k

unfoldable pub reached : PanelReport → Name → Beam
reached r x =
    let k = move (k_of r) x in
    beam ((r.i11 + o1 r.n1 * k.l) % across r.n1) ((r.i12 + o2 r.n2 * k.m) % down r.n2)

unfoldable pub layer_of : PanelReport → Column → Layer
layer_of r c =
    let x = reached r (beam_of c) in
    record { l = x.l; m = x.m; co = co_phases (coefficients r) (minus c) }

-- two blocks of N1 by N2 antennas for each panel
abbrev pub plan : PanelReport → Plan
plan r = record {
  ports = panel_ports r.ng r.n1 r.n2;
  v = r.v;
  blocks = 2 * r.ng;
  block = record { n1 = r.n1; n2 = r.n2; o1 = o1 r.n1; o2 = o2 r.n2 };
  layers = map (layer_of r) (get_or by_rank (r.v - 1) []);
}

-- how many values the three numbers of i14 have: one or three are used in mode 1, by Ng, and two in mode 2
unfoldable pub i14_values : ℕ → ℕ → List ℕ
i14_values ng mode = eqb mode 2 ⇒ 4 ∷ 4 ∷ 1 ∷ [] ∣ eqb ng 2 ⇒ 4 ∷ 1 ∷ 1 ∷ [] ∣ 4 ∷ 4 ∷ 4 ∷ []

-- those of i2: one is used in mode 1 and all in mode 2. A number without use has one value, 0.
unfoldable pub i2_values : ℕ → ℕ → List ℕ
i2_values mode v =
    let first : ℕ = eqb v 1 ⇒ 4 ∣ 2 in
    eqb mode 2 ⇒ first ∷ 2 ∷ 2 ∷ [] ∣ first ∷ 1 ∷ 1 ∷ []

-- one of three numbers has too few values for it
unfoldable pub outside : List ℕ → List ℕ → Bool
outside values given =
    let out : ℕ → Bool = λ i. leb (get_or values i 0) (get_or given i 0) in
    out 0 || out 1 || out 2

-- the test of each number: the setting, the mode, the rank, and the indices
unfoldable pub rule : PanelReport → ℕ → Bool
rule r k =
    eqb k 1 ⇒ not (is_panel_setting r.ng r.n1 r.n2)
    ∣ eqb k 2 ⇒ not (mode_fits r.ng r.mode)
    ∣ eqb k 4 ⇒ not (rank_fits r.v)
    ∣ eqb k 6 ⇒ leb (across r.n1) r.i11
    ∣ eqb k 7 ⇒ leb (down r.n2) r.i12
    ∣ eqb k 8 ⇒ leb (length (panel_rows r.n1 r.n2 r.v)) r.i13
    ∣ eqb k 12 ⇒ outside (i14_values r.ng r.mode) r.i14
    ∣ eqb k 9 ⇒ outside (i2_values r.mode r.v) r.i2
    ∣ false

-- all numbers are in range
pub record InRange (r : PanelReport) : Type 0 where
  pub setting : is_panel_setting r.ng r.n1 r.n2 ≡ true
  pub mode : mode_fits r.ng r.mode ≡ true
  pub rank : rank_fits r.v ≡ true
  pub i11 : r.i11 < across r.n1
  pub i12 : r.i12 < down r.n2
  pub i13 : r.i13 < length (panel_rows r.n1 r.n2 r.v)
  pub i14 : outside (i14_values r.ng r.mode) r.i14 ≡ false
  pub i2 : outside (i2_values r.mode r.v) r.i2 ≡ false

-- the bits that a report reads: B's, and from two layers on that of B′, in the mask of one panel
abbrev pub beam_bit : PanelReport → Name → ℕ
beam_bit r x = down r.n2 * (reached r x).l + (reached r x).m

unfoldable pub bits_read : PanelReport → List ℕ
bits_read r = eqb r.v 1 ⇒ beam_bit r B ∷ [] ∣ beam_bit r B ∷ beam_bit r B' ∷ []

-- the order in which the refusals are tried: 12, of i14, stands between 8 and 9
abbrev pub order : List ℕ
order = 1 ∷ 2 ∷ 3 ∷ 4 ∷ 5 ∷ 6 ∷ 7 ∷ 8 ∷ 12 ∷ 9 ∷ 10 ∷ 13 ∷ 11 ∷ []

-- those of the indices, and all that need the report alone
abbrev pub indices : List ℕ
indices = 6 ∷ 7 ∷ 8 ∷ 12 ∷ 9 ∷ []

abbrev pub own_order : List ℕ
own_order = 1 ∷ 2 ∷ 4 ∷ indices

abbrev pub panels : Codebook PanelReport
panels = record {
  rule = rule;
  order = order;
  mask_bytes = λ r. mask_bytes r.n1 r.n2;
  bits_read = bits_read;
  beamed = λ r. true;
  width = λ r. down r.n2;
  is_half = λ r. false;
  plan = plan;
}
