-- How many values each index has. The ranges depend on N1, N2, the mode and v alone.
use Rattle.std.specs.Prelude.{Bool, not, ◌&&◌, ◌||◌, List, [], ◌∷◌, ℕ, ◌/◌, eqb, leb, ltb, length}
use Rattle.ground.specs.Cases.{◌⇒◌∣◌}
use Rattle.ground.specs.Lists.{numbers_from}
use Rattle.turn.specs.declared.Beam.{Beam}
use Rattle.settings.specs.declared.Ranges.{Ranges}
use Rattle.settings.specs.Settings.{is_setting, ports, two_ports, across, down, sizes_of}

abbrev pub beam : ℕ → ℕ → Beam
beam l m = record { l = l; m = m }

abbrev pub is_mode : ℕ → Bool
is_mode mode = eqb mode 1 || eqb mode 2

-- v layers on P ports: 1 to 8, and at most P
abbrev pub is_rank : ℕ → ℕ → Bool
is_rank p v = not (eqb v 0 || ltb 8 v || ltb p v)

-- all modes, and all ranks on P ports
unfoldable pub modes : List ℕ
modes = 1 ∷ 2 ∷ []

unfoldable pub ranks_of : ℕ → List ℕ
ranks_of p = numbers_from 1 (ltb p 8 ⇒ p ∣ 8)

-- mode 2 acts on v = 1 and 2 only, and has no effect on two ports
unfoldable pub mode_two : ℕ → ℕ → ℕ → Bool
mode_two n1 mode v = eqb mode 2 && leb v 2 && not (two_ports n1)

-- v = 3 and 4 at P ≥ 16 take half-length beams
unfoldable pub half_length : ℕ → ℕ → Bool
half_length p v = leb 3 v && leb v 4 && leb 16 p

-- Table 5.2.2.2.1-3: the rows (k1,k2) for i13 at v = 2, in steps of (O1,O2), column by column: N1 > N2 > 1; N1 = N2, but
-- for two ports; (2,1); N1 > 2 with N2 = 1
unfoldable pub k_two : ℕ → ℕ → List Beam
k_two n1 n2 =
    ltb 1 n2 && ltb n2 n1 ⇒ beam 0 0 ∷ beam 1 0 ∷ beam 0 1 ∷ beam 2 0 ∷ []
    ∣ ltb 1 n2 && eqb n1 n2 ⇒ beam 0 0 ∷ beam 1 0 ∷ beam 0 1 ∷ beam 1 1 ∷ []
    ∣ eqb n1 2 ⇒ beam 0 0 ∷ beam 1 0 ∷ []
    ∣ beam 0 0 ∷ beam 1 0 ∷ beam 2 0 ∷ beam 3 0 ∷ []

-- Table 5.2.2.2.1-4: those at v = 3 and 4 for P < 16: (2,1), (4,1), (6,1); (2,2), (3,2)
unfoldable pub k_three : ℕ → ℕ → List Beam
k_three n1 n2 =
    eqb n2 1 && eqb n1 2 ⇒ beam 1 0 ∷ []
    ∣ eqb n2 1 && eqb n1 4 ⇒ beam 1 0 ∷ beam 2 0 ∷ beam 3 0 ∷ []
    ∣ eqb n2 1 ⇒ beam 1 0 ∷ beam 2 0 ∷ beam 3 0 ∷ beam 4 0 ∷ []
    ∣ eqb n1 2 ⇒ beam 1 0 ∷ beam 0 1 ∷ beam 1 1 ∷ []
    ∣ beam 1 0 ∷ beam 0 1 ∷ beam 1 1 ∷ beam 2 0 ∷ []

-- where there are none, i13 has the one value 0
unfoldable pub k_rows : ℕ → ℕ → ℕ → List Beam
k_rows n1 n2 v =
    half_length (ports n1 n2) v || two_ports n1 || eqb v 1 || leb 5 v ⇒ beam 0 0 ∷ []
    ∣ eqb v 2 ⇒ k_two n1 n2
    ∣ k_three n1 n2

-- An index without use has one value, 0.
-- i11: N1·O1, halved in mode 2 with v ≤ 2, for half-length beams, and at v = 7 and 8 for (4,1)
unfoldable pub halves_i11 : ℕ → ℕ → ℕ → ℕ → Bool
halves_i11 n1 n2 mode v = mode_two n1 mode v || half_length (ports n1 n2) v || (leb 7 v && eqb n1 4 && eqb n2 1)

unfoldable pub i11_values : ℕ → ℕ → ℕ → ℕ → ℕ
i11_values n1 n2 mode v = halves_i11 n1 n2 mode v ⇒ across n1 / 2 ∣ across n1

-- i12: N2·O2, halved in mode 2 with v ≤ 2 if N2 > 1, and at v = 7 and 8 for N1 > 2, N2 = 2
unfoldable pub halves_i12 : ℕ → ℕ → ℕ → ℕ → Bool
halves_i12 n1 n2 mode v = (mode_two n1 mode v && ltb 1 n2) || (leb 7 v && ltb 2 n1 && eqb n2 2)

unfoldable pub i12_values : ℕ → ℕ → ℕ → ℕ → ℕ
i12_values n1 n2 mode v = halves_i12 n1 n2 mode v ⇒ down n2 / 2 ∣ down n2

-- i13: as many as rows of k, and four for half-length beams
unfoldable pub i13_values : ℕ → ℕ → ℕ → ℕ
i13_values n1 n2 v = half_length (ports n1 n2) v ⇒ 4 ∣ length (k_rows n1 n2 v)

-- i2: four at v = 1 and two above; in mode 2 sixteen at v = 1 and eight at v = 2
unfoldable pub i2_values : ℕ → ℕ → ℕ → ℕ
i2_values n1 mode v = mode_two n1 mode v ⇒ (eqb v 1 ⇒ 16 ∣ 8) ∣ eqb v 1 ⇒ 4 ∣ 2

-- What follows from the setting, and how many values each index has. Zeros where the setting, the mode or the rank is none.
abbrev pub is_ranked : ℕ → ℕ → ℕ → ℕ → Bool
is_ranked n1 n2 mode v = is_setting n1 n2 && is_mode mode && is_rank (ports n1 n2) v

abbrev pub ranges_of : ℕ → ℕ → ℕ → ℕ → Ranges
ranges_of n1 n2 mode v = record {
  sizes = sizes_of n1 n2;
  i11 = is_ranked n1 n2 mode v ⇒ i11_values n1 n2 mode v ∣ 0;
  i12 = is_ranked n1 n2 mode v ⇒ i12_values n1 n2 mode v ∣ 0;
  i13 = is_ranked n1 n2 mode v ⇒ i13_values n1 n2 v ∣ 0;
  i2 = is_ranked n1 n2 mode v ⇒ i2_values n1 mode v ∣ 0;
}
