-- Worked reports of the multi-panel codebook, as one table, and one theorem that every row of it holds.
use mathlib.Core.Path.{◌≡◌, refl}
use mathlib.Core.List.{List, [], ◌∷◌, map}
use Prim.Native.Nat.{ℕ}
use Rattle.settings.specs.Settings.{mask_bytes}
use Rattle.settings.specs.Ranges.{k_two}
use Rattle.plan.specs.declared.Record.{Record}
use Rattle.plan.proofs.Worked.{Row, ones, accepts, differs, refuses, ranked, offset_by, said, defined_by}
use Rattle.multi.specs.declared.PanelReport.{PanelReport}
use Rattle.multi.specs.Panels.{panel_settings, is_panel_setting, mode_fits, rank_fits, k_three_four, panel_rows}
use Rattle.multi.specs.Panels.{coefficients, co_phases, by_rank, reached, layer_of, i14_values, i2_values, outside}
use Rattle.multi.specs.Panels.{rule, bits_read, panels}

-- three numbers
abbrev three : ℕ → ℕ → ℕ → List ℕ
three x y z = x ∷ y ∷ z ∷ []

-- a report by its numbers: ng n1 n2 mode v i11 i12 i13, i14 and i2
abbrev pub asks : ℕ → ℕ → ℕ → ℕ → ℕ → ℕ → ℕ → ℕ → List ℕ → List ℕ → PanelReport
asks ng n1 n2 mode v i11 i12 i13 i14 i2 =
    record { ng = ng; n1 = n1; n2 = n2; mode = mode; v = v; i11 = i11; i12 = i12; i13 = i13; i14 = i14; i2 = i2 }

-- two panels of (2,1) with one layer, in a mode
abbrev plain : ℕ → List ℕ → List ℕ → PanelReport
plain mode i14 i2 = asks 2 2 1 mode 1 0 0 0 i14 i2

pub reports : List (Row PanelReport)
reports =
    -- two panels: both polarisations of the first panel, and then of the second; one entry too few
    accepts (asks 2 2 1 1 1 1 0 0 (three 1 0 0) (three 2 0 0)) (ones 1) 8 1 8 ((1, 0) ∷ []) 0
    (0 ∷ 48 ∷ 192 ∷ 240 ∷ 96 ∷ 144 ∷ 288 ∷ 336 ∷ [])
    ∷ refuses 8 (asks 2 2 1 1 1 1 0 0 (three 1 0 0) (three 2 0 0)) (ones 1) 7 11
    -- two layers: beam 11 is beam 3, and in layer 2 half a turn is added to the second polarisation of each panel; with
    -- the bit of either beam zero
    ∷ differs (asks 2 2 1 1 2 7 0 1 (three 1 0 0) (three 0 0 0)) (ones 1) 8 2 16 ((7, 0) ∷ (3, 0) ∷ []) 8
    (0 ∷ 144 ∷ 192 ∷ 336 ∷ 96 ∷ 240 ∷ 288 ∷ 48 ∷ []) ((0, 4) ∷ (192, 4) ∷ [])
    ∷ refuses 8 (asks 2 2 1 1 2 7 0 1 (three 1 0 0) (three 0 0 0)) (247 ∷ []) 16 10
    ∷ refuses 8 (asks 2 2 1 1 2 7 0 1 (three 1 0 0) (three 0 0 0)) (127 ∷ []) 16 10
    -- one layer reads one bit
    ∷ accepts (asks 2 2 1 1 1 7 0 0 (three 0 0 0) (three 0 0 0)) (128 ∷ []) 8 1 8 ((7, 0) ∷ []) 0 []
    -- four panels, each with its own phase
    ∷ accepts (asks 4 2 1 1 1 0 0 0 (three 1 2 3) (three 1 0 0)) (ones 1) 16 1 16 ((0, 0) ∷ []) 0
    (0 ∷ 0 ∷ 96 ∷ 96 ∷ 96 ∷ 96 ∷ 192 ∷ 192 ∷ 192 ∷ 192 ∷ 288 ∷ 288 ∷ 288 ∷ 288 ∷ 0 ∷ 0 ∷ [])
    -- mode 2: a(1)·b(0) is one quarter of a turn and a(2)·b(1) three; a(0)·b(1) is one quarter too
    ∷ accepts (plain 2 (three 1 2 0) (three 3 0 1)) (ones 1) 8 1 8 ((0, 0) ∷ []) 0 (0 ∷ 0 ∷ 288 ∷ 288 ∷ 96 ∷ 96 ∷ 288 ∷ 288 ∷ [])
    ∷ accepts (plain 2 (three 0 2 0) (three 3 1 1)) (ones 1) 8 1 8 ((0, 0) ∷ []) 0 (0 ∷ 0 ∷ 288 ∷ 288 ∷ 96 ∷ 96 ∷ 288 ∷ 288 ∷ [])
    -- three layers: layer 3 is layer 1 but for the second polarisations
    ∷ accepts (asks 2 2 2 2 3 5 6 2 (three 3 2 0) (three 1 1 1)) (ones 8) 16 3 48 ((5, 6) ∷ (1, 2) ∷ (5, 6) ∷ []) 32
    (0 ∷ 288 ∷ 240 ∷ 144 ∷ 288 ∷ 192 ∷ 144 ∷ 48 ∷ 0 ∷ 288 ∷ 240 ∷ 144 ∷ 96 ∷ 0 ∷ 336 ∷ 240 ∷ [])
    -- four layers: layer 4
    ∷ accepts (asks 4 2 1 1 4 3 0 0 (three 1 2 3) (three 1 0 0)) (ones 1) 16 4 64 ((3, 0) ∷ (7, 0) ∷ (3, 0) ∷ (7, 0) ∷ []) 48
    (0 ∷ 336 ∷ 288 ∷ 240 ∷ 96 ∷ 48 ∷ 0 ∷ 336 ∷ 192 ∷ 144 ∷ 96 ∷ 48 ∷ 288 ∷ 240 ∷ 192 ∷ 144 ∷ [])
    -- 1: three panels, one panel, four panels of eight by one
    ∷ refuses 12 (asks 3 2 1 1 1 0 0 0 (three 0 0 0) (three 0 0 0)) (ones 1) 12 1
    ∷ refuses 4 (asks 1 2 1 1 1 0 0 0 (three 0 0 0) (three 0 0 0)) (ones 1) 4 1
    ∷ refuses 64 (asks 4 8 1 1 1 0 0 0 (three 0 0 0) (three 0 0 0)) (ones 4) 64 1
    -- 2: mode 3, and mode 2 with four panels
    ∷ refuses 8 (plain 3 (three 0 0 0) (three 0 0 0)) (ones 1) 8 2
    ∷ refuses 16 (asks 4 2 1 2 1 0 0 0 (three 0 0 0) (three 0 0 0)) (ones 1) 16 2
    -- 3: the mask of one panel has one byte, whatever the panels
    ∷ refuses 8 (plain 1 (three 0 0 0) (three 0 0 0)) (ones 2) 8 3
    -- 4
    ∷ refuses 8 (asks 2 2 1 1 5 0 0 0 (three 0 0 0) (three 0 0 0)) (ones 1) 40 4
    ∷ refuses 8 (asks 2 2 1 1 0 0 0 0 (three 0 0 0) (three 0 0 0)) (ones 1) 8 4
    -- 5: bit 3 of the rank mask is for four layers, and bits 4 to 7 are not read
    ∷ ranked 247 (refuses 8 (asks 2 2 1 1 4 0 0 0 (three 0 0 0) (three 0 0 0)) (ones 1) 32 5)
    ∷ ranked 8 (accepts (asks 2 2 1 1 4 0 0 0 (three 0 0 0) (three 0 0 0)) (ones 1) 8 4 32 ((0, 0) ∷ (4, 0) ∷ (0, 0) ∷ (4, 0) ∷ []) 0 [])
    -- 6: in mode 2 i11 has all its values
    ∷ accepts (asks 2 2 1 2 1 7 0 0 (three 0 0 0) (three 0 0 0)) (ones 1) 8 1 8 ((7, 0) ∷ []) 0 []
    ∷ refuses 8 (asks 2 2 1 2 1 8 0 0 (three 0 0 0) (three 0 0 0)) (ones 1) 8 6
    -- 7: and i12
    ∷ accepts (asks 2 2 2 2 1 0 7 0 (three 0 0 0) (three 0 0 0)) (ones 8) 16 1 16 ((0, 7) ∷ []) 0 []
    ∷ refuses 16 (asks 2 2 2 2 1 0 8 0 (three 0 0 0) (three 0 0 0)) (ones 8) 16 7
    ∷ refuses 8 (asks 2 2 1 1 1 0 1 0 (three 0 0 0) (three 0 0 0)) (ones 1) 8 7
    -- 8: no row for one layer; four for three layers of (8,1), whole beams although it has 32 ports
    ∷ refuses 8 (asks 2 2 1 1 1 0 0 1 (three 0 0 0) (three 0 0 0)) (ones 1) 8 8
    ∷ accepts (asks 2 8 1 1 3 0 0 3 (three 0 0 0) (three 0 0 0)) (ones 4) 32 3 96 ((0, 0) ∷ (16, 0) ∷ (0, 0) ∷ []) 32
    (0 ∷ 192 ∷ 0 ∷ 192 ∷ 0 ∷ 192 ∷ 0 ∷ 192 ∷ [])
    ∷ refuses 32 (asks 2 8 1 1 3 0 0 4 (three 0 0 0) (three 0 0 0)) (ones 4) 96 8
    -- 12: a used number and an unused one, by panels and mode; after 8 and before 9
    ∷ accepts (plain 1 (three 3 0 0) (three 3 0 0)) (ones 1) 8 1 8 ((0, 0) ∷ []) 0 []
    ∷ refuses 8 (plain 1 (three 4 0 0) (three 4 0 0)) (ones 1) 8 12
    ∷ refuses 8 (plain 1 (three 0 1 0) (three 0 0 0)) (ones 1) 8 12
    ∷ refuses 8 (plain 2 (three 0 0 1) (three 0 0 0)) (ones 1) 8 12
    ∷ refuses 16 (asks 4 2 1 1 1 0 0 0 (three 0 0 4) (three 0 0 0)) (ones 1) 16 12
    ∷ refuses 8 (asks 2 2 1 1 1 0 0 1 (three 4 0 0) (three 0 0 0)) (ones 1) 8 8
    -- 9
    ∷ refuses 8 (plain 1 (three 0 0 0) (three 4 0 0)) (ones 1) 8 9
    ∷ refuses 8 (asks 2 2 1 1 2 0 0 0 (three 0 0 0) (three 2 0 0)) (ones 1) 16 9
    ∷ refuses 8 (plain 1 (three 0 0 0) (three 0 1 0)) (ones 1) 8 9
    ∷ accepts (plain 2 (three 0 0 0) (three 0 1 1)) (ones 1) 8 1 8 ((0, 0) ∷ []) 0 []
    ∷ refuses 8 (plain 2 (three 0 0 0) (three 0 0 2)) (ones 1) 8 9
    -- offsets, another at each port: the sum of one port passes a full turn; and in layer 2 of two, with differences as
    -- without offsets
    ∷ offset_by (1 ∷ 2 ∷ 3 ∷ 4 ∷ 5 ∷ 6 ∷ 100 ∷ 7 ∷ [])
    (accepts (asks 2 2 1 1 1 1 0 0 (three 1 0 0) (three 2 0 0)) (ones 1) 8 1 8 ((1, 0) ∷ []) 0
    (1 ∷ 50 ∷ 195 ∷ 244 ∷ 101 ∷ 150 ∷ 4 ∷ 343 ∷ []))
    ∷ offset_by (1 ∷ 2 ∷ 3 ∷ 4 ∷ 5 ∷ 6 ∷ 100 ∷ 7 ∷ [])
    (differs (asks 2 2 1 1 2 7 0 1 (three 1 0 0) (three 0 0 0)) (ones 1) 8 2 16 ((7, 0) ∷ (3, 0) ∷ []) 8
    (1 ∷ 146 ∷ 195 ∷ 340 ∷ 101 ∷ 246 ∷ 4 ∷ 55 ∷ []) ((0, 4) ∷ (192, 4) ∷ []))
    -- 13: the largest offset and one more, one offset too few and one too many
    ∷ offset_by (0 ∷ 0 ∷ 0 ∷ 383 ∷ 0 ∷ 0 ∷ 0 ∷ 0 ∷ [])
    (accepts (asks 2 2 1 1 1 1 0 0 (three 1 0 0) (three 2 0 0)) (ones 1) 8 1 8 ((1, 0) ∷ []) 0
    (0 ∷ 48 ∷ 192 ∷ 239 ∷ 96 ∷ 144 ∷ 288 ∷ 336 ∷ []))
    ∷ offset_by (0 ∷ 0 ∷ 0 ∷ 384 ∷ 0 ∷ 0 ∷ 0 ∷ 0 ∷ []) (refuses 8 (plain 1 (three 0 0 0) (three 0 0 0)) (ones 1) 8 13)
    ∷ refuses 7 (plain 1 (three 0 0 0) (three 0 0 0)) (ones 1) 8 13
    ∷ refuses 9 (plain 1 (three 0 0 0) (three 0 0 0)) (ones 1) 8 13
    -- before 11, and after 10
    ∷ refuses 7 (plain 1 (three 0 0 0) (three 0 0 0)) (ones 1) 7 13
    ∷ refuses 7 (plain 1 (three 0 0 0) (three 0 0 0)) (254 ∷ []) 8 10
    ∷ []

-- what the definitions give; it is computed with all of them
unfoldable pub defined : Row PanelReport → Record × List ℕ × List (ℕ × ℕ)
unfolding
    defined_by panel_settings is_panel_setting mode_fits rank_fits k_two k_three_four panel_rows
    i14_values i2_values outside rule mask_bytes
    coefficients co_phases by_rank reached layer_of bits_read
defined = defined_by panels

-- row by row
pub worked : map defined reports ≡ map said reports
unfolding reports said defined
worked = refl
