-- The worked reports of 01 and 02, as one table, and one theorem that every row of it holds.
use mathlib.Core.Path.{◌≡◌, refl}
use mathlib.Core.List.{List, [], ◌∷◌, map, zip_with}
use Prim.Native.Nat.{ℕ}
use lib.IntN.{pos, neg_ℤ}
use Rattle.weight.specs.Table.{first_quarter, first_half, xs, ys, table, weight, numbers}
use Rattle.settings.specs.Settings.{settings, is_setting, mask_bytes}
use Rattle.settings.specs.Ranges.{mode_two, half_length, k_two, k_three, k_rows}
use Rattle.settings.specs.Ranges.{halves_i11, i11_values, halves_i12, i12_values, i13_values, i2_values}
use Rattle.report.specs.declared.Report.{Report}
use Rattle.report.specs.Rules.{rule}
use Rattle.report.specs.Beams.{n, base, moves, moved, beams}
use Rattle.report.specs.Listed.{asks}
use Rattle.plan.specs.declared.Record.{Record}
use Rattle.plan.specs.Answer.{weights_of}
use Rattle.plan.proofs.Worked.{Row, ones, ones_but, differs, accepts, refuses, offset_by, said, defined_by}
use Rattle.single.specs.Columns.{by_rank, quarters}
use Rattle.single.specs.Plan.{whole, quartered, layers}
use Rattle.single.specs.Masks.{two_port_bit, neighbours, bits_read}
use Rattle.single.specs.Single.{single}

pub reports : List (Row Report)
reports =
    -- 1 and 2
    accepts (asks 2 1 1 1 1 0 0 1) (ones 1) 4 1 4 ((1, 0) ∷ []) 0 (0 ∷ 48 ∷ 96 ∷ 144 ∷ [])
    ∷ accepts (asks 2 1 1 2 7 0 1 0) (ones 1) 4 2 8 ((7, 0) ∷ (3, 0) ∷ []) 0 (0 ∷ 336 ∷ 0 ∷ 336 ∷ 0 ∷ 144 ∷ 192 ∷ 336 ∷ [])
    -- 3: beam 9 is beam 1; with its bit zero
    ∷ accepts (asks 2 1 2 1 3 0 0 15) (ones 1) 4 1 4 ((1, 0) ∷ []) 0 (0 ∷ 48 ∷ 288 ∷ 336 ∷ [])
    ∷ refuses 4 (asks 2 1 2 1 3 0 0 15) (253 ∷ []) 4 10
    -- 4: layer 2; layers 1 and 2 differ by 0, 128 and 256, four ports each, and by nothing else: thirds, no opposites
    ∷ differs (asks 3 2 1 3 0 0 3 0) (ones 12) 12 3 36 ((0, 0) ∷ (8, 0) ∷ (0, 0) ∷ []) 12
    (0 ∷ 0 ∷ 256 ∷ 256 ∷ 128 ∷ 128 ∷ 0 ∷ 0 ∷ 256 ∷ 256 ∷ 128 ∷ 128 ∷ []) ((0, 4) ∷ (128, 4) ∷ (256, 4) ∷ [])
    -- 5: layer 1
    ∷ accepts (asks 8 1 1 3 1 0 1 1) (ones 4) 16 3 48 ((2, 0) ∷ (2, 0) ∷ (2, 0) ∷ []) 0
    (0 ∷ 24 ∷ 48 ∷ 72 ∷ 48 ∷ 72 ∷ 96 ∷ 120 ∷ 96 ∷ 120 ∷ 144 ∷ 168 ∷ 144 ∷ 168 ∷ 192 ∷ 216 ∷ [])
    -- 6
    ∷ accepts (asks 1 1 1 2 0 0 0 1) (ones 1) 2 2 4 ((0, 0) ∷ (0, 0) ∷ []) 0 (0 ∷ 96 ∷ 0 ∷ 288 ∷ [])
    ∷ refuses 2 (asks 1 1 1 2 0 0 0 2) (ones 1) 4 9
    -- 7
    ∷ accepts (asks 4 1 1 7 7 0 0 0) (ones 2) 8 7 56
    ((7, 0) ∷ (7, 0) ∷ (11, 0) ∷ (15, 0) ∷ (15, 0) ∷ (3, 0) ∷ (3, 0) ∷ []) 0 []
    ∷ refuses 8 (asks 4 1 1 7 8 0 0 0) (ones 2) 56 6
    -- 8
    ∷ accepts (asks 3 2 1 8 0 3 0 0) (ones 12) 12 8 96
    ((0, 3) ∷ (0, 3) ∷ (4, 3) ∷ (4, 3) ∷ (0, 7) ∷ (0, 7) ∷ (4, 7) ∷ (4, 7) ∷ []) 0 []
    ∷ refuses 12 (asks 3 2 1 8 0 4 0 0) (ones 12) 96 7
    -- 9
    ∷ refuses 4 (asks 2 1 1 5 0 0 0 0) (ones 1) 20 4
    ∷ refuses 4 (asks 2 1 1 1 0 1 0 0) (ones 1) 4 7
    ∷ refuses 4 (asks 2 1 1 1 0 0 1 0) (ones 1) 4 8
    ∷ refuses 4 (asks 2 1 1 2 0 0 2 0) (ones 1) 8 8
    -- 10
    ∷ refuses 4 (asks 2 1 1 1 1 0 0 1) (ones 1) 3 11
    -- the three bits of a half-length beam: at i11 = 1 of (8,1) those of (1,0), (2,0) and (3,0), and no other
    ∷ refuses 16 (asks 8 1 1 3 1 0 0 0) (ones_but 4 1) 48 10
    ∷ refuses 16 (asks 8 1 1 3 1 0 0 0) (ones_but 4 2) 48 10
    ∷ refuses 16 (asks 8 1 1 3 1 0 0 0) (ones_but 4 3) 48 10
    ∷ accepts (asks 8 1 1 3 1 0 0 0) (14 ∷ 0 ∷ 0 ∷ 0 ∷ []) 16 3 48 ((2, 0) ∷ (2, 0) ∷ (2, 0) ∷ []) 0 []
    -- at i11 = 0 the first is of the last row, (31,0); at the last i11 it is the third
    ∷ refuses 16 (asks 8 1 1 3 0 0 0 0) (ones_but 4 31) 48 10
    ∷ accepts (asks 8 1 1 3 0 0 0 0) (3 ∷ 0 ∷ 0 ∷ 128 ∷ []) 16 3 48 ((0, 0) ∷ (0, 0) ∷ (0, 0) ∷ []) 0 []
    ∷ refuses 16 (asks 8 1 1 4 15 0 0 0) (ones_but 4 31) 64 10
    ∷ accepts (asks 8 1 1 4 15 0 0 0) (0 ∷ 0 ∷ 0 ∷ 224 ∷ []) 16 4 64 ((30, 0) ∷ (30, 0) ∷ (30, 0) ∷ (30, 0) ∷ []) 0 []
    -- m is kept: at (1,3) of (4,2) the bits of (1,3), (2,3) and (3,3), and not those of (2,2) and (2,4)
    ∷ refuses 16 (asks 4 2 1 3 1 3 0 0) (ones_but 16 11) 48 10
    ∷ refuses 16 (asks 4 2 1 3 1 3 0 0) (ones_but 16 19) 48 10
    ∷ refuses 16 (asks 4 2 1 3 1 3 0 0) (ones_but 16 27) 48 10
    ∷ accepts (asks 4 2 1 3 1 3 0 0) (ones_but 16 18) 16 3 48 ((2, 3) ∷ (2, 3) ∷ (2, 3) ∷ []) 0 []
    ∷ accepts (asks 4 2 1 3 1 3 0 0) (ones_but 16 20) 16 3 48 ((2, 3) ∷ (2, 3) ∷ (2, 3) ∷ []) 0 []
    -- at (0,5) of (4,4), four layers, those of (15,5), (0,5) and (1,5), and not those of (15,4) and (15,6)
    ∷ refuses 32 (asks 4 4 1 4 0 5 0 0) (ones_but 32 245) 128 10
    ∷ refuses 32 (asks 4 4 1 4 0 5 0 0) (ones_but 32 5) 128 10
    ∷ refuses 32 (asks 4 4 1 4 0 5 0 0) (ones_but 32 21) 128 10
    ∷ accepts (asks 4 4 1 4 0 5 0 0) (ones_but 32 244) 32 4 128 ((0, 5) ∷ (0, 5) ∷ (0, 5) ∷ (0, 5) ∷ []) 0 []
    ∷ accepts (asks 4 4 1 4 0 5 0 0) (ones_but 32 246) 32 4 128 ((0, 5) ∷ (0, 5) ∷ (0, 5) ∷ (0, 5) ∷ []) 0 []
    -- whole beams are read by their own bits alone: two layers, and three at 12 ports
    ∷ refuses 16 (asks 8 1 1 2 2 0 0 0) (ones_but 4 2) 32 10
    ∷ accepts (asks 8 1 1 2 2 0 0 0) (4 ∷ 0 ∷ 0 ∷ 0 ∷ []) 16 2 32 ((2, 0) ∷ (2, 0) ∷ []) 0 []
    ∷ refuses 12 (asks 6 1 1 3 2 0 0 0) (ones_but 3 6) 36 10
    ∷ accepts (asks 6 1 1 3 2 0 0 0) (68 ∷ 0 ∷ 0 ∷ []) 12 3 36 ((2, 0) ∷ (6, 0) ∷ (2, 0) ∷ []) 0 []
    -- offsets: 1 with one for each port, and with sums that pass a full turn; 383 is one
    ∷ offset_by (1 ∷ 2 ∷ 3 ∷ 4 ∷ [])
    (accepts (asks 2 1 1 1 1 0 0 1) (ones 1) 4 1 4 ((1, 0) ∷ []) 0 (1 ∷ 50 ∷ 99 ∷ 148 ∷ []))
    ∷ offset_by (383 ∷ 336 ∷ 300 ∷ 239 ∷ [])
    (accepts (asks 2 1 1 1 1 0 0 1) (ones 1) 4 1 4 ((1, 0) ∷ []) 0 (383 ∷ 0 ∷ 12 ∷ 383 ∷ []))
    -- 2: every layer has them, so that its layers differ as they do without
    ∷ offset_by (10 ∷ 20 ∷ 30 ∷ 40 ∷ [])
    (differs (asks 2 1 1 2 7 0 1 0) (ones 1) 4 2 8 ((7, 0) ∷ (3, 0) ∷ []) 0
    (10 ∷ 356 ∷ 30 ∷ 376 ∷ 10 ∷ 164 ∷ 222 ∷ 376 ∷ []) ((0, 2) ∷ (192, 2) ∷ []))
    ∷ differs (asks 2 1 1 2 7 0 1 0) (ones 1) 4 2 8 ((7, 0) ∷ (3, 0) ∷ []) 0 [] ((0, 2) ∷ (192, 2) ∷ [])
    -- 5: layer 1, the four quarters; and 6
    ∷ offset_by (0 ∷ 1 ∷ 2 ∷ 3 ∷ 4 ∷ 5 ∷ 6 ∷ 7 ∷ 8 ∷ 9 ∷ 10 ∷ 11 ∷ 12 ∷ 13 ∷ 14 ∷ 15 ∷ [])
    (accepts (asks 8 1 1 3 1 0 1 1) (ones 4) 16 3 48 ((2, 0) ∷ (2, 0) ∷ (2, 0) ∷ []) 0
    (0 ∷ 25 ∷ 50 ∷ 75 ∷ 52 ∷ 77 ∷ 102 ∷ 127 ∷ 104 ∷ 129 ∷ 154 ∷ 179 ∷ 156 ∷ 181 ∷ 206 ∷ 231 ∷ []))
    ∷ offset_by (5 ∷ 100 ∷ []) (accepts (asks 1 1 1 2 0 0 0 1) (ones 1) 2 2 4 ((0, 0) ∷ (0, 0) ∷ []) 0 (5 ∷ 196 ∷ 5 ∷ 4 ∷ []))
    -- 13: one above 383, in the last place and in the first; one too few, one too many, and none
    ∷ offset_by (0 ∷ 0 ∷ 0 ∷ 384 ∷ []) (refuses 4 (asks 2 1 1 1 1 0 0 1) (ones 1) 4 13)
    ∷ offset_by (65535 ∷ 0 ∷ 0 ∷ 0 ∷ []) (refuses 4 (asks 2 1 1 1 1 0 0 1) (ones 1) 4 13)
    ∷ refuses 3 (asks 2 1 1 1 1 0 0 1) (ones 1) 4 13
    ∷ refuses 5 (asks 2 1 1 1 1 0 0 1) (ones 1) 4 13
    ∷ refuses 0 (asks 2 1 1 1 1 0 0 1) (ones 1) 4 13
    -- before 11, and after 10 and 9
    ∷ refuses 3 (asks 2 1 1 1 1 0 0 1) (ones 1) 3 13
    ∷ refuses 3 (asks 2 1 2 1 3 0 0 15) (253 ∷ []) 4 10
    ∷ refuses 3 (asks 1 1 1 2 0 0 0 2) (ones 1) 4 9
    ∷ []

-- what the definitions give; it is computed with all of them
unfoldable pub defined : Row Report → Record × List ℕ × List (ℕ × ℕ)
unfolding
    defined_by settings is_setting mask_bytes by_rank quarters
    mode_two half_length n base k_two k_three k_rows moves moved beams
    halves_i11 i11_values halves_i12 i12_values i13_values i2_values
    whole quartered layers two_port_bit neighbours bits_read rule
defined = defined_by single

-- row by row
pub worked : map defined reports ≡ map said reports
unfolding reports said defined
worked = refl

-- case 1 in weights, with offsets of 0
pub case_one_weights : weights_of single (0 ∷ 0 ∷ 0 ∷ 0 ∷ []) (asks 2 1 1 1 1 0 0 1)
    ≡ pos 16384 ∷ pos 0 ∷ pos 11585 ∷ pos 11585 ∷ pos 0 ∷ pos 16384 ∷ neg_ℤ (pos 11585) ∷ pos 11585 ∷ []
unfolding defined first_quarter first_half xs ys table zip_with weight numbers weights_of
case_one_weights = refl
