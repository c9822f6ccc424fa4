-- The line of the example, read by the definitions, and its text; and lines that differ from it in one byte.
use mathlib.Core.Path.{◌≡◌, refl}
use mathlib.Core.List.{List, [], ◌∷◌, ◌++◌}
use Prim.Native.Nat.{ℕ}
use native.Mathlib.Omega.{arith}
use Rattle.ground.specs.Lists.{join, some, each}
use Rattle.ground.specs.First.{first}
use Rattle.turn.specs.Column.{steps, product, grid, step, beam, column}
use Rattle.offsets.specs.Offsets.{fed, unfit}
use Rattle.settings.specs.Settings.{settings, is_setting, mask_bytes}
use Rattle.settings.specs.Ranges.{mode_two, half_length, k_two, k_rows, halves_i11, i11_values, halves_i12, i12_values}
use Rattle.settings.specs.Ranges.{i13_values, i2_values}
use Rattle.report.specs.declared.Report.{Report}
use Rattle.report.specs.Rules.{rule}
use Rattle.report.specs.Beams.{n, base, moves, moved, beams}
use Rattle.plan.specs.Plan.{column_of}
use Rattle.plan.specs.Offsets.{fed_column, fed_matrix}
use Rattle.plan.specs.Masks.{bit, is_zero, barred, rank_barred}
use Rattle.plan.specs.Answer.{early, test, refusal}
use Rattle.single.specs.Columns.{by_rank}
use Rattle.single.specs.Plan.{whole, layers}
use Rattle.single.specs.Masks.{bits_read}
use Rattle.text.specs.Words.{newline, space, ending, joined, decimal_in, line_of, headed}
use Rattle.text.specs.Text.{ok_text, lines_of, record_text}
use Rattle.std.specs.Prelude.{Some, None}
use Rattle.line.specs.Form.{is_digit, value_after, is_decimal, Reads}
use Rattle.line.specs.Scan.{lead, is_ended}
use Rattle.printer.specs.Prints.{full_mask, no_offsets, refusal_of, text_of}
use Rattle.line.proofs.Scanned.{rest, words, good}
use Rattle.line.proofs.Forms.{reads_report, reads_nothing}

-- `2 1 1 2 7 0 1 0` without its newline
abbrev pub example : List ℕ
example = 50 ∷ 32 ∷ 49 ∷ 32 ∷ 49 ∷ 32 ∷ 50 ∷ 32 ∷ 55 ∷ 32 ∷ 48 ∷ 32 ∷ 49 ∷ 32 ∷ 48 ∷ []

abbrev pub report : Report
report = record { n1 = 2; n2 = 1; mode = 1; v = 2; i11 = 7; i12 = 0; i13 = 1; i2 = 0 }

pub example_read : Reads (example ++ newline ∷ []) (Some report)
unfolding good words rest is_ended lead is_decimal each is_digit value_after ending
example_read = reads_report _ (omega arith) refl refl

-- `ok 4 2 8`, `0 336 0 336` and `0 144 192 336`
pub example_text : text_of (Some report)
    ≡ (111 ∷ 107 ∷ 32 ∷ 52 ∷ 32 ∷ 50 ∷ 32 ∷ 56 ∷ 10 ∷ [])
    ++ (48 ∷ 32 ∷ 51 ∷ 51 ∷ 54 ∷ 32 ∷ 48 ∷ 32 ∷ 51 ∷ 51 ∷ 54 ∷ 10 ∷ [])
    ++ (48 ∷ 32 ∷ 49 ∷ 52 ∷ 52 ∷ 32 ∷ 49 ∷ 57 ∷ 50 ∷ 32 ∷ 51 ∷ 51 ∷ 54 ∷ 10 ∷ [])
unfolding
    join some first steps product grid step beam column
    settings is_setting mask_bytes mode_two half_length k_two k_rows
    halves_i11 i11_values halves_i12 i12_values i13_values i2_values
    rule n base moves moved beams
    by_rank whole layers column_of fed unfit fed_column fed_matrix
    bit is_zero barred rank_barred bits_read early test refusal
    ending joined decimal_in line_of headed ok_text lines_of record_text full_mask no_offsets refusal_of
example_text = refl

pub without_newline : Reads example None
unfolding good rest is_ended lead is_decimal each is_digit value_after ending
without_newline = reads_nothing _ refl

pub byte_after_newline : Reads (example ++ newline ∷ space ∷ []) None
unfolding good rest is_ended lead is_decimal each is_digit value_after ending
byte_after_newline = reads_nothing _ refl

pub space_in_front : Reads (space ∷ example ++ newline ∷ []) None
unfolding good rest is_ended lead is_decimal each is_digit value_after ending
space_in_front = reads_nothing _ refl
