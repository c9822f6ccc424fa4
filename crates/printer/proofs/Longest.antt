-- No text is longer than the longest, so that a buffer of so many bytes has room for every answer.
use mathlib.Core.Path.{◌≡◌}
use mathlib.Core.List.{List}
use Prim.Native.Nat.{ℕ, ◌≤◌}
use native.Mathlib.Omega.{arith}
use lib.ListN.{length}
use Rattle.text.specs.Text.{longest}
use Rattle.std.specs.Prelude.{Option, Some, None}
use Rattle.ground.proofs.Writes.{fits_written}
use Rattle.text.proofs.Records.{record_few, unreadable_few}
use Rattle.report.specs.declared.Report.{Report}
use Rattle.printer.specs.declared.Printed.{Printed}
use Rattle.printer.specs.Prints.{record_for, phases_for, text_of, printed_of, Prints}
use Rattle.printer.proofs.Texts.{record_limits, phases_few}

pub text_few : (a : Option Report) → length (text_of a) ≤ longest
text_few (Some r) = record_few (record_for r) (phases_for r) (record_limits r) (phases_few r)
text_few None = unreadable_few

-- where so many bytes are lent the text is written
pub room_for_every_text : {line lent left : List ℕ} {given : Option Printed} (p : Prints line lent given left)
    → longest ≤ length lent → given ≡ Some (printed_of p.reading)
room_for_every_text {lent = lent} p h =
    let fits = fits_written (text_of p.reading) lent (omega (arith, text_few p.reading)) in
    rw fits at p.outcome.gives
