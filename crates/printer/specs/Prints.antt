-- How the printing program answers: the record for a report, the text, and what a call gives and leaves.
use Rattle.std.specs.Prelude.{◌≡◌, true, List, ◌++◌, ℕ, eqb, replicate, length, drop, Option, Some, None}
use Rattle.ground.specs.Cases.{◌⇒◌∣◌}
use Rattle.plan.specs.declared.Record.{Record}
use Rattle.plan.specs.Offsets.{fed_matrix}
use Rattle.plan.specs.Answer.{Request, asked, planned, record_of, refusal}
use Rattle.settings.specs.Settings.{is_setting, ports, mask_bytes}
use Rattle.report.specs.declared.Report.{Report}
use Rattle.single.specs.Plan.{plan}
use Rattle.single.specs.Single.{single}
use Rattle.ground.specs.Lent.{is_written}
use Rattle.text.specs.Text.{record_text, unreadable_text}
use Rattle.printer.specs.declared.FirstLine.{FirstLine}
use Rattle.printer.specs.declared.Answer.{Answer}
use Rattle.printer.specs.declared.Answer.TheVariants.{Accepted, Refused, Unreadable}
use Rattle.printer.specs.declared.Printed.{Printed}
use Rattle.line.specs.Form.{Reads}

-- the beam mask of a setting, all bits ones; a pair that is no setting has none
unfoldable pub full_mask : ℕ → ℕ → List ℕ
full_mask n1 n2 = replicate (is_setting n1 n2 ⇒ mask_bytes n1 n2 ∣ 0) 255

-- the offsets of its ports, all 0; a pair that is no setting has none
unfoldable pub no_offsets : ℕ → ℕ → List ℕ
no_offsets n1 n2 = replicate (is_setting n1 n2 ⇒ ports n1 n2 ∣ 0) 0

-- all mask bits are ones, all offsets are 0, and there is room for the largest matrix
abbrev pub asked_of : Report → Request Report
asked_of r = asked r (full_mask r.n1 r.n2) 255 (no_offsets r.n1 r.n2) 256

unfoldable pub refusal_of : Report → ℕ
refusal_of r = refusal single (asked_of r)

-- the record for a report, and the phases of its precoder
abbrev pub record_for : Report → Record
record_for r = record_of (planned (plan r)) (refusal_of r)

abbrev pub phases_for : Report → List ℕ
phases_for r = fed_matrix (no_offsets r.n1 r.n2) (plan r)

-- what an accepted record tells in the first line of its text
abbrev pub first_line_of : Record → FirstLine
first_line_of a = record { ports = a.ports; layers = a.layers; scale = a.scale }

-- the answer by a record
unfoldable pub answer_by : Record → Answer
answer_by a = eqb a.refusal 0 ⇒ Accepted (first_line_of a) ∣ Refused a.refusal

abbrev pub answer_of : Option Report → Answer
answer_of (Some r) = answer_by (record_for r)
answer_of None = Unreadable

abbrev pub text_of : Option Report → List ℕ
text_of (Some r) = record_text (record_for r) (phases_for r)
text_of None = unreadable_text

-- the answer to a reading, and the length of its text
abbrev pub printed_of : Option Report → Printed
printed_of reading = record { answer = answer_of reading; length = length (text_of reading) }

-- What is given and left: the answer with the length of its text, which stands at the front of the buffer with what was lent
-- after it; or, where the text has more bytes than are lent, nothing, and all of it as lent.
pub record Outcome (reading : Option Report) (lent : List ℕ) (given : Option Printed) (left : List ℕ) : Type 0 where
  pub gives : given ≡ (is_written true (text_of reading) lent ⇒ Some (printed_of reading) ∣ None)
  pub leaves : left ≡ (is_written true (text_of reading) lent ⇒ text_of reading ++ drop (length (text_of reading)) lent ∣ lent)

pub record Prints (line lent : List ℕ) (given : Option Printed) (left : List ℕ) : Type 0 where
  pub reading : Option Report
  pub reads : Reads line reading
  pub outcome : Outcome reading lent given left
