-- The form of a line by what is found in it, and that a line has one reading.
use mathlib.Core.Path.{◌≡◌, refl, sym, ap, ◌∙◌}
use mathlib.Core.Bool.{true, false, false≢true}
use mathlib.Core.List.{List, map}
use Prim.Native.Nat.{ℕ, ◌≤◌}
use lib.ListN.{length, length-map}
use Rattle.report.specs.declared.Report.{Report}
use Rattle.std.specs.Prelude.{Option, Some, None}
use Rattle.eight.specs.Numbers.{values_of, report_of}
use Rattle.line.specs.Form.{value, Form, Reads}
use Rattle.line.proofs.Scanned.{words, good, good_found, joined_found}

-- ---- a line that has the form is good, and its words are those that are found

form_found : {line : List ℕ} {r : Report} → Form line r
    → (good 8 line ≡ true) × (map value (words 8 line) ≡ values_of r)
form_found f =
    let eight : length f.words ≡ 8 = sym (length-map f.words value) ∙ ap length f.values in
    let found = rw (eight, ← f.joins) at (joined_found f.words f.decimals) in
    (found.0, ap (map value) found.1 ∙ f.values)

-- ---- a line has the form if it is good

pub reads_report : (line : List ℕ) {r : Report} → length line ≤ 256 → good 8 line ≡ true
    → map value (words 8 line) ≡ values_of r → Reads line (Some r)
reads_report line h g e =
    let found = good_found 8 line g in
    record { words = words 8 line; decimals = found.0; values = e; joins = found.1; few = h }

-- and has none if it is not
pub reads_nothing : (line : List ℕ) → good 8 line ≡ false → Reads line None
reads_nothing line g r f = false≢true (sym g ∙ (form_found f).0)

-- ---- a line has one reading

-- a line stands for one report
pub form_one : {line : List ℕ} {r r' : Report} → Form line r → Form line r' → r ≡ r'
form_one f g = ap report_of (sym (form_found f).1 ∙ (form_found g).1)

-- two readings of a line are one
pub reads_one : (line : List ℕ) (a a' : Option Report) → Reads line a → Reads line a' → a ≡ a'
reads_one line (Some r) (Some r') p q = ap Some (form_one p q)
reads_one line (Some r) None p q = absurd (q r p)
reads_one line None (Some r) p q = absurd (p r q)
reads_one line None None p q = refl
