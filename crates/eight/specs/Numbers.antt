-- A report as eight numbers, in the order in which lines and logs have them: N1 N2 mode v i11 i12 i13 i2.
use Rattle.std.specs.Prelude.{List, [], ◌∷◌, ℕ, zero, suc, ◌/◌, length, get_or, drop}
use Rattle.report.specs.declared.Report.{Report}

abbrev pub values_of : Report → List ℕ
values_of r = r.n1 ∷ r.n2 ∷ r.mode ∷ r.v ∷ r.i11 ∷ r.i12 ∷ r.i13 ∷ r.i2 ∷ []

-- the report that has these numbers; one that is missing is 0
abbrev pub report_of : List ℕ → Report
report_of xs =
    record {
      n1 = get_or xs 0 0;
      n2 = get_or xs 1 0;
      mode = get_or xs 2 0;
      v = get_or xs 3 0;
      i11 = get_or xs 4 0;
      i12 = get_or xs 5 0;
      i13 = get_or xs 6 0;
      i2 = get_or xs 7 0;
    }

-- the reports of numbers that stand eight to a report; fewer than eight at the end are none
unfoldable pub eights_of : ℕ → List ℕ → List Report
eights_of zero xs = []
eights_of (suc k) xs = report_of xs ∷ eights_of k (drop 8 xs)

abbrev pub eights : List ℕ → List Report
eights xs = eights_of (length xs / 8) xs
