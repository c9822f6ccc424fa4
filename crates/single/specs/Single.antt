-- The single-panel codebook.
use Rattle.std.specs.Prelude.{not, List, [], ◌∷◌, ℕ}
use Rattle.settings.specs.Settings.{two_ports, down, mask_bytes}
use Rattle.report.specs.declared.Report.{Report}
use Rattle.report.specs.Rules.{rule}
use Rattle.report.specs.Beams.{is_half}
use Rattle.plan.specs.Answer.{Codebook}
use Rattle.single.specs.Plan.{plan}
use Rattle.single.specs.Masks.{bits_read}

-- the order in which the refusals are tried
abbrev pub order : List ℕ
order = 1 ∷ 2 ∷ 3 ∷ 4 ∷ 5 ∷ 6 ∷ 7 ∷ 8 ∷ 9 ∷ 10 ∷ 13 ∷ 11 ∷ []

-- those of the indices
abbrev pub indices : List ℕ
indices = 6 ∷ 7 ∷ 8 ∷ 9 ∷ []

-- the codebook, by the bits that a report reads; above two ports the mask has a bit for each beam, N2·O2 for each l
abbrev pub reading : (Report → List ℕ) → Codebook Report
reading bits = record {
  rule = rule;
  order = order;
  mask_bytes = λ r. mask_bytes r.n1 r.n2;
  bits_read = bits;
  beamed = λ r. not (two_ports r.n1);
  width = λ r. down r.n2;
  is_half = is_half;
  plan = plan;
}

abbrev pub single : Codebook Report
single = reading bits_read
