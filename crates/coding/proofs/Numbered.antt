-- The bytes of a report, number by number.
use Rattle.std.proofs.Common.{◌≡◌, refl, sym, ap, ◌∙◌, List, [], ◌∷◌, ◌++◌, ℕ, ◌+◌, ◌<◌, ◌≤◌, add-one, arith, length, take, get_or, length-append, sum_by}
use Rattle.std.proofs.lemmas.List.Sums.{sum_by-cons}
use Rattle.ground.specs.Lists.{join, along}
use Rattle.ground.proofs.Lists.{join_next, join_few}
use Rattle.report.specs.declared.Report.{Report}
use Rattle.groups.specs.Number.{code}
use Rattle.groups.proofs.Coded.{code_some, code_few}
use Rattle.coding.specs.Coding.{coded}

module _ (values : List ℕ) (j : ℕ) (h : j < length values) where
  -- one number more
  pub bytes_next : along (take (j + 1) values) code ≡ along (take j values) code ++ code (get_or values j 0)
  bytes_next = rw (add-one j) (join_next code values j 0 h)

  pub length_next : length (along (take (j + 1) values) code)
      ≡ length (along (take j values) code) + length (code (get_or values j 0))
  length_next = ap length bytes_next ∙ length-append (along (take j values) code) (code (get_or values j 0))

  -- it has room where all have
  pub next_within : length (along (take j values) code) + length (code (get_or values j 0)) ≤ length (along values code)
  next_within = omega (arith, length_next, join_few code values (j + 1))

-- the bytes of numbers are those of each, counted together
pub length_along : (values : List ℕ) → length (along values code) ≡ sum_by (λ n. length (code n)) values
unfolding join
length_along [] = refl
length_along (n ∷ values) =
    length-append (code n) (along values code) ∙ ap (λ k. length (code n) + k) (length_along values)
    ∙ sym (sum_by-cons (λ n. length (code n)) n values)

-- a report has 8 to 40 bytes
pub report_bytes : (r : Report) → (8 ≤ length (coded r)) × (length (coded r) ≤ 40)
unfolding join
report_bytes r = (
  simp length-append (omega (arith, some r.n1, some r.n2, some r.mode, some r.v, some r.i11, some r.i12, some r.i13, some r.i2)),
  simp length-append (omega (arith, few r.n1, few r.n2, few r.mode, few r.v, few r.i11, few r.i12, few r.i13, few r.i2)),
)
  where
    some : (n : ℕ) → 0 < length (code n)
    some n = code_some n

    few : (n : ℕ) → length (code n) ≤ 5
    few n = code_few n
