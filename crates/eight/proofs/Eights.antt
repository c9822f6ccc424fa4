-- Numbers as reports, eight to each.
use mathlib.Core.Path.{◌≡◌, refl, ap, ◌∙◌}
use mathlib.Core.List.{List, [], ◌∷◌}
use Prim.Native.Nat.{ℕ, zero, suc, ◌+◌, ◌*◌, ◌/◌, ◌<◌}
use native.Mathlib.Omega.{arith}
use lib.Dec.{lit≤}
use lib.ListN.{length, take, drop, get_or}
use lib.Seq.{get_or-take, drop-drop}
use Rattle.std.specs.Simd.{first_chunks}
use Rattle.ground.specs.Lists.{join, along}
use Rattle.ground.proofs.Lists.{length_join}
use Rattle.report.specs.declared.Report.{Report}
use Rattle.eight.specs.Numbers.{values_of, report_of, eights_of, eights}

-- eight numbers at the front of a list make the report that the list makes
report_of_front : (xs : List ℕ) → report_of (take 8 xs) ≡ report_of xs
report_of_front xs =
    λ i. record {
      n1 = at 0 (lit≤ tt) i;
      n2 = at 1 (lit≤ tt) i;
      mode = at 2 (lit≤ tt) i;
      v = at 3 (lit≤ tt) i;
      i11 = at 4 (lit≤ tt) i;
      i12 = at 5 (lit≤ tt) i;
      i13 = at 6 (lit≤ tt) i;
      i2 = at 7 (lit≤ tt) i;
    }
  where
    at : (k : ℕ) → k < 8 → get_or (take 8 xs) k 0 ≡ get_or xs k 0
    at k h = get_or-take 8 xs k 0 h

-- so do those of a place of a list that is cut into eights
pub report_of_chunk : (k : ℕ) (xs : List ℕ) (j : ℕ) → j < k
    → report_of (get_or (first_chunks 8 k xs) j []) ≡ report_of (drop (8 * j) xs)
report_of_chunk zero xs j h = absurd (omega arith)
report_of_chunk (suc k) xs zero h = report_of_front xs
report_of_chunk (suc k) xs (suc j) h =
    let place : 8 + 8 * j ≡ 8 * suc j = omega arith in
    report_of_chunk k (drop 8 xs) j (omega arith) ∙ ap report_of (drop-drop (8 * j) 8 xs ∙ ap (λ (n : ℕ). drop n xs) place)

-- ---- numbers as reports

pub length_eights : (k : ℕ) (xs : List ℕ) → length (eights_of k xs) ≡ k
unfolding eights_of
length_eights zero xs = refl
length_eights (suc k) xs = ap suc (length_eights k (drop 8 xs))

-- a report of them
pub eight_at : (k : ℕ) (xs : List ℕ) (j : ℕ) (r : Report) → j < k → get_or (eights_of k xs) j r ≡ report_of (drop (8 * j) xs)
unfolding eights_of
eight_at zero xs j r h = absurd (omega arith)
eight_at (suc k) xs zero r h = refl
eight_at (suc k) xs (suc j) r h =
    let place : 8 + 8 * j ≡ 8 * suc j = omega arith in
    eight_at k (drop 8 xs) j r (omega arith)
    ∙ ap report_of (drop-drop (8 * j) 8 xs ∙ ap (λ (n : ℕ). drop n xs) place)

-- the numbers of reports are theirs
eights_back : (rs : List Report) → eights_of (length rs) (along rs values_of) ≡ rs
unfolding eights_of join
eights_back [] = refl
eights_back (r ∷ rs) = ap (λ (xs : List Report). r ∷ xs) (eights_back rs)

pub eights_of_values : (rs : List Report) → eights (along rs values_of) ≡ rs
eights_of_values rs =
    let none : Report = report_of [] in
    let many : length (along rs values_of) / 8 ≡ length rs =
    omega (arith, length_join values_of rs none 8 (λ j h. refl)) in
    ap (λ (k : ℕ). eights_of k (along rs values_of)) many ∙ eights_back rs
