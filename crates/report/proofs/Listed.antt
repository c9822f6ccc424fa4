-- The list of all reports: every report in range is in it, and nothing else, and no report twice; and how long it is.
use mathlib.Core.Path.{◌≡◌, refl, ◌∙◌}
use mathlib.Core.List.{List}
use Prim.Native.Nat.{ℕ, ◌+◌, ◌*◌, ◌<◌}
use native.Mathlib.Omega.{arith}
use lib.ListN.{length}
use Rattle.ground.specs.Lists.{along, numbers_from, sum, Member, member_first, NoRepeats}
use Rattle.ground.proofs.Members.{Listing, listing_one, listing_along, member_along}
use Rattle.ground.proofs.Members.{number_member, member_number, numbers_once}
use Rattle.ground.proofs.Sums.{length_along, length_times}
use Rattle.settings.specs.Settings.{settings, ports}
use Rattle.settings.specs.Ranges.{modes, ranks_of, i12_values, i13_values, i2_values}
use Rattle.settings.specs.Counts.{reports_at, counts_by_rank}
use Rattle.settings.proofs.Members.{setting_member, member_setting, settings_once, mode_member, member_mode, modes_once}
use Rattle.settings.proofs.Members.{rank_member, member_rank, ranks_once}
use Rattle.settings.proofs.Counts.{counts_sum}
use Rattle.report.specs.declared.Report.{Report}
use Rattle.report.specs.Rules.{InRange}
use Rattle.report.specs.Listed.{asks, reports_of, all_reports}

-- ---- every report in range is in the list

index_member : (n i : ℕ) → i < n → Member i (numbers_from 0 n)
index_member n i h = number_member 0 n (omega arith) (omega arith)

pub reports_listed : (r : Report) → InRange r → Member r all_reports
unfolding all_reports reports_of
reports_listed r h =
    member_along _ _ (setting_member _ _ h.setting)
    (member_along _ _ (mode_member _ h.mode)
    (member_along _ _ (rank_member _ _ h.rank)
    (member_along _ _ (index_member _ _ h.i11)
    (member_along _ _ (index_member _ _ h.i12)
    (member_along _ _ (index_member _ _ h.i13)
    (member_along _ _ (index_member _ _ h.i2)
    (member_first refl)))))))

-- ---- every report in the list is in range, and stands there once

-- along the values of an index, which each report tells
module _ (n : ℕ) (f : ℕ → List Report) {P : Report → Type 0} (index : Report → ℕ) where
  by_index : ((i : ℕ) → i < n → Listing (λ r. P r × (index r ≡ i)) (f i)) → Listing P (along (numbers_from 0 n) f)
  by_index known = listing_along f index (numbers_once 0 n) (λ i m. known i (omega (arith, member_number 0 n m)))

listing : Listing InRange all_reports
unfolding all_reports reports_of
listing =
    listing_along _ (λ r. (r.n1, r.n2)) settings_once (λ s set.
    listing_along _ (λ r. r.mode) modes_once (λ mode m.
    listing_along _ (λ r. r.v) (ranks_once _) (λ v rank.
    by_index _ _ (λ r. r.i11) (λ i11 h11.
    by_index _ _ (λ r. r.i12) (λ i12 h12.
    by_index _ _ (λ r. r.i13) (λ i13 h13.
    by_index _ _ (λ r. r.i2) (λ i2 h2.
    let r = asks s.0 s.1 mode v i11 i12 i13 i2 in
    let within : InRange r = record {
      setting = member_setting s.0 s.1 set;
      mode = member_mode mode m;
      rank = member_rank (ports s.0 s.1) v rank;
      i11 = h11;
      i12 = h12;
      i13 = h13;
      i2 = h2;
    } in
    listing_one r (((((((within, refl), refl), refl), refl), refl), refl), refl))))))))

pub listed_in_range : (r : Report) → Member r all_reports → InRange r
listed_in_range = listing.has

pub listed_once : NoRepeats all_reports
listed_once = listing.once

-- ---- how many there are

module _ (n1 n2 mode v : ℕ) where
  pub length_reports_of : length (reports_of n1 n2 mode v) ≡ reports_at n1 n2 mode v
  unfolding reports_of reports_at
  length_reports_of =
      let c = i13_values n1 n2 v in
      let d = i2_values n1 mode v in
      length_times _ (i12_values n1 n2 mode v * (c * (d * 1)))
      (λ i11. length_times _ (c * (d * 1)) (λ i12. length_times _ (d * 1) (λ i13. length_times _ 1 (λ i2. refl) 0 _) 0 _) 0 _) 0 _
      ∙ omega arith

module _ (s : ℕ × ℕ) where
  by_rank_lem : ℕ → List Report
  by_rank_lem mode = along (ranks_of (ports s.0 s.1)) (reports_of s.0 s.1 mode)

  length_by_rank : (mode : ℕ) → length (by_rank_lem mode) ≡ sum (counts_by_rank mode s)
  unfolding by_rank_lem counts_by_rank
  length_by_rank mode =
      length_along (reports_of s.0 s.1 mode) (reports_at s.0 s.1 mode) (length_reports_of s.0 s.1 mode)
      (ranks_of (ports s.0 s.1))

  length_by_mode : length (along modes by_rank_lem) ≡ sum (counts_by_rank 1 s) + sum (counts_by_rank 2 s)
  unfolding modes sum
  length_by_mode = length_along by_rank_lem (λ mode. sum (counts_by_rank mode s)) length_by_rank modes ∙ omega arith

pub reports_all : length all_reports ≡ 78892
unfolding all_reports by_rank_lem
reports_all =
    length_along (λ s. along modes (by_rank_lem s)) (λ s. sum (counts_by_rank 1 s) + sum (counts_by_rank 2 s)) length_by_mode settings
    ∙ counts_sum
