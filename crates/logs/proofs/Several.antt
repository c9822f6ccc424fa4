-- Several reports in a lent buffer: how many stand, one after the other, and what is given when the next has no room or none
-- is left.
use mathlib.Core.Path.{◌≡◌, refl, sym, ◌∙◌}
use mathlib.Core.Bool.{true, false}
use mathlib.Core.List.{List, [], ◌∷◌, ◌++◌}
use Prim.Native.Nat.{ℕ, suc, ◌+◌, ◌*◌, ◌/◌, ◌%◌, ◌<◌, ◌≤◌}
use native.Mathlib.Nat.{add-zero, zero-add}
use native.Mathlib.Numerals.{add-one}
use native.Mathlib.Omega.{arith}
use lib.Dec.{eqb}
use Rattle.std.specs.Prelude.{Result, Ok, Err}
use lib.ListN.{length, take, drop, drop_of_length-le}
use lib.Seq.{drop-cons}
use borrow.Author.Tests.{lt-ltb, le-ltb}
use Rattle.ground.specs.Cases.{◌⇒◌∣◌}
use Rattle.ground.specs.Lists.{join}
use Rattle.ground.specs.Lent.{laid, Adds}
use Rattle.ground.proofs.Adds.{adds_then, adds_laid, adds_length, laid_adds, laid_nothing}
use Rattle.ground.proofs.Lists.{join_next}
use Rattle.report.specs.declared.Report.{Report}
use Rattle.eight.specs.Numbers.{report_of, eights}
use Rattle.eight.proofs.Eights.{length_eights, eight_at}
use Rattle.coding.specs.Coding.{coded, has_room, WritesReport}
use Rattle.coding.proofs.Placed.{is_placed, is_not_placed}
use Rattle.logs.specs.declared.ReportsWritten.{ReportsWritten}
use Rattle.logs.specs.declared.Unwritten.{Unwritten}
use Rattle.logs.specs.declared.Unwritten.TheVariants.{NoRoom, Incomplete}
use Rattle.logs.specs.Log.{log_of}
use Rattle.logs.specs.Writing.{fitting, WritesReports}

-- ---- how many fit

module _ (r : Report) (rs : List Report) (from size : ℕ) where
  pub one_fits : has_room r from size ≡ true → fitting (r ∷ rs) from size ≡ suc (fitting rs (from + length (coded r)) size)
  unfolding fitting
  one_fits t = rw t

  pub none_fits : has_room r from size ≡ false → fitting (r ∷ rs) from size ≡ 0
  unfolding fitting
  none_fits t = rw t

pub nothing_fits : (from size : ℕ) → fitting [] from size ≡ 0
unfolding fitting
nothing_fits from size = refl

-- ---- so many stand, and the others are to be written from the next place on

module _ (numbers : List ℕ) (from : ℕ) (lent : List ℕ) where
  pub record Standing (j next : ℕ) (left : List ℕ) : Type 0 where
    pub few : j ≤ length numbers / 8
    pub place : next ≡ from + length (log_of (take j (eights numbers)))
    pub stands : left ≡ laid (log_of (take j (eights numbers))) from lent
    pub long : length left ≡ length lent
    pub count : fitting (eights numbers) from (length lent) ≡ j + fitting (drop j (eights numbers)) next (length lent)

  pub none_standing : Standing 0 from lent
  unfolding join
  none_standing = record {
    few = omega arith;
    place = omega arith;
    stands = sym (laid_nothing lent from);
    long = refl;
    count = sym (zero-add (fitting (eights numbers) from (length lent)));
  }

  module _ {j next : ℕ} {left : List ℕ} (s : Standing j next left) (more : j < length numbers / 8) where
    abbrev report : Report
    report = report_of (drop (8 * j) numbers)

    -- the report that is next
    is_next : drop j (eights numbers) ≡ report ∷ drop (j + 1) (eights numbers)
    is_next =
        let within : j < length (eights numbers) = omega (arith, length_eights (length numbers / 8) numbers) in
        drop-cons (eights numbers) j (report_of []) within
        ∙ rw (add-one j, eight_at (length numbers / 8) numbers j (report_of []) more)

    with_next : log_of (take (j + 1) (eights numbers)) ≡ log_of (take j (eights numbers)) ++ coded report
    with_next =
        let within : j < length (eights numbers) = omega (arith, length_eights (length numbers / 8) numbers) in
        rw (add-one j)
        (join_next coded (eights numbers) j (report_of []) within
        ∙ rw (eight_at (length numbers / 8) numbers j (report_of []) more))

    module _ {then : List ℕ} where
      pub one_standing : {place : ℕ} → WritesReport report next left (Ok place) then → Standing (j + 1) place then
      one_standing {place} w =
          let p = is_placed w in
          let log = log_of (take j (eights numbers)) in
          let room : from + length log ≤ length lent = omega (arith, p.room, s.place, s.long) in
          let before : Adds log from lent next left = rw (s.place, s.stands) (laid_adds log lent from room) in
          let here : Adds (coded report) next left place then =
          rw (p.place, p.stands) (laid_adds (coded report) left next p.room) in
          let both = adds_then before here in
          record {
            few = omega arith;
            place = rw with_next both.long;
            stands = rw with_next (adds_laid both);
            long = adds_length both;
            count =
                s.count ∙ rw is_next (rw (one_fits report _ next (length lent) (rw s.long at p.has), p.place) (omega arith));
          }

      -- it has no room
      pub not_standing : {e : _} → WritesReport report next left (Err e) then
          → WritesReports numbers from lent (record { all = Err NoRoom; reports = j; next = next }) then
      not_standing w =
          let p = is_not_placed w in
          let none = none_fits report (drop (j + 1) (eights numbers)) next (length lent) (rw s.long at p.has) in
          record {
            reports = sym (s.count ∙ rw (is_next, none, add-zero));
            all = rw (lt-ltb j (length numbers / 8) more);
            next = s.place;
            leaves = p.stays ∙ s.stands;
          }

  -- none is left
  pub all_standing : {j next : ℕ} {left : List ℕ} → Standing j next left → length numbers / 8 ≤ j
      → {all : Result Unit Unwritten} → all ≡ (eqb (length numbers % 8) 0 ⇒ Ok tt ∣ Err Incomplete)
      → WritesReports numbers from lent (record { all = all; reports = j; next = next }) left
  all_standing {j} {next} {left} s none e =
      let past : length (eights numbers) ≤ j = omega (arith, length_eights (length numbers / 8) numbers) in
      record {
        reports = sym (s.count ∙ rw (drop_of_length-le (eights numbers) past, nothing_fits next (length lent), add-zero));
        all = rw (le-ltb j (length numbers / 8) none) e;
        next = s.place;
        leaves = s.stands;
      }

-- ---- one outcome

pub all_one : {numbers : List ℕ} {from : ℕ} {lent left left' : List ℕ} {given given' : ReportsWritten}
    → WritesReports numbers from lent given left → WritesReports numbers from lent given' left'
    → (given ≡ given') × (left ≡ left')
all_one {numbers} {from} {lent} {given = given} {given' = given'} p q =
    let same : given.reports ≡ given'.reports = p.reports ∙ sym q.reports in
    let all : given.all ≡ given'.all = p.all ∙ rw same (sym q.all) in
    let next : given.next ≡ given'.next = p.next ∙ rw same (sym q.next) in (
      λ i. record { all = all i; reports = same i; next = next i },
      p.leaves ∙ rw same (sym q.leaves),
    )
