-- Worked examples: a report, the number 200, each fault on both sides of its bound, calls that repeat one, and what is
-- written with room and without.
use mathlib.Core.Path.{◌≡◌, refl, ap}
use mathlib.Core.Bool.{true}
use mathlib.Core.List.{List, [], ◌∷◌, ◌++◌}
use Prim.Native.Nat.{ℕ, ◌^◌, ◌<◌, ◌≤◌}
use native.Mathlib.Omega.{arith}
use lib.Dec.{lit≤}
use lib.ListN.{get_or, replicate}
use Rattle.std.specs.Prelude.{Ok, Err}
use Rattle.ground.specs.Lists.{join, all_nil, all_cons}
use Rattle.report.specs.declared.Report.{Report}
use Rattle.eight.specs.Numbers.{values_of, eights_of}
use Rattle.groups.specs.Number.{value, fault, code_in, code, is_padded, is_large, scan, number_at}
use Rattle.groups.specs.Relied.{Below, NumberStands, worth}
use Rattle.groups.specs.declared.Fault.TheVariants.{Padded}
use Rattle.coding.specs.Coding.{has_room, no_room, WritesReport}
use Rattle.logs.specs.declared.Answer.{Answer}
use Rattle.logs.specs.declared.Answer.TheVariants.{Faulty}
use Rattle.logs.specs.declared.Unwritten.TheVariants.{NoRoom, Incomplete}
use Rattle.logs.specs.declared.LogStep.{LogStep}
use Rattle.logs.specs.declared.Reader.{Reader}
use Rattle.logs.specs.Log.{coded, report_step, end_step, fault_step, after, takes, step_at}
use Rattle.logs.specs.Answer.{Steps}
use Rattle.logs.specs.Writing.{fitting, WritesReports}
use Rattle.logs.specs.Relied.{no_more, one_and, HandsOut, Runs, no_call, call_and, ReadsBack, SameAgain}
use Rattle.logs.proofs.Rewritten.{write_reads_back}

-- (2,1) with mode 1, one layer, i11 = 1, i2 = 1 and the rest 0
abbrev pub first_report : Report
first_report = record { n1 = 2; n2 = 1; mode = 1; v = 1; i11 = 1; i12 = 0; i13 = 0; i2 = 1 }

pub first_coded : coded first_report ≡ 2 ∷ 1 ∷ 1 ∷ 1 ∷ 1 ∷ 0 ∷ 0 ∷ 1 ∷ []
unfolding join code_in
first_coded = refl

pub first_read : step_at (2 ∷ 1 ∷ 1 ∷ 1 ∷ 1 ∷ 0 ∷ 0 ∷ 1 ∷ []) 0 ≡ report_step first_report 8
unfolding step_at takes after scan is_padded is_large
first_read = refl

pub two_hundred : code 200 ≡ 200 ∷ 1 ∷ []
unfolding code_in
two_hundred = refl

-- ---- numbers

pub zero_alone : number_at (0 ∷ []) 0 ≡ value 0 1
unfolding scan is_padded is_large
zero_alone = refl

pub second_zero : number_at (128 ∷ 0 ∷ []) 0 ≡ fault 2 1
unfolding scan is_padded is_large
second_zero = refl

pub fifth_zero : number_at (128 ∷ 128 ∷ 128 ∷ 128 ∷ 0 ∷ []) 0 ≡ fault 2 4
unfolding scan is_padded is_large
fifth_zero = refl

pub largest : number_at (255 ∷ 255 ∷ 255 ∷ 255 ∷ 15 ∷ []) 0 ≡ value 4294967295 5
unfolding scan is_padded is_large
largest = refl

pub fifth_above_15 : number_at (255 ∷ 255 ∷ 255 ∷ 255 ∷ 16 ∷ []) 0 ≡ fault 3 4
unfolding scan is_padded is_large
fifth_above_15 = refl

pub fifth_with_top_bit : number_at (128 ∷ 128 ∷ 128 ∷ 128 ∷ 128 ∷ []) 0 ≡ fault 3 4
unfolding scan is_padded is_large
fifth_with_top_bit = refl

pub four_continued : number_at (128 ∷ 128 ∷ 128 ∷ 128 ∷ []) 0 ≡ fault 1 4
unfolding scan is_padded is_large
four_continued = refl

-- 200 in three bytes is no code of it, though they stand for it
pub three_bytes : worth (200 ∷ 129 ∷ 0 ∷ []) ≡ 200
unfolding worth
three_bytes = refl

pub stands_in_two : NumberStands (9 ∷ 200 ∷ 1 ∷ 9 ∷ []) 1 200 3
unfolding code_in
stands_in_two = record { fits = omega arith; stands = refl; place = refl }

pub not_in_three : NumberStands (200 ∷ 129 ∷ 0 ∷ []) 0 200 3 → ⊥
unfolding code_in
not_in_three n = omega (arith, n.place)

-- ---- logs

pub first_handed_out : HandsOut (2 ∷ 1 ∷ 1 ∷ 1 ∷ 1 ∷ 0 ∷ 0 ∷ 1 ∷ []) 0 (first_report ∷ [])
unfolding step_at
first_handed_out = one_and first_read (no_more {at = 8} refl)

pub empty_ends : step_at [] 0 ≡ end_step 0
unfolding step_at
empty_ends = refl

pub past_the_end : step_at (2 ∷ []) 7 ≡ end_step 7
unfolding step_at
past_the_end = refl

pub cut_between_numbers : step_at (2 ∷ 1 ∷ []) 0 ≡ fault_step 1 2 0
unfolding step_at takes after scan is_padded is_large
cut_between_numbers = refl

-- ---- calls

-- a padded zero, whose second byte is at place 1
abbrev pub padded_zero : Answer
padded_zero = Faulty (Padded 1)

-- three calls of a reader at one
pub three_calls : (r : Reader) → r.log.now ≡ 128 ∷ 0 ∷ [] → r.at ≡ 0
    → Runs r (padded_zero ∷ padded_zero ∷ padded_zero ∷ []) r
unfolding step_at takes after scan is_padded is_large
three_calls r e z =
    let step : Steps r padded_zero r = record { stays = refl; gives = rw (e, z) } in
    call_and step (call_and step (call_and step no_call))

-- ---- writing

-- ten bytes, all of them 9
abbrev nines : List ℕ
nines = 9 ∷ 9 ∷ 9 ∷ 9 ∷ 9 ∷ 9 ∷ 9 ∷ 9 ∷ 9 ∷ 9 ∷ []

-- the report from place 1 on, and what is left
abbrev with_it : List ℕ
with_it = 9 ∷ 2 ∷ 1 ∷ 1 ∷ 1 ∷ 1 ∷ 0 ∷ 0 ∷ 1 ∷ 9 ∷ []

pub from_one : WritesReport first_report 1 nines (Ok 9) with_it
unfolding join code_in has_room
from_one = record { gives = refl; leaves = refl }

-- from place 2 on it has just room, and from place 3 on it has none; nor from places past the end
pub from_two : has_room first_report 2 10 ≡ true
unfolding join code_in has_room
from_two = refl

pub from_three : WritesReport first_report 3 nines (Err (no_room 3)) nines
unfolding join code_in has_room
from_three = record { gives = refl; leaves = refl }

pub from_eleven : WritesReport first_report 11 nines (Err (no_room 11)) nines
unfolding join code_in has_room
from_eleven = record { gives = refl; leaves = refl }

-- two reports, of which the second has no room
pub one_of_two : WritesReports (2 ∷ 1 ∷ 1 ∷ 1 ∷ 1 ∷ 0 ∷ 0 ∷ 1 ∷ 2 ∷ 1 ∷ 1 ∷ 1 ∷ 1 ∷ 0 ∷ 0 ∷ 1 ∷ []) 1 nines
    (record { all = Err NoRoom; reports = 1; next = 9 }) with_it
unfolding join code_in has_room fitting eights_of
one_of_two = record { reports = refl; all = refl; next = refl; leaves = refl }

-- nine numbers: a report, and one that is left
pub nine_numbers : WritesReports (2 ∷ 1 ∷ 1 ∷ 1 ∷ 1 ∷ 0 ∷ 0 ∷ 1 ∷ 2 ∷ []) 1 nines
    (record { all = Err Incomplete; reports = 1; next = 9 }) with_it
unfolding join code_in has_room fitting eights_of
nine_numbers = record { reports = refl; all = refl; next = refl; leaves = refl }

-- no numbers: nothing is written and nothing refused, also past the end
pub no_numbers : WritesReports [] 11 nines (record { all = Ok tt; reports = 0; next = 11 }) nines
unfolding join code_in has_room fitting eights_of
no_numbers = record { reports = refl; all = refl; next = refl; leaves = refl }

-- ---- what was written reads back

small : (n : ℕ) → n ≤ 2 → n < 2 ^ 32
small n h = omega arith

first_fits : Below (2 ^ 32) (values_of first_report)
first_fits =
    all_cons (small 2 (lit≤ tt))
    (all_cons (small 1 (lit≤ tt))
    (all_cons (small 1 (lit≤ tt))
    (all_cons (small 1 (lit≤ tt))
    (all_cons (small 1 (lit≤ tt))
    (all_cons (small 0 (lit≤ tt)) (all_cons (small 0 (lit≤ tt)) (all_cons (small 1 (lit≤ tt)) all_nil)))))))

pub reads_back : ReadsBack nines with_it 1 (first_report ∷ []) 9
reads_back = write_reads_back first_fits from_one

-- not where another report stands behind it than stood there
pub not_behind : ReadsBack (nines ++ nines) (with_it ++ replicate 10 7) 1 (first_report ∷ []) 9 → ⊥
unfolding step_at takes after scan is_padded is_large
not_behind b =
    let same = ap (λ (s : LogStep). s.report.n2) (b.behind 9 (omega arith)) in
    omega (arith, same)

pub same_again : SameAgain (2 ∷ 1 ∷ 1 ∷ 1 ∷ 1 ∷ 0 ∷ 0 ∷ 1 ∷ []) (first_report ∷ []) 1 nines
    (record { all = Ok tt; reports = 1; next = 9 }) with_it
same_again = record { all = refl; reports = refl; next = refl; leaves = refl }

pub not_as_lent : SameAgain (2 ∷ 1 ∷ 1 ∷ 1 ∷ 1 ∷ 0 ∷ 0 ∷ 1 ∷ []) (first_report ∷ []) 1 nines
    (record { all = Ok tt; reports = 1; next = 9 }) nines → ⊥
not_as_lent a =
    let same = ap (λ (xs : List ℕ). get_or xs 1 0) a.leaves in
    omega (arith, same)
