-- What the printing program refuses: its masks bar nothing, its offsets are 0 and its buffer has room, so that the report
-- alone decides.
use mathlib.Core.Path.{◌≡◌, refl, sym, ap, ◌∙◌}
use mathlib.Core.Logic.{◌≢◌}
use mathlib.Core.Bool.{Bool, true, false, not, ◌||◌}
use mathlib.Core.List.{List, [], ◌∷◌, ◌++◌}
use Prim.Native.Nat.{ℕ, zero, suc, ◌-◌, ◌*◌, ◌/◌, ◌%◌, ◌<◌}
use native.Mathlib.Nat.{mul-le-mul}
use native.Mathlib.Omega.{arith}
use lib.Dec.{T, eqb, eqb_refl, eqb→eq}
use lib.ListN.{length, replicate, length-replicate, get_or-replicate}
use borrow.Author.Tests.{not-false, eq-eqb, le-ltb}
use Rattle.ground.specs.Lists.{some, each, every, among}
use Rattle.ground.specs.First.{first, numbered}
use Rattle.ground.proofs.Booleans.{cond_both}
use Rattle.ground.proofs.Tests.{and_left, and_right, or_left, or_right, every_at}
use Rattle.ground.proofs.First.{first_none, first_stop, first_insert, none_zero, none_within}
use Rattle.offsets.proofs.Fit.{zeros_fit}
use Rattle.settings.specs.Settings.{is_setting, ports, mask_bytes}
use Rattle.settings.specs.Ranges.{is_rank}
use Rattle.settings.proofs.Known.{ports_few}
use Rattle.settings.proofs.Ranked.{rank_of}
use Rattle.report.specs.declared.Report.{Report}
use Rattle.report.specs.Rules.{rule, own_order, InRange}
use Rattle.report.proofs.InRange.{in_range}
use Rattle.plan.specs.Masks.{bit_of, bit, is_zero, barred, rank_barred}
use Rattle.plan.specs.Answer.{early, test, refusal}
use Rattle.single.specs.Single.{single}
use Rattle.single.proofs.Lawful.{single_lawful}
use Rattle.printer.specs.Prints.{full_mask, no_offsets, asked_of, refusal_of}

-- ---- the first of a list whose test holds

-- a number whose test cannot hold where none before it does may be left out
first_without : (test : ℕ → Bool) (xs ys : List ℕ) (k : ℕ) → (first test xs ≡ 0 → test k ≡ false)
    → first test (xs ++ k ∷ ys) ≡ first test (xs ++ ys)
first_without test xs ys k h = by_first (first test xs) refl
  where
    by_first : (n : ℕ) → first test xs ≡ n → first test (xs ++ k ∷ ys) ≡ first test (xs ++ ys)
    by_first zero e = first_insert test xs ys k (h e)
    by_first (suc n) e = first_stop test xs (k ∷ ys) (λ z. omega arith) ∙ sym (first_stop test xs ys (λ z. omega arith))

-- what every number of the list and 0 pass, the first does
pub first_passes : (f test : ℕ → Bool) → T (f 0) → (ks : List ℕ) → T (each f ks) → T (f (first test ks))
unfolding first each
first_passes f test z [] t = z
first_passes f test z (k ∷ ks) t =
    cond_both (λ n. T (f n)) (test k) (and_left (f k) (each f ks) t)
    (first_passes f test z ks (and_right (f k) (each f ks) t))

-- ---- masks of ones

ones_bit : (k : ℕ) → k < 8 → bit_of 255 k ≡ 1
unfolding every
ones_bit k h = eqb→eq (bit_of 255 k) 1 (every_at 8 (λ j. eqb (bit_of 255 j) 1) tt k h)

full_bit : (n k : ℕ) → k < 8 * n → is_zero (replicate n 255) k ≡ false
unfolding is_zero bit
full_bit n k h =
    rw (get_or-replicate {A = ℕ} n (k / 8) 255 0 (omega arith), ones_bit (k % 8) (omega arith))

not_barred : (mask ks : List ℕ) → ((k : ℕ) → T (among k ks) → is_zero mask k ≡ false) → barred mask ks ≡ false
unfolding barred some among
not_barred mask [] h = refl
not_barred mask (k ∷ ks) h =
    rw (h k (or_left (eqb k k) (among k ks) (eqb_refl k)))
    (not_barred mask ks (λ j t. h j (or_right (eqb j k) (among j ks) t)))

module _ (r : Report) where
  abbrev tests : ℕ → Bool
  tests = test single (asked_of r)

  -- ---- the tests of 3, 5, 10, 13 and 11, where those before them fail

  -- the mask of a setting has the bytes that it needs
  mask_is : is_setting r.n1 r.n2 ≡ true → full_mask r.n1 r.n2 ≡ replicate (mask_bytes r.n1 r.n2) 255
  unfolding full_mask
  mask_is e = rw e

  sized : first tests (1 ∷ 2 ∷ []) ≡ 0 → tests 3 ≡ false
  unfolding test early rule numbered among
  sized e =
      let setting = not-false _ ((first_none tests (1 ∷ 2 ∷ []) tt e).at 1 tt) in
      let size = ap length (mask_is setting) ∙ length-replicate (mask_bytes r.n1 r.n2) 255 in
      rw (eq-eqb _ _ size)

  -- a rank that there is has its bit in the rank mask
  ranked : first tests (1 ∷ 2 ∷ 3 ∷ 4 ∷ []) ≡ 0 → tests 5 ≡ false
  unfolding test early rule numbered among rank_barred
  ranked e =
      let p = ports r.n1 r.n2 in
      let rank = rank_of p r.v (not-false (is_rank p r.v) ((first_none tests (1 ∷ 2 ∷ 3 ∷ 4 ∷ []) tt e).at 4 tt)) in
      rw (ones_bit (r.v - 1) (omega (arith, rank.v_few)))

  -- those of the report alone
  abbrev before : List ℕ
  before = 1 ∷ 2 ∷ 3 ∷ 4 ∷ 5 ∷ 6 ∷ 7 ∷ 8 ∷ 9 ∷ []

  passed : first tests before ≡ 0 → InRange r
  unfolding first test early numbered among
  passed e =
      let own = none_within tests own_order before tt (first_none tests before tt e) in
      in_range r (first_none (rule r) own_order tt (none_zero tests own_order own))

  -- every bit that the report reads lies in the beam mask
  open_beams : InRange r → tests 10 ≡ false
  unfolding test
  open_beams h =
      rw (mask_is h.setting)
      (not_barred _ _ (λ k t. full_bit (mask_bytes r.n1 r.n2) k (single_lawful.within r h k t)))

  -- a setting has an offset of 0 for each port
  fed_zeros : InRange r → tests 13 ≡ false
  unfolding test no_offsets
  fed_zeros h = rw h.setting (zeros_fit (ports r.n1 r.n2))

  -- 8 layers of 32 ports
  room : InRange r → tests 11 ≡ false
  unfolding test
  room h =
      let few = mul-le-mul (rank_of _ _ h.rank).v_few (ports_few r.n1 r.n2 h.setting) in
      le-ltb 256 (r.v * ports r.n1 r.n2) few

  -- ---- the tests that are left

  -- a report is refused by its own numbers alone, in their order
  pub refused_by_report : refusal_of r ≡ first (rule r) (1 ∷ 2 ∷ 4 ∷ 6 ∷ 7 ∷ 8 ∷ 9 ∷ [])
  unfolding first test early refusal refusal_of
  refused_by_report =
      first_without tests before (13 ∷ 11 ∷ []) 10 (λ e. open_beams (passed e))
      ∙ first_without tests before (11 ∷ []) 13 (λ e. fed_zeros (passed e))
      ∙ first_without tests before [] 11 (λ e. room (passed e))
      ∙ first_without tests (1 ∷ 2 ∷ 3 ∷ 4 ∷ []) (6 ∷ 7 ∷ 8 ∷ 9 ∷ []) 5 ranked
      ∙ first_without tests (1 ∷ 2 ∷ []) (4 ∷ 6 ∷ 7 ∷ 8 ∷ 9 ∷ []) 3 sized

  -- and so never by 3, 5, 10, 13 or 11
  pub never_given : (refusal_of r ≢ 3) × (refusal_of r ≢ 5) × (refusal_of r ≢ 10) × (refusal_of r ≢ 13) × (refusal_of r ≢ 11)
  unfolding each
  never_given =
      let given : ℕ → Bool = λ k. not (eqb k 3 || eqb k 5 || eqb k 10 || eqb k 13 || eqb k 11) in
      let passes = rw (← refused_by_report) at (first_passes given (rule r) tt own_order tt) in
      (λ e. rw e at passes, λ e. rw e at passes, λ e. rw e at passes, λ e. rw e at passes, λ e. rw e at passes)
