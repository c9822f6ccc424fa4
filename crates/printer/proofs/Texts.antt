-- The mask, the offsets, the record and the text for a report: what a call of `phases` with all mask bits ones and all
-- offsets 0 gives and leaves.
use mathlib.Core.Path.{◌≡◌, refl, sym, ap, ◌∙◌}
use mathlib.Core.Bool.{Bool, true, false}
use mathlib.Core.List.{List, map}
use Prim.Native.Nat.{ℕ, zero, suc, ◌*◌, ◌<◌, ◌≤◌}
use native.Mathlib.Omega.{arith}
use borrow.Author.Rules.{rules}
use lib.Dec.{eqb, leb, leb→le}
use lib.ListN.{length, take, drop, replicate}
use lib.Seq.{take_at}
use borrow.Author.Tests.{ltb-false, leb-true}
use Rattle.ground.proofs.Booleans.{either, cond_each}
use Rattle.ground.proofs.All.{all_each}
use Rattle.ground.specs.Cases.{◌⇒◌∣◌}
use Rattle.ground.specs.Lists.{each, among, All, all_nil}
use Rattle.ground.specs.First.{numbered, None}
use Rattle.ground.proofs.First.{first_none}
use Rattle.plan.specs.declared.Record.{Record}
use Rattle.plan.specs.Offsets.{fed_matrix}
use Rattle.plan.specs.Base.{doubled, base_matrix}
use Rattle.plan.specs.Sound.{Sound}
use Rattle.plan.specs.Answer.{refused, planned, record_of, buffer_of, test, refusal, Called}
use Rattle.plan.proofs.Passed.{rules_passed}
use Rattle.plan.proofs.Base.{matrix_doubled}
use Rattle.plan.proofs.FedMatrix.{fed_matrix_below, fed_matrix_zeros, length_fed_matrix}
use Rattle.settings.specs.declared.Sizes.{Sizes}
use Rattle.settings.specs.Settings.{is_setting, ports, mask_bytes, sizes_of}
use Rattle.settings.proofs.Known.{ports_few, mask_few}
use Rattle.report.specs.declared.Report.{Report}
use Rattle.single.specs.Plan.{plan}
use Rattle.single.specs.Single.{order, single}
use Rattle.single.proofs.Lawful.{single_lawful}
use Rattle.std.specs.Prelude.{Option, Some, None as Nothing}
use Rattle.std.specs.Option.{option_map}
use Rattle.ground.specs.Lent.{is_written, Writes}
use Rattle.ground.proofs.Writes.{written}
use Rattle.text.specs.Text.{record_text, three_digits, printable}
use Rattle.text.proofs.Digits.{all_short}
use Rattle.text.proofs.Records.{text_before, text_refused, Limits, within_limits}
use Rattle.printer.specs.declared.Answer.{Answer}
use Rattle.printer.specs.declared.Printed.{Printed}
use Rattle.printer.specs.Prints.{full_mask, no_offsets, asked_of, refusal_of, record_for, phases_for, answer_by, answer_of}
use Rattle.printer.specs.Prints.{text_of, printed_of, Outcome, Prints}
use Rattle.printer.proofs.Answered.{first_passes}

-- ---- the beam mask whose bits are all ones and the offsets that are all 0, as parts of 32 places

take_replicate : {A : Type 0} (n m : ℕ) (a : A) → n ≤ m → take n (replicate m a) ≡ replicate n a
take_replicate zero m a h = refl
take_replicate (suc n) zero a h = absurd (omega arith)
take_replicate (suc n) (suc m) a h = rw (take_replicate n m a (omega arith))

module _ (n1 n2 : ℕ) {s : Sizes} (e : s ≡ sizes_of n1 n2) where
  bytes_are : s.bytes ≡ (is_setting n1 n2 ⇒ mask_bytes n1 n2 ∣ 0)
  bytes_are = ap (λ (x : Sizes). x.bytes) e ∙ cond_each (λ (x : Sizes). x.bytes) (is_setting n1 n2) refl refl

  ports_are : s.ports ≡ (is_setting n1 n2 ⇒ ports n1 n2 ∣ 0)
  ports_are = ap (λ (x : Sizes). x.ports) e ∙ cond_each (λ (x : Sizes). x.ports) (is_setting n1 n2) refl refl

  pub bytes_few : s.bytes ≤ 32
  bytes_few =
      rw bytes_are (either (is_setting n1 n2) (λ t. rw t (mask_few n1 n2 t)) (λ t. rw t (omega arith)))

  pub ports_within : s.ports ≤ 32
  ports_within =
      rw ports_are (either (is_setting n1 n2) (λ t. rw t (ports_few n1 n2 t)) (λ t. rw t (omega arith)))

  -- so many of 32 bytes are the mask, and so many of 32 zeros the offsets
  bytes_full : take s.bytes (replicate 32 255) ≡ full_mask n1 n2
  unfolding full_mask
  bytes_full = take_replicate s.bytes 32 255 bytes_few ∙ ap (λ (n : ℕ). replicate n 255) bytes_are

  ports_zero : take s.ports (replicate 32 0) ≡ no_offsets n1 n2
  unfolding no_offsets
  ports_zero = take_replicate s.ports 32 0 ports_within ∙ ap (λ (n : ℕ). replicate n 0) ports_are

-- ---- the record and the phases

module _ (r : Report) where
  refusal_few : refusal_of r ≤ 13
  unfolding each refusal refusal_of
  refusal_few = leb→le _ 13 (first_passes (λ k. leb k 13) (test single (asked_of r)) tt order tt)

  module _ (e : refusal_of r ≡ 0) where
    no_fault : None (test single (asked_of r)) order
    unfolding numbered refusal refusal_of
    no_fault = first_none (test single (asked_of r)) order tt e

    sound : Sound (plan r)
    sound = single_lawful.sound r ((single_lawful.in_range r).0 (rules_passed single (asked_of r) no_fault))

    fits : (plan r).v * (plan r).ports ≤ 256
    unfolding test among
    fits = ltb-false 256 _ (no_fault.at 11 tt)

    -- its phases are 01's, doubled
    pub phases_doubled : phases_for r ≡ map doubled (base_matrix (plan r))
    unfolding no_offsets
    phases_doubled =
        fed_matrix_zeros (is_setting r.n1 r.n2 ⇒ ports r.n1 r.n2 ∣ 0) (plan r)
        ∙ matrix_doubled (plan r) sound

  -- its numbers are those of an answer
  limits_by : (k : ℕ) → refusal_of r ≡ k → Limits (record_of (planned (plan r)) k)
  limits_by zero e = let room = fits e in let good = sound e in search rules
  limits_by (suc k) e = let few = refusal_few in search rules

  pub record_limits : Limits (record_for r)
  record_limits = limits_by (refusal_of r) refl

  -- and no phase has more than three digits
  pub phases_few : All (λ x. x < 1000) (phases_for r)
  phases_few = all_each (λ x h. omega arith) (fed_matrix_below _ (plan r))

-- ---- what is given and left

pub outcome_of : (a : Option Report) {n : Option ℕ} {lent left : List ℕ} {answer : Answer} {given : Option Printed}
    → Writes true (text_of a) lent n left → answer ≡ answer_of a
    → given ≡ option_map (λ k. record { answer = answer; length = k }) n → Outcome a lent given left
outcome_of a {n} {lent} {left} {answer} w x e =
    let with : ℕ → Printed = λ k. record { answer = answer_of a; length = k } in
    record {
      gives =
          e ∙ ap (λ (y : Answer). option_map (λ (k : ℕ). record { answer = y; length = k }) n) x
          ∙ ap (option_map with) w.gives
          ∙ cond_each (option_map with) (is_written true (text_of a) lent) refl refl;
      leaves = w.leaves;
    }

-- a call with such parts has all mask bits ones and all offsets 0
pub called_plainly : (r : Report) {s : Sizes} {given : Record} {phases left : List ℕ} → s ≡ sizes_of r.n1 r.n2
    → let offsets : List ℕ = take s.ports (replicate 32 0) in
    Called single r (take s.bytes (replicate 32 255)) 255 offsets 256 (fed_matrix offsets (plan r)) phases given left
    → Called single r (full_mask r.n1 r.n2) 255 (no_offsets r.n1 r.n2) 256 (phases_for r) phases given left
called_plainly r e call = rw (bytes_full r.n1 r.n2 e, ports_zero r.n1 r.n2 e) at call

-- and then the report is answered
module _ (r : Report) {given : Record} {phases left : List ℕ}
    (call : Called single r (full_mask r.n1 r.n2) 255 (no_offsets r.n1 r.n2) 256 (phases_for r) phases given
    left) where
  record_given : given ≡ record_for r
  unfolding refusal_of
  record_given = call.record_is

  buffer_left : left ≡ buffer_of (refusal_of r) (phases_for r) phases
  unfolding refusal_of
  buffer_left = call.buffer_is

  -- the text of what is given and left is that for the report
  text_given : record_text given left ≡ text_of (Some r)
  text_given =
      ap (λ (a : Record). record_text a left) record_given
      ∙ ap (record_text (record_for r)) buffer_left
      ∙ by_number (refusal_of r) refl
    where
      by_number : (k : ℕ) → refusal_of r ≡ k
          → record_text (record_of (planned (plan r)) k) (buffer_of k (phases_for r) phases)
          ≡ record_text (record_of (planned (plan r)) k) (phases_for r)
      by_number zero e = text_before (planned (plan r)) (phases_for r) _ refl (length_fed_matrix _ (plan r) (sound r e))
      by_number (suc k) e =
          text_refused (refused (suc k)) phases (λ z. omega arith)
          ∙ sym (text_refused (refused (suc k)) (phases_for r) (λ z. omega arith))

  -- and it may be written
  may_write : length left ≡ 256 → printable given left ≡ true
  may_write size =
      ap (λ (a : Record). printable a left) record_given
      ∙ ap (printable (record_for r)) buffer_left
      ∙ by_number (refusal_of r) refl (ap length (sym buffer_left) ∙ size)
    where
      by_number : (k : ℕ) → refusal_of r ≡ k → length (buffer_of k (phases_for r) phases) ≡ 256
          → printable (record_of (planned (plan r)) k) (buffer_of k (phases_for r) phases) ≡ true
      by_number zero e long =
          let size = length_fed_matrix _ (plan r) (sound r e) in
          let first = take_at (phases_for r) (drop (length (phases_for r)) phases) _ size in
          within_limits (planned (plan r)) _ (limits_by r 0 e) (omega (arith, long, fits r e))
          (ap three_digits first ∙ all_short (phases_few r))
      by_number (suc k) e long =
          within_limits (refused (suc k)) phases (limits_by r (suc k) e) (omega arith) (all_short all_nil)

  pub outcome_read : length left ≡ 256 → {n : Option ℕ} {lent out : List ℕ} {answer : Answer} {p : Option Printed}
      → Writes (printable given left) (record_text given left) lent n out → answer ≡ answer_by given
      → p ≡ option_map (λ k. record { answer = answer; length = k }) n → Outcome (Some r) lent p out
  outcome_read size w x e =
      outcome_of (Some r) (rw (may_write size, text_given) at w) (x ∙ ap answer_by record_given) e

-- what is printed lies in the lent buffer
pub printed_within : {line lent left : List ℕ} {given : Printed} → Prints line lent (Some given) left
    → given.length ≤ length lent
unfolding is_written
printed_within {lent = lent} {given = given} p = go (leb (length (text_of p.reading)) (length lent)) refl p.outcome.gives
  where
    go : (b : Bool) → leb (length (text_of p.reading)) (length lent) ≡ b → Some given ≡ (b ⇒ Some (printed_of p.reading) ∣ Nothing)
        → given.length ≤ length lent
    go true f e =
        let same : given ≡ printed_of p.reading = cc in
        omega (arith, ap (λ (x : Printed). x.length) same, leb-true (length (text_of p.reading)) (length lent) f)
    go false f e = absurd (cc)
