-- What the three bits of a half-length beam changed: a refusal is what it was before they were read, or it is 10.
use mathlib.Core.Path.{◌≡◌, refl, sym, ap, ◌∙◌, subst}
use mathlib.Core.Logic.{◌≢◌, ◌⊎◌, inl, inr}
use mathlib.Core.Bool.{Bool, true, false, cond, ◌||◌}
use mathlib.Core.List.{List, [], ◌∷◌}
use Prim.Native.Nat.{ℕ, ◌*◌}
use native.Mathlib.Omega.{arith}
use lib.Dec.{T, eqb, ltb}
use lib.ListN.{replicate}
use borrow.Author.Tests.{eqb-true, eqb-false, ne_eqb}
use Rattle.ground.specs.Lists.{some, among}
use Rattle.ground.specs.First.{first, numbered, part}
use Rattle.ground.proofs.Booleans.{either}
use Rattle.ground.proofs.First.{none_first, first_none, first_stop, first_part, first_cong}
use Rattle.offsets.specs.Offsets.{unfit}
use Rattle.report.specs.declared.Report.{Report}
use Rattle.report.specs.Rules.{InRange}
use Rattle.report.specs.Beams.{is_half}
use Rattle.report.specs.Listed.{asks}
use Rattle.report.proofs.InRange.{zero_in_range}
use Rattle.plan.specs.declared.Record.{Record}
use Rattle.plan.specs.Masks.{is_zero, barred}
use Rattle.plan.specs.Answer.{Request, own, early, asked, test, refusal, Called}
use Rattle.plan.proofs.Answers.{number_given}
use Rattle.plan.proofs.Worked.{ones_but}
use Rattle.single.specs.Masks.{neighbours, bits_read}
use Rattle.single.specs.Plan.{plan}
use Rattle.single.specs.Single.{order, reading, single}
use Rattle.single.specs.Before.{own_bits, before, BarredSince}
use Rattle.single.proofs.Neighbours.{more_ports, half_beam, half_bits}
use Rattle.precoder.proofs.Worked.{defined}

-- ---- the bits

-- whole beams are read as they were
whole_same : (r : Report) → is_half r ≡ false → bits_read r ≡ own_bits r
unfolding bits_read own_bits
whole_same r e = rw e

-- a bit that bars bars among three too
one_of_three : (mask : List ℕ) (i j k : ℕ) → barred mask (j ∷ []) ≡ true → barred mask (i ∷ j ∷ k ∷ []) ≡ true
unfolding barred some
one_of_three mask i j k = go (is_zero mask i) (is_zero mask j) (is_zero mask k)
  where
    go : (x y z : Bool) → (y || false) ≡ true → (x || (y || (z || false))) ≡ true
    go true y z e = refl
    go false true z e = refl
    go false false z e = absurd (subst T (sym e) tt)

-- and of the three bits of a half-length beam one was read before
half_own : (r : Report) (h : InRange r) (half : is_half r ≡ true) (mask : List ℕ)
    → barred mask (own_bits r) ≡ true → barred mask (bits_read r) ≡ true
unfolding own_bits neighbours
half_own r h half mask e =
    rw (half_bits r h half)
    (one_of_three mask _ _ _ (rw (ne_eqb r.n1 1 (more_ports r h half), half_beam r h half) at e))

-- ---- the refusal of a request

-- past 1 to 9: 10 by the bits, 13 by the offsets, 11 by the room, or none
abbrev late_by : Bool → Bool → Bool → ℕ
late_by bits offsets room = cond bits 10 (cond offsets 13 (cond room 11 0))

-- more bits that may be zero make 10 of none, of 13 and of 11, and change nothing else
late_changed : (r : Report) (bits bits' offsets room : Bool) → (bits' ≡ true → bits ≡ true) → is_half r ≡ true
    → (late_by bits offsets room ≡ late_by bits' offsets room)
    ⊎ BarredSince r (late_by bits offsets room) (late_by bits' offsets room)
unfolding among
late_changed r true true offsets room h half = inl refl
late_changed r true false true room h half = inr (record { ten = refl; none_or_later = tt; half_length = half })
late_changed r true false false true h half = inr (record { ten = refl; none_or_later = tt; half_length = half })
late_changed r true false false false h half = inr (record { ten = refl; none_or_later = tt; half_length = half })
late_changed r false true offsets room h half = absurd (subst T (sym (h refl)) tt)
late_changed r false false offsets room h half = inl refl

module _ (q : Request Report) where
  abbrev up_to_nine : List ℕ
  up_to_nine = 1 ∷ 2 ∷ 3 ∷ 4 ∷ 5 ∷ 6 ∷ 7 ∷ 8 ∷ 9 ∷ []

  abbrev misfed : Bool
  misfed = unfit (plan q.report).ports q.offsets

  abbrev short_of : Bool
  short_of = ltb q.room ((plan q.report).v * (plan q.report).ports)

  -- 1 to 9 are tested alike, whatever bits are read
  early_same : first (test single q) up_to_nine ≡ first (test before q) up_to_nine
  unfolding first test early
  early_same = refl

  -- where none of them is given the report is in range
  passed_in_range : first (test single q) up_to_nine ≡ 0 → InRange q.report
  unfolding first part test early
  passed_in_range z =
      zero_in_range q.report (first_part (test single q) own up_to_nine (ap (λ (k : ℕ). own k) z) ∙ z)

  -- and the bits, the offsets and the room decide
  by_bits : (bits : Report → List ℕ) → first (test (reading bits) q) up_to_nine ≡ 0
      → refusal (reading bits) q ≡ late_by (barred q.mask (bits q.report)) misfed short_of
  unfolding refusal first test numbered
  by_bits bits z =
      none_first (test (reading bits) q) up_to_nine (10 ∷ 13 ∷ 11 ∷ [])
      (first_none (test (reading bits) q) up_to_nine tt z)

  -- where one of them is given it was given before
  stopped : first (test single q) up_to_nine ≢ 0 → refusal single q ≡ refusal before q
  unfolding refusal
  stopped given =
      first_stop (test single q) up_to_nine (10 ∷ 13 ∷ 11 ∷ []) given
      ∙ early_same
      ∙ sym (first_stop (test before q) up_to_nine (10 ∷ 13 ∷ 11 ∷ []) (λ e. given (early_same ∙ e)))

  -- and with whole beams nothing has changed
  whole_unchanged : is_half q.report ≡ false → refusal single q ≡ refusal before q
  unfolding refusal test early
  whole_unchanged whole =
      first_cong (test single q) (test before q) (λ k. rw (whole_same q.report whole)) order

  -- A refusal is what it was; or it is 10 and was none, 13 or 11, and the beams have half their length.
  pub what_changed : (refusal single q ≡ refusal before q) ⊎ BarredSince q.report (refusal single q) (refusal before q)
  what_changed =
      either (is_half q.report)
      (λ half.
      either (eqb (first (test single q) up_to_nine) 0)
      (λ e.
      let z = eqb-true (first (test single q) up_to_nine) 0 e in
      rw (by_bits bits_read z, by_bits own_bits (sym early_same ∙ z))
      (late_changed q.report _ _ misfed short_of (half_own q.report (passed_in_range z) half q.mask) half))
      (λ e. inl (stopped (eqb-false (first (test single q) up_to_nine) 0 e))))
      (λ whole. inl (whole_unchanged whole))

-- ---- calls: of `phases` or of `weights`, with one matrix for both codebooks, since their plans are the same

module _ (r : Report) (mask : List ℕ) (ranks : ℕ) (offsets : List ℕ) (room : ℕ) {A : Type 0} {answer lent : List A} where
  -- A report that is accepted was accepted before: the same record was given, and the same buffer left.
  pub accepted_as_before : {given : Record} {left : List A} → Called single r mask ranks offsets room answer lent given left
      → given.refusal ≡ 0 → Called before r mask ranks offsets room answer lent given left
  accepted_as_before call e =
      let zero = sym (number_given refl call) ∙ e in
      elim (what_changed (asked r mask ranks offsets room)) [
        | inl same ↦ rw (← same) call
        | inr since ↦ absurd (let ten = since.ten in omega arith)
      ]

  -- One that was accepted before and is refused is refused by 10, and has half-length beams.
  pub refused_since : {given given' : Record} {left left' : List A}
      → Called before r mask ranks offsets room answer lent given left → given.refusal ≡ 0
      → Called single r mask ranks offsets room answer lent given' left' → given'.refusal ≢ 0
      → (given'.refusal ≡ 10) × (is_half r ≡ true)
  refused_since call e call' h =
      elim (what_changed (asked r mask ranks offsets room)) [
        | inl same ↦ absurd (h (number_given refl call' ∙ same ∙ sym (number_given refl call) ∙ e))
        | inr since ↦ (number_given refl call' ∙ since.ten, since.half_length)
      ]

-- and there is such a report: (8,1) with three layers and i11 = 1, where bit 1 is the only zero
pub one_changed : let q = asked (asks 8 1 1 3 1 0 0 0) (ones_but 4 1) 255 (replicate 16 0) 48 in
    (refusal single q ≡ 10) × (refusal before q ≡ 0)
unfolding defined own_bits
one_changed = (refl, refl)
