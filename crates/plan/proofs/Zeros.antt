-- With offsets of 0 a call answers as before there were any: by the same refusal, and with 01's phases, doubled.
use mathlib.Core.Path.{◌≡◌, refl, sym, ap, ◌∙◌}
use mathlib.Core.Logic.{◌≢◌}
use mathlib.Core.Bool.{false, not, true≢false}
use mathlib.Core.List.{List, map}
use Prim.Native.Nat.{ℕ, zero, suc}
use native.Mathlib.Omega.{arith}
use lib.Dec.{eqb}
use lib.ListN.{length, replicate}
use borrow.Author.Tests.{ne_eqb}
use Rattle.ground.specs.First.{first}
use Rattle.ground.proofs.First.{first_part, first_of}
use Rattle.offsets.specs.Offsets.{unfit}
use Rattle.offsets.proofs.Fit.{zeros_fit}
use Rattle.plan.specs.declared.Record.{Record}
use Rattle.plan.specs.Offsets.{fed_matrix}
use Rattle.plan.specs.Base.{doubled, base_matrix}
use Rattle.plan.specs.Answer.{Codebook, asked, planned, record_of, buffer_of, Answers, test, refusal, base_refusal}
use Rattle.plan.specs.Answer.{PhasesLeft}
use Rattle.plan.specs.Lawful.{Lawful}
use Rattle.plan.proofs.Base.{matrix_doubled}
use Rattle.plan.proofs.FedMatrix.{fed_matrix_zeros}
use Rattle.plan.proofs.Passed.{accepted_in_range}

-- a buffer that is to hold the same answer, where it is to hold one
same_buffer : (k : ℕ) {answer answer' : List ℕ} (lent : List ℕ) → (k ≡ 0 → answer ≡ answer')
    → buffer_of k answer lent ≡ buffer_of k answer' lent
same_buffer zero lent e = ap (λ (xs : List ℕ). buffer_of 0 xs lent) (e refl)
same_buffer (suc k) lent e = refl

module _ {R : Type 0} (b : Codebook R) {InRange : R → Type 0} (lawful : Lawful b InRange)
    (r : R) (mask : List ℕ) (ranks : ℕ) (offsets : List ℕ) where
  fit : (room : ℕ) → offsets ≡ replicate (b.plan r).ports 0 → test b (asked r mask ranks offsets room) 13 ≡ false
  unfolding test
  fit room z = ap (unfit (b.plan r).ports) z ∙ zeros_fit (b.plan r).ports

  -- the first refusal without 13 is the first of all, where 13 does not apply
  same_refusal : (room : ℕ) → offsets ≡ replicate (b.plan r).ports 0
      → refusal b (asked r mask ranks offsets room) ≡ base_refusal b (asked r mask ranks offsets room)
  unfolding refusal base_refusal
  same_refusal room z =
      let q = asked r mask ranks offsets room in
      let n = first (test b q) b.order in
      let other : n ≢ 13 =
      λ e. true≢false (sym (ap (test b q) (sym e) ∙ (first_of (test b q) b.order (λ f. absurd (omega (arith, e, f)))).holds) ∙ fit room z) in
      sym (first_part (test b q) (λ k. not (eqb k 13)) b.order (ap not (ne_eqb n 13 other)))

  doubled_answer : (room : ℕ) → offsets ≡ replicate (b.plan r).ports 0 → refusal b (asked r mask ranks offsets room) ≡ 0
      → fed_matrix offsets (b.plan r) ≡ map doubled (base_matrix (b.plan r))
  doubled_answer room z e =
      ap (λ (os : List ℕ). fed_matrix os (b.plan r)) z
      ∙ fed_matrix_zeros (b.plan r).ports (b.plan r)
      ∙ matrix_doubled (b.plan r) (lawful.sound r (accepted_in_range b lawful r mask ranks offsets room e))

  pub as_base : {lent left : List ℕ} {given : Record} → PhasesLeft b r mask ranks offsets lent given left
      → offsets ≡ replicate (b.plan r).ports 0
      → Answers (base_refusal b (asked r mask ranks offsets (length lent))) (planned (b.plan r))
      (map doubled (base_matrix (b.plan r))) lent given left
  as_base {lent} call z =
      let q = asked r mask ranks offsets (length lent) in
      let same = same_refusal (length lent) z in
      record {
        record_is = call.record_is ∙ ap (record_of (planned (b.plan r))) same;
        buffer_is =
            call.buffer_is ∙ same_buffer (refusal b q) lent (λ e. doubled_answer (length lent) z e)
            ∙ ap (λ (k : ℕ). buffer_of k (map doubled (base_matrix (b.plan r))) lent) same;
      }
