-- A report of any lawful codebook that no refusal applies to: none of its rules does, it is in range, its offsets are fit,
-- and there is room.
use mathlib.Core.Path.{◌≡◌, sym, subst, ◌∙◌}
use mathlib.Core.Bool.{false}
use mathlib.Core.List.{List}
use Prim.Native.Nat.{ℕ, ◌*◌, ◌<◌, ◌≤◌}
use lib.Dec.{T, eqb}
use lib.ListN.{length}
use borrow.Author.Tests.{ltb-false, ne_eqb}
use Rattle.ground.specs.Lists.{All}
use Rattle.ground.specs.First.{part, None}
use Rattle.ground.proofs.First.{first_none, among_part}
use Rattle.turn.specs.Phase.{turn}
use Rattle.offsets.specs.Offsets.{unfit}
use Rattle.offsets.proofs.Fit.{fit_offsets}
use Rattle.plan.specs.Answer.{Request, Codebook, asked, own, early, test, refusal}
use Rattle.plan.specs.Lawful.{Lawful}

-- at a number that is not shared the test is the rule
own_rule : {R : Type 0} (b : Codebook R) (q : Request R) (k : ℕ) → T (own k) → test b q k ≡ b.rule q.report k
unfolding test early
own_rule b q k t = rw (off 10 (λ z. z), off 13 (λ z. z), off 11 (λ z. z), off 3 (λ z. z), off 5 (λ z. z))
  where
    off : (n : ℕ) → (T (own n) → ⊥) → eqb k n ≡ false
    off n h = ne_eqb k n (λ e. h (subst (λ (j : ℕ). T (own j)) e t))

-- where no test holds, no rule does
pub rules_passed : {R : Type 0} (b : Codebook R) (q : Request R) → None (test b q) b.order
    → None (b.rule q.report) (part own b.order)
rules_passed b q n = record {
  at = λ k t.
      let p = among_part own b.order k t in
      sym (own_rule b q k p.0) ∙ n.at k p.1;
}

module _ {R : Type 0} (b : Codebook R) {InRange : R → Type 0} (lawful : Lawful b InRange)
    (r : R) (mask : List ℕ) (ranks : ℕ) (offsets : List ℕ) (room : ℕ)
    (z : refusal b (asked r mask ranks offsets room) ≡ 0) where
  pub accepted_none : None (test b (asked r mask ranks offsets room)) b.order
  unfolding refusal
  accepted_none = first_none _ b.order lawful.order_numbered z

  pub accepted_in_range : InRange r
  accepted_in_range = (lawful.in_range r).0 (rules_passed b (asked r mask ranks offsets room) accepted_none)

  pub accepted_fits : (b.plan r).v * (b.plan r).ports ≤ room
  unfolding test
  accepted_fits = ltb-false room ((b.plan r).v * (b.plan r).ports) (accepted_none.at 11 lawful.last_three.2)

  -- there is an offset for each port, and none is a turn or more
  pub accepted_fed : (length offsets ≡ (b.plan r).ports) × All (λ o. o < turn) offsets
  unfolding test unfit
  accepted_fed = fit_offsets _ offsets (accepted_none.at 13 lawful.last_three.1)
