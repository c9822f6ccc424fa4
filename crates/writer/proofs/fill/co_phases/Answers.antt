-- Each turn stores what is added to one block more.
use Rattle.std.proofs.Common.{◌≡◌, ℕ, ◌+◌, ◌*◌, ◌/◌, ◌%◌, ◌^◌, arith, sym, ◌∙◌, append-nil, lit≤}
use native.Mathlib.Nat.{le_antisymm}
use lib.ListN.{replicate}
use Rattle.ground.proofs.Written.{stored, stored_all}
use Rattle.turn.specs.Phase.{half}
use Rattle.plan.specs.Drawing.{co_at}
use Rattle.writer.proofs.Columns.{length_row, row_at}
use Rattle.writer.proofs.fill.co_phases.Goals as goal
use Rattle.writer.proofs.fill.co_phases.Goals.{then-code-q-eq1, else-code-q-eq1}

half_added : {v : ℕ} (x c : ℕ) → v ≡ c + half → x % 2 ≡ 1 → v ≡ c + x % 2 * half
half_added x c e h = omega arith

none_added : {v : ℕ} (x c : ℕ) → v ≡ c → (x % 2 ≡ 1 → ⊥) → v ≡ c + x % 2 * half
none_added x c e h = omega arith

pub loop-q-preserved : goal.loop-q-preserved
unfolding co_at
loop-q-preserved c =
    let a = c.args in
    let q = c.loop-q.q in
    let h = c.loop-q-test.true in
    let branch = c.if-code-q-eq1.branch in
    let v : c.if-code-q-eq1.cs ≡ co_at a.co.now a.code q = elim branch [
      | then-code-q-eq1 w ↦ half_added (a.code / 2 ^ q) _ w.cs-is w.if-code-q-eq1.true
      | else-code-q-eq1 w ↦ none_added (a.code / 2 ^ q) _ w.cs-is w.if-code-q-eq1.false
    ] in
    stored (replicate 8 0) _ 8 q 0 c.loop-q.invariant (v ∙ sym (row_at a.co.now a.code 8 q h)) (length_row a.co.now a.code 8) h (lit≤ tt)

pub returns : goal.returns
returns c =
    let a = c.args in
    let all : c.loop-q.q ≡ 8 = le_antisymm c.loop-q.auto.q-end c.loop-q-test.false in
    stored_all (replicate 8 0) _ 8 c.loop-q.q c.loop-q.invariant (length_row a.co.now a.code 8) all ∙ append-nil _
