-- The sizes of a setting, as they are given and field by field; and a step of 4 is a step of (O1,O2).
use mathlib.Core.Path.{◌≡◌, refl, sym, ap, ◌∙◌}
use mathlib.Core.Logic.{inl, inr}
use mathlib.Core.Bool.{Bool, true, false, cond}
use Prim.Native.Nat.{ℕ, ◌+◌, ◌*◌, ◌%◌, ◌≤◌}
use native.Mathlib.Nat.{eq-or-lt_of_le}
use native.Mathlib.Omega.{arith}
use lib.Dec.{eqb}
use borrow.Author.Tests.{lt-ltb, eqb-true}
use Rattle.ground.proofs.Booleans.{either}
use Rattle.std.specs.Prelude.{Some, None}
use Rattle.ground.specs.Cases.{◌⇒◌∣◌}
use Rattle.settings.specs.declared.Sizes.{Sizes}
use Rattle.settings.specs.Settings.{is_setting, ports, o1, o2, across, down, mask_bytes, sizes_of}

-- sizes that are given are those of a setting
pub sizes_given : (n1 n2 : ℕ) {s : Sizes} → Some s ≡ (is_setting n1 n2 ⇒ Some (sizes_of n1 n2) ∣ None)
    → (is_setting n1 n2 ≡ true) × (s ≡ sizes_of n1 n2)
sizes_given n1 n2 {s} e = go (is_setting n1 n2) (sizes_of n1 n2) e
  where
    go : (b : Bool) (x : Sizes) → Some s ≡ cond b (Some x) None → (b ≡ true) × (s ≡ x)
    go true x e = (refl, cc)
    go false x e = absurd (cc)

pub record Sized (n1 n2 : ℕ) (s : Sizes) : Type 0 where
  pub ports : s.ports ≡ ports n1 n2
  pub across : s.across ≡ across n1
  pub down : s.down ≡ down n2
  pub bytes : s.bytes ≡ mask_bytes n1 n2

pub sized : (n1 n2 : ℕ) {s : Sizes} → s ≡ sizes_of n1 n2 → is_setting n1 n2 ≡ true → Sized n1 n2 s
sized n1 n2 e set = record {
  ports = ap (λ (s : Sizes). s.ports) e ∙ rw set;
  across = ap (λ (s : Sizes). s.across) e ∙ rw set;
  down = ap (λ (s : Sizes). s.down) e ∙ rw set;
  bytes = ap (λ (s : Sizes). s.bytes) e ∙ rw set;
}

-- steps of O1: at two ports there is one l, wherever a step leads
pub step_across : (n1 x k : ℕ) → (x + 4 * k) % across n1 ≡ (x + o1 n1 * k) % across n1
step_across n1 x k = either (eqb n1 1) (λ e. rw (eqb-true n1 1 e) (omega arith)) (λ e. rw e)

-- steps of O2: for N2 = 1 there is one m, wherever a step leads
pub step_down : (n2 x k : ℕ) → 1 ≤ n2 → (x + 4 * k) % down n2 ≡ (x + o2 n2 * k) % down n2
step_down n2 x k h = elim (eq-or-lt_of_le h) [
  | inl e ↦ rw (sym e) (omega arith)
  | inr l ↦ rw (lt-ltb 1 n2 l)
]
