-- Which settings, modes and ranks have ranges, and how large these are.
use mathlib.Core.Path.{◌≡◌, sym, subst}
use mathlib.Core.Logic.{inl, inr}
use mathlib.Core.Bool.{Bool, true, cond, ◌||◌}
use Prim.Native.Nat.{ℕ, ◌/◌, ◌≤◌}
use native.Mathlib.Omega.{arith}
use lib.Dec.{T, eqb, ltb, eqb→eq, lit≤}
use borrow.Author.Tests.{ne_eqb, le-ltb, eqb-false, ltb-false, not-true}
use Rattle.std.proofs.lemmas.Bool.{or_parts}
use Rattle.ground.proofs.Booleans.{cond_both}
use Rattle.ground.proofs.Tests.{or_cases}
use Rattle.settings.specs.Settings.{across, down}
use Rattle.settings.specs.Ranges.{is_mode, is_rank, mode_two}
use Rattle.settings.specs.Ranges.{halves_i11, i11_values, halves_i12, i12_values, i2_values}

-- ---- what the tests say

-- 1 to 8 layers, and at most P
pub record Rank (p v : ℕ) : Type 0 where
  pub v_some : 1 ≤ v
  pub v_few : v ≤ 8
  pub v_fits : v ≤ p

module _ (p v : ℕ) where
  pub rank_of : is_rank p v ≡ true → Rank p v
  rank_of e =
      let no = or_parts (eqb v 0 || ltb 8 v) (ltb p v) (not-true _ e) in
      let no-two = or_parts (eqb v 0) (ltb 8 v) no.0 in
      record {
        v_some = omega (arith, eqb-false v 0 no-two.0);
        v_few = ltb-false 8 v no-two.1;
        v_fits = ltb-false p v no.1;
      }

  pub of_rank : Rank p v → is_rank p v ≡ true
  of_rank r = rw (ne_eqb v 0 (λ e. omega (arith, r.v_some)), le-ltb 8 v r.v_few, le-ltb p v r.v_fits)

-- mode 1 or 2
module _ (mode : ℕ) where
  pub mode_of : is_mode mode ≡ true → (1 ≤ mode) × (mode ≤ 2)
  mode_of e = elim (or_cases (eqb mode 1) (eqb mode 2) (subst T (sym e) tt)) [
    | inl q ↦ let e = eqb→eq mode 1 q in (omega arith, omega arith)
    | inr q ↦ let e = eqb→eq mode 2 q in (omega arith, omega arith)
  ]

-- ---- how many values each index has

halved_few : (b : Bool) (x : ℕ) → cond b (x / 2) x ≤ x
halved_few b x = cond_both (λ n. n ≤ x) b (omega arith) (omega arith)

pub i2_within : (n1 mode v : ℕ) → (1 ≤ i2_values n1 mode v) × (i2_values n1 mode v ≤ 16)
unfolding i2_values
i2_within n1 mode v =
    let within : ℕ → Type 0 = λ n. (1 ≤ n) × (n ≤ 16) in
    cond_both within (mode_two n1 mode v)
    (cond_both within (eqb v 1) (lit≤ tt, lit≤ tt) (lit≤ tt, lit≤ tt))
    (cond_both within (eqb v 1) (lit≤ tt, lit≤ tt) (lit≤ tt, lit≤ tt))

module _ (n1 n2 mode v : ℕ) where
  pub i11_few : i11_values n1 n2 mode v ≤ across n1
  unfolding i11_values
  i11_few = halved_few (halves_i11 n1 n2 mode v) (across n1)

  pub i12_few : i12_values n1 n2 mode v ≤ down n2
  unfolding i12_values
  i12_few = halved_few (halves_i12 n1 n2 mode v) (down n2)
