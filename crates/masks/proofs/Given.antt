-- What is given, case by case in the order of the tests.
use mathlib.Core.Path.{◌≡◌, refl, sym}
use mathlib.Core.Logic.{◌≢◌}
use mathlib.Core.Bool.{false}
use mathlib.Core.List.{List}
use Prim.Native.Nat.{ℕ, zero, suc}
use native.Mathlib.Omega.{arith}
use lib.Dec.{eqb, ltb}
use lib.ListN.{length}
use borrow.Author.Tests.{eq-eqb, ne_eqb}
use Rattle.std.specs.Prelude.{Err}
use Rattle.ground.specs.Cases.{◌⇒◌∣◌}
use Rattle.ground.proofs.Booleans.{either}
use Rattle.offsets.specs.Offsets.{unfit}
use Rattle.refusal.specs.Outcome.{refused, outcome}
use Rattle.plan.specs.Masks.{barred, rank_barred}
use Rattle.masks.specs.declared.Needs.{Needs}
use Rattle.masks.specs.Admitted.{bits_of, is_refused, then, before_bits, admitted}

-- whether an outcome is the refusal of a number, by its own
pub is_refused_at : (k n : ℕ) → is_refused (suc k) (outcome n) ≡ eqb n (suc k)
is_refused_at k zero = sym (ne_eqb 0 (suc k) (λ e. omega arith))
is_refused_at k (suc n) = refl

-- none of 1 to 4 is given
pub record Passed (x : Needs) (mask : List ℕ) : Type 0 where
  pub not_one : is_refused 1 x.own ≡ false
  pub not_two : is_refused 2 x.own ≡ false
  pub long : length mask ≡ x.bytes
  pub not_four : is_refused 4 x.own ≡ false

module _ (x : Needs) (mask : List ℕ) (ranks : ℕ) (offsets : List ℕ) (room : ℕ) where
  pub gives_one : x.own ≡ outcome 1 → admitted x mask ranks offsets room ≡ outcome 1
  unfolding before_bits admitted
  gives_one one = rw one

  pub gives_two : x.own ≡ outcome 2 → admitted x mask ranks offsets room ≡ outcome 2
  unfolding before_bits admitted
  gives_two two = rw two

  pub gives_three : is_refused 1 x.own ≡ false → is_refused 2 x.own ≡ false → length mask ≢ x.bytes
      → admitted x mask ranks offsets room ≡ outcome 3
  unfolding before_bits admitted
  gives_three not_one not_two other = rw (not_one, not_two, ne_eqb _ _ other)

  pub gives_four : length mask ≡ x.bytes → x.own ≡ outcome 4 → admitted x mask ranks offsets room ≡ outcome 4
  unfolding before_bits admitted
  gives_four long four = rw (four, eq-eqb _ _ long)

  -- what is left past these
  pub passed : Passed x mask → admitted x mask ranks offsets room
      ≡ (rank_barred ranks x.v ⇒ Err (refused 5)
      ∣ then x.own (outcome (
      barred mask (bits_of x.width x.beams.now) ⇒ 10 ∣ unfit x.ports offsets ⇒ 13 ∣ ltb room x.entries ⇒ 11 ∣ 0)))
  unfolding before_bits admitted
  passed p =
      rw (p.not_one, p.not_two, eq-eqb _ _ p.long, p.not_four)
      (either (rank_barred ranks x.v) (λ e. rw e) (λ e. rw e))
