-- The values of each index by rank: compared with their definitions at every setting, mode and rank, and given where none of
-- these is refused.
use mathlib.Core.Path.{◌≡◌, sym, ap, subst, ◌∙◌}
use mathlib.Core.Bool.{Bool, true, not, ◌&&◌, ◌||◌}
use Prim.Native.Nat.{ℕ, ◌-◌, ◌/◌}
use native.Mathlib.Omega.{arith}
use lib.Dec.{T, eqb, leb, ltb, eqb→eq}
use Rattle.std.specs.Prelude.{Ok, Some, None}
use Rattle.ground.specs.Cases.{◌⇒◌∣◌}
use Rattle.ground.specs.Lists.{each, every}
use Rattle.ground.proofs.Booleans.{and_true_left, and_true_right}
use Rattle.ground.proofs.Tests.{and_left, and_right, or_else, every_at}
use Rattle.settings.specs.declared.Ranges.{Ranges}
use Rattle.settings.specs.declared.Sizes.{Sizes}
use Rattle.settings.specs.Settings.{settings, is_setting, ports, across, down, mask_bytes, sizes_of}
use Rattle.settings.specs.Ranges.{is_mode, is_rank, is_ranked, ranges_of, mode_two, half_length, k_two, k_three, k_rows}
use Rattle.settings.specs.Ranges.{halves_i11, i11_values, halves_i12, i12_values, i13_values, i2_values}
use Rattle.settings.specs.Outcome.{told, unranked}
use Rattle.settings.proofs.Known.{at_setting}
use Rattle.settings.proofs.Ranked.{mode_of, rank_of}
use Rattle.settings.proofs.Steps.{sized, sizes_given}

-- the values of i11, i12, i13 and i2
abbrev Values : Type 0
Values = ℕ × ℕ × ℕ × ℕ

abbrev pub given : Sizes → Values → Ranges
given s q = record { sizes = s; i11 = q.0; i12 = q.1; i13 = q.2; i2 = q.3 }

-- as the code gives them
abbrev second : Sizes → ℕ → ℕ
second s v = eqb v 1 ⇒ 1 ∣ ltb s.ports 8 ⇒ s.ports / 2 ∣ 4

unfoldable pub by_rank : Sizes → ℕ → ℕ → ℕ → ℕ → Values
by_rank s n1 n2 mode v =
    leb v 2 ⇒ (
      mode_two n1 mode v ⇒ s.across / 2 ∣ s.across,
      mode_two n1 mode v ⇒ s.down - s.down / 2 ∣ s.down,
      second s v,
      mode_two n1 mode v ⇒ (eqb v 1 ⇒ 16 ∣ 8) ∣ (eqb v 1 ⇒ 4 ∣ 2),
    )
    ∣ leb v 4 ⇒ (
      leb 16 s.ports ⇒ s.across / 2 ∣ s.across,
      s.down,
      leb 16 s.ports ⇒ 4 ∣ eqb s.ports 8 ⇒ 3 ∣ eqb s.ports 4 ⇒ 1 ∣ 4,
      2,
    )
    ∣ leb v 6 ⇒ (s.across, s.down, 1, 2)
    ∣ (
      not (eqb n2 2) && eqb s.ports 8 ⇒ s.across / 2 ∣ s.across,
      eqb n2 2 && ltb 2 n1 ⇒ s.down / 2 ∣ s.down,
      1,
      2,
    )

abbrev sizes_at : ℕ → ℕ → Sizes
sizes_at n1 n2 = record { ports = ports n1 n2; across = across n1; down = down n2; bytes = mask_bytes n1 n2 }

-- whether these are the values of the definitions
right : ℕ → ℕ → ℕ → ℕ → Values → Bool
right n1 n2 mode v q =
    eqb q.0 (i11_values n1 n2 mode v) && eqb q.1 (i12_values n1 n2 mode v)
    && eqb q.2 (i13_values n1 n2 v) && eqb q.3 (i2_values n1 mode v)

module _ (n1 n2 mode v : ℕ) (ranked : is_ranked n1 n2 mode v ≡ true) where
  known_mode : (is_setting n1 n2 && is_mode mode) ≡ true
  known_mode = and_true_left (is_setting n1 n2 && is_mode mode) (is_rank (ports n1 n2) v) ranked

  setting : is_setting n1 n2 ≡ true
  setting = and_true_left (is_setting n1 n2) (is_mode mode) known_mode

  -- a test that passes at every setting, at modes up to 2 and at all ranks passes here
  all_right : T (right n1 n2 mode v (by_rank (sizes_at n1 n2) n1 n2 mode v))
  unfolding right by_rank settings each every mode_two half_length k_two k_three k_rows
      halves_i11 i11_values halves_i12 i12_values i13_values i2_values
  all_right =
      let f : ℕ → ℕ → ℕ → ℕ → Bool =
      λ a b m k. not (is_rank (ports a b) k) || right a b m k (by_rank (sizes_at a b) a b m k) in
      let m = mode_of mode (and_true_right (is_setting n1 n2) (is_mode mode) known_mode) in
      let rank = and_true_right (is_setting n1 n2 && is_mode mode) (is_rank (ports n1 n2) v) ranked in
      let modes = at_setting n1 n2 (λ a b. every 3 (λ m. every 9 (f a b m))) tt setting in
      let ranks = every_at 3 (λ m. every 9 (f n1 n2 m)) modes mode (omega arith) in
      let passed = every_at 9 (f n1 n2 mode) ranks v (omega (arith, (rank_of (ports n1 n2) v rank).v_few)) in
      or_else (not (is_rank (ports n1 n2) v)) (right n1 n2 mode v (by_rank (sizes_at n1 n2) n1 n2 mode v))
      (λ z. subst (λ b. T (not b)) rank z) passed

  right_given : (q : Values) → T (right n1 n2 mode v q) → given (sizes_of n1 n2) q ≡ ranges_of n1 n2 mode v
  unfolding right
  right_given q t =
      let a = eqb q.0 (i11_values n1 n2 mode v) in
      let b = eqb q.1 (i12_values n1 n2 mode v) in
      let c = eqb q.2 (i13_values n1 n2 v) in
      let d = eqb q.3 (i2_values n1 mode v) in
      let abc = and_left (a && b && c) d t in
      let ab = and_left (a && b) c abc in
      rw (
        ranked,
        eqb→eq q.0 (i11_values n1 n2 mode v) (and_left a b ab),
        eqb→eq q.1 (i12_values n1 n2 mode v) (and_right a b ab),
        eqb→eq q.2 (i13_values n1 n2 v) (and_right (a && b) c abc),
        eqb→eq q.3 (i2_values n1 mode v) (and_right (a && b && c) d t),
      )

  pub by_rank_lem : {s : Sizes} → s ≡ sizes_of n1 n2 → given s (by_rank s n1 n2 mode v) ≡ ranges_of n1 n2 mode v
  by_rank_lem e =
      let set : sizes_of n1 n2 ≡ sizes_at n1 n2 = rw setting in
      ap (λ (s : Sizes). given s (by_rank s n1 n2 mode v)) (e ∙ set)
      ∙ ap (λ (s : Sizes). given s (by_rank (sizes_at n1 n2) n1 n2 mode v)) (sym set)
      ∙ right_given (by_rank (sizes_at n1 n2) n1 n2 mode v) all_right

-- no test turned the mode or the rank away, and the values are those of the rank
pub ranked_told : (n1 n2 mode v : ℕ) {s : Sizes} {x : Ranges}
    → Some s ≡ (is_setting n1 n2 ⇒ Some (sizes_of n1 n2) ∣ None)
    → is_mode mode ≡ true → is_rank s.ports v ≡ true → x ≡ given s (by_rank s n1 n2 mode v)
    → Ok x ≡ told (ranges_of n1 n2 mode v) (sizes_of n1 n2) (unranked n1 n2 mode v)
ranked_told n1 n2 mode v {s} known m h e =
    let set = sizes_given n1 n2 known in
    let rank : is_rank (ports n1 n2) v ≡ true = rw (← (sized n1 n2 set.1 set.0).ports) h in
    let none : unranked n1 n2 mode v ≡ 0 = rw (set.0, m, rank) in
    rw none (ap Ok (e ∙ by_rank_lem n1 n2 mode v (rw (set.0, m, rank)) set.1))
