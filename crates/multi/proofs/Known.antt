-- What is known of every setting of panels: tests computed over the list of them, and lifted to each.
use mathlib.Core.Path.{◌≡◌, refl, sym, subst, ◌∙◌}
use mathlib.Core.Bool.{Bool, true, false, cond, beq, ◌&&◌, ◌||◌}
use Prim.Native.Nat.{ℕ, ◌*◌, ◌/◌, ◌%◌, ◌≤◌}
use native.Mathlib.Omega.{arith}
use lib.Dec.{T, eqb, leb, ltb, eqb→eq, leb→le, ltb→lt}
use lib.ListN.{length}
use Rattle.ground.specs.Lists.{some, each}
use Rattle.ground.proofs.Booleans.{either, is_true, is_false, same_truth}
use Rattle.ground.proofs.Tests.{and_left, and_right, two_eq}
use Rattle.ground.proofs.Lists.{at_some}
use Rattle.turn.specs.Phase.{turn}
use Rattle.settings.specs.Settings.{settings, is_setting, ports, across, down, sizes_of}
use Rattle.settings.specs.Ranges.{k_two}
use Rattle.settings.proofs.Known.{at_setting}
use Rattle.multi.specs.Panels.{panel_settings, is_panel_setting, panel_ports, k_three_four}

module _ (ng n1 n2 : ℕ) where
  -- a test that passes at every setting passes at this one
  pub at_panels : (f : ℕ → ℕ → ℕ → Bool) → T (each (λ s. f s.0 s.1 s.2) panel_settings)
      → is_panel_setting ng n1 n2 ≡ true → T (f ng n1 n2)
  unfolding is_panel_setting
  at_panels f t e =
      at_some (T (f ng n1 n2)) (λ s. eqb ng s.0 && eqb n1 s.1 && eqb n2 s.2) (λ s. f s.0 s.1 s.2)
      (λ s same p.
      let two = and_left (eqb ng s.0 && eqb n1 s.1) (eqb n2 s.2) same in
      let e0 = eqb→eq ng s.0 (and_left (eqb ng s.0) (eqb n1 s.1) two) in
      let e1 = eqb→eq n1 s.1 (and_right (eqb ng s.0) (eqb n1 s.1) two) in
      let e2 = eqb→eq n2 s.2 (and_right (eqb ng s.0 && eqb n1 s.1) (eqb n2 s.2) same) in
      rw (e0, e1, e2) p)
      panel_settings t (subst T (sym e) tt)

-- what is known of one
pub record Known (ng n1 n2 : ℕ) : Type 0 where
  pub panels : T (eqb ng 2 || eqb ng 4)
  pub one_panel : is_setting n1 n2 ≡ true
  pub above_two : n1 ≡ 1 → ⊥
  pub ports_few : panel_ports ng n1 n2 ≤ 32
  pub rows : across n1 * (turn / across n1) ≡ turn
  pub columns : down n2 * (turn / down n2) ≡ turn
  pub thirds : (turn / n1 % 3 ≡ 0) × (turn / n2 % 3 ≡ 0)
  pub even_steps : (turn / across n1 % 2 ≡ 0) × (turn / down n2 % 2 ≡ 0)
  pub two_rows : length (k_two n1 n2) ≡ cond (eqb (ports n1 n2) 4) 2 4
  pub more_rows : length (k_three_four n1 n2) ≡ cond (eqb (ports n1 n2) 4) 1 (cond (eqb (ports n1 n2) 8) 3 4)

pub known : (ng n1 n2 : ℕ) → is_panel_setting ng n1 n2 ≡ true → Known ng n1 n2
unfolding panel_settings each settings some is_setting k_two k_three_four
known ng n1 n2 e =
    let at : (f : ℕ → ℕ → ℕ → Bool) → T (each (λ s. f s.0 s.1 s.2) panel_settings) → T (f ng n1 n2) =
    λ f t. at_panels ng n1 n2 f t e in
    record {
      panels = at (λ g a b. eqb g 2 || eqb g 4) tt;
      one_panel = is_true (is_setting n1 n2) (at (λ g a b. is_setting a b) tt);
      above_two = λ one. omega (arith, ltb→lt 1 n1 (at (λ g a b. ltb 1 a) tt));
      ports_few = leb→le (panel_ports ng n1 n2) 32 (at (λ g a b. leb (panel_ports g a b) 32) tt);
      rows = eqb→eq (across n1 * (turn / across n1)) turn (at (λ g a b. eqb (across a * (turn / across a)) turn) tt);
      columns = eqb→eq (down n2 * (turn / down n2)) turn (at (λ g a b. eqb (down b * (turn / down b)) turn) tt);
      thirds =
          two_eq (turn / n1 % 3) 0 (turn / n2 % 3) 0 (at (λ g a b. eqb (turn / a % 3) 0 && eqb (turn / b % 3) 0) tt);
      even_steps =
          two_eq (turn / across n1 % 2) 0 (turn / down n2 % 2) 0
          (at (λ g a b. eqb (turn / across a % 2) 0 && eqb (turn / down b % 2) 0) tt);
      two_rows =
          eqb→eq (length (k_two n1 n2)) (cond (eqb (ports n1 n2) 4) 2 4)
          (at (λ g a b. eqb (length (k_two a b)) (cond (eqb (ports a b) 4) 2 4)) tt);
      more_rows =
          eqb→eq (length (k_three_four n1 n2)) (cond (eqb (ports n1 n2) 4) 1 (cond (eqb (ports n1 n2) 8) 3 4))
          (at (λ g a b. eqb (length (k_three_four a b)) (cond (eqb (ports a b) 4) 1 (cond (eqb (ports a b) 8) 3 4))) tt);
    }

-- a setting, by the ports of one panel
abbrev pub by_ports : ℕ → ℕ → Bool
by_ports ng p = cond (eqb p 16) (eqb ng 2) (cond (eqb p 8 || eqb p 4) (eqb ng 2 || eqb ng 4) false)

pub by_ports_lem : (ng n1 n2 : ℕ) → by_ports ng (sizes_of n1 n2).ports ≡ is_panel_setting ng n1 n2
unfolding is_panel_setting panel_settings settings each some
by_ports_lem ng n1 n2 =
    either (is_setting n1 n2)
    (λ set.
    let same : ℕ → ℕ → ℕ → Bool = λ g a b. beq (by_ports g (ports a b)) (is_panel_setting g a b) in
    let two = same_truth _ _ (at_setting n1 n2 (same 2) tt set) in
    let four = same_truth _ _ (at_setting n1 n2 (same 4) tt set) in
    rw set
    (either (eqb ng 2) (λ e. rw (eqb→eq ng 2 (subst T (sym e) tt)) two)
    (λ e.
    either (eqb ng 4) (λ f. rw (eqb→eq ng 4 (subst T (sym f) tt)) four)
    (λ f. rw (e, f) (neither (eqb (ports n1 n2) 16) (eqb (ports n1 n2) 8 || eqb (ports n1 n2) 4))))))
    (λ none.
    rw none
    (is_false (is_panel_setting ng n1 n2)
    (λ e. subst (λ (t : Bool). cond t ⊥ (T true)) (sym none ∙ (known ng n1 n2 e).one_panel) tt)))
  where
    neither : (s t : Bool) → cond s false (cond t false false) ≡ false
    neither true t = refl
    neither false true = refl
    neither false false = refl
