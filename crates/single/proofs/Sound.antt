-- The plan of a report in range is sound.
use mathlib.Core.Path.{◌≡◌, refl, sym, ap, ◌∙◌}
use mathlib.Core.Bool.{true, ◌&&◌}
use mathlib.Core.List.{[], ◌∷◌}
use Prim.Native.Nat.{ℕ, zero, suc, ◌*◌, ◌/◌, ◌%◌, ◌<◌, ◌≤◌}
use native.Mathlib.Nat.{mul_assoc}
use native.Mathlib.Omega.{arith}
use lib.Dec.{eqb, eqb→eq}
use lib.ListN.{length, get_or}
use Rattle.ground.specs.Lists.{each, every, all_nil, all_cons}
use Rattle.ground.proofs.Booleans.{either, cond_both}
use Rattle.ground.proofs.Tests.{every_at, two_eq}
use Rattle.turn.specs.Phase.{turn, eighth}
use Rattle.turn.specs.Cancel.{Multiples}
use Rattle.settings.specs.Settings.{settings, is_setting, ports, o1, across, down}
use Rattle.settings.proofs.Known.{known, at_setting, ports_few}
use Rattle.report.specs.declared.Report.{Report}
use Rattle.report.specs.Rules.{InRange}
use Rattle.report.specs.Beams.{is_half}
use Rattle.report.proofs.InRange.{v_some, v_few}
use Rattle.report.proofs.Reached.{beams_within}
use Rattle.plan.specs.Plan.{layer_at}
use Rattle.plan.specs.Sound.{Sound}
use Rattle.single.specs.Columns.{phase_of, quarters}
use Rattle.single.specs.Plan.{f_of, blocks, rows, block_of, plan}
use Rattle.single.proofs.Layers.{halved, even_rows, length_layers}
use Rattle.single.proofs.Layers.{bracket, halves, place_at, layer_is}
use Rattle.single.proofs.Told.{added_quarters, told}

-- a turn is a whole number of steps of a beam
pub whole_steps : (n1 n2 : ℕ) → is_setting n1 n2 ≡ true
    → (across n1 * (turn / across n1) ≡ turn) × (down n2 * (turn / down n2) ≡ turn)
unfolding settings each
whole_steps n1 n2 e =
    two_eq (across n1 * (turn / across n1)) turn (down n2 * (turn / down n2)) turn
    (at_setting n1 n2 (λ a b. eqb (across a * (turn / across a)) turn && eqb (down b * (turn / down b)) turn) tt e)

-- and a step is an even number of parts
even_steps : (n1 n2 : ℕ) → is_setting n1 n2 ≡ true → (turn / across n1 % 2 ≡ 0) × (turn / down n2 % 2 ≡ 0)
unfolding settings each
even_steps n1 n2 e =
    two_eq (turn / across n1 % 2) 0 (turn / down n2 % 2) 0
    (at_setting n1 n2 (λ a b. eqb (turn / across a % 2) 0 && eqb (turn / down b % 2) 0) tt e)

-- f and t are whole eighths of a turn, and so is what is added to the quarters
four_multiples : (a b c : ℕ) → a % eighth ≡ 0 → b % eighth ≡ 0 → c % eighth ≡ 0 → Multiples eighth (0 ∷ a ∷ b ∷ c ∷ [])
four_multiples a b c p q s = all_cons refl (all_cons p (all_cons q (all_cons s all_nil)))

quarters_eighths : (r : Report) (j : ℕ) → Multiples eighth (get_or (halves r) j [])
unfolding quarters
quarters_eighths r zero = four_multiples _ _ _ (omega arith) (omega arith) (omega arith)
quarters_eighths r (suc zero) = four_multiples _ _ _ (omega arith) (omega arith) (omega arith)
quarters_eighths r (suc (suc zero)) = four_multiples _ _ _ (omega arith) (omega arith) (omega arith)
quarters_eighths r (suc (suc (suc zero))) = four_multiples _ _ _ (omega arith) (omega arith) (omega arith)
quarters_eighths r (suc (suc (suc (suc j)))) = all_nil

-- two or four blocks
pub few_blocks : (r : Report) → (blocks r % 2 ≡ 0) × (2 ≤ blocks r) × (blocks r ≤ 4)
few_blocks r =
    cond_both (λ n. (n % 2 ≡ 0) × (2 ≤ n) × (n ≤ 4)) (is_half r) (refl, omega arith, omega arith)
    (refl, omega arith, omega arith)

module _ (r : Report) (h : InRange r) where
  -- half-length beams: half of the rows, and as many beams as whole ones
  pub same_beams : (block_of r).n1 * (block_of r).o1 ≡ across r.n1
  same_beams =
      let o = o1 r.n1 in
      either (is_half r) (λ e. rw e (sym (mul_assoc (r.n1 / 2) 2 o) ∙ ap (λ (n : ℕ). n * o) (even_rows r h e)))
      (λ e. rw e)

  -- all blocks: an entry for each port
  all_ports : blocks r * (rows r * r.n2) ≡ ports r.n1 r.n2
  all_ports =
      either (is_half r) (λ e. rw e (omega (arith, ap (λ (n : ℕ). n * r.n2) (even_rows r h e)))) (λ e. rw e)

  module _ (j : ℕ) (hj : j < r.v) where
    reached : ((layer_at (plan r) j).l < across r.n1) × ((layer_at (plan r) j).m < down r.n2)
    reached = let x = beams_within r h.setting (place_at r j) in rw (layer_is r h j hj) (x.l, x.m)

    -- a co-phase for each block
    long : length (layer_at (plan r) j).co ≡ blocks r
    unfolding quarters every
    long =
        let four = every_at 4 (λ j. eqb (length (get_or (halves r) j [])) 4) tt j in
        rw (layer_is r h j hj)
        (either (is_half r) (λ e. rw e (eqb→eq _ 4 (four (omega (arith, (halved r e).0))))) (λ e. rw e))

    eighths : Multiples eighth (layer_at (plan r) j).co
    eighths =
        let y = (bracket r.v j).added in
        let second : phase_of (f_of r) y % eighth ≡ 0 = omega (arith, added_quarters r y) in
        rw (layer_is r h j hj)
        (cond_both (Multiples eighth) (is_half r) (quarters_eighths r j) (all_cons refl (all_cons second all_nil)))

  pub plan_sound : Sound (plan r)
  plan_sound =
      let steps = whole_steps r.n1 r.n2 h.setting in
      record {
        whole = record { rows = rw same_beams steps.0; columns = steps.1 };
        all = all_ports;
        few = ports_few r.n1 r.n2 h.setting;
        narrow = (known r.n1 r.n2 h.setting).n2_few;
        even = (few_blocks r).0;
        two = (few_blocks r).1;
        panels = omega (arith, (few_blocks r).2);
        many = length_layers r h;
        some = v_some r h;
        eight = v_few r h;
        reduced_l = λ j hj. rw same_beams (reached j hj).0;
        reduced_m = λ j hj. (reached j hj).1;
        long = long;
        eighths = eighths;
        even_steps = rw same_beams (even_steps r.n1 r.n2 h.setting);
        told = told r h;
      }
