-- The plan of a report in range is sound.
use mathlib.Core.Path.{◌≡◌, refl, ap, ◌∙◌}
use mathlib.Core.Logic.{◌≢◌, inl, inr}
use mathlib.Core.Bool.{Bool, not, cond, ◌||◌}
use Prim.Native.Nat.{ℕ, ◌*◌, ◌%◌, ◌<◌, ◌≤◌}
use native.Mathlib.Nat.{mul_comm}
use native.Mathlib.Omega.{arith}
use lib.Dec.{T, eqb, eqb→eq}
use lib.ListN.{length, get_or}
use Rattle.ground.specs.Lists.{each, every}
use Rattle.ground.proofs.Tests.{or_cases, or_else, every_at}
use Rattle.turn.specs.declared.Beam.{Beam}
use Rattle.settings.specs.Settings.{o1, o2}
use Rattle.settings.specs.Ranges.{beam, k_two}
use Rattle.settings.proofs.Known as one
use Rattle.plan.specs.Sound.{StepsFrom, Told, by_co_phases, by_beams, Sound}
use Rattle.plan.proofs.Told.{two_beams, two_beams_lem}
use Rattle.multi.specs.declared.PanelReport.{PanelReport}
use Rattle.multi.specs.Panels.{panel_settings, k_three_four, panel_rows, coefficients, Column, beam_of}
use Rattle.multi.specs.Panels.{minus, by_rank, k_of, move, reached, layer_of, plan, InRange}
use Rattle.multi.proofs.Known.{at_panels}
use Rattle.multi.proofs.InRange.{set, v_some, v_few}
use Rattle.multi.proofs.Columns.{co_flipped, marks_even, length_co, co_eighths, column, panel_each, length_layers}
use Rattle.multi.proofs.Columns.{layer_is, within}

-- ---- which layers are told apart by what: one test over settings, ranks, rows of k and pairs

-- one is W¹ and one is W²
abbrev opposite : Column → Column → Bool
opposite x y = cond (minus x) (not (minus y)) (minus y)

abbrev apart : ℕ → ℕ → Beam → Column → Column → Bool
apart n1 n2 k x y =
    let a = move k (beam_of x) in
    let b = move k (beam_of y) in
    opposite x y || two_beams n1 n2 a.l a.m b.l b.m

abbrev pair_apart : ℕ → ℕ → ℕ → ℕ → ℕ → ℕ → Bool
pair_apart n1 n2 v i j k = eqb j k || apart n1 n2 (get_or (panel_rows n1 n2 v) i (beam 0 0)) (column v j) (column v k)

abbrev row_apart : ℕ → ℕ → ℕ → ℕ → Bool
row_apart n1 n2 v i = every v (λ j. every v (pair_apart n1 n2 v i j))

abbrev rank_apart : ℕ → ℕ → ℕ → Bool
rank_apart n1 n2 v = every (length (panel_rows n1 n2 v)) (row_apart n1 n2 v)

settings_apart : T (each (λ s. every 5 (rank_apart s.1 s.2)) panel_settings)
unfolding panel_settings each every by_rank panel_rows k_two k_three_four
settings_apart = tt

-- ---- a report in range

module _ (r : PanelReport) (h : InRange r) where
  layers_apart : (j k : ℕ) → j < r.v → k < r.v → j ≢ k
      → T (apart r.n1 r.n2 (k_of r) (column r.v j) (column r.v k))
  layers_apart j k hj hk ne =
      let ranks = at_panels r.ng r.n1 r.n2 (λ g a b. every 5 (rank_apart a b)) settings_apart h.setting in
      let rank = every_at 5 (rank_apart r.n1 r.n2) ranks r.v (omega (arith, v_few r h)) in
      let row = every_at _ (row_apart r.n1 r.n2 r.v) rank r.i13 h.i13 in
      let pair : ℕ → ℕ → Bool = pair_apart r.n1 r.n2 r.v r.i13 in
      let both = every_at r.v (pair j) (every_at r.v (λ j. every r.v (pair j)) row j hj) k hk in
      or_else (eqb j k) _ (λ t. ne (eqb→eq j k t)) both

  stands_so : (x : Column) → let k = move (k_of r) (beam_of x) in
      StepsFrom (plan r).block r.i11 r.i12 k.l k.m (layer_of r x)
  unfolding layer_of reached
  stands_so x =
      let k = move (k_of r) (beam_of x) in
      record { across = rw (mul_comm (o1 r.n1) k.l); down = rw (mul_comm (o2 r.n2) k.m) }

  two_told : (x y : Column) → T (apart r.n1 r.n2 (k_of r) x y) → Told (plan r).block (layer_of r x) (layer_of r y)
  unfolding layer_of
  two_told x y t =
      let cs = coefficients r in
      let a = move (k_of r) (beam_of x) in
      let b = move (k_of r) (beam_of y) in
      elim (or_cases (opposite x y) (two_beams r.n1 r.n2 a.l a.m b.l b.m) t) [
        | inl u ↦
            by_co_phases _ _ _ (co_flipped cs (minus x)) (co_flipped cs (minus y)) (marks_even cs (minus x) (minus y) u)
        | inr u ↦
            let thirds = (set r h).thirds in
            by_beams r.i11 r.i12 a.l a.m b.l b.m (stands_so x) (stands_so y)
            (two_beams_lem (plan r).block a.l a.m b.l b.m u)
            (inl (record { rows = thirds.0; columns = thirds.1 }))
      ]

  few_blocks : (2 * r.ng % 2 ≡ 0) × (2 ≤ 2 * r.ng) × (2 * r.ng ≤ 8)
  few_blocks = elim (or_cases (eqb r.ng 2) (eqb r.ng 4) (set r h).panels) [
    | inl t ↦ let e = eqb→eq r.ng 2 t in (omega arith, omega arith, omega arith)
    | inr t ↦ let e = eqb→eq r.ng 4 t in (omega arith, omega arith, omega arith)
  ]

  pub plan_sound : Sound (plan r)
  unfolding layer_of
  plan_sound =
      let k = set r h in
      record {
        whole = record { rows = k.rows; columns = k.columns };
        all = refl;
        few = k.ports_few;
        narrow = (one.known r.n1 r.n2 k.one_panel).n2_few;
        even = few_blocks.0;
        two = few_blocks.1;
        panels = few_blocks.2;
        many = length_layers r h;
        some = v_some r h;
        eight = omega (arith, v_few r h);
        reduced_l = λ j hj. rw (layer_is r h j hj) (within r h (beam_of (column r.v j))).0;
        reduced_m = λ j hj. rw (layer_is r h j hj) (within r h (beam_of (column r.v j))).1;
        long = λ j hj.
            rw (layer_is r h j hj)
            (length_co (coefficients r) (minus (column r.v j)) ∙ ap (λ (n : ℕ). 2 * n) (panel_each r h));
        eighths = λ j hj. rw (layer_is r h j hj) (co_eighths r (minus (column r.v j)));
        even_steps = k.even_steps;
        told = λ i j hi hj ne.
            rw (layer_is r h i hi, layer_is r h j hj)
            (two_told (column r.v i) (column r.v j) (layers_apart i j hi hj ne));
      }
