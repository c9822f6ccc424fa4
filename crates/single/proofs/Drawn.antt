-- What the writer is handed of a report stands for its plan: layer by layer the same columns.
use mathlib.Core.Path.{◌≡◌, refl, ap, ap₂, ◌∙◌}
use mathlib.Core.Bool.{cond}
use mathlib.Core.List.{List, [], ◌∷◌, map}
use Prim.Native.Nat.{ℕ, zero, suc, ◌+◌, ◌*◌, ◌/◌, ◌%◌, ◌<◌}
use native.Mathlib.Omega.{arith}
use lib.Dec.{T, eqb, eqb→eq}
use lib.ListN.{get_or}
use Rattle.ground.proofs.Booleans.{either}
use Rattle.ground.specs.Lists.{places, every}
use Rattle.ground.proofs.Tests.{every_at}
use Rattle.turn.specs.Phase.{half, phase}
use Rattle.turn.specs.Column.{beam as beam_of, column}
use Rattle.turn.proofs.Columns.{column_same}
use Rattle.settings.specs.Ranges.{beam}
use Rattle.report.specs.declared.Report.{Report}
use Rattle.report.specs.Rules.{InRange}
use Rattle.report.specs.Beams.{is_half, beams}
use Rattle.report.proofs.Moves.{moves_few}
use Rattle.report.proofs.Reached.{beams_within, four_at}
use Rattle.plan.specs.Plan.{layer_at, column_of}
use Rattle.plan.specs.Drawing.{place_of, takes, co_at, co_row, beam_at, column_at, Draws}
use Rattle.plan.proofs.Drawn.{nine_bits, beam_drawn}
use Rattle.single.specs.Columns.{Added, o, ½, f, f+½, by_rank, place, phase_of, quarters}
use Rattle.single.specs.Plan.{f_of, t_of, block_of, plan}
use Rattle.single.specs.Drawing.{ranked, codes_of, half_codes, step_of, drawing_of}
use Rattle.single.proofs.Layers.{halved, bracket, at_rank, place_at, added_to, layer_is, place_within}
use Rattle.single.proofs.Apart.{takes_f, takes_half}
use Rattle.single.proofs.Sound.{same_beams, few_blocks, plan_sound}

-- ---- codes

-- what is added to the second of two blocks, by its code, is y in phases
code_phase : (fn : ℕ) (y : Added) → phase (cond (takes_f y) 1 0 * phase fn + cond (takes_half y) 1 0 * half) ≡ phase (phase_of fn y)
code_phase fn o = omega arith
code_phase fn ½ = omega arith
code_phase fn f = omega arith
code_phase fn f+½ = omega arith

-- the codes of half-length beams, by layer, add what is added to the quarters
four_same : {a b c d a' b' c' d' : ℕ} → a ≡ a' → b ≡ b' → c ≡ c' → d ≡ d'
    → ◌≡◌ {A = List ℕ} (a ∷ b ∷ c ∷ d ∷ []) (a' ∷ b' ∷ c' ∷ d' ∷ [])
four_same p q r s = λ i. p i ∷ q i ∷ r i ∷ s i ∷ []

half_added : (fn t j : ℕ) → j < 4
    → map phase (co_row (0 ∷ phase t ∷ phase fn ∷ phase (phase fn + phase t) ∷ 0 ∷ 0 ∷ 0 ∷ 0 ∷ []) (get_or half_codes j 0) 4)
    ≡ map phase (get_or (quarters fn t) j [])
unfolding co_row co_at quarters
half_added fn t zero h =
    rw (nine_bits t, nine_bits fn, nine_bits (phase fn + phase t))
    (four_same (omega arith) (omega arith) (omega arith) (omega arith))
half_added fn t (suc zero) h =
    rw (nine_bits t, nine_bits fn, nine_bits (phase fn + phase t))
    (four_same (omega arith) (omega arith) (omega arith) (omega arith))
half_added fn t (suc (suc zero)) h =
    rw (nine_bits t, nine_bits fn, nine_bits (phase fn + phase t))
    (four_same (omega arith) (omega arith) (omega arith) (omega arith))
half_added fn t (suc (suc (suc zero))) h =
    rw (nine_bits t, nine_bits fn, nine_bits (phase fn + phase t))
    (four_same (omega arith) (omega arith) (omega arith) (omega arith))
half_added fn t (suc (suc (suc (suc j)))) h = absurd (omega arith)

-- ---- beams

-- the beam that is drawn is that of the block's setting
beam_is : (r : Report) → InRange r → (i : ℕ) → i < 4 → let x = get_or (beams r) i (beam 0 0) in
    beam_at (drawing_of r) i ≡ beam_of (block_of r) x.l x.m
unfolding drawing_of
beam_is r h i few =
    let w = beams_within r h.setting i in
    beam_drawn (drawing_of r) (block_of r) (plan_sound r h).whole i _ _ (rw (same_beams r h) w.l) w.m refl refl
    (four_at (step_of r) (beams r) i few ∙ rw (same_beams r h))

-- ---- layers

module _ (r : Report) (h : InRange r) (j : ℕ) (k : j < r.v) where
  abbrev code : ℕ
  code = get_or (drawing_of r).codes j 0

  -- what is computed alike at every layer of every rank is the same at this one
  by_rank_lem : (a b : ℕ → ℕ → ℕ) → T (every 9 (λ v. every v (λ j. eqb (a v j) (b v j)))) → a r.v j ≡ b r.v j
  by_rank_lem a b t = eqb→eq (a r.v j) (b r.v j) (at_rank r h (λ v j. eqb (a v j) (b v j)) t j k)

  code_place : place_of code ≡ place_at r j
  unfolding drawing_of codes_of ranked places by_rank every
  code_place =
      let halves = every_at 4 (λ j. eqb (place_of (get_or half_codes j 0)) 0) tt j in
      either (is_half r) (λ e. rw e (eqb→eq _ 0 (halves (omega (arith, (halved r e).0)))))
      (λ e. rw e (by_rank_lem (λ v j. place_of (get_or (codes_of v) j 0)) (λ v j. place (bracket v j).beam) tt))

  -- of whole beams: nothing is added to the first polarisation, and y to the second
  whole_added : (co : List ℕ) → let y = (bracket r.v j).added in
      map phase (co_row (0 ∷ phase (f_of r) ∷ co) (get_or (codes_of r.v) j 0) 2) ≡ map phase (0 ∷ phase_of (f_of r) y ∷ [])
  unfolding co_row co_at codes_of ranked places by_rank every
  whole_added co =
      let c : ℕ → ℕ → ℕ = λ v j. get_or (codes_of v) j 0 in
      let y : ℕ → ℕ → Added = λ v j. (bracket v j).added in
      let fs = by_rank_lem (λ v j. takes (c v j)) (λ v j. cond (takes_f (y v j)) 1 0) tt in
      let first = by_rank_lem (λ v j. c v j / 1 % 2) (λ v j. 0) tt in
      let second = by_rank_lem (λ v j. c v j / 2 % 2) (λ v j. cond (takes_half (y v j)) 1 0) tt in
      rw (fs, first, second, nine_bits (f_of r))
      (ap₂ {C = List ℕ} (λ p q. p ∷ q ∷ []) (omega arith) (code_phase (f_of r) (y r.v j)))

  code_added : map phase (co_row (drawing_of r).co code (2 * (drawing_of r).pairs)) ≡ map phase (added_to r j)
  unfolding drawing_of
  code_added =
      either (is_half r) (λ e. rw e (half_added (f_of r) (t_of r) j (omega (arith, (halved r e).0))))
      (λ e. rw e (whole_added _))

  column_drawn : column_at (drawing_of r) code ≡ column_of (plan r) (layer_at (plan r) j)
  unfolding column_at column_of
  column_drawn =
      let few : place_at r j < 4 = omega (arith, place_within r h j k, moves_few r) in
      rw (layer_is r h j k)
      (ap (column _) (ap (beam_at (drawing_of r)) code_place ∙ beam_is r h (place_at r j) few)
      ∙ column_same _ (added_to r j) _ code_added)

pub drawing_draws : (r : Report) → InRange r → Draws (plan r) (drawing_of r)
unfolding drawing_of
drawing_draws r h = record {
  v = refl;
  pairs = omega (arith, (few_blocks r).0);
  rows = refl;
  columns = refl;
  layers = column_drawn r h;
}
