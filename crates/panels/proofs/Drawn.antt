-- What the writer is handed of a report stands for its plan: layer by layer the same columns.
use mathlib.Core.Path.{◌≡◌, refl, ap, ◌∙◌}
use mathlib.Core.Bool.{Bool}
use mathlib.Core.List.{[], map}
use Prim.Native.Nat.{ℕ, ◌-◌, ◌*◌, ◌<◌}
use native.Mathlib.Omega.{arith}
use lib.Dec.{T, eqb, ltb, eqb→eq, ltb→lt}
use lib.ListN.{get_or}
use borrow.Author.Tests.{eqb-true, eqb-false}
use Rattle.ground.specs.Lists.{places, every}
use Rattle.ground.proofs.Booleans.{either}
use Rattle.ground.proofs.Tests.{every_at}
use Rattle.ground.proofs.Lists.{map_twice}
use Rattle.turn.specs.Phase.{phase}
use Rattle.turn.specs.Column.{beam as beamPhases, column as columnPhases}
use Rattle.turn.proofs.Columns.{column_same}
use Rattle.plan.specs.Plan.{layer_at, pair_of, no_beam, named, column_of}
use Rattle.plan.specs.Drawing.{co_row, beam_at, column_at, Draws}
use Rattle.plan.proofs.Drawn.{beam_drawn}
use Rattle.multi.specs.declared.PanelReport.{PanelReport}
use Rattle.multi.specs.Panels.{coefficients, co_phases, Name, B, B', Column, beam_of, minus, by_rank, reached, layer_of}
use Rattle.multi.specs.Panels.{plan, InRange}
use Rattle.panels.specs.Drawing.{place, code_of, codes_of, chosen, beams_by, quarters_of, in_parts, step_of, drawing_of}
use Rattle.multi.proofs.InRange.{v_few, mode_two_lem, four_panels}
use Rattle.multi.proofs.Columns.{column, layer_is, within}
use Rattle.multi.proofs.Sound.{plan_sound}
use Rattle.panels.proofs.Codes.{code_place, panel, two_panels, all_panels}

co_drawn : (r : PanelReport) → InRange r → (c : Column)
    → map phase (co_row (in_parts (quarters_of r)) (code_of c) (2 * r.ng)) ≡ map phase (co_phases (coefficients r) (minus c))
unfolding coefficients quarters_of
co_drawn r h c =
    let few : (i : ℕ) → T (ltb i 4) → i < 4 = λ i t. ltb→lt i 4 t in
    either (eqb r.mode 2)
    (λ e.
    rw (e, mode_two_lem r h (eqb-true r.mode 2 e))
    (two_panels c _
    (panel c _ 0 _ (few 0 tt) (omega arith) (omega arith) refl (omega arith))
    (panel c _ 1 _ (few 1 tt) (omega arith) (omega arith) (omega arith) (omega arith))))
    (λ e.
    rw e
    (either (eqb r.ng 2)
    (λ f.
    rw (f, eqb-true r.ng 2 f)
    (two_panels c _
    (panel c _ 0 _ (few 0 tt) (omega arith) (omega arith) refl (omega arith))
    (panel c _ 1 _ (few 1 tt) (omega arith) (omega arith) (omega arith) (omega arith))))
    (λ f.
    rw (f, four_panels r h (eqb-false r.ng 2 f))
    (all_panels c _
    (panel c _ 0 _ (few 0 tt) (omega arith) (omega arith) refl (omega arith))
    (panel c _ 1 _ (few 1 tt) (omega arith) (omega arith) (omega arith) (omega arith))
    (panel c _ 2 _ (few 2 tt) (omega arith) (omega arith) (omega arith) (omega arith))
    (panel c _ 3 _ (few 3 tt) (omega arith) (omega arith) (omega arith) (omega arith))))))

-- B and B′, placed by rank, are the beams of the layers
pub beams_placed : (r : PanelReport) → beams_by r.v (reached r B) (reached r B') ≡ named (plan r)
unfolding beams_by named layer_of
beams_placed r =
    ap (places 8 no_beam) (map_twice _ pair_of (layer_of r) (λ c. by_name (beam_of c)) (get_or by_rank (r.v - 1) []))
  where
    by_name : (x : Name) → chosen (reached r B) (reached r B') x ≡ reached r x
    by_name B = refl
    by_name B' = refl

-- the beam at the place of a name
beam_at_lem : (r : PanelReport) → InRange r → (x : Name)
    → beam_at (drawing_of r) (place x) ≡ beamPhases (plan r).block (reached r x).l (reached r x).m
unfolding drawing_of
beam_at_lem r h x =
    let w = within r h x in
    beam_drawn (drawing_of r) (plan r).block (plan_sound r h).whole (place x) _ _ w.0 w.1 refl refl (step x)
  where
    step : (x : Name) → get_or (drawing_of r).steps (place x) 0 ≡ step_of r (reached r x)
    step B = refl
    step B' = refl

module _ (r : PanelReport) (h : InRange r) (j : ℕ) (k : j < r.v) where
  code_is : get_or (codes_of r.v) j 0 ≡ code_of (column r.v j)
  unfolding codes_of places by_rank every
  code_is =
      let same : ℕ → ℕ → Bool = λ v j. eqb (get_or (codes_of v) j 0) (code_of (column v j)) in
      let rank = every_at 5 (λ v. every v (same v)) tt r.v (omega (arith, v_few r h)) in
      eqb→eq _ _ (every_at r.v (same r.v) rank j k)

  column_drawn : column_at (drawing_of r) (get_or (drawing_of r).codes j 0) ≡ column_of (plan r) (layer_at (plan r) j)
  unfolding drawing_of column_at column_of layer_of
  column_drawn =
      let c = column r.v j in
      rw (layer_is r h j k, code_is, code_place c)
      (ap (columnPhases _) (beam_at_lem r h (beam_of c))
      ∙ column_same _ (co_phases (coefficients r) (minus c)) _ (co_drawn r h c))

pub drawing_draws : (r : PanelReport) → InRange r → Draws (plan r) (drawing_of r)
unfolding drawing_of
drawing_draws r h = record { v = refl; pairs = refl; rows = refl; columns = refl; layers = column_drawn r h }
