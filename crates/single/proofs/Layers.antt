-- The layers of a report: how many there are, their beams and their co-phases.
use mathlib.Core.Path.{◌≡◌, ap, ◌∙◌}
use mathlib.Core.Bool.{Bool, true, false, cond, ◌&&◌, ◌||◌}
use mathlib.Core.List.{List, [], ◌∷◌}
use Prim.Native.Nat.{ℕ, ◌+◌, ◌-◌, ◌*◌, ◌/◌, ◌<◌, ◌≤◌}
use native.Mathlib.Omega.{arith}
use lib.Dec.{T, eqb, leb, ltb, eqb→eq, ltb→lt}
use lib.ListN.{length, get_or, take, length-map}
use lib.Seq.{length-take-le, get_or-take}
use borrow.Author.Tests.{leb-true}
use Rattle.std.proofs.lemmas.List.{get_or-map}
use Rattle.ground.specs.Lists.{every, each}
use Rattle.ground.proofs.Booleans.{either, and_true_left, and_true_right}
use Rattle.ground.proofs.Tests.{or_else, every_at}
use Rattle.turn.specs.declared.Beam.{Beam}
use Rattle.settings.specs.Settings.{settings, ports}
use Rattle.settings.specs.Ranges.{beam, half_length}
use Rattle.settings.proofs.Known.{at_setting}
use Rattle.report.specs.declared.Report.{Report}
use Rattle.report.specs.Rules.{InRange}
use Rattle.report.specs.Beams.{is_half, moves, beams}
use Rattle.report.proofs.InRange.{v_some, v_few}
use Rattle.report.proofs.Moves.{counted, moves_some, length_moves}
use Rattle.plan.specs.Plan.{layer_at}
use Rattle.single.specs.Columns.{B, f, Bracket, ◌⨾◌, by_rank, place, phase_of, quarters}
use Rattle.single.specs.Plan.{f_of, t_of, with_beam, whole, quartered, layers, plan}

-- ---- half-length beams

-- they are used with three layers or four, on sixteen ports and more
pub halved : (r : Report) → is_half r ≡ true → (r.v ≤ 4) × (16 ≤ ports r.n1 r.n2) × (3 ≤ r.v)
unfolding half_length
halved r e =
    let a = leb 3 r.v in
    let b = leb r.v 4 in
    let d = leb 16 (ports r.n1 r.n2) in (
      leb-true _ 4 (and_true_right a b (and_true_left (a && b) d e)),
      leb-true 16 _ (and_true_right (a && b) d e),
      leb-true 3 _ (and_true_left a b (and_true_left (a && b) d e)),
    )

-- N1 is even there
pub even_rows : (r : Report) → InRange r → is_half r ≡ true → r.n1 / 2 * 2 ≡ r.n1
unfolding settings each
even_rows r h e =
    let few = ltb (ports r.n1 r.n2) 16 in
    let test = at_setting r.n1 r.n2 (λ a b. ltb (ports a b) 16 || eqb (a / 2 * 2) a) tt h.setting in
    eqb→eq _ _ (or_else few _ (λ t. omega (arith, ltb→lt (ports r.n1 r.n2) 16 t, (halved r e).1)) test)

-- ---- layers

-- the brackets of a rank, that of layer j, and for half-length beams what is added to the quarters
abbrev pub brackets : ℕ → List Bracket
brackets v = get_or by_rank (v - 1) []

abbrev pub bracket : ℕ → ℕ → Bracket
bracket v j = get_or (brackets v) j (B ⨾ f)

abbrev pub halves : Report → List (List ℕ)
halves r = quarters (f_of r) (t_of r)

-- of layer j: the place of its beam, the beam, and what is added to its blocks
abbrev pub place_at : Report → ℕ → ℕ
place_at r j = cond (is_half r) 0 (place (bracket r.v j).beam)

abbrev pub layer_beam : Report → ℕ → Beam
layer_beam r j = get_or (beams r) (place_at r j) (beam 0 0)

abbrev pub added_to : Report → ℕ → List ℕ
added_to r j = cond (is_half r) (get_or (halves r) j []) (0 ∷ phase_of (f_of r) (bracket r.v j).added ∷ [])

module _ (r : Report) (h : InRange r) where
  -- a test that passes at every layer of every rank passes at this rank
  pub at_rank : (test : ℕ → ℕ → Bool) → T (every 9 (λ v. every v (test v))) → (j : ℕ) → j < r.v → T (test r.v j)
  at_rank test t =
      every_at r.v (test r.v) (every_at 9 (λ v. every v (test v)) t r.v (omega (arith, v_few r h)))

  -- v brackets at rank v
  pub length_rank : length (brackets r.v) ≡ r.v
  unfolding by_rank every
  length_rank =
      let ranks = every_at 8 (λ k. eqb (length (get_or by_rank k [])) (k + 1)) tt in
      eqb→eq _ (r.v - 1 + 1) (ranks (r.v - 1) (omega (arith, v_few r h))) ∙ omega (arith, v_some r h)

  -- v layers at rank v
  pub length_layers : length (layers r) ≡ r.v
  unfolding layers quarters
  length_layers =
      either (is_half r) (λ e. rw (e, length-map) (length-take-le r.v (halves r) (halved r e).0))
      (λ e. rw (e, length-map) length_rank)

  module _ (j : ℕ) (k : j < r.v) where
    pub layer_is : layer_at (plan r) j ≡ with_beam (layer_beam r j) (added_to r j)
    unfolding layers whole quartered quarters
    layer_is =
        either (is_half r)
        (λ e.
        let long = length-take-le r.v (halves r) (halved r e).0 in
        rw e
        (get_or-map (quartered r) (take r.v (halves r)) j [] _ (omega arith)
        ∙ ap (quartered r) (get_or-take r.v (halves r) j [] k)))
        (λ e. let long = length_rank in rw e (get_or-map (whole r) (brackets r.v) j (B ⨾ f) _ (omega arith)))

    -- its beam is one of the report's
    pub place_within : place_at r j < length (moves r)
    unfolding every by_rank
    place_within =
        let test = at_rank (λ v j. ltb (place (bracket v j).beam) (counted v (eqb v 1 || false))) tt j k in
        either (is_half r) (λ e. rw e (moves_some r)) (λ e. rw (length_moves r, e) (ltb→lt _ _ test))
