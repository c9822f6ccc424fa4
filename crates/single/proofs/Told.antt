-- Any two layers of a report in range are told apart, by their co-phases or by their beams.
use mathlib.Core.Path.{◌≡◌, refl, sym, ap, ◌∙◌}
use mathlib.Core.Logic.{◌≢◌, ◌⊎◌, inl, inr, ⊎_map}
use mathlib.Core.Bool.{Bool, true, false, cond, beq, ◌&&◌, ◌||◌}
use mathlib.Core.List.{List, [], ◌∷◌, map}
use Prim.Native.Nat.{ℕ, ◌+◌, ◌/◌, ◌%◌, ◌<◌}
use native.Mathlib.Nat.{add-zero, mul_comm}
use native.Mathlib.Omega.{arith}
use lib.Dec.{T, eqb, eqb→eq}
use lib.ListN.{length, get_or, get_or-map}
use Rattle.std.proofs.lemmas.List.{get_or-map as map_at}
use Rattle.ground.specs.Lists.{each, all_nil, all_cons}
use Rattle.ground.proofs.Booleans.{either, same_truth}
use Rattle.ground.proofs.Tests.{and_left, and_right, or_cases, two_eq}
use Rattle.turn.specs.declared.Beam.{Beam}
use Rattle.turn.specs.Phase.{turn, quarter, twelfth, difference}
use Rattle.turn.specs.Column.{Setting}
use Rattle.turn.specs.Exact.{differences}
use Rattle.turn.specs.Cancel.{Twelfths}
use Rattle.turn.specs.Apart.{flipped, Common}
use Rattle.settings.specs.Settings.{settings, is_setting, o1, o2}
use Rattle.settings.specs.Ranges.{beam}
use Rattle.settings.proofs.Known.{at_setting}
use Rattle.report.specs.declared.Report.{Report}
use Rattle.report.specs.Rules.{InRange}
use Rattle.report.specs.Beams.{is_half, base, moves, moved, beams}
use Rattle.plan.specs.Plan.{layer_at}
use Rattle.plan.specs.Sound.{StepsFrom, Told, by_co_phases, by_beams}
use Rattle.plan.proofs.Told.{two_beams_lem}
use Rattle.single.specs.Columns.{Added, o, ½, f, f+½, place, phase_of, quarters}
use Rattle.single.specs.Plan.{f_of, t_of, with_beam, whole, block_of, plan}
use Rattle.single.proofs.Layers.{halved, bracket, halves, layer_is, place_within}
use Rattle.single.proofs.Apart.{half_agree, marks, marked, marks_even, takes_f, second, distinct, layers_apart}

-- ---- half-length beams: four quarters, in which half a turn is added where they are marked

abbrev unmarked : ℕ → ℕ → List ℕ
unmarked fn t = 0 ∷ t ∷ fn ∷ (fn + t) ∷ []

quarters_flipped : (fn t j : ℕ) → get_or (quarters fn t) j [] ≡ flipped (unmarked fn t) (marked j)
unfolding flipped quarters
quarters_flipped fn t j =
    let all : quarters fn t ≡ map (flipped (unmarked fn t)) marks = simp add-zero in
    ap (λ (xs : List (List ℕ)). get_or xs j []) all ∙ get_or-map (flipped (unmarked fn t)) marks j []

-- ---- whole beams

-- half a turn is added to the second polarisation where it is marked
co_flipped : (fn : ℕ) (y : Added) → (0 ∷ phase_of fn y ∷ []) ≡ flipped (0 ∷ cond (takes_f y) fn 0 ∷ []) (second y)
unfolding flipped
co_flipped fn o = refl
co_flipped fn ½ = refl
co_flipped fn f = simp add-zero
co_flipped fn f+½ = refl

-- either 3 divides the N1th and the N2th part of a turn, or these parts are whole twelfths
divided : (c : Setting) → is_setting c.n1 c.n2 ≡ true → Common c 3 ⊎ Common c twelfth
unfolding settings each
divided c e =
    ⊎_map (common 3) (common twelfth)
    (or_cases (both 3 c.n1 c.n2) (both twelfth c.n1 c.n2)
    (at_setting c.n1 c.n2 (λ n1 n2. both 3 n1 n2 || both twelfth n1 n2) tt e))
  where
    both : ℕ → ℕ → ℕ → Bool
    both m n1 n2 = eqb (turn / n1 % m) 0 && eqb (turn / n2 % m) 0

    common : (m : ℕ) → T (both m c.n1 c.n2) → Common c m
    common m t = let e = two_eq (turn / c.n1 % m) 0 (turn / c.n2 % m) 0 t in record { rows = e.0; columns = e.1 }

-- co-phases are whole quarters of a turn, and so whole twelfths
pub added_quarters : (r : Report) (y : Added) → phase_of (f_of r) y % quarter ≡ 0
added_quarters r o = refl
added_quarters r ½ = refl
added_quarters r f = omega arith
added_quarters r f+½ = omega arith

coarse_co : (r : Report) (y y' : Added)
    → Twelfths (differences (0 ∷ phase_of (f_of r) y ∷ []) (0 ∷ phase_of (f_of r) y' ∷ []))
unfolding differences difference
coarse_co r y y' =
    let z : difference (phase_of (f_of r) y) (phase_of (f_of r) y') % twelfth ≡ 0 =
    omega (arith, added_quarters r y, added_quarters r y') in
    all_cons refl (all_cons z all_nil)

abbrev setting : Report → Setting
setting r = record { n1 = r.n1; n2 = r.n2; o1 = o1 r.n1; o2 = o2 r.n2 }

-- a layer with the beam at a place stands k steps from B
whole_moved : (r : Report) (at : ℕ) (co : List ℕ) → at < length (moves r) → let k = get_or (moves r) at (beam 0 0) in
    StepsFrom (setting r) (base r).l (base r).m k.l k.m (with_beam (get_or (beams r) at (beam 0 0)) co)
unfolding beams moved
whole_moved r at co h =
    let k = get_or (moves r) at (beam 0 0) in
    let e = map_at (moved r (base r)) (moves r) at (beam 0 0) (beam 0 0) h in
    record { across = rw (e, mul_comm (o1 r.n1) k.l); down = rw (e, mul_comm (o2 r.n2) k.m) }

-- ---- any two layers

module _ (r : Report) (h : InRange r) (j k : ℕ) (hj : j < r.v) (hk : k < r.v) (ne : j ≢ k) where
  half_told : (c : Setting) (x : Beam) → is_half r ≡ true
      → Told c (with_beam x (get_or (halves r) j [])) (with_beam x (get_or (halves r) k []))
  half_told c x e =
      let few = (halved r e).0 in
      by_co_phases (unmarked (f_of r) (t_of r)) (marked j) (marked k) (quarters_flipped (f_of r) (t_of r) j)
      (quarters_flipped (f_of r) (t_of r) k) (marks_even j k (omega arith) (omega arith) ne)

  whole_told : is_half r ≡ false → Told (setting r) (whole r (bracket r.v j)) (whole r (bracket r.v k))
  unfolding whole
  whole_told e =
      let x = bracket r.v j in
      let y = bracket r.v k in
      let a = get_or (moves r) (place x.beam) (beam 0 0) in
      let b = get_or (moves r) (place y.beam) (beam 0 0) in
      let same-f = beq (takes_f x.added) (takes_f y.added) in
      let even = half_agree (second x.added) (second y.added) in
      elim (or_cases (same-f && even) (distinct r.n1 r.n2 a b) (layers_apart r h e j k hj hk ne)) [
        | inl t ↦
            let same = same_truth (takes_f x.added) (takes_f y.added) (and_left same-f even t) in
            by_co_phases (0 ∷ cond (takes_f x.added) (f_of r) 0 ∷ []) (second x.added) (second y.added)
            (co_flipped (f_of r) x.added)
            (co_flipped (f_of r) y.added
            ∙ ap (λ (s : Bool). flipped (0 ∷ cond s (f_of r) 0 ∷ []) (second y.added)) (sym same))
            (record { first = refl; second = refl; even = eqb→eq _ _ (and_right same-f even t) })
        | inr t ↦
            by_beams (base r).l (base r).m a.l a.m b.l b.m
            (whole_moved r (place x.beam) _ (rw e at (place_within r h j hj)))
            (whole_moved r (place y.beam) _ (rw e at (place_within r h k hk)))
            (two_beams_lem (setting r) a.l a.m b.l b.m t)
            (⊎_map (λ d. d) (λ d. (d, coarse_co r x.added y.added)) (divided (setting r) h.setting))
      ]

  pub told : Told (block_of r) (layer_at (plan r) j) (layer_at (plan r) k)
  unfolding whole
  told =
      rw (layer_is r h j hj, layer_is r h k hk)
      (either (is_half r) (λ e. rw e (half_told _ _ e)) (λ e. rw e (whole_told e)))
