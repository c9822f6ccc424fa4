-- The beams of a report's layers, each in its place: by rank, or one for all where beams have half their length; and that the
-- layers which the code gives are the report's.
use mathlib.Core.Path.{◌≡◌, sym, ap, ◌∙◌}
use mathlib.Core.Bool.{true, false}
use mathlib.Core.List.{List, map}
use Prim.Native.Nat.{ℕ, ◌-◌, ◌*◌, ◌<◌, ◌≤◌}
use native.Mathlib.Omega.{arith}
use lib.Dec.{eqb}
use lib.ListN.{get_or, replicate}
use borrow.Author.Tests.{eqb-true, eqb-false}
use Rattle.std.proofs.lemmas.List.{get_or_default}
use Rattle.ground.specs.Cases.{◌⇒◌∣◌}
use Rattle.ground.specs.Lists.{places}
use Rattle.ground.proofs.Booleans.{either}
use Rattle.ground.proofs.Lists.{map_twice, all_same, places_same}
use Rattle.turn.specs.declared.Beam.{Beam}
use Rattle.settings.specs.Ranges.{beam}
use Rattle.report.specs.declared.Report.{Report}
use Rattle.report.specs.Rules.{InRange}
use Rattle.report.specs.Beams.{is_half, beams}
use Rattle.report.proofs.InRange.{v_few}
use Rattle.report.proofs.Reached.{two_ports_beam}
use Rattle.plan.specs.Plan.{past, pair_of, no_beam, named}
use Rattle.single.specs.Columns.{Name, B, B', B'', B''', by_rank, place}
use Rattle.single.specs.Plan.{whole, layers, plan}
use Rattle.single.specs.Drawing.{codes_of, half_codes, ranked, whole_lineup, half_lineup, lineup_of}
use Rattle.single.proofs.Layers.{halved, brackets, layer_beam, length_layers, layer_is}
use Rattle.single.proofs.Neighbours.{half_beam}

-- ---- layers that all have one beam

module _ (r : Report) (h : InRange r) where
  one_for_all : (x : Beam) → ((j : ℕ) → j < r.v → layer_beam r j ≡ x) → map pair_of (layers r) ≡ replicate r.v x
  one_for_all x e =
      let many = length_layers r h in
      all_same pair_of x (layers r) past
      (λ j few. let k : j < r.v = omega (arith, many) in ap pair_of (layer_is r h j k) ∙ e j k)
      ∙ ap (λ (n : ℕ). replicate n x) many

  -- half-length beams: (2·i11, i12); two ports: none
  pub half_named : is_half r ≡ true → map pair_of (layers r) ≡ replicate r.v (beam (2 * r.i11) r.i12)
  half_named half = one_for_all _ (λ j k. rw (half, half_beam r h half))

  pub two_ports_named : r.n1 ≡ 1 → named (plan r) ≡ replicate 8 no_beam
  unfolding named
  two_ports_named two =
      ap (places 8 no_beam) (one_for_all _ (λ j k. two_ports_beam r h two _)) ∙ places_same 8 r.v no_beam

-- ---- the layers that are given

-- a rank of eight at most has its own columns
ranked_own : (v : ℕ) → v ≤ 8 → ranked v ≡ brackets v
unfolding ranked by_rank
ranked_own v few = get_or_default by_rank (v - 1) _ _ (omega arith)

place_few : (x : Name) → place x < 4
place_few B = omega arith
place_few B' = omega arith
place_few B'' = omega arith
place_few B''' = omega arith

module _ (r : Report) (h : InRange r) where
  -- whole beams, each in its place: that of each bracket of the rank
  pub whole_lineup_lem : (xs : List Beam)
      → ((i : ℕ) → i < 4 → get_or xs i no_beam ≡ get_or (beams r) i no_beam) → is_half r ≡ false
      → whole_lineup r.v xs ≡ lineup_of r
  unfolding named layers whole
  whole_lineup_lem xs e w =
      rw (ranked_own r.v (v_few r h), w)
      (λ i. record {
        codes = codes_of r.v;
        beams = places 8 no_beam (map_twice _ pair_of (whole r) (λ c. e (place c.beam) (place_few c.beam)) (brackets r.v) i);
      })

  -- half-length beams: B for each of three layers or four
  three_or_four : is_half r ≡ true → (eqb r.v 3 ⇒ 3 ∣ 4) ≡ r.v
  three_or_four half =
      let (most, ports, least) = halved r half in
      either (eqb r.v 3) (λ t. rw t (sym (eqb-true r.v 3 t))) (λ f. rw f (omega (arith, eqb-false r.v 3 f)))

  pub half_lineup_lem : (x : Beam) → x ≡ get_or (beams r) 0 no_beam → is_half r ≡ true → half_lineup r.v x ≡ lineup_of r
  unfolding named
  half_lineup_lem x e half =
      let all = one_for_all r h x (λ j k. rw half (sym e)) in
      rw (three_or_four half, half) (λ i. record { codes = half_codes; beams = places 8 no_beam (sym all i) })
