-- What the numbers of a report in range say, read field by field: the sizes, the beams and their steps.
use mathlib.Core.Path.{◌≡◌, refl, sym, ap, ◌∙◌}
use mathlib.Core.Bool.{Bool}
use mathlib.Core.List.{List, [], ◌∷◌}
use Prim.Native.Nat.{ℕ, zero, suc, ◌+◌, ◌*◌, ◌/◌, ◌<◌, ◌≤◌}
use native.Mathlib.Nat.{div-le_self, mul-le-mul}
use native.Mathlib.Omega.{arith}
use lib.ListN.{length, take, get_or}
use Rattle.std.specs.Prelude.{Ok}
use Rattle.ground.specs.First.{first}
use Rattle.turn.specs.declared.Beam.{Beam}
use Rattle.turn.specs.Phase.{turn, quarter, phase}
use Rattle.settings.specs.Settings.{ports, sizes_of}
use Rattle.settings.specs.Ranges.{beam}
use Rattle.settings.proofs.Known.{known, ports_few}
use Rattle.report.specs.declared.Report.{Report}
use Rattle.report.specs.declared.Beams.{Beams}
use Rattle.report.specs.Rules.{rule, own_order, InRange}
use Rattle.report.specs.Beams.{is_half, beams, four, said_all, said, beams_of}
use Rattle.report.proofs.InRange.{zero_in_range, v_few}
use Rattle.report.proofs.Moves.{length_beams, moves_few}
use Rattle.report.proofs.Reached.{beams_within}
use Rattle.single.specs.Plan.{f_of}
use Rattle.single.specs.Drawing.{step_of}

-- the beam at a place, and (0,0) past the last
abbrev pub at : Report → ℕ → Beam
at r i = get_or (beams r) i (beam 0 0)

beams_at : (xs : List Beam) (i : ℕ) → i < 4 → get_or (four (λ x. x) xs) i (beam 0 0) ≡ get_or xs i (beam 0 0)
beams_at xs zero h = refl
beams_at xs (suc zero) h = refl
beams_at xs (suc (suc zero)) h = refl
beams_at xs (suc (suc (suc zero))) h = refl
beams_at xs (suc (suc (suc (suc i)))) h = absurd (omega arith)

-- a report whose beams are given is in range
pub ranged : (r : Report) {b : Beams} → beams_of r ≡ Ok b → InRange r × (b ≡ said_all r (sizes_of r.n1 r.n2))
unfolding beams_of
ranged r {b} e = go (first (rule r) own_order) refl e
  where
    go : (k : ℕ) → first (rule r) own_order ≡ k → said r k ≡ Ok b → InRange r × (b ≡ said_all r (sizes_of r.n1 r.n2))
    go zero z q = (zero_in_range r z, cc)
    go (suc k) z q = absurd cc

front : (xs : List Beam) → length xs ≤ 4 → take (length xs) (four (λ x. x) xs) ≡ xs
front [] h = refl
front (a ∷ []) h = refl
front (a ∷ b ∷ []) h = refl
front (a ∷ b ∷ c ∷ []) h = refl
front (a ∷ b ∷ c ∷ d ∷ []) h = refl
front (a ∷ b ∷ c ∷ d ∷ x ∷ xs) h = absurd (omega arith)

module _ (r : Report) {b : Beams} (h : InRange r) (e : b ≡ said_all r (sizes_of r.n1 r.n2)) where
  pub ports_are : b.sizes.ports ≡ ports r.n1 r.n2
  ports_are = rw (e, h.setting)

  -- the length of the beams and f are the report's
  pub half_said : {half : Bool} → b.half ≡ half → is_half r ≡ half
  half_said t = sym (ap (λ (x : Beams). x.half) e) ∙ t

  pub f_said : {fn : ℕ} → fn ≡ phase (b.n * quarter) → fn ≡ phase (f_of r)
  f_said f = f ∙ ap (λ (x : Beams). phase (x.n * quarter)) e

  -- at most 8 layers of 32 ports
  pub entries_few : r.v * b.sizes.ports ≤ 256
  entries_few = rw ports_are (mul-le-mul (v_few r h) (ports_few r.n1 r.n2 h.setting))

  pub across_some : 0 < b.sizes.across
  across_some = rw (e, h.setting) (known r.n1 r.n2 h.setting).across_some

  pub down_some : 0 < b.sizes.down
  down_some = rw (e, h.setting) (known r.n1 r.n2 h.setting).down_some

  module _ (i : ℕ) (few : i < 4) where
    pub beam_is : get_or b.beams i (beam 0 0) ≡ at r i
    beam_is = rw e (beams_at (beams r) i few)

    pub beam_within : let x = get_or b.beams i (beam 0 0) in (x.l < b.sizes.across) × (x.m < b.sizes.down)
    beam_within =
        let w = beams_within r h.setting i in
        (rw (beam_is, e, h.setting) w.l, rw (beam_is, e, h.setting) w.m)

    -- small enough for the code's arithmetic
    pub few_of_each : let x = get_or b.beams i (beam 0 0) in (x.l ≤ 255) × (x.m ≤ 255)
    few_of_each =
        let k = known r.n1 r.n2 h.setting in
        let w = beams_within r h.setting i in
        rw beam_is (omega (arith, w.l, k.across_few), omega (arith, w.m, k.down_few))

    pub small : let x = get_or b.beams i (beam 0 0) in
        (x.l * (turn / b.sizes.across) ≤ 255 * 511) × (x.m * (turn / b.sizes.down) ≤ 255 * 511)
    small =
        let x = div-le_self turn b.sizes.across in
        let y = div-le_self turn b.sizes.down in
        let px : turn / b.sizes.across ≤ 511 = omega arith in
        let py : turn / b.sizes.down ≤ 511 = omega arith in
        (mul-le-mul few_of_each.0 px, mul-le-mul few_of_each.1 py)

    pub step_is : let x = get_or b.beams i (beam 0 0) in
        x.l * (turn / b.sizes.across) + 512 * (x.m * (turn / b.sizes.down)) ≡ step_of r (at r i)
    step_is = rw (beam_is, e, h.setting)

  -- one to four beams, in four places
  pub four_places : length b.beams ≡ 4
  four_places = rw e

  pub beams_few : b.count ≤ 4
  beams_few = rw e (omega (arith, length_beams r, moves_few r))

  pub beams_are : take b.count b.beams ≡ beams r
  beams_are = rw e (front (beams r) (omega (arith, length_beams r, moves_few r)))
