-- Where the beams of a report lie: every one is reduced, and so within its setting.
use mathlib.Core.Path.{◌≡◌, refl, sym, ap₂, ◌∙◌}
use mathlib.Core.Logic.{inl, inr}
use mathlib.Core.Bool.{true, false}
use mathlib.Core.List.{List, [], ◌∷◌, map}
use Prim.Native.Nat.{ℕ, zero, suc, ◌<◌}
use native.Mathlib.Nat.{mod-lt, eq-or-lt_of_le}
use native.Mathlib.Omega.{arith}
use lib.ListN.{length, get_or}
use borrow.Author.Tests.{eq-eqb, ne_eqb, lt-leb}
use Rattle.turn.specs.declared.Beam.{Beam}
use Rattle.settings.specs.declared.Sizes.{Sizes}
use Rattle.settings.specs.Settings.{is_setting, across, down}
use Rattle.settings.specs.Ranges.{beam}
use Rattle.settings.proofs.Known.{Known, known, one_by_one}
use Rattle.report.specs.declared.Report.{Report}
use Rattle.report.specs.declared.Beams.{Beams}
use Rattle.report.specs.Beams.{is_half, base, moves, moved, beams, four, said_of, said_all}
use Rattle.report.specs.Rules.{InRange}
use Rattle.report.proofs.InRange.{v_some, two_ports_v}
use Rattle.report.proofs.Moves.{whole_few, length_moves, length_beams}

abbrev pub origin : Beam
origin = beam 0 0

-- one of the setting's beams
pub record Reached (n1 n2 : ℕ) (x : Beam) : Type 0 where
  pub l : x.l < across n1
  pub m : x.m < down n2

-- every beam of a report is, and so is what stands where there is none
pub beams_within : (r : Report) → is_setting r.n1 r.n2 ≡ true → (i : ℕ)
    → Reached r.n1 r.n2 (get_or (beams r) i origin)
unfolding beams moved
beams_within r set i = go (moves r) i
  where
    setting : Known r.n1 r.n2
    setting = known _ _ set

    go : (ks : List Beam) (i : ℕ) → Reached r.n1 r.n2 (get_or (map (moved r (base r)) ks) i origin)
    go [] i = record { l = setting.across_some; m = setting.down_some }
    go (k ∷ ks) zero = record { l = mod-lt _ setting.across_some; m = mod-lt _ setting.down_some }
    go (k ∷ ks) (suc i) = go ks i

-- what each of four beams has, by place
pub four_at : (f : Beam → ℕ) (xs : List Beam) (i : ℕ) → i < 4 → get_or (four f xs) i 0 ≡ f (get_or xs i origin)
four_at f xs zero h = refl
four_at f xs (suc zero) h = refl
four_at f xs (suc (suc zero)) h = refl
four_at f xs (suc (suc (suc zero))) h = refl
four_at f xs (suc (suc (suc (suc i)))) h = absurd (omega arith)

-- ---- two ports have the one beam (0,0)

one_beam : (n1 n2 : ℕ) {x : Beam} → n1 ≡ 1 → n2 ≡ 1 → Reached n1 n2 x → x ≡ origin
one_beam n1 n2 {x} e f w =
    let l : x.l < 1 = rw e at w.l in
    let m : x.m < 1 = rw f at w.m in
    ap₂ {C = Beam} beam (omega arith) (omega arith)

module _ (r : Report) (h : InRange r) (two : r.n1 ≡ 1) where
  pub two_ports_beam : (i : ℕ) → get_or (beams r) i origin ≡ origin
  two_ports_beam i =
      one_beam r.n1 r.n2 two (one_by_one _ _ h.setting two) (beams_within r h.setting i)

  pub two_ports_whole : is_half r ≡ false
  two_ports_whole = whole_few r (omega (arith, two_ports_v r h two))

  pub two_ports_count : length (beams r) ≡ r.v
  two_ports_count =
      let few = two_ports_v r h two in
      rw (
        length_beams r,
        length_moves r,
        lt-leb 7 r.v (omega arith),
        lt-leb 5 r.v (omega arith),
        two_ports_whole,
      )
      (elim (eq-or-lt_of_le (v_some r h)) [
        | inl e ↦ rw (eq-eqb r.v 1 (sym e)) e
        | inr l ↦ rw (ne_eqb r.v 1 (λ q. omega arith)) (omega arith)
      ])

  pub two_ports_said : (s : Sizes) {y : Beams} → y ≡ said_of r s (is_half r) r.v (origin ∷ origin ∷ origin ∷ origin ∷ [])
      → y ≡ said_all r s
  two_ports_said s p = p ∙ simp (two_ports_count, two_ports_beam)
