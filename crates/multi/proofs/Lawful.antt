-- The multi-panel codebook is lawful.
use mathlib.Core.Path.{◌≡◌, refl, sym, ap₂, subst}
use mathlib.Core.Logic.{inl, inr}
use mathlib.Core.Bool.{Bool, true, false, cond}
use mathlib.Core.List.{List, [], ◌∷◌}
use Prim.Native.Nat.{ℕ, ◌+◌, ◌*◌, ◌<◌}
use native.Mathlib.Omega.{arith}
use lib.Arith.{digits_lt}
use lib.Dec.{T, eqb, eqb_refl, eqb→eq}
use borrow.Author.Tests.{eqb-true}
use Rattle.ground.specs.Lists.{among}
use Rattle.ground.specs.First.{numbered, part}
use Rattle.ground.proofs.Tests.{or_cases, or_left, or_right}
use Rattle.settings.specs.Settings.{down, mask_bytes}
use Rattle.settings.proofs.Known.{mask_bits}
use Rattle.plan.specs.Plan.{layer_at}
use Rattle.plan.specs.Lawful.{Lawful}
use Rattle.multi.specs.declared.PanelReport.{PanelReport}
use Rattle.multi.specs.Panels.{Name, B, B', beam_of, by_rank, layer_of, plan, InRange, beam_bit, bits_read, panels}
use Rattle.multi.proofs.InRange.{set, in_range, in_range_none}
use Rattle.multi.proofs.Columns.{column, layer_is, within}
use Rattle.multi.proofs.Sound.{plan_sound}

-- one layer has B alone
one_layer : (v j : ℕ) → j < v → eqb v 1 ≡ true → beam_of (column v j) ≡ B
unfolding by_rank
one_layer v j k e =
    let one : v ≡ 1 = eqb-true v 1 e in
    let first : j ≡ 0 = omega arith in
    ap₂ (λ (v j : ℕ). beam_of (column v j)) one first

module _ (r : PanelReport) where
  abbrev both : Bool → List ℕ
  both single = cond single (beam_bit r B ∷ []) (beam_bit r B ∷ beam_bit r B' ∷ [])

  -- the bit of a beam that is used is read
  is_read : (single : Bool) (x : Name) → (single ≡ true → x ≡ B) → T (among (beam_bit r x) (both single))
  unfolding among
  is_read true x h = or_left (eqb (beam_bit r x) (beam_bit r B)) _ (rw (h refl) (eqb_refl (beam_bit r B)))
  is_read false B h = or_left (eqb (beam_bit r B) (beam_bit r B)) _ (eqb_refl (beam_bit r B))
  is_read false B' h =
      or_right (eqb (beam_bit r B') (beam_bit r B)) _
      (or_left (eqb (beam_bit r B') (beam_bit r B')) _ (eqb_refl (beam_bit r B')))

  -- and what is read is the bit of a beam
  read_is : (P : ℕ → Type 0) → ((x : Name) → P (beam_bit r x)) → (single : Bool) (k : ℕ) → T (among k (both single)) → P k
  unfolding among
  read_is P h true k t = elim (or_cases (eqb k (beam_bit r B)) false t) [
    | inl q ↦ rw (eqb→eq k (beam_bit r B) q) (h B)
    | inr q ↦ absurd q
  ]
  read_is P h false k t = elim (or_cases (eqb k (beam_bit r B)) _ t) [
    | inl q ↦ rw (eqb→eq k (beam_bit r B) q) (h B)
    | inr q ↦ elim (or_cases (eqb k (beam_bit r B')) false q) [
      | inl s ↦ rw (eqb→eq k (beam_bit r B') s) (h B')
      | inr s ↦ absurd s
    ]
  ]

  module _ (h : InRange r) where
    -- all lie in the mask of one panel
    bits_within : (k : ℕ) → T (among k (bits_read r)) → k < 8 * mask_bytes r.n1 r.n2
    unfolding bits_read
    bits_within =
        read_is (λ k. k < 8 * mask_bytes r.n1 r.n2)
        (λ x.
        rw (mask_bits r.n1 r.n2 (set r h).one_panel (set r h).above_two)
        (omega (arith, digits_lt (within r h x).0 (within r h x).1)))
        (eqb r.v 1)

    beams_read_lem : true ≡ true → (j : ℕ) → j < r.v
        → let x = layer_at (plan r) j in T (among (down r.n2 * x.l + x.m) (bits_read r))
    unfolding layer_of bits_read
    beams_read_lem _ j k =
        rw (layer_is r h j k) (is_read (eqb r.v 1) (beam_of (column r.v j)) (one_layer r.v j k))

pub panels_lawful : Lawful panels InRange
unfolding among numbered part
panels_lawful = record {
  order_numbered = tt;
  last_three = (tt, tt, tt);
  in_range = λ r. (in_range r, in_range_none r);
  sound = plan_sound;
  within = bits_within;
  beams_read_lem = beams_read_lem;
  neighbours_read = λ r h half. absurd (subst T (sym half) tt);
}
