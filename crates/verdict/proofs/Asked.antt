-- What the code hands over for the masks and the buffer is what the codebook asks for.
use mathlib.Core.Path.{◌≡◌, refl, sym, ap, ◌∙◌}
use mathlib.Core.Logic.{◌≢◌}
use mathlib.Core.Bool.{true, false}
use mathlib.Core.List.{[], ◌∷◌}
use Prim.Native.Nat.{ℕ, zero, suc, ◌+◌, ◌-◌, ◌*◌, ◌%◌}
use native.Mathlib.Omega.{arith}
use lib.ListN.{get_or}
use borrow.Author.Tests.{ne_eqb, not-false}
use Rattle.std.specs.Prelude.{Ok, Err}
use Rattle.ground.specs.First.{first}
use Rattle.ground.specs.Lists.{each}
use Rattle.ground.proofs.Booleans.{either}
use Rattle.refusal.specs.Outcome.{outcome}
use Rattle.refusal.proofs.Outcome.{none_applies}
use Rattle.settings.specs.Ranges.{beam}
use Rattle.settings.specs.Settings.{is_setting, mask_bytes, ports, sizes_of}
use Rattle.settings.specs.Outcome.{refused_with}
use Rattle.report.specs.declared.Report.{Report}
use Rattle.report.specs.declared.Beams.{Beams}
use Rattle.settings.specs.declared.Refused.{Refused}
use Rattle.report.specs.Rules.{rule, own_order, InRange}
use Rattle.report.specs.Beams.{beams, said_all, said, beams_of}
use Rattle.report.proofs.InRange.{in_range_zero, zero_in_range}
use Rattle.masks.specs.declared.Needs.{Needs}
use Rattle.masks.specs.Admitted.{bits_of}
use Rattle.masks.specs.Asks.{Asks}
use Rattle.single.specs.Masks.{neighbours, bits_read}
use Rattle.single.specs.Single.{indices, single}
use Rattle.single.proofs.Neighbours.{whole_bits, half_beam, half_bits}
use Rattle.verdict.proofs.Given.{ports_are, half_said}

-- a report in range is not refused
pub not_refused : (r : Report) {why : Refused} → beams_of r ≡ Err why → InRange r → ⊥
unfolding beams_of
not_refused r e h = let z = in_range_zero r h in let q = rw z at e in cc

module _ (r : Report) (x : Needs) (v : x.v ≡ r.v) where
  abbrev number : ℕ
  number = first (rule r) own_order

  -- a report that is not refused by 1 has a setting
  has_setting : number ≢ 1 → is_setting r.n1 r.n2 ≡ true
  unfolding first
  has_setting h = either (rule r 1) (λ q. absurd (h (rw q))) (λ q. unfold rule in not-false _ q)

  asks : x.own ≡ outcome number → (is_setting r.n1 r.n2 ≡ true → x.bytes ≡ mask_bytes r.n1 r.n2)
      → (InRange r → (bits_of x.width x.beams.now ≡ bits_read r) × (x.ports ≡ ports r.n1 r.n2) × (x.entries ≡ r.v * ports r.n1 r.n2))
      → Asks single r indices x
  unfolding each
  asks own bytes accepted =
      let ranged : x.own ≡ Ok tt → InRange r = λ e. zero_in_range r (none_applies tt number (sym own ∙ e)) in
      record {
        order_is = refl;
        rest_late = tt;
        own_is = own;
        bytes_are = λ h _. bytes (has_setting (λ q. h (own ∙ ap outcome q)));
        layers_are = v;
        bits_are = λ e. (accepted (ranged e)).0;
        ports_are = λ e. (accepted (ranged e)).1;
        entries_are = λ e. (accepted (ranged e)).2;
      }

  -- a report in range
  pub ranged_asks : {b : Beams} → InRange r → b ≡ said_all r (sizes_of r.n1 r.n2) → x.own ≡ Ok tt → x.bytes ≡ b.sizes.bytes
      → bits_of x.width x.beams.now ≡ bits_read r → x.ports ≡ b.sizes.ports → x.entries ≡ r.v * ports r.n1 r.n2
      → Asks single r indices x
  ranged_asks h e own bytes bits p entries =
      asks (own ∙ ap outcome (sym (in_range_zero r h)))
      (λ s. bytes ∙ rw (e, s))
      (λ _. (bits, p ∙ ports_are r h e, entries))

  -- one that its own numbers refuse
  pub refused_asks : {why : Refused} → beams_of r ≡ Err why → x.own ≡ Err why.refusal → x.bytes ≡ why.sizes.bytes
      → Asks single r indices x
  unfolding beams_of
  refused_asks {why} e own bytes = go number refl e
    where
      go : (k : ℕ) → number ≡ k → said r k ≡ Err why → Asks single r indices x
      go zero z q = absurd cc
      go (suc k) z q =
          let refused : why ≡ refused_with (suc k) (sizes_of r.n1 r.n2) = cc in
          asks (own ∙ rw (refused, z)) (λ s. bytes ∙ rw (refused, s)) (λ h. absurd (omega (arith, in_range_zero r h)))

-- ---- the bits that a report in range reads

module _ (r : Report) {b : Beams} (h : InRange r) (e : b ≡ said_all r (sizes_of r.n1 r.n2)) where
  -- half-length beams: those of three
  pub half_bits_asked : b.half ≡ true → {before : ℕ} → let x = get_or b.beams 0 (beam 0 0) in
      before ≡ (x.l + b.sizes.across - 1) % b.sizes.across
      → bits_of b.sizes.down (beam before x.m ∷ x ∷ beam (x.l + 1) x.m ∷ []) ≡ bits_read r
  unfolding bits_of neighbours
  half_bits_asked t p =
      let half = half_said r h e t in
      rw (p, e, h.setting, half_beam r h half, half_bits r h half)

  -- others: those of the beams
  pub beam_bits : r.n1 ≢ 1 → b.half ≡ false → bits_of b.sizes.down (beams r) ≡ bits_read r
  unfolding bits_of
  beam_bits more t = rw (e, h.setting, whole_bits r (ne_eqb r.n1 1 more) (half_said r h e t))
