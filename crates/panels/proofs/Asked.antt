-- What the code hands over for the masks and the buffer is what the codebook asks for.
use mathlib.Core.Path.{◌≡◌, refl, sym, ap, ◌∙◌}
use mathlib.Core.Logic.{◌≢◌}
use mathlib.Core.Bool.{true, cond}
use mathlib.Core.List.{[], ◌∷◌}
use Prim.Native.Nat.{ℕ, ◌*◌, ◌≤◌}
use native.Mathlib.Nat.{mul_assoc, mul_comm}
use lib.Dec.{eqb}
use borrow.Author.Tests.{not-false}
use Rattle.std.specs.Prelude.{List, Ok, Err}
use Rattle.ground.specs.Lists.{each}
use Rattle.ground.specs.First.{first}
use Rattle.ground.proofs.Booleans.{either}
use Rattle.refusal.specs.declared.Refusal.{Refusal}
use Rattle.refusal.specs.Outcome.{outcome}
use Rattle.refusal.proofs.Outcome.{none_applies}
use Rattle.turn.specs.declared.Beam.{Beam}
use Rattle.settings.specs.declared.Sizes.{Sizes}
use Rattle.settings.specs.Settings.{mask_bytes, sizes_of}
use Rattle.settings.proofs.Steps.{sized}
use Rattle.masks.specs.declared.Needs.{Needs}
use Rattle.masks.specs.Admitted.{bits_of}
use Rattle.masks.specs.Asks.{Asks}
use Rattle.multi.specs.declared.PanelReport.{PanelReport}
use Rattle.multi.specs.Panels.{is_panel_setting, panel_ports, B, B', reached, rule, InRange, bits_read, indices}
use Rattle.multi.specs.Panels.{own_order, panels}
use Rattle.multi.proofs.Known.{known}
use Rattle.multi.proofs.InRange.{set, in_range_zero}
use Rattle.multi.proofs.Parts.{some_number}

-- the beams whose bits are read: B, and from two layers on B′
abbrev pub read : PanelReport → List Beam
read r = cond (eqb r.v 1) (reached r B ∷ []) (reached r B ∷ reached r B' ∷ [])

module _ (r : PanelReport) {s : Sizes} (e : s ≡ sizes_of r.n1 r.n2) where
  -- a report that is not refused by 1 has a setting, whose bytes are given
  bytes_are : first (rule r) own_order ≢ 1 → s.bytes ≡ mask_bytes r.n1 r.n2
  bytes_are h =
      let is-setting : is_panel_setting r.ng r.n1 r.n2 ≡ true =
      either (rule r 1) (λ q. absurd (h (unfold first in rw q))) (λ q. unfold rule in not-false _ q) in
      (sized r.n1 r.n2 e (known r.ng r.n1 r.n2 is-setting).one_panel).bytes

  module _ (h : InRange r) where
    pub ports_are : r.ng * s.ports ≡ panel_ports r.ng r.n1 r.n2
    ports_are =
        ap (λ (p : ℕ). r.ng * p) (sized r.n1 r.n2 e (set r h).one_panel).ports
        ∙ sym (mul_assoc r.ng 2 (r.n1 * r.n2)) ∙ ap (λ (n : ℕ). n * (r.n1 * r.n2)) (mul_comm r.ng 2)

    pub ports_few : r.ng * s.ports ≤ 32
    ports_few = rw ports_are (set r h).ports_few

    bits_are : bits_of s.down (read r) ≡ bits_read r
    unfolding bits_of bits_read
    bits_are =
        rw (sized r.n1 r.n2 e (set r h).one_panel).down (either (eqb r.v 1) (λ q. rw q) (λ q. rw q))

    -- what a report in range hands over
    pub asks : (x : Needs) → x.own ≡ Ok tt → x.bytes ≡ s.bytes → x.v ≡ r.v → x.width ≡ s.down → x.beams.now ≡ read r
        → x.ports ≡ panel_ports r.ng r.n1 r.n2 → x.entries ≡ r.v * panel_ports r.ng r.n1 r.n2
        → Asks panels r indices x
    unfolding each
    asks x own bytes v width beams ports entries = record {
      order_is = refl;
      rest_late = tt;
      own_is = own ∙ ap outcome (sym (in_range_zero r h));
      bytes_are = λ _ _. bytes ∙ (sized r.n1 r.n2 e (set r h).one_panel).bytes;
      layers_are = v;
      bits_are = λ _. rw (width, beams) bits_are;
      ports_are = λ _. ports;
      entries_are = λ _. entries;
    }

  -- and one that is refused
  pub refused_asks : (x : Needs) {k : Refusal} → x.own ≡ Err k → Err k ≡ outcome (first (rule r) own_order)
      → x.bytes ≡ s.bytes → x.v ≡ r.v → Asks panels r indices x
  unfolding each
  refused_asks x own some bytes v =
      let held : x.own ≡ Ok tt → ⊥ = λ z. some_number _ some (none_applies tt _ (sym some ∙ sym own ∙ z)) in
      record {
        order_is = refl;
        rest_late = tt;
        own_is = own ∙ some;
        bytes_are = λ h _. bytes ∙ bytes_are (λ z. h (own ∙ some ∙ ap outcome z));
        layers_are = v;
        bits_are = λ z. absurd (held z);
        ports_are = λ z. absurd (held z);
        entries_are = λ z. absurd (held z);
      }
