-- What is drawn with the offsets reduced is what is drawn with them, and the sixteen entries after the layers are kept and
-- put back.
use Rattle.std.proofs.Common.{◌≡◌, true, Some, None, List, ◌++◌, ℕ, ◌+◌, ◌*◌, ◌≤◌, length, drop, refl, sym, ap, ap₂, subst, ◌∙◌, arith}
use native.Mathlib.Nat.{mul-le-mul}
use Rattle.ground.specs.Cases.{◌⇒◌∣◌}
use Rattle.offsets.specs.Offsets.{Low}
use Rattle.offsets.proofs.Places.{reduced_low}
use Rattle.plan.specs.declared.Drawing.{Drawing}
use Rattle.plan.specs.Drawing.{height, drawn, drawable}
use Rattle.writer.specs.Blocks.{Laid, DrawnIn}
use Rattle.writer.proofs.Laid.{sixteen, put_back}
use Rattle.writer.proofs.Drawn.{drawable_sizes, no_number, is_number}
use Rattle.writer.proofs.Offsets.{drawn_reduced}
use Rattle.writer.proofs.Room.{layers_drawn, layers_none, length_layers}
use Rattle.writer.proofs.matrix.Goals as goal

-- sizes that can be drawn, and the entries that their layers have: few enough that none of their places wraps
record Fit (s : Drawing) (room n : ℕ) : Type 0 where
  drawable_is : drawable s room ≡ true
  many : n ≡ s.v * height s
  sizes : DrawnIn s room
  few : n ≤ 256
  past : n + 16 ≤ room

fit : (s : Drawing) (room n : ℕ) → Some n ≡ (drawable s room ⇒ Some (s.v * height s) ∣ None) → Fit s room n
fit s room n e =
    let h = is_number (drawable s room) (s.v * height s) n e in
    let z = drawable_sizes s room h.0 in record {
      drawable_is = h.0;
      many = h.1;
      sizes = z;
      few = omega (arith, h.1, mul-le-mul {n₂ = 8} {m₂ = 32} z.few z.ports);
      past = omega (arith, h.1, z.fits);
    }

pub returns-in_err-end : goal.returns-in_err-end
returns-in_err-end c =
    let e = no_number _ _ c.in_err-end.ensures in
    let none = layers_none c.args.offsets.now _ _ e in
    record { many = c.from_residual.ensures ∙ rw e refl; stands = rw none refl }

pub overflow_add-end : goal.overflow_add-end
overflow_add-end c = let f = fit _ _ _ c.in_ok-end.ensures in omega (arith, f.few)

pub offset_bounds-out-end : goal.offset_bounds-out-end
offset_bounds-out-end c = let f = fit _ _ _ c.in_ok-end.ensures in omega (arith, f.few)

pub slice_bounds-copy_from_slice-end-2 : goal.slice_bounds-copy_from_slice-end-2
slice_bounds-copy_from_slice-end-2 c = (fit _ _ _ c.in_ok-end.ensures).past

pub layers-requires : goal.layers-requires
layers-requires c = (fit _ _ _ c.in_ok-end.ensures).sizes

pub invariant_of-layers : goal.invariant_of-layers
invariant_of-layers c = record { low = subst Low (sym c.reduce.ensures) (reduced_low _) }

pub returns : goal.returns
returns c =
    let a = c.args in
    let s = a.s in
    let os = a.offsets.now in
    let out = a.out.now in
    let n = c.in_ok-end.end in
    let f = fit s (length out) n c.in_ok-end.ensures in
    let long = length_layers os s (length out) f.drawable_is in
    let same = ap (λ (xs : List ℕ). drawn xs s s.v) c.reduce.ensures ∙ drawn_reduced os s s.v f.sizes.ports in
    let laid = subst (λ (k : ℕ). Laid out 0 (drawn c.reduce.new.xs s s.v) k c.layers.new.out) (sym f.many) c.layers.ensures in
    record {
      many = rw f.drawable_is (ap Some (f.many ∙ sym long));
      stands = put_back out _ _ laid (sixteen n) (c.copy_from_slice-2.ensures.after ∙ c.copy_from_slice.ensures.after)
          ∙ ap₂ {C = List ℕ} (λ xs k. xs ++ drop k out) (same ∙ sym (layers_drawn os s (length out) f.drawable_is)) (f.many ∙ sym long);
    }
