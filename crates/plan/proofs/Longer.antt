-- A longer buffer gets the same record and the same answer, and keeps its rest; and every layer in it has P entries.
use mathlib.Core.Path.{◌≡◌, refl, sym, ap, ◌∙◌}
use mathlib.Core.List.{List, ◌++◌, append_assoc}
use Prim.Native.Nat.{ℕ, ◌<◌, ◌≤◌}
use native.Mathlib.Omega.{arith}
use lib.IntN.{ℤ}
use lib.ListN.{length, drop, length-append, length-map}
use lib.Seq.{drop-append-le}
use Rattle.weight.specs.Table.{weight, pairs}
use Rattle.plan.specs.declared.Record.{Record}
use Rattle.plan.specs.Plan.{layer_at, layer_in}
use Rattle.plan.specs.Offsets.{fed_column}
use Rattle.plan.specs.Answer.{Codebook, Called, PhasesLeft, WeightsLeft}
use Rattle.plan.specs.Lawful.{Lawful}
use Rattle.plan.proofs.FedMatrix.{fed_long}
use Rattle.plan.proofs.Answers.{number_given, as_accepted}
use Rattle.plan.proofs.Masked.{more_room}
use Rattle.plan.proofs.Calls.{sound, fits, entries, left_layer, length_weights, left_layer_weights}

module _ {R : Type 0} (b : Codebook R) {InRange : R → Type 0} (lawful : Lawful b InRange)
    (r : R) (mask : List ℕ) (ranks : ℕ) (offsets : List ℕ) where
  longer : {A : Type 0} {room room' : ℕ} {answer lent : List A} {given given' : Record} {left left' : List A}
      (more : List A) (n : ℕ) → length answer ≡ n → n ≤ length lent → room ≤ room'
      → Called b r mask ranks offsets room answer lent given left → Called b r mask ranks offsets room' answer (lent ++ more) given' left'
      → given.refusal ≡ 0 → (given' ≡ given) × (left' ≡ left ++ more)
  longer {answer = answer} {lent = lent} more n l enough h call call' e =
      let e' = number_given refl call'
      ∙ more_room b r lawful.order_numbered mask ranks offsets _ _ h (sym (number_given refl call) ∙ e) in
      let one = as_accepted refl call e n l in
      let other = as_accepted refl call' e' n l in (
        other.1 ∙ sym one.1,
        other.0
            ∙ ap (λ xs. answer ++ xs) (drop-append-le n lent more enough)
            ∙ sym (append_assoc answer (drop n lent) more)
            ∙ ap (λ xs. xs ++ more) (sym one.0),
      )

  module _ {lent : List ℕ} {given : Record} {left : List ℕ}
      (call : PhasesLeft b r mask ranks offsets lent given left) (e : given.refusal ≡ 0) where
    pub longer_phases : {given' : Record} {left' : List ℕ} (more : List ℕ)
        → PhasesLeft b r mask ranks offsets (lent ++ more) given' left' → (given' ≡ given) × (left' ≡ left ++ more)
    longer_phases more call' =
        longer more _ (entries b lawful r mask ranks offsets _ call e) (fits b lawful r mask ranks offsets _ call e)
        (simp length-append (omega arith)) call call' e

    -- every layer in the buffer has an entry for each port, so that what is said of two layers is said of P entries each
    pub layers_whole : (j : ℕ) → j < (b.plan r).v → length (layer_in (b.plan r).ports j left) ≡ (b.plan r).ports
    layers_whole j h =
        ap length (left_layer b lawful r mask ranks offsets call e j h)
        ∙ fed_long offsets (b.plan r) (sound b lawful r mask ranks offsets _ call e) j h

  module _ {lent : List ℤ} {given : Record} {left : List ℤ}
      (call : WeightsLeft b r mask ranks offsets lent given left) (e : given.refusal ≡ 0) where
    pub longer_weights : {given' : Record} {left' : List ℤ} (more : List ℤ)
        → WeightsLeft b r mask ranks offsets (lent ++ more) given' left' → (given' ≡ given) × (left' ≡ left ++ more)
    longer_weights more call' =
        longer more _ (length_weights b lawful r mask ranks offsets call e) (let f = fits b lawful r mask ranks offsets _ call e in omega arith)
        (simp length-append (omega arith)) call call' e

    -- and so has every layer of weights
    pub weights_whole : (j : ℕ) → j < (b.plan r).v → length (layer_in (b.plan r).ports j (pairs left)) ≡ (b.plan r).ports
    weights_whole j h =
        ap length (left_layer_weights b lawful r mask ranks offsets call e j h)
        ∙ length-map (fed_column offsets (b.plan r) (layer_at (b.plan r) j)) weight
        ∙ fed_long offsets (b.plan r) (sound b lawful r mask ranks offsets _ call e) j h
