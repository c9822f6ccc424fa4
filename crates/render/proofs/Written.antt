-- What the writer leaves in a buffer of its own: the layers in front, phases all; and what is written of them elsewhere.
use mathlib.Core.Path.{◌≡◌, refl, sym, ap, ap₂, ◌∙◌}
use mathlib.Core.Bool.{Bool, true, false, cond, true≢false}
use mathlib.Core.List.{List, []}
use Prim.Native.Nat.{ℕ, zero, suc, ◌+◌, ◌<◌, ◌≤◌}
use native.Mathlib.Omega.{arith}
use lib.Dec.{leb}
use lib.ListN.{length, take, drop, get_or, length-append}
use lib.Seq.{take_at}
use borrow.Author.Tests.{leb-true}
use Rattle.ground.proofs.Booleans.{is_false, cond_both}
use Rattle.ground.specs.Lists.{All, all_nil}
use Rattle.ground.proofs.All.{all_append}
use Rattle.std.proofs.Common.{Some}
use Rattle.turn.specs.Phase.{turn}
use Rattle.offsets.proofs.Fed.{fed_below}
use Rattle.plan.specs.declared.Drawing.{Drawing}
use Rattle.plan.specs.Drawing.{drawn, drawable, layers_in, Written}
use Rattle.writer.proofs.Drawn.{drawable_sizes, is_number}
use Rattle.writer.proofs.Offsets.{columns_below}
use Rattle.writer.proofs.Room.{layers_drawn, layers_none, length_layers, resized}
use Rattle.render.specs.Rendered.{fitting_in}

-- ---- phases

drawn_below : (os : List ℕ) (s : Drawing) (n : ℕ) → All (λ e. e < turn) (drawn os s n)
unfolding drawn
drawn_below os s zero = all_nil
drawn_below os s (suc n) = all_append (drawn_below os s n) (fed_below os (columns_below s (get_or s.codes n 0)))

pub layers_below : (os : List ℕ) (s : Drawing) (room : ℕ) → All (λ e. e < turn) (layers_in os s room)
unfolding layers_in
layers_below os s room = cond_both (All (λ e. e < turn)) (drawable s room) (drawn_below os s s.v) all_nil

-- ---- a buffer that the writer was lent

-- the layers stand in front
pub front : (os : List ℕ) (s : Drawing) {n : ℕ} {lent left : List ℕ} → Written os s lent (Some n) left
    → (n ≤ length left) × (take n left ≡ layers_in os s (length lent))
front os s {n} {lent} {left} w =
    let layers = layers_in os s (length lent) in
    let many = (is_number (drawable s (length lent)) (length layers) n w.many).1 in (
      omega (arith, ap length w.stands ∙ length-append layers (drop (length layers) lent), many),
      ap₂ take many w.stands ∙ take_at layers (drop (length layers) lent) (length layers) refl,
    )

-- where there are none, nothing fits
pub none_fits : (os : List ℕ) (s : Drawing) (own room : ℕ) → drawable s own ≡ false → fitting_in os s own room ≡ []
none_fits os s own room e = rw (layers_none os s own e) (one (leb 0 room))
  where
    one : (t : Bool) → ◌≡◌ {A = List ℕ} (cond t [] []) []
    one true = refl
    one false = refl

-- what is written where the layers fit is what is written of the layers that fit, where nothing is written of nothing
pub written_fitting : {A : Type 0} (numbers : List ℕ → List A) (os : List ℕ) (s : Drawing) (own room : ℕ) {xs : List ℕ}
    → numbers [] ≡ [] → xs ≡ layers_in os s own → cond (leb (length xs) room) (numbers xs) [] ≡ numbers (fitting_in os s own room)
written_fitting {A} numbers os s own room e same =
    ap (λ (xs : List ℕ). cond (leb (length xs) room) (numbers xs) []) same
    ∙ go (leb (length (layers_in os s own)) room) (layers_in os s own)
  where
    go : (t : Bool) (xs : List ℕ) → ◌≡◌ {A = List A} (cond t (numbers xs) []) (numbers (cond t xs []))
    go true xs = refl
    go false xs = sym e

-- what fits is the same by way of any buffer that has room for all that could
pub fitting_same : (os : List ℕ) (s : Drawing) (a b room : ℕ) → a ≤ b → room + 16 ≤ a → fitting_in os s a room ≡ fitting_in os s b room
fitting_same os s a b room h k = go (drawable s a) (drawable s b) refl refl
  where
    go : (x y : Bool) → drawable s a ≡ x → drawable s b ≡ y → fitting_in os s a room ≡ fitting_in os s b room
    go true true e f = rw (layers_drawn os s a e, layers_drawn os s b f) refl
    go false false e f = rw (layers_none os s a e, layers_none os s b f) refl
    go true false e f =
        absurd (true≢false (sym (resized s b a e (omega (arith, (drawable_sizes s a e).fits))) ∙ f))
    go false true e f =
        let less = is_false (leb (length (layers_in os s b)) room)
        (λ t.
        true≢false
        (sym (resized s a b f (omega (arith, leb-true (length (layers_in os s b)) room t, length_layers os s b f))) ∙ e)) in
        none_fits os s a room e ∙ rw (sym less) refl
