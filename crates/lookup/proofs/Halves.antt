-- A weight that is packed in one number is read from its halves as it was.
use mathlib.Core.Path.{◌≡◌, sym, ap, ◌∙◌, subst}
use mathlib.Core.Bool.{Bool, ◌&&◌}
use mathlib.Core.List.{zip_with}
use Prim.Native.Nat.{ℕ, ◌/◌, ◌%◌, ◌^◌}
use native.Mathlib.Omega.{arith}
use lib.Dec.{T, ltb, ltb→lt}
use lib.IntN.{ℤ}
use lib.ListN.{get_or-eq_default}
use lib.Signed.{mag}
use mir.Syntax.{w16}
use mir.Val.{SFits, hbits, to_z, of_z}
use mir.Facts.{to_z-of_z, Fits-of_z, sfits_lit}
use borrow.Author.Tests.{ltb-true, ltb-false}
use Rattle.ground.specs.Lists.{every}
use Rattle.ground.proofs.Booleans.{either}
use Rattle.ground.proofs.Tests.{and_left, and_right, every_at}
use Rattle.turn.specs.Phase.{turn}
use Rattle.weight.specs.declared.Weight.{Weight}
use Rattle.weight.specs.Table.{first_quarter, first_half, xs, ys, table, no_weight, entry}
use Rattle.lookup.specs.Packed.{packed}

-- ---- every number of the table has 16 bits

abbrev short : ℤ → Bool
short z = ltb (mag z) (2 ^ hbits w16)

small? : ℕ → Bool
small? e = short (entry e).x && short (entry e).y

all_small : T (every turn small?)
unfolding every small? table xs ys first_half first_quarter zip_with
all_small = tt

pub entry_fits : (e : ℕ) → SFits w16 (entry e).x × SFits w16 (entry e).y
unfolding small? table xs ys first_half first_quarter zip_with
entry_fits e =
    either (ltb e turn)
    (λ t.
    let small = every_at turn small? all_small e (ltb-true e turn t) in (
      record { sfits = ltb→lt (mag (entry e).x) _ (and_left (short (entry e).x) (short (entry e).y) small) },
      record { sfits = ltb→lt (mag (entry e).y) _ (and_right (short (entry e).x) (short (entry e).y) small) },
    ))
    (λ f.
    subst (λ (w : Weight). SFits w16 w.x × SFits w16 w.y)
    (sym (get_or-eq_default table no_weight (ltb-false e turn f))) (sfits_lit tt, sfits_lit tt))

-- ---- the halves

lower : (w : Weight) → SFits w16 w.x → packed w % 65536 ≡ of_z w16 w.x
unfolding packed
lower w h = let f = Fits-of_z h in omega arith

upper : (w : Weight) → SFits w16 w.x → packed w / 65536 ≡ of_z w16 w.y
unfolding packed
upper w h = let f = Fits-of_z h in omega arith

pub read_x : (w : Weight) → SFits w16 w.x → to_z w16 (packed w % 65536) ≡ w.x
read_x w h = ap (to_z w16) (lower w h) ∙ to_z-of_z h

pub read_y : (w : Weight) → SFits w16 w.x → SFits w16 w.y → to_z w16 (packed w / 65536) ≡ w.y
read_y w h k = ap (to_z w16) (upper w h) ∙ to_z-of_z k
