-- Where there is room for the whole report each turn has one number more written into what is not written yet, and otherwise
-- nothing is.
use Rattle.std.proofs.Common.{◌≡◌, refl, sym, ◌∙◌, Bool, true, ℕ, ◌+◌, ◌<◌, ◌≤◌, List, leb, length, get_or, take, sum_by, arith}
use Rattle.std.proofs.Common.{length-take, length-drop}
use lib.Seq.{take_all}
use borrow.Author.Tests.{leb-true}
use Rattle.ground.specs.Lists.{join, along}
use Rattle.ground.specs.Lent.{Adds}
use Rattle.ground.proofs.Adds.{adds_nothing, adds_then, adds_length}
use Rattle.ground.proofs.Writes.{adds_front, adds_rest}
use Rattle.report.specs.declared.Report.{Report}
use Rattle.eight.specs.Numbers.{values_of}
use Rattle.groups.specs.Number.{code}
use Rattle.coding.specs.Coding.{has_room}
use Rattle.coding.proofs.Numbered.{bytes_next, next_within, length_along}
use Rattle.coding.proofs.Placed.{placed, not_placed}
use Rattle.coding.proofs.write.Goals as goal

-- what is tested is whether the report has room
known : {is : Bool} {values : List ℕ} {bytes : ℕ} (r : Report) (from size : ℕ) → is ≡ leb (from + bytes) size
    → bytes ≡ sum_by (λ n. length (code n)) values → values ≡ values_of r → has_room r from size ≡ is
unfolding has_room
known {values = values} r from size e k v = sym (rw (k ∙ sym (length_along values), v) at e)

-- of all eight numbers
room : {bytes : ℕ} (values : List ℕ) (from size : ℕ) → true ≡ leb (from + bytes) size
    → bytes ≡ sum_by (λ n. length (code n)) values → from + length (along values code) ≤ size
room values from size e k = omega (arith, leb-true _ _ (sym e), k, length_along values)

-- the next number has room in what is not written yet
rest : (values : List ℕ) {lent out : List ℕ} {from at : ℕ} (j : ℕ) → j < length values → from + length (along values code) ≤ length lent
    → Adds (along (take j values) code) from lent at out → at + length (code (get_or values j 0)) ≤ length out
rest values j h all a = omega (arith, next_within values j h, a.long, adds_length a)

pub returns-then-not-is_room : goal.returns-then-not-is_room
returns-then-not-is_room c =
    not_placed _ _ _ (known _ _ _ c.if-not-is_room.ensures c.bytes_of.ensures c.values_of-values.ensures)

pub loop-n-init : goal.loop-n-init
unfolding join
loop-n-init c =
    let all = room c.values_of-values.result _ _ c.if-not-is_room.ensures c.bytes_of.ensures in
    adds_nothing _ _ (omega (arith, all))

pub put-at-requires : goal.put-at-requires
put-at-requires c =
    let all = room c.values_of-values.result _ _ c.if-not-is_room.ensures c.bytes_of.ensures in
    simp (length-take, length-drop) (omega (arith, rest _ _ (omega arith) all c.loop-n.invariant))

pub loop-n-preserved : goal.loop-n-preserved
loop-n-preserved c =
    let l = c.loop-n in
    let all = room c.values_of-values.result _ _ c.if-not-is_room.ensures c.bytes_of.ensures in
    let turn = adds_rest _ _ _ refl (rest _ _ (omega arith) all l.invariant) (adds_front c.put-at.ensures) in
    rw (bytes_next c.values_of-values.result l.n-index (omega arith)) (adds_then l.invariant turn)

pub returns : goal.returns
returns c =
    let l = c.loop-n in
    let values = c.values_of-values in
    let whole = take_all l.n-index values.result (omega arith) in
    placed _ _ _ (known _ _ _ c.if-not-is_room.ensures c.bytes_of.ensures values.ensures)
    (rw (whole, values.ensures) at l.invariant)
