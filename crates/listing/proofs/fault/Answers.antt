-- Each word has room after those that stand in the array, and what stands there is copied where it fits.
use Rattle.std.proofs.Common.{refl, sym, arith}
use Rattle.std.proofs.lemmas.List.{length-take-le}
use Rattle.ground.proofs.Writes.{not_written}
use Rattle.listing.proofs.Begun.{begun_some, begun_within, begun_full, begun_put}
use Rattle.listing.proofs.FaultBegun.{first, first_room, second, second_room, third, third_room, fourth}
use Rattle.listing.proofs.fault.Goals as goal

pub returns-in_err-k : goal.returns-in_err-k
returns-in_err-k c = let h = not_written c.in_err-k.ensures in absurd (omega arith)

pub returns-in_err-k-2 : goal.returns-in_err-k-2
returns-in_err-k-2 c =
    let w = c.in_ok-k.ensures in
    let n = c.args.number in
    let p = c.args.place in
    absurd (begun_some (first n p (omega arith) (omega arith) refl w) _ (first_room n p (omega arith) (omega arith) refl w)
    c.in_err-k-2.ensures)

pub returns-in_err-k-3 : goal.returns-in_err-k-3
returns-in_err-k-3 c =
    let w = c.in_ok-k.ensures in
    let v = c.in_ok-k-2.ensures in
    let n = c.args.number in
    let p = c.args.place in
    absurd (begun_some (second n p (omega arith) (omega arith) refl w v) _
    (second_room n p (omega arith) (omega arith) refl w v) c.in_err-k-3.ensures)

pub returns-in_err-k-4 : goal.returns-in_err-k-4
returns-in_err-k-4 c =
    let w = c.in_ok-k.ensures in
    let v = c.in_ok-k-2.ensures in
    let u = c.in_ok-k-3.ensures in
    let n = c.args.number in
    let p = c.args.place in
    absurd (begun_some (third n p (omega arith) (omega arith) refl w v u) _
    (third_room n p (omega arith) (omega arith) refl w v u) c.in_err-k-4.ensures)

pub slice_bounds-line-end-4 : goal.slice_bounds-line-end-4
slice_bounds-line-end-4 c =
    let all = fourth c.args.number c.args.place (omega arith) (omega arith) refl c.in_ok-k.ensures c.in_ok-k-2.ensures
    c.in_ok-k-3.ensures c.in_ok-k-4.ensures in
    omega (arith, begun_within all, begun_full all)

pub slice_bounds-put-end-4 : goal.slice_bounds-put-end-4
slice_bounds-put-end-4 c =
    let all = fourth c.args.number c.args.place (omega arith) (omega arith) refl c.in_ok-k.ensures c.in_ok-k-2.ensures
    c.in_ok-k-3.ensures c.in_ok-k-4.ensures in
    sym (length-take-le _ _ (omega (arith, begun_within all, begun_full all)))

pub returns : goal.returns
returns c =
    begun_put
    (fourth c.args.number c.args.place (omega arith) (omega arith) refl c.in_ok-k.ensures c.in_ok-k-2.ensures
    c.in_ok-k-3.ensures c.in_ok-k-4.ensures)
    c.put-3.ensures
