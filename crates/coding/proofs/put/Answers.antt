-- Each byte but the last has its top bit set, and the last stands after the loop.
use Rattle.std.proofs.Common.{◌≡◌, ℕ, ◌-◌, arith, length-take}
use Rattle.coding.proofs.Putting.{begun_more, more_left, none_left, stored_more, stored_last}
use Rattle.coding.proofs.put.Goals as goal

pub loop-byte-preserved : goal.loop-byte-preserved
loop-byte-preserved c =
    let l = c.loop-byte in
    let more = more_left l.invariant.begun (omega (arith, c.length_of-last.ensures.value, length-take {A = ℕ})) in
    record { begun = begun_more l.invariant.begun more; stored = stored_more l.invariant.begun _ l.invariant.stored (omega arith) more }

pub overflow_cast-out : goal.overflow_cast-out
overflow_cast-out c =
    let last =
    none_left c.loop-byte.invariant.begun (omega (arith, c.requires, c.length_of-last.ensures.value, length-take {A = ℕ})) in
    record { fits = omega arith }

pub returns : goal.returns
returns c =
    let l = c.loop-byte in
    let last : l.byte-index ≡ c.length_of-last.result - 1 =
    omega (arith, c.requires, c.length_of-last.ensures.value, length-take {A = ℕ}) in
    rw last at (stored_last l.invariant.begun c.args.out.now l.byte-items (omega arith)
    (omega (arith, c.requires, c.length_of-last.ensures.value)) l.invariant.stored
    (none_left l.invariant.begun (omega (arith, c.length_of-last.ensures.value))))
