-- The digits and the byte that follows them stand at the front where both fit.
use Rattle.std.proofs.Common.{◌≡◌, refl, true, ℕ, ◌+◌, ◌<◌, List, ◌++◌, length, drop, set, arith, Some}
use Rattle.ground.specs.Lent.{Writes, Adds}
use Rattle.ground.proofs.Adds.{adds_byte}
use Rattle.ground.proofs.Writes.{writes_too_many, adds_front}
use Rattle.text.specs.Words.{decimal, ending, ended}
use Rattle.text.proofs.Words.{formatted, ended_long}
use Rattle.text.proofs.number.Goals as goal

-- the digits are copied, and the byte is stored after them
stored : {digits copied : List ℕ} {byte : ℕ} (n left : ℕ) (out : List ℕ) → digits ≡ decimal n → copied ≡ digits
    → byte ≡ ending left → length digits < length out
    → Writes true (ended n left) out (Some (length digits + 1)) (set (copied ++ drop (length digits) out) (length digits) byte)
stored {digits} n left out d c b h =
    let front : Adds digits 0 out (length digits) (digits ++ drop (length digits) out) =
    record { long = omega arith; within = omega arith; stands = refl } in
    rw (c, b, ← d) (adds_front (adds_byte front (ending left) h))

pub returns-then-out-k : goal.returns-then-out-k
returns-then-out-k c =
    let digits = formatted c.args.n (omega arith) c.as_bytes-digits.ensures.value c.format.ensures.text in
    writes_too_many _ _ (rw (ended_long, ← digits) (omega arith))

pub returns : goal.returns
returns c =
    let digits = formatted c.args.n (omega arith) c.as_bytes-digits.ensures.value c.format.ensures.text in
    stored _ _ _ digits c.copy_from_slice.ensures.after c.ending.ensures (omega arith)
