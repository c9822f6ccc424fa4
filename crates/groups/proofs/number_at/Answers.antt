-- A byte is a fault, the number's last, or one that another follows; then the number so far fits, and the rest completes it.
use Rattle.std.proofs.Common.{◌≡◌, ℕ, List, ◌+◌, ◌-◌, ◌*◌, ◌%◌, ◌^◌, ◌<◌, ◌≤◌, length, drop, sym, ◌∙◌, arith}
use lib.ListN.{get_or}
use Rattle.groups.specs.Number.{fault, scan, number_at}
use Rattle.groups.proofs.Bytes.{scan_ends, scan_padded, scan_large, scan_last, scan_more, Goes, group_fits, goes_on}
use Rattle.groups.proofs.number_at.Goals as goal
use Rattle.groups.proofs.number_at.Goals.{Else-is_large, Else-b-lt128}

-- the bytes end at a place
ends_here : (bytes : List ℕ) (from i n at : ℕ) {place : ℕ} → length bytes ≤ at → at ≡ place
    → scan i n at (drop at bytes) ≡ number_at bytes from → fault 1 place ≡ number_at bytes from
ends_here bytes from i n at h e so_far = rw (← e) (sym (scan_ends bytes i n at h) ∙ so_far)

pub returns-then-is_padded : goal.returns-then-is_padded
returns-then-is_padded c =
    let l = c.loop-at in
    sym (scan_padded _ _ l.value l.at (omega arith) (sym c.if-is_padded.ensures)) ∙ l.invariant.completes

pub returns-then-is_large : goal.returns-then-is_large
returns-then-is_large c =
    let l = c.loop-at in
    sym (scan_large _ _ l.value l.at (omega arith) (sym c.if-is_padded.ensures) (sym c.if-is_large.ensures))
    ∙ l.invariant.completes

-- where the byte is not too large its group fits
fits : (c : Else-is_large) → c.loop-at.value + get_or c.args.bytes.now c.loop-at.at 0 % 128 * c.loop-at.weight < 2 ^ 32
fits c =
    let l = c.loop-at in
    rw l.invariant.power (group_fits _ _ _ l.invariant.few (sym c.if-is_large.ensures) l.invariant.small)

-- and where another follows, the weight does
goes : (c : Else-b-lt128) → Goes (c.loop-at.at - c.args.from) c.loop-at.value (get_or c.args.bytes.now c.loop-at.at 0)
goes c =
    let l = c.loop-at in
    goes_on _ _ _ l.invariant.few (sym c.if-is_large.ensures) (omega arith) l.invariant.small

pub overflow_mul-value : goal.overflow_mul-value
overflow_mul-value c = record { fits = omega (arith, fits (goal.at.overflow_mul-value c).Else-is_large) }

pub overflow_add-value : goal.overflow_add-value
overflow_add-value c = record { fits = fits (goal.at.overflow_add-value c).Else-is_large }

pub returns-then-b-lt128 : goal.returns-then-b-lt128
returns-then-b-lt128 c =
    let l = c.loop-at in
    rw l.invariant.power
    (sym (scan_last _ _ l.value l.at (omega arith) (sym c.if-is_padded.ensures) (sym c.if-is_large.ensures) (omega arith))
    ∙ l.invariant.completes)

pub overflow_mul-weight : goal.overflow_mul-weight
overflow_mul-weight c = record { fits = rw c.loop-at.invariant.power (goes (goal.at.overflow_mul-weight c).Else-b-lt128).fits }

pub loop-at-preserved : goal.loop-at-preserved
loop-at-preserved c =
    let l = c.loop-at in
    let more = goes (goal.at.loop-at-preserved c).Else-b-lt128 in
    let next : l.at + 1 - c.args.from ≡ l.at - c.args.from + 1 = omega arith in
    record {
      few = omega (arith, more.few);
      within = omega arith;
      power = rw (next, l.invariant.power) more.weight;
      small = rw (next, l.invariant.power) more.small;
      completes =
          rw (next, l.invariant.power)
          (sym (scan_more _ _ l.value l.at (omega arith) (sym c.if-is_padded.ensures) (sym c.if-is_large.ensures) (omega arith))
          ∙ l.invariant.completes);
    }

pub returns : goal.returns
returns c =
    let l = c.loop-at in
    ends_here c.args.bytes.now c.args.from (l.at - c.args.from) l.value l.at (omega arith) (omega arith) l.invariant.completes
