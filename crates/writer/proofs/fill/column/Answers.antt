-- Each turn draws one block more, with its offsets, after those that stand.
use Rattle.std.proofs.Common.{◌≡◌, ℕ, ◌+◌, ◌-◌, ◌*◌, ◌≤◌, ◌<◌, List, length, take, drop, get_or, length-drop, arith, sym, ap, subst, ◌∙◌}
use native.Mathlib.Nat.{le_antisymm, mul-le-mul_right}
use lib.Seq.{length-take-le, get_or-take}
use Rattle.turn.specs.Phase.{half}
use Rattle.turn.specs.Column.{product, column}
use Rattle.offsets.specs.Offsets.{fed}
use Rattle.offsets.proofs.Fed.{fed_none}
use Rattle.plan.specs.declared.Drawing.{Drawing}
use Rattle.plan.specs.Drawing.{height, place_of, co_at, co_row, beam_at, column_at, step_x, step_y}
use Rattle.writer.specs.Blocks.{placed, Laid, DrawnIn}
use Rattle.writer.proofs.Columns.{length_row, row_at, co_small}
use Rattle.writer.proofs.Laid.{laid_none, sixteen, blocks_of, laid_block, column_place}
use Rattle.writer.proofs.fill.column.Goals as goal

-- the turns of the loop are the blocks
turns : {row : List ℕ} (co : List ℕ) (code pairs : ℕ) → row ≡ co_row co code 8 → pairs ≤ 4
    → length (take (2 * pairs) row) ≡ 2 * pairs
turns {row} co code pairs e few = length-take-le (2 * pairs) row (omega (arith, few, ap length e ∙ length_row co code 8))

-- what a turn adds
added : {row : List ℕ} (co : List ℕ) (code pairs q : ℕ) → row ≡ co_row co code 8 → pairs ≤ 4 → q < 2 * pairs
    → get_or (take (2 * pairs) row) q 0 ≡ co_at co code q
added {row} co code pairs q e few h =
    get_or-take (2 * pairs) row q 0 h ∙ ap (λ (xs : List ℕ). get_or xs q 0) e ∙ row_at co code 8 q (omega (arith, h, few))

-- the block of a turn: its place in the buffer, and that of its offsets
record Room (at to h q room : ℕ) : Type 0 where
  first : to + 16 ≤ room
  back : at ≤ to
  here : to - at ≡ q * h
  offsets : to - at + 16 ≤ 48

within : (at h pairs q to long room : ℕ) → to ≡ at + q * h → q < 2 * pairs → 2 * (pairs * h) ≤ 32
    → at + 2 * (pairs * h) + 16 ≤ long → room ≡ long → Room at to h q room
within at h pairs q to long room e below ports k same =
    let last : q * h + h ≤ 2 * (pairs * h) = omega (arith, mul-le-mul_right h below) in
    record { first = omega arith; back = omega arith; here = omega arith; offsets = omega arith }

room : {lent mid row : List ℕ} {at to : ℕ} (os : List ℕ) (s : Drawing) (code step q : ℕ) → DrawnIn s (length lent)
    → at + height s + 16 ≤ length lent → row ≡ co_row s.co code 8 → q < length (take (2 * s.pairs) row)
    → Laid lent at (blocks_of os s.co code s.rows s.columns (step_x step) (step_y step) q) to mid
    → Room at to (s.rows * s.columns) q (length mid)
room os s code step q z k row below p =
    within _ _ s.pairs q _ _ _ (column_place os s.co code s.rows s.columns _ _ q p)
    (rw (turns s.co code s.pairs row z.pairs) at below) z.ports k p.long

pub loop-c-init : goal.loop-c-init
unfolding co_row column product
loop-c-init c =
    let a = c.args in
    subst (λ (xs : List ℕ). Laid a.out.now a.at xs a.at a.out.now) (sym (fed_none a.ports.offsets.now)) (laid_none _ _)

pub loop-c-preserved : goal.loop-c-preserved
loop-c-preserved c =
    let a = c.args in
    let s = a.s.now in
    let l = c.loop-c in
    let few = c.requires.0.pairs in
    let row = c.co_phases-co.ensures in
    let step = get_or s.steps (place_of a.code) 0 in
    let r = room _ s a.code step l.c-index c.requires.0 c.requires.1 row c.loop-c-test.true l.invariant in
    let h = rw (turns s.co a.code s.pairs row few) at c.loop-c-test.true in
    laid_block a.ports.offsets.now s.co a.code s.rows s.columns (step_x step) (step_y step) l.c-index (l.to - a.at) _ l.invariant r.here
    (c.draw.ensures
    ∙ ap (λ (k : ℕ). fed (drop (l.to - a.at) a.ports.offsets.now) (placed s.columns (step_x step) (step_y step) k))
    (added s.co a.code s.pairs l.c-index row few h)) (sixteen _) c.requires.0.some c.requires.0.block r.first

pub overflow_sub-to : goal.overflow_sub-to
overflow_sub-to c =
    let s = c.args.s.now in
    let l = c.loop-c in
    (room _ s c.args.code _ l.c-index c.requires.0 c.requires.1 c.co_phases-co.ensures c.loop-c-test.true l.invariant).back

pub slice_bounds-draw-end : goal.slice_bounds-draw-end
slice_bounds-draw-end c =
    let s = c.args.s.now in
    let l = c.loop-c in
    (room _ s c.args.code _ l.c-index c.requires.0 c.requires.1 c.co_phases-co.ensures c.loop-c-test.true l.invariant).first

-- sixteen places from place n on
places : (n : ℕ) (out : List ℕ) → n + 16 ≤ length out → length (take (n + 16 - n) (drop n out)) ≡ 16
places n out h = length-take-le (n + 16 - n) (drop n out) (omega (arith, h, length-drop n out)) ∙ sixteen n

pub draw-requires : goal.draw-requires
draw-requires c =
    let s = c.args.s.now in
    let l = c.loop-c in
    let few = c.requires.0.pairs in
    let row = c.co_phases-co.ensures in
    let r = room _ s c.args.code _ l.c-index c.requires.0 c.requires.1 row c.loop-c-test.true l.invariant in
    let h = rw (turns s.co c.args.code s.pairs row few) at c.loop-c-test.true in (
      subst (λ (k : ℕ). k ≤ 511 + half) (sym (added s.co c.args.code s.pairs l.c-index row few h)) (co_small s.co c.args.code l.c-index),
      r.offsets,
      places l.to l.out r.first,
    )

pub returns : goal.returns
unfolding column_at beam_at
returns c =
    let a = c.args in
    let s = a.s.now in
    let l = c.loop-c in
    let step = get_or s.steps (place_of a.code) 0 in
    let blocks = blocks_of a.ports.offsets.now s.co a.code s.rows s.columns (step_x step) (step_y step) in
    let long = turns s.co a.code s.pairs c.co_phases-co.ensures c.requires.0.pairs in
    subst (λ (q : ℕ). Laid a.out.now a.at (blocks q) l.to l.out)
    (le_antisymm l.auto.c-index-end c.loop-c-test.false ∙ long) l.invariant
