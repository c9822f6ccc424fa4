-- Each turn has the column of the next layer, with offsets, put after those that stand.
use Rattle.std.proofs.Common.{◌≡◌, ℕ, ◌+◌, ◌*◌, ◌≤◌, ◌<◌, length, take, rules, arith, sym, ap, subst, subst₂, ◌∙◌}
use native.Mathlib.Nat.{le_antisymm, mul-le-mul_right}
use lib.Seq.{length-take-le, get_or-take}
use Rattle.offsets.specs.Offsets.{fed}
use Rattle.plan.specs.declared.Drawing.{Drawing}
use Rattle.plan.specs.Drawing.{height, column_at, drawn}
use Rattle.writer.specs.Blocks.{Laid, DrawnIn}
use Rattle.writer.proofs.Laid.{laid_none, laid_layer, drawn_place}
use Rattle.writer.proofs.layers.Goals as goal

pub loop-code-init : goal.loop-code-init
unfolding drawn
loop-code-init c = laid_none _ 0

within : (h v j at room long : ℕ) → at ≡ j * h → j < v → v * h + 16 ≤ room → long ≡ room → at + h + 16 ≤ long
within h v j at room long e less k same = omega (arith, mul-le-mul_right h less)

-- the codes that are read are those of the layers
codes_long : (s : Drawing) → length s.codes ≡ 8 → s.v ≤ 8 → length (take s.v s.codes) ≡ s.v
codes_long s e h = length-take-le s.v s.codes (omega (arith, e, h))

pub column-at-requires : goal.column-at-requires
column-at-requires c =
    let s = c.args.s.now in
    let l = c.loop-code in (
      subst (DrawnIn s) (sym l.invariant.long) c.requires,
      within (height s) s.v l.code-index _ _ _ (drawn_place _ s l.code-index l.invariant)
          (rw (codes_long s (search rules) c.requires.few) at c.loop-code-test.true) c.requires.fits l.invariant.long,
    )

pub loop-code-preserved : goal.loop-code-preserved
loop-code-preserved c =
    let a = c.args in
    let s = a.s.now in
    let l = c.loop-code in
    let j = rw (codes_long s (search rules) c.requires.few) at c.loop-code-test.true in
    laid_layer _ s l.code-index l.invariant
    (subst (λ (code : ℕ). Laid l.out l.at (fed a.ports.offsets.now (column_at s code)) c.column-at.result c.column-at.new.out)
    (get_or-take s.v s.codes l.code-index 0 j) c.column-at.ensures)

pub returns : goal.returns
returns c =
    let s = c.args.s.now in
    let l = c.loop-code in
    let os = c.args.ports.offsets.now in
    let all : l.code-index ≡ s.v = le_antisymm l.auto.code-index-end c.loop-code-test.false ∙ codes_long s (search rules) c.requires.few in
    let end = drawn_place os s l.code-index l.invariant ∙ ap (λ (j : ℕ). j * height s) all in
    subst₂ (λ (j to : ℕ). Laid c.args.out.now 0 (drawn os s j) to l.out) all end l.invariant
