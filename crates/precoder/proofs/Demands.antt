-- The single-panel codebook answers for the demands (crates/plan/specs/Demands.antt), with the refusals 1 to 10, 13 and 11
-- in this order.
use mathlib.Core.Path.{◌≡◌, refl, ap, ◌∙◌}
use mathlib.Core.Bool.{true}
use mathlib.Core.List.{List, [], ◌∷◌, ◌++◌, map}
use Prim.Native.Nat.{ℕ, ◌-◌, ◌*◌, ◌≤◌}
use lib.ListN.{replicate}
use borrow.Author.Tests.{le-leb}
use Rattle.settings.specs.Settings.{ports}
use Rattle.settings.specs.Ranges.{beam, half_length}
use Rattle.report.specs.declared.Report.{Report}
use Rattle.report.specs.Rules.{InRange}
use Rattle.report.specs.Beams.{is_half}
use Rattle.plan.specs.declared.Record.{Record}
use Rattle.plan.specs.Plan.{no_beam}
use Rattle.plan.specs.Masks.{bit}
use Rattle.plan.specs.Answer.{Called}
use Rattle.plan.specs.Demands.{Demands}
use Rattle.plan.proofs.Answers.{as_accepted}
use Rattle.plan.proofs.Demands.{demanded}
use Rattle.single.specs.Masks.{beam_bit, neighbours}
use Rattle.single.specs.Single.{single}
use Rattle.single.proofs.Neighbours.{half_bits}
use Rattle.single.proofs.InPlace.{half_named, two_ports_named}
use Rattle.single.proofs.Lawful.{single_lawful}

-- of every report, beam mask, rank mask and list of offsets
pub single_demanded : (r : Report) (mask : List ℕ) (ranks : ℕ) (offsets : List ℕ)
    → Demands single InRange (1 ∷ 2 ∷ 3 ∷ 4 ∷ 5 ∷ 6 ∷ 7 ∷ 8 ∷ 9 ∷ 10 ∷ 13 ∷ 11 ∷ []) r mask ranks offsets
single_demanded = demanded single _ refl single_lawful

is_half_lem : (r : Report) → 3 ≤ r.v → r.v ≤ 4 → 16 ≤ ports r.n1 r.n2 → is_half r ≡ true
unfolding half_length
is_half_lem r three four sixteen = rw (le-leb 3 r.v three, le-leb r.v 4 four, le-leb 16 _ sixteen)

-- 2c in the report's own numbers: where one with three or four layers on 16 ports or more is accepted, the bits of
-- (2·i11 - 1, i12), the first number modulo N1·O1, of (2·i11, i12) and of (2·i11 + 1, i12) are one.
pub three_bits_one : (r : Report) (mask : List ℕ) (ranks : ℕ) (offsets : List ℕ) (room : ℕ) {A : Type 0} {answer lent left : List A} {given : Record}
    → Called single r mask ranks offsets room answer lent given left → given.refusal ≡ 0
    → 3 ≤ r.v → r.v ≤ 4 → 16 ≤ ports r.n1 r.n2
    → map (bit mask) (map (beam_bit r.n2) (neighbours r.n1 r.i11 r.i12)) ≡ 1 ∷ 1 ∷ 1 ∷ []
unfolding neighbours
three_bits_one r mask ranks offsets room call e three four sixteen =
    let demands = single_demanded r mask ranks offsets in
    rw (half_bits r (demands.accepted_in_range room call e) (is_half_lem r three four sixteen))
    at (demands.bits_read_are_one room call e)

-- What the record of such a report names: for each layer (2·i11, i12), though three bits are read.
pub half_length_named : (r : Report) (mask : List ℕ) (ranks : ℕ) (offsets : List ℕ) (room : ℕ) {A : Type 0} {answer lent left : List A}
    {given : Record} → Called single r mask ranks offsets room answer lent given left → given.refusal ≡ 0
    → 3 ≤ r.v → r.v ≤ 4 → 16 ≤ ports r.n1 r.n2
    → given.beams ≡ replicate r.v (beam (2 * r.i11) r.i12) ++ replicate (8 - r.v) no_beam
half_length_named r mask ranks offsets room call e three four sixteen =
    let demands = single_demanded r mask ranks offsets in
    (demands.named_not_barred room call e).0
    ∙ ap (λ xs. xs ++ replicate (8 - r.v) no_beam)
    (half_named r (demands.accepted_in_range room call e) (is_half_lem r three four sixteen))

-- What the record of a report of two ports names: no beam.
pub two_ports_unnamed : (r : Report) (mask : List ℕ) (ranks : ℕ) (offsets : List ℕ) (room : ℕ) {A : Type 0} {answer lent left : List A}
    {given : Record} → Called single r mask ranks offsets room answer lent given left → given.refusal ≡ 0 → r.n1 ≡ 1
    → given.beams ≡ replicate 8 no_beam
two_ports_unnamed r mask ranks offsets room call e two =
    let h = (single_demanded r mask ranks offsets).accepted_in_range room call e in
    ap (λ (a : Record). a.beams) (as_accepted refl call e _ refl).1 ∙ two_ports_named r h two
