-- The codebook before version 1.2.0, and how a refusal may differ from what it was: a half-length beam was read by one bit.
use Rattle.std.specs.Prelude.{◌≡◌, true, List, [], ◌∷◌, map, ℕ, T}
use Rattle.ground.specs.Cases.{◌⇒◌∣◌}
use Rattle.ground.specs.Lists.{among}
use Rattle.settings.specs.Settings.{two_ports}
use Rattle.report.specs.declared.Report.{Report}
use Rattle.report.specs.Beams.{is_half, beams}
use Rattle.plan.specs.Answer.{Codebook}
use Rattle.single.specs.Masks.{beam_bit, two_port_bit}
use Rattle.single.specs.Single.{reading}

-- the bits of the beams alone, of a half-length beam of (l,m) the middle one of three, that of (2·l, m)
unfoldable pub own_bits : Report → List ℕ
own_bits r = two_ports r.n1 ⇒ two_port_bit r ∷ [] ∣ map (beam_bit r.n2) (beams r)

abbrev pub before : Codebook Report
before = reading own_bits

-- the refusal of a report is another than it was: it is 10, it was none, 13 or 11, and the beams have half their length
pub record BarredSince (r : Report) (number numberBefore : ℕ) : Type 0 where
  pub ten : number ≡ 10
  pub none_or_later : T (among numberBefore (0 ∷ 13 ∷ 11 ∷ []))
  pub half_length : is_half r ≡ true
