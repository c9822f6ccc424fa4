-- Which bits of the beam mask a report reads.
use Rattle.std.specs.Prelude.{List, [], ◌∷◌, map, ℕ, ◌+◌, ◌-◌, ◌*◌, ◌%◌, eqb}
use Rattle.ground.specs.Cases.{◌⇒◌∣◌}
use Rattle.turn.specs.declared.Beam.{Beam}
use Rattle.settings.specs.Settings.{two_ports, across, down}
use Rattle.settings.specs.Ranges.{beam}
use Rattle.report.specs.declared.Report.{Report}
use Rattle.report.specs.Beams.{is_half, beams}

-- the bit of the beam (l,m), reduced
abbrev pub beam_bit : ℕ → Beam → ℕ
beam_bit n2 x = down n2 * x.l + x.m

-- two ports: bits 0 to 3 for i2 at v = 1, and bits 4 and 5 at v = 2
unfoldable pub two_port_bit : Report → ℕ
two_port_bit r = eqb r.v 1 ⇒ r.i2 ∣ 4 + r.i2

-- a half-length beam of (l,m) is read by the bits of three beams: (2·l - 1, m), taken modulo N1·O1 in the first number,
-- (2·l, m) and (2·l + 1, m); at l = 0 the first is of the last row. N1·O1 is added, as 2·l - 1 may be below 0.
unfoldable pub neighbours : ℕ → ℕ → ℕ → List Beam
neighbours n1 l m = beam ((2 * l + across n1 - 1) % across n1) m ∷ beam (2 * l) m ∷ beam (2 * l + 1) m ∷ []

-- the beams whose bits are read, above two ports
abbrev pub beams_read : Report → List Beam
beams_read r = is_half r ⇒ neighbours r.n1 r.i11 r.i12 ∣ beams r

unfoldable pub bits_read : Report → List ℕ
bits_read r = two_ports r.n1 ⇒ two_port_bit r ∷ [] ∣ map (beam_bit r.n2) (beams_read r)
