-- Each public function has one outcome on every input.
use mathlib.Core.Path.{sym, ◌∙◌}
use Rattle.ground.specs.Unique.{Unique}
use Rattle.single.proofs.of_whole_beams.Reads as of_whole_beams
use Rattle.single.proofs.of_half_length_beam.Reads as of_half_length_beam

pub of_whole_beams_unique : Unique of_whole_beams.Learnt
of_whole_beams_unique k a r r' e e' p q = p ∙ sym q

pub of_half_length_beam_unique : Unique of_half_length_beam.Learnt
of_half_length_beam_unique k a r r' e e' p q = p ∙ sym q
