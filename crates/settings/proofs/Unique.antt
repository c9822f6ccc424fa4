-- Each public function of the crate has one outcome on every input: any two that its contract admits are equal.
use mathlib.Core.Path.{sym, ◌∙◌}
use Rattle.ground.specs.Unique.{Unique}
use Rattle.settings.proofs.sizes_of.Reads as sizes-of
use Rattle.settings.proofs.mask_bytes.Reads as mask-bytes
use Rattle.settings.proofs.ranges_of.Reads as ranges-of
use Rattle.settings.proofs.values.is_mode_two.Reads as is-mode-two
use Rattle.settings.proofs.values.is_half_length.Reads as is-half-length

pub sizes_of_unique : Unique sizes-of.Learnt
sizes_of_unique k a r r' e e' p q = p ∙ sym q

pub mask_bytes_unique : Unique mask-bytes.Learnt
mask_bytes_unique k a r r' e e' p q = p ∙ sym q

pub ranges_of_unique : Unique ranges-of.Learnt
ranges_of_unique k a r r' e e' p q = p ∙ sym q

pub is_mode_two_unique : Unique is-mode-two.Learnt
is_mode_two_unique k a r r' e e' p q = p ∙ sym q

pub is_half_length_unique : Unique is-half-length.Learnt
is_half_length_unique k a r r' e e' p q = p ∙ sym q
