-- Each exported function has one outcome on every input: any two that its contract admits are equal, the result and
-- every entry of the buffer.
use mathlib.Core.Path.{◌∙◌, sym}
use Rattle.ground.specs.Unique.{Unique, UniqueLeft}
use Rattle.plan.proofs.Answers.{one_answer}
use Rattle.aspenflick_c.proofs.aspenflick_version_3.Reads as version
use Rattle.aspenflick_c.proofs.aspenflick_mask_bytes_3.Reads as mask-bytes
use Rattle.aspenflick_c.proofs.aspenflick_phases_3.Reads as phases
use Rattle.aspenflick_c.proofs.aspenflick_weights_3.Reads as weights
use Rattle.aspenflick_c.proofs.aspenflick_panel_phases_3.Reads as panel-phases
use Rattle.aspenflick_c.proofs.aspenflick_panel_weights_3.Reads as panel-weights
use Rattle.aspenflick_c.proofs.aspenflick_log_next_3.Reads as log-next

pub aspenflick_version_unique : Unique version.Learnt
aspenflick_version_unique k a r r' e e' p q = p ∙ sym q

pub aspenflick_mask_bytes_unique : Unique mask-bytes.Learnt
aspenflick_mask_bytes_unique k a r r' e e' p q = p ∙ sym q

pub aspenflick_phases_unique : UniqueLeft phases.Learnt (λ k e. e.1.1.1.1.0.now)
aspenflick_phases_unique k a r r' e e' = one_answer

pub aspenflick_weights_unique : UniqueLeft weights.Learnt (λ k e. e.1.1.1.1.0.now)
aspenflick_weights_unique k a r r' e e' = one_answer

pub aspenflick_panel_phases_unique : UniqueLeft panel-phases.Learnt (λ k e. e.1.1.1.1.0.now)
aspenflick_panel_phases_unique k a r r' e e' = one_answer

pub aspenflick_panel_weights_unique : UniqueLeft panel-weights.Learnt (λ k e. e.1.1.1.1.0.now)
aspenflick_panel_weights_unique k a r r' e e' = one_answer

pub aspenflick_log_next_unique : Unique log-next.Learnt
aspenflick_log_next_unique k a r r' e e' p q = p ∙ sym q
