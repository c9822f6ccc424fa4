-- It is the call's, by the definition of weights.
use Rattle.plan.specs.Answer.{weights_of}
use Rattle.render.specs.Rendered.{weighed}
use Rattle.aspenflick.proofs.aspenflick_panel_weights_3.Goals as goal

pub returns : goal.returns
unfolding weights_of weighed
returns c = c.entries.ensures
