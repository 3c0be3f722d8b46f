-- From a decision to the call that it allows.
use Rattle.flat_machine.specs.Turns.{Turn, Retires, Reaches, Stops}
use Rattle.hart.specs.declared.decision.Decision.{Decision}
use Rattle.hart.specs.declared.decision.Decision.TheVariants.{Local, Refer, Halt, Fault}
use Rattle.hart.specs.Deciding.{Allows, Decides}

-- If a decision is right for a turn, the turn fits the call that follows the decision.
pub allowed : (d : Decision) (t : Turn) → Decides d t → Allows d t
allowed Local (Retires after retired) d = tt
allowed Local (Reaches word change after) d = absurd d
allowed Local (Stops cause) d = absurd d
allowed (Refer word phi shape) (Retires after retired) d = absurd d
allowed (Refer word phi shape) (Reaches reached change after) d = tt
allowed (Refer word phi shape) (Stops cause) d = absurd d
allowed (Halt byte) t d = tt
allowed (Fault fault) t d = tt
