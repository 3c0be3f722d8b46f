use Rattle.machine_steps.specs.Laws.{RunsAreSerialized}
use Rattle.machine_steps.proofs.Running.{serialized}
use Rattle.machine_steps.proofs.Events.{events_are_shown}
use Rattle.machine_steps.proofs.laws.runs_are_serialized.Goals as goal

each : RunsAreSerialized
each opening steps machine is idle is' run = serialized opening steps machine is idle is' run

pub returns-clause-each : goal.returns-clause-each
returns-clause-each c = each

pub returns-clause-events : goal.returns-clause-events
returns-clause-events c = events_are_shown
