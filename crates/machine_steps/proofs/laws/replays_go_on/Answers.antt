use Rattle.std.proofs.Common.{refl}
use Rattle.steps.specs.declared.step.Outcome.TheVariants.{Stalled}
use Rattle.machine_steps.specs.Laws.{StepsAreEntered, StallsAreNotEntered}
use Rattle.machine_steps.proofs.Replaying.{replay_begins, replay_more, replay_kept}
use Rattle.machine_steps.proofs.Stalling.{stalled_keeps}
use Rattle.machine_steps.proofs.laws.replays_go_on.Goals as goal

entered : StepsAreEntered
entered opening mid new steps s o replay is moves = replay_more opening mid new steps s o replay is moves

stalled : StallsAreNotEntered
stalled opening mid new steps s sound replay is = replay_kept opening mid new steps s Stalled replay is (stalled_keeps mid new s Stalled sound is refl)

pub returns-clause-begins : goal.returns-clause-begins
returns-clause-begins c = replay_begins

pub returns-clause-entered : goal.returns-clause-entered
returns-clause-entered c = entered

pub returns-clause-stalled : goal.returns-clause-stalled
returns-clause-stalled c = stalled
