use Rattle.std.proofs.Common.{◌≡◌, ◌≤◌, ◌<◌, ◌-◌, length, take}
use Rattle.machine_lock.specs.Passes.{HaveWaited, moment}
use Rattle.machine_lock.proofs.locked_state.LockedState.rounds.Given as goal

abbrev pub invariant-loop-gone : goal.invariant-loop-gone
invariant-loop-gone g l = record {
  within : l.gone < length l.steps;
  few : l.idle ≤ l.gone;
  waited : HaveWaited g.N.Run.opening (moment l.initial.self.log.steps l.initial.pass) (take l.gone l.steps) l.idle (moment l.self.log.steps l.pass);
  processor : l.pass.processor ≡ l.initial.pass.processor;
}

abbrev pub decreases-loop-gone : goal.decreases-loop-gone
decreases-loop-gone g l = length l.steps - l.gone
