-- A trace has a record of each step of a random run and of its drain.
use Rattle.std.proofs.Common.{◌≡◌, subst, ℕ, true}
use Rattle.trace_file.specs.Traces.{HaveRecords}
use Rattle.machine_steps.specs.Runs.{IsReplay}
use Rattle.machine_log.specs.Logs.{Log}
use Rattle.steps.specs.Kinds.{no_poke}
use Rattle.steps.proofs.Lemmas.{no_poke_front}
use Rattle.schedules.specs.declared.sweeping.SweepEnd.{SweepEnd}
use Rattle.schedules.proofs.Lemmas.{drained_has_records}
use Rattle.schedules.specs.Sweeps.{most_of}
use Rattle.hunt_command.specs.declared.policy.Policy.{Policy}
use Rattle.hunt_command.specs.Runs.{HasRunAtRandom}
use Rattle.random_schedules.proofs.Lemmas.{no_poke_schedule}

-- If the steps of a log had records before a random run, they have records after it.
pub run_has_records : (number : ℕ) (policy : Policy) (old : Log) (end : SweepEnd) (new : Log) → HasRunAtRandom number policy old end new →
    IsReplay new.opening new.steps new.machine → old.machine.config ≡ old.opening.config → HaveRecords old.machine.config.k old.steps →
    HaveRecords new.machine.config.k new.steps
run_has_records number policy old end new ran replay size =
    let plan = no_poke_schedule policy.strategy old.machine.config.k number (most_of policy.budget) in
    let own = no_poke_front ran.asked.asked ran.asked.unasked (subst (λ xs. no_poke xs ≡ true) ran.asked.all plan) in
    drained_has_records old ran.middle new ran.asked.asked own ran.asked.steps ran.opening ran.steps replay size
