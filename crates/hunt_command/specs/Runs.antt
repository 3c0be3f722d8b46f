-- Which steps of a schedule a log takes, and how a run ends.
use Rattle.std.specs.Prelude.{◌≡◌, ◌⊎◌, ℕ, ◌+◌, ◌≤◌, ◌<◌, List, [], ◌++◌, length, take}
use Rattle.flat_machine.specs.declared.config.Config.{Config}
use Rattle.elf_image.specs.Images.{ImageContents}
use Rattle.steps.specs.declared.step.Step.{Step}
use Rattle.machine_steps.specs.Draining.{drain_steps}
use Rattle.machine_steps.specs.Machines.{MachineLists, IsIdle}
use Rattle.machine_steps.specs.Runs.{IsOpening, IsReplay}
use Rattle.machine_log.specs.Logs.{Log}
use Rattle.schedules.specs.Sweeps.{IsOver, entered_of, most_of, opened}
use Rattle.schedules.specs.declared.sweeping.SweepEnd.{SweepEnd}
use Rattle.schedules.specs.declared.sweeping.SweepEnd.TheVariants.{Over, Budget}
use Rattle.random_schedules.specs.Schedules.{schedule}
use Rattle.hunt_command.specs.declared.policy.Policy.{Policy}

-- The run has ended in this way, given its steps, their limit, and the steps of its schedule that were not asked for.
abbrev pub EndsWith : (opening : MachineLists) → (start limit : ℕ) → (steps unasked : List Step) → SweepEnd → Type 0
EndsWith m start limit steps unasked Over = IsOver m start steps
EndsWith m start limit steps unasked Budget = ((length steps ≡ limit) ⊎ (unasked ≡ [])) × (IsOver m start steps → ⊥)

-- The log was asked for the steps of the schedule, one after another, until a fault stopped a processor, no processor
-- ran, the log had this many steps, or all had been asked for. It has logged each step that did something.
pub record WasAsked (plan : List Step) (limit : ℕ) (old : Log) (end : SweepEnd) (new : Log) : Type 0 where
  pub opening : new.opening ≡ old.opening
  pub replay : IsReplay new.opening new.steps new.machine
  pub asked : List Step
  pub unasked : List Step
  pub all : plan ≡ asked ++ unasked
  pub steps : new.steps ≡ entered_of old.opening old.steps asked
  pub few : length new.steps ≤ limit
  -- The run was not over before.
  pub first : (place : ℕ) → length old.steps ≤ place → place < length new.steps →
      IsOver old.opening (length old.steps) (take place new.steps) → ⊥
  pub ends : EndsWith old.opening (length old.steps) limit new.steps unasked end

-- The log has run by the schedule with this number, for at most as many steps and turns as the policy says, and was
-- then drained.
pub record HasRunAtRandom (number : ℕ) (policy : Policy) (old : Log) (end : SweepEnd) (new : Log) : Type 0 where
  pub middle : Log
  pub asked : WasAsked (schedule policy.strategy old.machine.config.k number (most_of policy.budget))
      (length old.steps + most_of policy.budget) old end middle
  pub opening : new.opening ≡ old.opening
  pub steps : new.steps ≡ middle.steps ++ drain_steps middle.machine
  pub idle : IsIdle new.machine

-- The log has run in this way from its machine's opening on the image.
pub record IsRandomRun (c : Config) (image : ImageContents) (number : ℕ) (policy : Policy)
    (end : SweepEnd) (log : Log) : Type 0 where
  pub opens : IsOpening c image log.opening
  pub replay : IsReplay log.opening log.steps log.machine
  pub ran : HasRunAtRandom number policy (opened log.opening) end log
