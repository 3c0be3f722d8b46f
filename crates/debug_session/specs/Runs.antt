-- What a runner does to a log.
use Rattle.std.specs.Prelude.{◌≡◌, Bool, true, List, ◌++◌}
use Rattle.steps.specs.declared.step.Step.{Step}
use Rattle.machine_steps.specs.Machines.{IsIdle}
use Rattle.machine_steps.specs.Runs.{IsReplay}
use Rattle.machine_log.specs.Logs.{Log}
use Rattle.steps.specs.Kinds.{no_poke}

-- The log has its old steps and more, none of which is a poke. Its old machine has taken just these, each of which did
-- something, and no reference is open.
pub record HasDriven (old new : Log) : Type 0 where
  pub opening : new.opening ≡ old.opening
  pub more : List Step
  pub steps : new.steps ≡ old.steps ++ more
  pub no_pokes : no_poke more ≡ true
  pub replay : IsReplay old.machine more new.machine
  pub idle : IsIdle new.machine

-- What a runner does with its budget.
pub record RunSpec : Type 1 where
  -- The log has no room for the steps that the runner may take.
  pub lacks_room : Log → Type 0
  -- With these breaks, the runner has taken the log from the old state to the new.
  pub runs : (breaks : List Bool) → (old new : Log) → Type 0
