-- A machine that keeps no log of its steps.
use Rattle.std.specs.Prelude.{◌≡◌, ℕ, ◌++◌, length, Option, Some, None}
use Rattle.machine_steps.specs.Draining.{drain_steps}
use Rattle.machine_steps.specs.Machines.{MachineLists, IsIdle}
use Rattle.machine_log.specs.Logs.{Log}
use Rattle.command_io.specs.Tallies.{TallyState}
use Rattle.run_reports.specs.InMemory.{IsReplayInMemory}

-- The machine's opening, the machine now, how many steps it has taken, and what its processors have shown in them,
-- unless memory ran out.
pub record CountedModel : Type 0 where
  pub opening : MachineLists
  pub machine : MachineLists
  pub count : ℕ
  pub tally : Option TallyState

-- The tally, if there is one, has noted this many steps.
abbrev pub HasNoted : Option TallyState → ℕ → Type 0
HasNoted None count = Unit {0}
HasNoted (Some t) count = t.observed ≡ count

-- The log has the machine's opening, the machine now and as many steps, and the tally has what they show.
pub record IsCountedLog (c : CountedModel) (log : Log) : Type 0 where
  pub opening : log.opening ≡ c.opening
  pub machine : log.machine ≡ c.machine
  pub count : length log.steps ≡ c.count
  pub counted : IsReplayInMemory log.opening log.steps log.machine c.tally

-- After the steps of a drain this machine and this tally are left, and no reference is open.
pub record IsDrainedLog (c : CountedModel) (m : MachineLists) (tally : Option TallyState) : Type 0 where
  pub idle : IsIdle m
  pub counted : (log : Log) → IsCountedLog c log →
      IsReplayInMemory log.opening (log.steps ++ drain_steps log.machine) m tally
