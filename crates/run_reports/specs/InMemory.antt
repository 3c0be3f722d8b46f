-- Steps taken on a machine, and a tally of what its processors show in them that may be lost.
use Rattle.std.specs.Prelude.{◌≡◌, List, Option, Some}
use Rattle.steps.specs.declared.step.Step.{Step}
use Rattle.machine_steps.specs.Machines.{MachineLists}
use Rattle.machine_steps.specs.Runs.{IsReplay}
use Rattle.command_io.specs.Tallies.{TallyState}
use Rattle.run_reports.specs.CountedReplays.{IsReplayCounted}

-- The machine has taken the steps since its opening, none of which stalled, and the tally, if there is one, has what
-- each processor has shown in them.
pub record IsReplayInMemory (opening : MachineLists) (steps : List Step) (m : MachineLists)
    (tally : Option TallyState) : Type 0 where
  pub replay : IsReplay opening steps m
  pub counted : (t : TallyState) → tally ≡ Some t → IsReplayCounted opening steps m t
