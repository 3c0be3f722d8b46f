-- A run that one serial order of whole instructions explains: the steps of a trace, then those of a drain.
use Rattle.std.specs.Prelude.{◌≡◌, List, ◌++◌}
use Rattle.flat_machine.specs.declared.config.Config.{Config}
use Rattle.elf_image.specs.Images.{ImageContents}
use Rattle.steps.specs.declared.step.Step.{Step}
use Rattle.machine_steps.specs.Machines.{MachineLists, IsIdle}
use Rattle.machine_steps.specs.Runs.{IsOpening, IsReplay, IsSerialized}
use Rattle.machine_steps.specs.Draining.{drain_steps}
use Rattle.trace_commands.specs.TraceReports.{StandsAfter}

-- A run of the machine of this size that opens on the image: it has taken these steps, each of which did something, no
-- reference is open after them, and one serial order of whole instructions explains them.
pub record IsExplainedRun (c : Config) (image : ImageContents) (steps : List Step) : Type 0 where
  pub opening : MachineLists
  pub opens : IsOpening c image opening
  pub machine : MachineLists
  pub replay : IsReplay opening steps machine
  pub idle : IsIdle machine
  pub serialized : IsSerialized opening steps machine

-- All steps are the given ones and then those of a drain, and one serial order explains them.
pub record IsDrainedWithSteps (c : Config) (image : ImageContents) (steps all : List Step) : Type 0 where
  pub before : MachineLists
  pub stands : StandsAfter c image steps before
  pub is : all ≡ steps ++ drain_steps before
  pub run : IsExplainedRun c image all
