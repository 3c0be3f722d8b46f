-- What `ultra picture` prints: the drawing of the view of a machine after steps.
use Rattle.std.specs.Prelude.{ℕ, List, Option, Some, None, length, take}
use Rattle.flat_machine.specs.declared.config.Config.{Config}
use Rattle.elf_image.specs.Images.{ImageContents}
use Rattle.steps.specs.declared.step.Step.{Step}
use Rattle.machine_picture.specs.Drawings.{Draws}
use Rattle.machine_views.specs.Views.{view_of}
use Rattle.machine_steps.specs.Machines.{MachineLists}
use Rattle.machine_steps.specs.Runs.{IsOpening, IsRun}
use Rattle.trace_commands.specs.TraceReports.{ReportRelation}
use Rattle.run_reports.specs.Reports.{IsExitOf}
use Rattle.trace_commands.specs.Explained.{IsDrainedWithSteps}

-- the first N of the steps, or all of them
abbrev pub first_of : Option ℕ → List Step → List Step
first_of None steps = steps
first_of (Some count) steps = take count steps

-- The machine of this size that opens on the image takes this many of the steps of a trace and a drain. The text is the
-- drawing of its view after them, and the exit status is that of the machine then.
pub record IsDrawnAfter (draws : Draws) (c : Config) (image : ImageContents) (steps : List Step) (step : Option ℕ)
    (text : List ℕ) (status : ℕ) : Type 0 where
  pub all : List Step
  pub home : IsDrainedWithSteps c image steps all
  pub opening : MachineLists
  pub opens : IsOpening c image opening
  pub machine : MachineLists
  pub run : IsRun opening (first_of step all) machine
  pub drawn : draws (view_of machine (length (first_of step all))) text
  pub exit : IsExitOf machine status

-- what `ultra picture` prints for steps
abbrev pub draws_after : Draws → Option ℕ → ReportRelation
draws_after draws step c image steps text status = IsDrawnAfter draws c image steps step text status
