-- What `ultra order` prints: from the bytes of files to the lines of a serial order.
use Rattle.std.specs.Prelude.{◌≡◌, ℕ, List}
use Rattle.flat_machine.specs.declared.config.Config.{Config}
use Rattle.flat_machine.specs.declared.poke.Entry.{Entry}
use Rattle.flat_machine.specs.Flat.{flat_run}
use Rattle.flat_machine.specs.State.{FlatState}
use Rattle.elf_image.specs.Images.{ImageContents}
use Rattle.elf_image.specs.Openings.{opening as flat_opening}
use Rattle.steps.specs.declared.step.Step.{Step}
use Rattle.machine_steps.specs.Runs.{passed}
use Rattle.trace_lines.specs.declared.choice.Choice.{Choice}
use Rattle.trace_lines.specs.OrderLines.{lines_of}
use Rattle.trace_commands.specs.Explained.{IsDrainedWithSteps, IsExplainedRun}
use Rattle.run_reports.specs.Reports.{HasFlatFaulted}

-- the serial order of an explained run
abbrev pub order_of : {c : Config} {image : ImageContents} {steps : List Step} → IsExplainedRun c image steps →
    List Entry
order_of {steps = steps} run = (passed run.opening steps).order

-- These are the chosen lines of the flat machine of this size that takes the entries one after another, and the exit
-- status says whether a fault has stopped one of its processors.
pub record AreFlatLines (c : Config) (opening : FlatState) (order : List Entry) (choice : Choice) (text : List ℕ)
    (status : ℕ) : Type 0 where
  pub are : text ≡ lines_of choice opening order
  pub faulted : HasFlatFaulted c (flat_run opening order) → status ≡ 1
  pub sound : (HasFlatFaulted c (flat_run opening order) → ⊥) → status ≡ 0

-- These are the chosen lines of the serial order that explains the steps of a trace and those of a drain.
pub record AreOrderLines (choice : Choice) (c : Config) (image : ImageContents) (steps : List Step) (text : List ℕ)
    (status : ℕ) : Type 0 where
  pub all : List Step
  pub home : IsDrainedWithSteps c image steps all
  pub flat : AreFlatLines c (flat_opening c image.layout) (order_of home.run) choice text status
