-- What `ultra stats` prints: from the bytes of files to counts of what the steps of a run did.
use Rattle.std.specs.Prelude.{◌≡◌, ◌++◌, ℕ, List}
use Rattle.flat_machine.specs.declared.config.Config.{Config}
use Rattle.elf_image.specs.Images.{ImageContents}
use Rattle.steps.specs.declared.step.Step.{Step}
use Rattle.machine_steps.specs.Machines.{MachineLists}
use Rattle.machine_steps.specs.Runs.{IsOpening, IsRun}
use Rattle.machine_steps.specs.Answers.{answers_of}
use Rattle.run_counts.specs.Counting.{noted_of}
use Rattle.run_counts.specs.Counts.{AreCounts, CountsState}
use Rattle.run_counts.specs.Lines.{lines_of}
use Rattle.run_counts.specs.Rounds.{IsFewest}
use Rattle.run_counts.specs.declared.longest.Longest.{Longest}
use Rattle.trace_counts.specs.Longest.{AreLongest}
use Rattle.run_reports.specs.Reports.{IsExitOf}
use Rattle.trace_commands.specs.Explained.{IsDrainedWithSteps}
use Rattle.trace_commands.specs.SizeLines.{size_line}

-- The machine of this size that opens on the image takes the steps. After the line of the size come the counts of what
-- the steps did, the longest queues, and the fewest rounds of the sweep that take the steps. The exit status is that of
-- the machine after the steps.
pub record AreCountedSteps (c : Config) (image : ImageContents) (steps : List Step) (text : List ℕ)
    (status : ℕ) : Type 0 where
  pub opening : MachineLists
  pub opens : IsOpening c image opening
  pub machine : MachineLists
  pub run : IsRun opening steps machine
  pub counts : CountsState
  pub are : AreCounts (noted_of (answers_of opening steps)) counts
  pub longest : Longest
  pub most : AreLongest opening steps longest
  pub rounds : ℕ
  pub fewest : IsFewest steps rounds
  pub lines : text ≡ size_line c ++ lines_of c.k counts longest rounds
  pub exit : IsExitOf machine status

-- These are the lines that count the steps of a trace and those of a drain.
pub record AreStatsLines (c : Config) (image : ImageContents) (steps : List Step) (text : List ℕ)
    (status : ℕ) : Type 0 where
  pub all : List Step
  pub home : IsDrainedWithSteps c image steps all
  pub counted : AreCountedSteps c image all text status
