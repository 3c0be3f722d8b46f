-- What a row of a study is: how the run of an image on a machine of one size ended, and what its steps come to.
use Rattle.std.specs.Prelude.{◌≡◌, ℕ, ◌^◌, ◌==◌, max, List, fold, length, slice_index, if◌then◌else◌}
use Rattle.std.specs.List.{AllZip}
use Rattle.flat_machine.specs.declared.config.Config.{Config}
use Rattle.elf_image.specs.Images.{ImageContents}
use Rattle.steps.specs.declared.step.Step.{Step}
use Rattle.machine_steps.specs.Answers.{answers_of}
use Rattle.machine_steps.specs.Machines.{MachineLists}
use Rattle.machine_steps.specs.Runs.{IsOpening}
use Rattle.machine_log.specs.Logs.{Log}
use Rattle.schedules.specs.Sweeps.{IsWholeRun, most_of as most_steps}
use Rattle.schedules.specs.declared.sweeping.SweepEnd.{SweepEnd}
use Rattle.schedules.specs.declared.sweeping.SweepEnd.TheVariants as sweep
use Rattle.run_counts.specs.Counting.{noted_of}
use Rattle.run_counts.specs.Counts.{AreCounts, CountsState}
use Rattle.run_counts.specs.Latencies.{latencies_of}
use Rattle.run_counts.specs.LatencyLines.{mean_of}
use Rattle.run_counts.specs.Longest.{at_stage}
use Rattle.run_counts.specs.Rounds.{IsFewest}
use Rattle.run_counts.specs.declared.longest.Held.TheVariants.{Requests, Records, Replies}
use Rattle.run_counts.specs.declared.longest.Longest.{Longest}
use Rattle.run_reports.specs.Reports.{IsExitOf}
use Rattle.trace_counts.specs.Latencies.{on_words}
use Rattle.trace_counts.specs.Longest.{AreLongest, most_of}
use Rattle.trace_counts.specs.QueueLengths.{total_of}
use Rattle.study_rows.specs.Sizes.{with_size}
use Rattle.study_rows.specs.declared.row.Figures.{Figures}
use Rattle.study_rows.specs.declared.row.Row.{Row}
use Rattle.study_rows.specs.declared.row.RunEnd.{RunEnd}
use Rattle.study_rows.specs.declared.row.RunEnd.TheVariants as end
use Rattle.study_rows.specs.declared.size.Size.{Size}

-- ---- the end of a run

-- how a run ended, from how its sweep ended and the exit status for how the processors stopped
abbrev pub end_of : SweepEnd → (status : ℕ) → RunEnd
end_of sweep.Budget status = end.Budget
end_of sweep.Over status = if status == 0 then end.Over else end.Fault

-- the exit status for a run that ended so
abbrev pub exit_of : RunEnd → ℕ
exit_of end.Over = 0
exit_of end.Fault = 1
exit_of end.Budget = 4

-- the greatest exit status of the rows, or 0 if there are none
unfoldable pub greatest_exit : List Row → ℕ
greatest_exit rows = fold (λ n row. max n (exit_of row.end)) 0 rows

-- ---- the figures of steps

-- What the counts, the longest queues, the rounds and the latencies come to, on a network with k stages: the sum of the
-- requests combined at the stages, and the longest queue of any stage.
abbrev pub figures_of : (k : ℕ) → CountsState → Longest → (rounds : ℕ) → (latencies : List ℕ) → Figures
figures_of k t longest rounds latencies = record {
  steps = t.observed;
  rounds = rounds;
  references = length latencies;
  serve = slice_index t.kinds 2;
  combined = total_of (slice_index t.combined) k;
  requests = most_of (at_stage longest Requests) k 0;
  records = most_of (at_stage longest Records) k 0;
  replies = most_of (at_stage longest Replies) k 0;
  mean = mean_of latencies;
}

-- The machine of this size that opens on the image takes the steps. These are their counts, and the longest queues.
pub record AreCounted (c : Config) (image : ImageContents) (steps : List Step) (counts : CountsState)
    (longest : Longest) : Type 0 where
  pub opening : MachineLists
  pub opens : IsOpening c image opening
  pub are : AreCounts (noted_of (answers_of opening steps)) counts
  pub most : AreLongest opening steps longest

-- The machine of this size that opens on the image takes the steps. These are the latencies of all references, in the
-- order in which these retired.
pub record AreLatencies (c : Config) (image : ImageContents) (steps : List Step) (latencies : List ℕ) : Type 0 where
  pub opening : MachineLists
  pub opens : IsOpening c image opening
  pub are : latencies ≡ (latencies_of c.shared_words (on_words opening steps)).all

-- These are the figures of the steps on the machine of this size that opens on the image.
pub record AreFigures (c : Config) (image : ImageContents) (steps : List Step) (f : Figures) : Type 0 where
  pub counts : CountsState
  pub longest : Longest
  pub counted : AreCounted c image steps counts longest
  pub latencies : List ℕ
  pub timed : AreLatencies c image steps latencies
  pub rounds : ℕ
  pub fewest : IsFewest steps rounds
  pub are : f ≡ figures_of c.k counts longest rounds latencies

-- ---- rows

-- The machine of this size opened on the image, followed the sweep for at most as many steps as the budget, and was
-- drained. The row says how that ended, and what the steps come to.
pub record IsRowOf (budget : ℕ) (image : ImageContents) (c : Config) (row : Row) : Type 0 where
  pub log : Log
  pub swept_to : SweepEnd
  pub run : IsWholeRun c image (most_steps budget) swept_to log
  pub status : ℕ
  pub exit : IsExitOf log.machine status
  pub ended : row.end ≡ end_of swept_to status
  pub processors : row.processors ≡ 2 ^ c.k
  pub figures : AreFigures c image log.steps row.figures

-- the same, of a machine that has this size of a study
pub record IsRow (budget : ℕ) (image : ImageContents) (c : Config) (size : Size) (row : Row) : Type 0 where
  pub size_is : row.size ≡ size
  pub of_run : IsRowOf budget image (with_size c size) row

-- These are the rows of the sizes, in their order.
abbrev pub AreRows : (budget : ℕ) → ImageContents → Config → List Size → List Row → Type 0
AreRows budget image c sizes rows = AllZip (IsRow budget image c) sizes rows
