-- What `ultra story` prints: from the bytes of files to the chosen lines of the steps of a run.
use Rattle.std.specs.Prelude.{◌≡◌, ℕ, Bool, ◌&&◌, List, [], ◌∷◌, Option, Some, None, if◌then◌else◌}
use Rattle.flat_machine.specs.declared.config.Config.{Config}
use Rattle.elf_image.specs.Images.{ImageContents}
use Rattle.steps.specs.declared.step.Step.{Step}
use Rattle.steps.specs.declared.step.Outcome.{Outcome}
use Rattle.machine_steps.specs.machine_theory.Theory as theory
use Rattle.machine_steps.specs.machine_theory.Processors.{ObservedCore}
use Rattle.machine_steps.specs.machine_theory.Steps.{outcome_of, after}
use Rattle.machine_steps.specs.Machines.{MachineLists, machine_of}
use Rattle.machine_steps.specs.Runs.{IsOpening, IsRun}
use Rattle.machine_views.specs.Subjects.{subject_of}
use Rattle.machine_views.specs.Values.{values_of}
use Rattle.trace_lines.specs.declared.choice.Choice.{Choice}
use Rattle.trace_lines.specs.declared.subject.Subject.{Subject}
use Rattle.trace_lines.specs.declared.values.Values.{Values}
use Rattle.trace_lines.specs.StoryLines.{StoryStep, story_of, story_step}
use Rattle.run_counts.specs.declared.rounds.Begun.{Begun}
use Rattle.run_counts.specs.Rounds.{begun_at, is_asked, none_begun}
use Rattle.run_reports.specs.Reports.{IsExitOf}
use Rattle.trace_commands.specs.Explained.{IsDrainedWithSteps}

-- what a step is about, on the machine before it
abbrev pub subject_on : Config → (code : List ℕ) → theory.Machine ObservedCore → Step → Subject
subject_on c code M s = subject_of c code M.net (λ p. (M.core p).state) s

-- the values that a step about this word tells, by the machine after it
abbrev pub values_on : Config → theory.Machine ObservedCore → (word : Option ℕ) → Step → Outcome → Values
values_on c M word s o = values_of c M.net M.mem word s o

-- the round of a step, if rounds are wanted: the last of those that the sweep began up to it. A write from outside is
-- of no round.
abbrev pub round_of : (rounds : Bool) → Begun → Step → Option ℕ
round_of rounds r s = if rounds && is_asked s then Some (begun_at r s).count else None

-- a step with its outcome, what it is about, and the values that it tells, on the machine before it, after these rounds
abbrev pub story_step_on : (rounds : Bool) → Config → (code : List ℕ) → Begun → theory.Machine ObservedCore → Step
    → StoryStep
story_step_on rounds c code r M s =
    story_step s (outcome_of c code M s) (subject_on c code M s)
    (values_on c (after c code M s) (subject_on c code M s).word s (outcome_of c code M s)) (round_of rounds r s)

-- the steps with their outcomes, what they are about and what they tell, each on the machine after the steps before it
unfoldable pub story_steps_from : (rounds : Bool) → Config → (code : List ℕ) → Begun → theory.Machine ObservedCore
    → List Step → List StoryStep
story_steps_from rounds c code r M [] = []
story_steps_from rounds c code r M (s ∷ ss) =
    story_step_on rounds c code r M s ∷ story_steps_from rounds c code (begun_at r s) (after c code M s) ss

-- the same, from this machine and the first round
unfoldable pub story_steps_of : (rounds : Bool) → MachineLists → List Step → List StoryStep
story_steps_of rounds m steps = story_steps_from rounds m.config m.code none_begun (machine_of m (λ p. [])) steps

-- The machine of this size that opens on the image takes the steps, and each line says what a chosen step did, or which
-- round begins. The exit status is that of the machine after the steps.
pub record AreStorySteps (choice : Choice) (rounds : Bool) (c : Config) (image : ImageContents) (steps : List Step)
    (text : List ℕ) (status : ℕ) : Type 0 where
  pub opening : MachineLists
  pub opens : IsOpening c image opening
  pub machine : MachineLists
  pub run : IsRun opening steps machine
  pub are : text ≡ story_of choice (story_steps_of rounds opening steps)
  pub exit : IsExitOf machine status

-- These are the chosen lines of the steps of a trace and those of a drain, if wanted with the rounds of the sweep.
pub record AreStoryLines (choice : Choice) (rounds : Bool) (c : Config) (image : ImageContents) (steps : List Step)
    (text : List ℕ) (status : ℕ) : Type 0 where
  pub all : List Step
  pub home : IsDrainedWithSteps c image steps all
  pub contents_are : AreStorySteps choice rounds c image all text status
