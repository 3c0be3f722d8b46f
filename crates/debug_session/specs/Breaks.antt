-- Processors at a break.
use Rattle.std.specs.Prelude.{◌≡◌, ℕ, ◌^◌, ◌<◌, ◌≤◌, Bool, true, false, List, ◌∷◌, ◌++◌, length, slice_index_or, ◌↔◌}
use Rattle.std.specs.Prelude.{Some, IsSomeAnd}
use Rattle.flat_machine.specs.declared.event.Status.TheVariants.{Running}
use Rattle.flat_machine.specs.State.{Processor}
use Rattle.steps.specs.declared.step.Step.{Step}
use Rattle.steps.specs.declared.step.Step.TheVariants as step
use Rattle.steps.specs.Kinds.{turn_processor}
use Rattle.steps.specs.declared.step.Outcome.{Outcome}
use Rattle.steps.specs.declared.step.Outcome.TheVariants as outcome
use Rattle.machine_steps.specs.machine_theory.Processors.{open_at}
use Rattle.machine_steps.specs.Machines.{MachineLists}
use Rattle.machine_steps.specs.Runs.{answer_after}
pub use Rattle.machine_steps.specs.Runs.{machine_after}
use Rattle.machine_steps.specs.Standing.{processor_of}
use Rattle.debug_replies.specs.Breaking.{is_break}

abbrev pub processor_after : (opening : MachineLists) → (done : List Step) → (p : ℕ) → Processor
processor_after m done p = ((machine_after m done).core p).state

-- An instruction retired in the step.
abbrev pub IsRetirement : Outcome → Type 0
IsRetirement (outcome.Retired retired) = Unit {0}
IsRetirement _ = ⊥

-- Processor p has retired an instruction after the first `start` steps.
pub record HasRetired (opening : MachineLists) (start : ℕ) (done : List Step) (p : ℕ) : Type 0 where
  pub before : List Step
  pub rest : List Step
  pub is : done ≡ before ++ step.Turn p ∷ rest
  pub after : start ≤ length before
  pub retired : IsRetirement (answer_after opening before (step.Turn p))

-- Processor p is at a break: it runs, has no reference open, has retired an instruction after the first `start` steps,
-- and its pc is a break.
pub record StandsAtBreak (opening : MachineLists) (breaks : List Bool) (start : ℕ) (done : List Step)
    (p : ℕ) : Type 0 where
  pub there : p < 2 ^ opening.config.k
  pub running : (processor_after opening done p).status ≡ Running
  pub shut : (machine_after opening done).is_open p ≡ false
  pub retired : HasRetired opening start done p
  pub at_break : is_break breaks (processor_after opening done p).pc ≡ true

-- ---- flags for the processors that have retired an instruction

abbrev pub is_noted : (flags : List Bool) → (p : ℕ) → Bool
is_noted flags p = slice_index_or flags p false

-- The step retires an instruction of processor p.
abbrev pub Retires : Step → Outcome → (p : ℕ) → Type 0
Retires s o p = (turn_processor s ≡ Some p) × IsRetirement o

-- The flags say which processors have retired an instruction after the first `start` steps.
abbrev pub AreFlagged : (opening : MachineLists) → (start : ℕ) → (flags : List Bool) → (done : List Step) → Type 0
AreFlagged m start flags done = (p : ℕ) → p < 2 ^ m.config.k → (is_noted flags p ≡ true) ↔ HasRetired m start done p

-- Processor p is at a break of this machine, if the flags say which processors have retired an instruction.
pub record IsAtBreak (m : MachineLists) (breaks flags : List Bool) (p : ℕ) : Type 0 where
  pub there : p < 2 ^ m.config.k
  pub running : (processor_of m p).status ≡ Running
  pub shut : open_at m.ports p ≡ false
  pub retired : is_noted flags p ≡ true
  pub at_break : is_break breaks (processor_of m p).pc ≡ true

-- The step is a turn of such a processor.
abbrev pub MeetsBreak : (m : MachineLists) → (breaks flags : List Bool) → Step → Type 0
MeetsBreak m breaks flags s = IsSomeAnd (turn_processor s) (IsAtBreak m breaks flags)
