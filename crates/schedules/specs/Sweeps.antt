-- What a sweep enters in a machine's log, and how a sweep ends.
use Rattle.std.specs.Prelude.{◌≡◌, ◌⊎◌, ℕ, zero, suc, ◌+◌, ◌^◌, ◌≤◌, ◌<◌, Bool, true, false, min, List, [], ◌∷◌, ◌++◌}
use Rattle.std.specs.Prelude.{length, take, Option, Some, None}
use Rattle.flat_machine.specs.declared.config.Config.{Config}
use Rattle.flat_machine.specs.declared.event.Cause.TheVariants as cause
use Rattle.flat_machine.specs.declared.event.Status.{Status}
use Rattle.flat_machine.specs.declared.event.Status.TheVariants.{Running}
use Rattle.machine_steps.specs.elf_image.Images.{ImageContents}
use Rattle.steps.specs.declared.step.Step.{Step}
use Rattle.steps.specs.declared.step.Outcome.{Outcome}
use Rattle.steps.specs.declared.step.Outcome.TheVariants as outcome
use Rattle.machine_steps.specs.Draining.{drain_steps}
use Rattle.machine_steps.specs.Machines.{MachineLists, IsIdle}
use Rattle.machine_steps.specs.Runs.{answer_after, machine_after, IsOpening, IsReplay}
use Rattle.machine_log.specs.Logs.{Log, entered}
pub use Rattle.machine_log.specs.Logs.{opened}
use Rattle.schedules.specs.Rounds.{round, row_start}
use Rattle.schedules.specs.declared.sweeping.SweepEnd.{SweepEnd}
use Rattle.schedules.specs.declared.sweeping.SweepEnd.TheVariants.{Over, Budget}

-- the log's steps after others are asked for, one after another: each is entered unless it stalls
unfoldable pub entered_of : (opening : MachineLists) → (done asked : List Step) → List Step
entered_of m done [] = done
entered_of m done (s ∷ ss) = entered_of m (entered done s (answer_after m done s)) ss

-- `count` rounds of the sweep, one after another
abbrev pub rounds : (k count : ℕ) → List Step
rounds k zero = []
rounds k (suc n) = rounds k n ++ round k

-- the most steps that a sweep enters
abbrev pub most_of : (budget : ℕ) → ℕ
most_of budget = min budget 4000000

-- ---- how a sweep ends

-- the status of processor p after these steps
abbrev pub status_after : (opening : MachineLists) → (done : List Step) → (p : ℕ) → Status
status_after m done p = ((machine_after m done).core p).state.status

-- A processor runs after these steps.
abbrev pub RunsAfter : (opening : MachineLists) → (done : List Step) → Type 0
RunsAfter m done = (p : ℕ) × (p < 2 ^ m.config.k) × (status_after m done p ≡ Running)

-- A processor stopped in the step.
abbrev pub IsStop : Outcome → Type 0
IsStop (outcome.Stopped cause) = Unit {0}
IsStop _ = ⊥

-- A fault stopped a processor in the step.
abbrev pub IsFault : Outcome → Type 0
IsFault (outcome.Stopped (cause.Fault fault)) = Unit {0}
IsFault _ = ⊥

-- The last step comes after at least `start` others, and a fault stopped a processor in it.
pub record EndsInFault (opening : MachineLists) (start : ℕ) (steps : List Step) : Type 0 where
  pub before : List Step
  pub last : Step
  pub is : steps ≡ before ++ last ∷ []
  pub after : start ≤ length before
  pub fault : IsFault (answer_after opening before last)

-- A sweep that began after `start` steps is over: a fault stopped a processor in its last step, or no processor runs.
abbrev pub IsOver : (opening : MachineLists) → (start : ℕ) → (steps : List Step) → Type 0
IsOver m start steps = EndsInFault m start steps ⊎ (RunsAfter m steps → ⊥)

-- A sweep that leaves at most `limit` steps has ended for this reason.
abbrev pub EndsAt : (opening : MachineLists) → (start limit : ℕ) → (steps : List Step) → SweepEnd → Type 0
EndsAt m start limit steps Over = IsOver m start steps
EndsAt m start limit steps Budget = (length steps ≡ limit) × (IsOver m start steps → ⊥)

-- A log has followed the sweep from the beginning of a round, until a fault stopped a processor, no processor ran, or
-- it had `limit` steps.
pub record HasFollowed (limit : ℕ) (old : Log) (end : SweepEnd) (new : Log) : Type 0 where
  pub opening : new.opening ≡ old.opening
  pub replay : IsReplay new.opening new.steps new.machine
  -- It was asked for whole rounds and a part of one.
  pub whole : ℕ
  pub part : ℕ
  pub steps : new.steps
      ≡ entered_of old.opening old.steps (rounds old.machine.config.k whole ++ take part (round old.machine.config.k))
  pub few : length new.steps ≤ limit
  -- The sweep was not over before.
  pub first : (place : ℕ) → length old.steps ≤ place → place < length new.steps →
      IsOver old.opening (length old.steps) (take place new.steps) → ⊥
  pub ends : EndsAt old.opening (length old.steps) limit new.steps end

-- A log has followed the sweep for at most `most` steps, and was then drained.
pub record IsSwept (most : ℕ) (old : Log) (end : SweepEnd) (new : Log) : Type 0 where
  pub middle : Log
  pub followed : HasFollowed (length old.steps + most) old end middle
  pub opening : new.opening ≡ old.opening
  pub steps : new.steps ≡ middle.steps ++ drain_steps middle.machine
  pub idle : IsIdle new.machine

-- ---- a whole run

-- The log has followed the sweep from its machine's opening on an image for at most `most` steps, and was drained.
pub record IsWholeRun (c : Config) (image : ImageContents) (most : ℕ) (end : SweepEnd) (log : Log) : Type 0 where
  pub opens : IsOpening c image log.opening
  pub replay : IsReplay log.opening log.steps log.machine
  pub swept : IsSwept most (opened log.opening) end log

-- ---- a round

-- A round was asked for, or a part of one after which there is no room. Some step was entered, and the sweep is not
-- over.
pub record IsUnderWay (limit : ℕ) (old : Log) (part : ℕ) (new : Log) : Type 0 where
  pub running : RunsAfter old.opening new.steps
  pub sound : EndsInFault old.opening (length old.steps) new.steps → ⊥
  pub whole : (take part (round old.machine.config.k) ≡ round old.machine.config.k) ⊎ (limit ≤ length new.steps)
  pub some : length old.steps < length new.steps

-- A round was asked for, or a part of one after which the sweep is over or there is no room.
pub record WasAskedRound (limit : ℕ) (old : Log) (is_over : Bool) (new : Log) : Type 0 where
  pub opening : new.opening ≡ old.opening
  pub replay : IsReplay new.opening new.steps new.machine
  pub part : ℕ
  pub steps : new.steps ≡ entered_of old.opening old.steps (take part (round old.machine.config.k))
  pub few : length new.steps ≤ limit
  pub first : (place : ℕ) → length old.steps ≤ place → place < length new.steps →
      IsOver old.opening (length old.steps) (take place new.steps) → ⊥
  pub over : is_over ≡ true → IsOver old.opening (length old.steps) new.steps
  pub goes_on : is_over ≡ false → IsUnderWay limit old part new

-- ---- a part of a round

-- The first `part` steps of a round were asked for, and the sweep is not over.
pub record IsInRound (limit : ℕ) (old : Log) (part : ℕ) (new : Log) : Type 0 where
  pub opening : new.opening ≡ old.opening
  pub config : new.machine.config ≡ old.machine.config
  pub replay : IsReplay new.opening new.steps new.machine
  pub steps : new.steps ≡ entered_of old.opening old.steps (take part (round old.machine.config.k))
  pub few : length new.steps ≤ limit
  pub first : (place : ℕ) → length old.steps ≤ place → place < length new.steps →
      IsOver old.opening (length old.steps) (take place new.steps) → ⊥
  pub running : RunsAfter old.opening new.steps
  pub sound : EndsInFault old.opening (length old.steps) new.steps → ⊥

-- A round has advanced from one place to another, or it has ended in between: the sweep is over, or there is no room.
pub record HasGone (limit from to : ℕ) (old : Log) (end : Option Bool) (new : Log) : Type 0 where
  pub config : new.machine.config ≡ old.machine.config
  pub on : end ≡ None → (start : Log) → IsInRound limit start from old → IsInRound limit start to new
  pub ended : (is_over : Bool) → end ≡ Some is_over → (start : Log) → length start.steps < limit →
      IsInRound limit start from old →
      WasAskedRound limit start is_over new

-- A round has advanced from the beginning of one row to that of another, or has ended in between.
abbrev pub HasGoneRows : (limit from to : ℕ) → (old : Log) → (end : Option Bool) → (new : Log) → Type 0
HasGoneRows limit from to old end new =
    HasGone limit (row_start old.machine.config.k from) (row_start old.machine.config.k to) old end new

-- A round has advanced through one row, or has ended within it.
abbrev pub HasGoneRow : (limit row : ℕ) → (old : Log) → (end : Option Bool) → (new : Log) → Type 0
HasGoneRow limit row old end new = HasGoneRows limit row (row + 1) old end new
