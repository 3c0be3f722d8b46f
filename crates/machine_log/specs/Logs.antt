-- A machine with the log of its steps.
use Rattle.std.specs.Prelude.{◌≡◌, ℕ, ◌+◌, ◌-◌, ◌≤◌, min, true, All, List, [], ◌∷◌, ◌++◌, length, map, if◌then◌else◌}
use Rattle.flat_machine.specs.declared.config.Config.{Config}
use Rattle.flat_machine.specs.declared.event.Event.{Event}
use Rattle.flat_machine.specs.declared.poke.Poke.{Poke}
use Rattle.flat_machine.specs.declared.poke.Entry.TheVariants as entry
use Rattle.flat_machine.specs.Flat.{flat_run}
use Rattle.steps.specs.declared.step.Step.{Step}
use Rattle.steps.specs.declared.step.Step.TheVariants as step
use Rattle.steps.specs.declared.step.Outcome.{Outcome}
use Rattle.steps.specs.declared.step.Outcome.TheVariants.{Stalled}
use Rattle.steps.specs.Answers.{is_stalled}
use Rattle.machine_steps.specs.Machines.{MachineLists, machine_of, AreHome, IsIdle, IsMachine, IsStep}
use Rattle.machine_theory.specs.Processors.{is_lawful_poke}
use Rattle.machine_steps.specs.Runs.{flat_state, IsReplay}

pub record Log : Type 0 where
  -- the machine before the first of the steps
  pub opening : MachineLists
  pub steps : List Step
  -- the machine after them
  pub machine : MachineLists

-- the log of a machine that has taken no step yet
abbrev pub opened : MachineLists → Log
opened m = record { opening = m; steps = []; machine = m }

-- A log with room for more steps: it takes as many as it has places left without new memory, within its limit.
pub record ReservedLogModel : Type 0 where
  pub log : Log
  pub capacity_left : ℕ

-- how many more steps a list of this capacity can hold, if a log has at most 4,194,304
abbrev pub places_of : (capacity : ℕ) → List Step → ℕ
places_of capacity steps = min capacity 4194304 - length steps

-- Each step that was entered took one place, and no other place was lost.
abbrev pub KeepsCapacity : (old new : ReservedLogModel) → Type 0
KeepsCapacity old new = length new.log.steps + new.capacity_left ≡ length old.log.steps + old.capacity_left

-- the steps after a step is entered, unless it stalled
abbrev pub entered : List Step → Step → Outcome → List Step
entered steps s o = if is_stalled o then steps else steps ++ s ∷ []

-- What always holds of a log: in its opening no reference is open and no core is away, and its machine is the replay of
-- the opening over the steps.
pub record IsWellFormed (l : Log) : Type 0 where
  pub opens : IsMachine l.opening
  pub idle : IsIdle l.opening
  pub home : AreHome l.opening
  pub sound : IsMachine l.machine
  pub replay : IsReplay l.opening l.steps l.machine
  pub room : length l.steps ≤ 4194304

-- The log has taken a step.
pub record HasTaken (old : Log) (s : Step) (o : Outcome) (new : Log) : Type 0 where
  pub opening : new.opening ≡ old.opening
  pub step : IsStep old.machine s o new.machine
  pub steps : new.steps ≡ entered old.steps s o
  pub stalled : o ≡ Stalled → (shown : ℕ → List Event) → machine_of new.machine shown ≡ machine_of old.machine shown

-- The log has the steps that it had, followed by at most this many more.
pub record IsLonger (old new : Log) (most : ℕ) : Type 0 where
  pub opening : new.opening ≡ old.opening
  pub more : List Step
  pub steps : new.steps ≡ old.steps ++ more
  pub count : length more ≤ most

-- Each of these pokes is lawful for a machine of this size.
abbrev pub AreLawful : Config → List Poke → Type 0
AreLawful c pokes = All (λ q. is_lawful_poke c q ≡ true) pokes

-- The log has taken and entered these pokes, one after another: each was a step of the flat machine.
pub record HasPoked (old : Log) (pokes : List Poke) (new : Log) : Type 0 where
  pub opening : new.opening ≡ old.opening
  pub steps : new.steps ≡ old.steps ++ map step.Poke pokes
  pub replay : IsReplay old.machine (map step.Poke pokes) new.machine
  pub idle : IsIdle new.machine
  pub flat : flat_state new.machine ≡ flat_run (flat_state old.machine) (map entry.Poke pokes)

-- ---- a machine whose steps are entered in a list

-- The machine has taken steps, at most this many, and they are appended to the list. So a replay over the list is still
-- one.
pub record IsEntered (machine : MachineLists) (steps : List Step) (most : ℕ) (machine' : MachineLists)
    (steps' : List Step) : Type 0 where
  pub sound : IsMachine machine'
  pub more : List Step
  pub is : steps' ≡ steps ++ more
  pub count : length more ≤ most
  pub replay : (opening : MachineLists) → IsReplay opening steps machine → IsReplay opening steps' machine'

-- The machine has written these pokes, and they are appended to the list.
pub record ArePoked (machine : MachineLists) (steps : List Step) (pokes : List Poke) (machine' : MachineLists)
    (steps' : List Step) : Type 0 where
  pub is : steps' ≡ steps ++ map step.Poke pokes
  pub replay : IsReplay machine (map step.Poke pokes) machine'
  pub idle : IsIdle machine'
  pub flat : flat_state machine' ≡ flat_run (flat_state machine) (map entry.Poke pokes)
  pub entered : IsEntered machine steps (length pokes) machine' steps'
