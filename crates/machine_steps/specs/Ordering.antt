-- The serial order of a run, as it grows with the outcomes of steps.
use Rattle.std.specs.Prelude.{◌≡◌, ℕ, ◌+◌, ◌≤◌, Bool, true, false, List, [], ◌∷◌, ◌++◌, length, slice_index_or}
use Rattle.arrayvec.specs.ArrayVec.{ArrayVec}
use Rattle.flat_machine.specs.declared.poke.Entry.{Entry}
use Rattle.flat_machine.specs.declared.poke.Poke.{Poke}
use Rattle.machine_theory.specs.Order.{segment, group_after}
use Rattle.machine_theory.specs.Theory as theory
use Rattle.steps.specs.declared.step.Step.{Step}
use Rattle.steps.specs.declared.step.Step.TheVariants as step
use Rattle.steps.specs.declared.step.Outcome.{Outcome}
use Rattle.steps.specs.declared.step.Outcome.TheVariants.{Retired, Issued, Stopped, Combined, Served, Poked}
use Rattle.machine_theory.specs.Processors.{open_at}
use Rattle.machine_steps.specs.Machines.{MachineLists}

-- ---- what an outcome tells the order

-- what a turn tells the order; a reference is entered when it is served, so its retirement tells nothing more
abbrev pub turn_tells : ℕ → (was_open : Bool) → Outcome → theory.Outcome
turn_tells p was_open Issued = theory.Issued p
turn_tells p true (Retired retired) = theory.Stalled
turn_tells p false (Retired retired) = theory.Advanced p
turn_tells p was_open (Stopped cause) = theory.Advanced p
turn_tells p was_open _ = theory.Stalled

abbrev pub move_tells : Outcome → theory.Outcome
move_tells (Combined first second) = theory.Combined first second
move_tells (Served leader) = theory.Served leader
move_tells _ = theory.Stalled

abbrev pub poke_tells : Poke → Outcome → theory.Outcome
poke_tells q Poked = theory.Poked q
poke_tells q _ = theory.Stalled

abbrev pub outcome_by : Step → (was_open : Bool) → Outcome → theory.Outcome
outcome_by (step.Turn p) was_open o = turn_tells p was_open o
outcome_by (step.Up s w) was_open o = move_tells o
outcome_by (step.Serve m) was_open o = move_tells o
outcome_by (step.Down s w) was_open o = move_tells o
outcome_by (step.Poke q) was_open o = poke_tells q o

-- whether the step is a turn of a processor that is open
abbrev pub is_open_at : MachineLists → Step → Bool
is_open_at m (step.Turn p) = open_at m.ports p
is_open_at m (step.Up s w) = false
is_open_at m (step.Serve at_module) = false
is_open_at m (step.Down s w) = false
is_open_at m (step.Poke q) = false

-- ---- groups in a list

abbrev pub no_group : ArrayVec ℕ
no_group = record { items = [] }

-- the group of a leader
abbrev pub group_in : List (ArrayVec ℕ) → ℕ → List ℕ
group_in groups p = (slice_index_or groups p no_group).items

-- how many processors wait in all groups
abbrev pub count_in : List (ArrayVec ℕ) → ℕ
count_in [] = 0
count_in (group ∷ groups) = length group.items + count_in groups

-- The outcome is entered: groups and entries are as after it, and together they have at most one processor more.
pub record IsEntered (groups : List (ArrayVec ℕ)) (entries : List Entry) (o : theory.Outcome)
    (groups' : List (ArrayVec ℕ))
    (entries' : List Entry) : Type 0 where
  pub places : length groups' ≡ length groups
  pub group : group_in groups' ≡ group_after (group_in groups) o
  pub order : entries' ≡ entries ++ segment (group_in groups) o
  pub count : length entries' + count_in groups' ≤ length entries + count_in groups + 1
