-- A machine with the log of its steps, some of whose cores are away.
use Rattle.std.specs.Prelude.{◌≡◌, ℕ, ◌+◌, ◌-◌, ◌^◌, ◌≤◌, Bool, true, false, not, ◌&&◌, nat_lt, is_some, List}
use Rattle.std.specs.Prelude.{[], ◌∷◌, ◌++◌, length, Option, Some, None, slice_index_or, slice_set}
use Rattle.flat_machine.specs.declared.event.Retired.{Retired}
use Rattle.flat_machine.specs.State.{is_running}
use Rattle.flat_machine.specs.Laws.{HasWords}
use Rattle.hart.specs.State.{CoreState}
use Rattle.steps.specs.declared.step.Step.{Step}
use Rattle.steps.specs.declared.step.Step.TheVariants as step
use Rattle.steps.specs.declared.step.Outcome.TheVariants as outcome
use Rattle.machine_steps.specs.machine_ports.Ports.{PortState, is_away}
use Rattle.machine_theory.specs.Processors.{open_at, port_at, setting_of}
use Rattle.machine_steps.specs.Machines.{MachineLists, IsMachine, away_at, with_core_at}
use Rattle.machine_steps.specs.Runs.{answer_after, IsReplay}
use Rattle.machine_theory.specs.Loans.{IsOfOthers, turns_of}
use Rattle.machine_log.specs.Logs.{Log, IsWellFormed}
use Rattle.machine_log.specs.declared.lent.Lent.{Lent}

-- how the core of processor p was lent; None if it is not away
abbrev pub lent_at : List (Option Lent) → (p : ℕ) → Option Lent
lent_at lent p = slice_index_or lent p None

-- ---- the machine with all cores back

-- a port with its core back, as it was lent
abbrev pub with_lent : PortState → Option Lent → PortState
with_lent port None = port
with_lent port (Some l) = record port { core = l.core }

unfoldable pub all_back : List PortState → List (Option Lent) → List PortState
all_back [] lent = []
all_back (port ∷ ports) [] = port ∷ ports
all_back (port ∷ ports) (l ∷ lent) = with_lent port l ∷ all_back ports lent

-- the machine with each core that is away put back as it was lent
abbrev pub whole : MachineLists → List (Option Lent) → MachineLists
whole m lent = record m { ports = all_back m.ports lent }

-- the number of steps promised to the cores that are away
unfoldable pub promised : List (Option Lent) → ℕ
promised [] = 0
promised (None ∷ lent) = promised lent
promised (Some l ∷ lent) = l.most + promised lent

pub record LendingLog : Type 0 where
  -- the log as if each core that is away were back as it was lent
  pub log : Log
  pub lent : List (Option Lent)

-- ---- what always holds

-- The core of processor p is away, and can be put back as it was lent.
pub record IsLent (m : MachineLists) (p : ℕ) (l : Lent) : Type 0 where
  pub away : away_at m p ≡ true
  pub setting : l.core.setting ≡ setting_of m.config p
  pub words : HasWords l.core.state
  pub home : is_away l.core.state ≡ false

-- With all cores back, the log is well formed. The cores that are away are those that are known to be, and there is
-- room for the steps that are promised.
pub record IsLending (opening m : MachineLists) (steps : List Step) (capacity : ℕ)
    (lent : List (Option Lent)) : Type 0 where
  pub sound : IsMachine m
  pub kept : IsWellFormed (record { opening = opening; steps = steps; machine = whole m lent })
  pub all : length lent ≡ 2 ^ m.config.k
  pub away : (p : ℕ) (l : Lent) → lent_at lent p ≡ Some l → IsLent m p l
  pub capacity_left : promised lent ≤ capacity - length steps
  pub room : length steps + promised lent ≤ 4194304

-- ---- steps while cores are away

-- The step is neither a turn of a processor whose core is away nor, if any is, a write from outside.
abbrev pub OfOthers : List (Option Lent) → Step → Type 0
OfOthers lent s = (p : ℕ) (l : Lent) → lent_at lent p ≡ Some l → IsOfOthers p s

-- ---- lending

-- whether the core of processor p can be lent: it is there and not away, and its processor runs and has no reference
-- open
abbrev pub may_lend : LendingLog → (p : ℕ) → Bool
may_lend l p = nat_lt p (2 ^ l.log.machine.config.k) && (not (is_some (lent_at l.lent p))
    && (is_running (port_at l.log.machine.ports p).core.state.status && not (open_at l.log.machine.ports p)))

-- Turns of processor p, one after another, after these steps, retire these instructions.
abbrev pub AreAnswered : (opening : MachineLists) → (steps : List Step) → (p : ℕ) → List Retired → Type 0
AreAnswered opening steps p [] = Unit {0}
AreAnswered opening steps p (retired ∷ later) =
    (answer_after opening steps (step.Turn p) ≡ outcome.Retired retired)
    × AreAnswered opening (steps ++ step.Turn p ∷ []) p later

-- The core of processor p is back, as it is after these local instructions since it was lent. A turn was entered for
-- each of them, and retires it.
pub record IsBack (old : LendingLog) (p : ℕ) (core : CoreState) (taken : List Retired) (new : LendingLog) : Type 0 where
  pub opening : new.log.opening ≡ old.log.opening
  pub machine : new.log.machine ≡ with_core_at old.log.machine p core
  pub steps : new.log.steps ≡ old.log.steps ++ turns_of p (length taken)
  pub replay : IsReplay old.log.machine (turns_of p (length taken)) new.log.machine
  pub answered : AreAnswered old.log.opening old.log.steps p taken
  pub lent : new.lent ≡ slice_set old.lent p None
