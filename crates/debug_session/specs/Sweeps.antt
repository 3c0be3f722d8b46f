-- How far a debugger's sweep goes.
use Rattle.std.specs.Prelude.{◌≡◌, ◌⊎◌, ℕ, ◌+◌, ◌<◌, ◌≤◌, Bool, true, List, [], ◌∷◌, ◌++◌, length}
use Rattle.steps.specs.declared.step.Step.{Step}
use Rattle.steps.specs.declared.step.Step.TheVariants as step
use Rattle.machine_steps.specs.Draining.{drain_bound, drain_steps}
use Rattle.machine_steps.specs.Machines.{MachineLists, IsIdle}
use Rattle.machine_steps.specs.Runs.{answer_after, IsReplay}
use Rattle.machine_log.specs.Logs.{Log}
use Rattle.steps.specs.Kinds.{no_poke}
use Rattle.schedules.specs.Sweeps.{EndsInFault, IsFault, RunsAfter}
use Rattle.debug_session.specs.Breaks.{AreFlagged, StandsAtBreak}
use Rattle.debug_session.specs.Runs.{RunSpec}

-- A step after the first `start` ones in which a fault stops a processor is the last.
abbrev pub FaultsAreLast : (opening : MachineLists) → (start : ℕ) → (steps : List Step) → Type 0
FaultsAreLast m start steps =
    (before rest : List Step) (s : Step) → steps ≡ before ++ s ∷ rest → start ≤ length before →
    IsFault (answer_after m before s) → rest ≡ []

-- After the first `start` steps, no processor takes a turn while it is at a break.
abbrev pub NoBreakIsPassed : (opening : MachineLists) → (breaks : List Bool) → (start : ℕ) → (steps : List Step) →
    Type 0
NoBreakIsPassed m breaks start steps =
    (before rest : List Step) (p : ℕ) → steps ≡ before ++ step.Turn p ∷ rest → start ≤ length before →
    StandsAtBreak m breaks start before p → ⊥

-- Why a sweep that began after `start` steps ends: a fault stops a processor in its last step, no processor runs, the
-- limit on steps is reached, or a processor is at a break.
abbrev pub EndsHere : (opening : MachineLists) → (breaks : List Bool) → (start limit : ℕ) → (steps : List Step) → Type 0
EndsHere m breaks start limit steps =
    EndsInFault m start steps
    ⊎ ((RunsAfter m steps → ⊥) ⊎ ((length steps ≡ limit) ⊎ ((p : ℕ) × StandsAtBreak m breaks start steps p)))

-- The log has taken steps without pokes, none of them after a fault or past a break, until the sweep ended or the limit
-- was reached.
pub record HasSwept (breaks : List Bool) (limit : ℕ) (old new : Log) : Type 0 where
  pub opening : new.opening ≡ old.opening
  pub replay : IsReplay new.opening new.steps new.machine
  pub more : List Step
  pub steps : new.steps ≡ old.steps ++ more
  pub no_pokes : no_poke more ≡ true
  pub few : length new.steps ≤ limit
  pub faults : FaultsAreLast old.opening (length old.steps) new.steps
  pub breaks_are_met : NoBreakIsPassed old.opening breaks (length old.steps) new.steps
  pub ends : EndsHere old.opening breaks (length old.steps) limit new.steps

-- The log has followed the sweep for at most this many steps, and was then drained.
pub record HasContinued (breaks : List Bool) (budget : ℕ) (old new : Log) : Type 0 where
  pub middle : Log
  pub swept : HasSwept breaks (length old.steps + budget) old middle
  pub opening : new.opening ≡ old.opening
  pub steps : new.steps ≡ middle.steps ++ drain_steps middle.machine
  pub idle : IsIdle new.machine

-- what the sweep does with a budget: it asks for room for as many steps and for those of a drain
abbrev pub sweep_spec : (budget : ℕ) → RunSpec
sweep_spec budget = record {
  lacks_room = λ old. 4194304 < length old.steps + (budget + drain_bound old.machine.config);
  runs = λ breaks old new. HasContinued breaks budget old new;
}

-- ---- on the way

-- After the first `start` steps, no fault stops a processor.
abbrev pub HasNoFault : (opening : MachineLists) → (start : ℕ) → (steps : List Step) → Type 0
HasNoFault m start steps = (before rest : List Step) (s : Step) → steps ≡ before ++ s ∷ rest → start ≤ length before →
    IsFault (answer_after m before s) → ⊥

-- The sweep of the log is under way, and the flags say which processors have retired an instruction in it.
pub record IsUnderWay (breaks : List Bool) (limit : ℕ) (old : Log) (flags : List Bool) (l : Log) : Type 0 where
  pub opening : l.opening ≡ old.opening
  pub replay : IsReplay l.opening l.steps l.machine
  pub more : List Step
  pub steps : l.steps ≡ old.steps ++ more
  pub no_pokes : no_poke more ≡ true
  pub few : length l.steps ≤ limit
  pub sound : HasNoFault old.opening (length old.steps) l.steps
  pub breaks_are_met : NoBreakIsPassed old.opening breaks (length old.steps) l.steps
  pub noted : AreFlagged old.opening (length old.steps) flags l.steps
