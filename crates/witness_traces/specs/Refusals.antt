-- Why there is no witness.
use Rattle.std.specs.Prelude.{ℕ, zero, suc, ◌<◌, Option, Some, None}
use Rattle.flat_machine.specs.declared.config.Config.{Config}
use Rattle.flat_machine.specs.Limits.{IsWithinLimits}
use Rattle.machine_log.specs.declared.refusal.LockRefusal.{LockRefusal}
use Rattle.machine_log.specs.declared.refusal.LockRefusal.TheVariants as log
use Rattle.command_io.specs.declared.fault.Fault.TheVariants as fault
use Rattle.exploration.specs.declared.outcome.Fairness.{Fairness}
use Rattle.exploration.specs.state_graph.declared.termination.Termination.{Termination}
use Rattle.exploration.specs.state_graph.declared.termination.Termination.TheVariants as fact
use Rattle.witness_traces.specs.declared.refused.Refused.{Refused}
use Rattle.witness_traces.specs.declared.refused.Refused.TheVariants as refused
use Rattle.witness_traces.specs.Rounds.{HasLasso}

abbrev pub refused_by_log : LockRefusal → Refused
refused_by_log log.Memory = refused.Fault fault.Memory
refused_by_log log.Full = refused.Fault fault.Full
refused_by_log log.Unnamed = refused.Missed
refused_by_log log.NotFree = refused.Missed

-- There is a state from which no end can be reached.
abbrev pub Deadlock : Termination → Type 0
Deadlock fact.Always = ⊥
Deadlock fact.Possible = ⊥
Deadlock (fact.Deadlock states first) = Unit {0}

-- One of this many results has the number, counted from 1, or, for 0, there is such a state.
abbrev pub HasWitness : (results : ℕ) → Termination → (number : ℕ) → Type 0
HasWitness results termination zero = Deadlock termination
HasWitness results termination (suc place) = place < results

-- There is what the witness names, or, if no witness is asked for, a lasso.
abbrev pub HasWanted : (results : ℕ) → Termination → Fairness → (witness : Option ℕ) → Type 0
HasWanted results termination f None = HasLasso f
HasWanted results termination f (Some number) = HasWitness results termination number

-- Why steps are not taken: the log is full, there is no memory, or the steps lead elsewhere. No more is said about
-- these.
abbrev pub IsOfSteps : Refused → Type 0
IsOfSteps (refused.Fault fault.Full) = Unit {0}
IsOfSteps (refused.Fault fault.Memory) = Unit {0}
IsOfSteps (refused.Fault other) = ⊥
IsOfSteps refused.Unknown = ⊥
IsOfSteps refused.Missed = Unit {0}

-- Why a machine of this size does not take the steps of a way: the size is out of limits, or the steps are not taken.
abbrev pub IsNotTaken : Config → Refused → Type 0
IsNotTaken c (refused.Fault fault.Size) = IsWithinLimits c → ⊥
IsNotTaken c other = IsOfSteps other

-- Why there is no witness for the number: nothing has the number, or the steps of the way are not taken or lead
-- elsewhere.
abbrev pub IsNoWitness : Config → (results : ℕ) → Termination → (number : ℕ) → Refused → Type 0
IsNoWitness c results termination number refused.Unknown = HasWitness results termination number → ⊥
IsNoWitness c results termination number refused.Missed = Unit {0}
IsNoWitness c results termination number (refused.Fault fault) = IsNotTaken c (refused.Fault fault)

-- Why there are no steps of a lasso: there is none, or its steps are not taken.
abbrev pub IsNoRound : Config → Fairness → Refused → Type 0
IsNoRound c f refused.Unknown = HasLasso f → ⊥
IsNoRound c f refused.Missed = Unit {0}
IsNoRound c f (refused.Fault fault) = IsNotTaken c (refused.Fault fault)

-- Why there are no steps of what is asked for: there is no such thing, or its steps are not taken or lead elsewhere.
abbrev pub IsNoneWanted : Config → (results : ℕ) → Termination → Fairness → (witness : Option ℕ) → Refused → Type 0
IsNoneWanted c results termination f witness refused.Unknown = HasWanted results termination f witness → ⊥
IsNoneWanted c results termination f witness refused.Missed = Unit {0}
IsNoneWanted c results termination f witness (refused.Fault fault) = IsNotTaken c (refused.Fault fault)
