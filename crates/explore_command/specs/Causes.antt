-- Why the results of an image, or the trace that is asked for, are not found.
use Rattle.std.specs.Prelude.{◌≡◌, ℕ, Bool, List, Option}
use Rattle.flat_machine.specs.State.{FlatState}
use Rattle.flat_machine.specs.Limits.{IsWithinLimits}
use Rattle.machine_steps.specs.steps.declared.step.Step.{Step}
use Rattle.trace_file.specs.declared.error.TraceError.TheVariants as of_trace
use Rattle.trace_file.specs.Traces.{trace_bytes, trace_of}
use Rattle.machine_steps.specs.Machines.{MachineLists}
use Rattle.machine_steps.specs.Runs.{IsOpening}
use Rattle.machine_steps.specs.Openings.{flat_state}
use Rattle.command_io.specs.declared.fault.Fault.{Fault}
use Rattle.command_io.specs.declared.fault.Fault.TheVariants as fault
use Rattle.exploration.specs.declared.refusal.Refusal.{Refusal}
use Rattle.exploration.specs.declared.refusal.Refusal.TheVariants as search
use Rattle.exploration.specs.Fairness.{IsFairnessOf}
use Rattle.exploration.specs.States.{HasManyStates}
use Rattle.exploration.specs.declared.outcome.Fairness.{Fairness}
use Rattle.exploration.specs.local_reduction.Results.{FinalResult}
use Rattle.exploration.specs.state_graph.declared.termination.Termination.{Termination}
use Rattle.exploration.specs.state_graph.Laws.{IsTerminationOf}
use Rattle.witness_traces.specs.declared.refused.Refused.{Refused}
use Rattle.witness_traces.specs.declared.refused.Refused.TheVariants as refused
use Rattle.witness_traces.specs.Refusals.{HasWanted}
use Rattle.run_reports.specs.RunReports.{HasPartSaved, TraceOutput}
use Rattle.explore_command.specs.Explorations.{AreResultsOf, IsWanted, Problem, SearchResult}
use Rattle.observed_results.specs.Parts.{count_of}

-- the fault that reports why a search gave up
abbrev pub fault_of_search : Refusal → Fault
fault_of_search search.Memory = fault.Memory
fault_of_search search.States = fault.States
fault_of_search search.Stopped = fault.Budget
fault_of_search search.Alone = fault.Alone

-- Why a search gives up: there are as many states as the limit, or more; a processor ran alone for too long; or the
-- observer has stopped it. Nothing more is said about the latter two, or about a lack of memory.
abbrev pub IsNotSearched : FlatState → (limit : ℕ) → Fault → Type 0
IsNotSearched m limit fault.States = HasManyStates m limit
IsNotSearched m limit fault.Budget = Unit {0}
IsNotSearched m limit fault.Alone = Unit {0}
IsNotSearched m limit fault.Memory = Unit {0}
IsNotSearched m limit other = ⊥

-- A machine of this size opens on the image.
abbrev pub Opens : Problem → Type 0
Opens p = (opening : MachineLists) × IsOpening p.config p.image opening

-- A machine of this size opens on the image, and has as many states as the limit, or more.
abbrev pub HasTooMany : Problem → Type 0
HasTooMany p = (opening : MachineLists) × IsOpening p.config p.image opening
    × HasManyStates (flat_state opening) p.asked.limit

-- The machine's results and whether its schedules and fair ones end are known, and what is asked for is not there.
pub record HasNoWitness (observed : Option (List Bool)) (p : Problem) (witness : Option ℕ) : Type 0 where
  pub opening : MachineLists
  pub opens : IsOpening p.config p.image opening
  pub classes : List ℕ
  pub results : List FinalResult
  pub all : AreResultsOf opening classes results
  pub termination : Termination
  pub fact : IsTerminationOf (flat_state opening) termination
  pub fairness : Fairness
  pub fair : IsFairnessOf (flat_state opening) fairness
  pub none : HasWanted (count_of observed results) termination fairness witness → ⊥

-- A beginning of the trace that is asked for is written, and not all of it.
pub record IsPartWitnessed {T : Type 0} (observed : Option (List Bool)) (p : Problem) (found : SearchResult)
    (trace : TraceOutput T) : Type 0 where
  pub steps : List Step
  pub witness : IsWanted observed p found steps
  pub part : HasPartSaved trace (trace_bytes (trace_of p.config steps))

-- Why the trace that is asked for is not written: there is no such witness or lasso; the trace cannot be written; the
-- size is out of limits; the way is too long or leads elsewhere; or there is no memory.
abbrev pub IsNotSaved : {T : Type 0} → (observed : Option (List Bool)) → Problem → SearchResult → TraceOutput T →
    Refused → Type 0
IsNotSaved observed p found trace refused.Unknown = (trace.new ≡ trace.old)
    × (HasWanted (count_of observed found.results) found.termination found.fairness p.asked.witness → ⊥)
IsNotSaved observed p found trace refused.Missed = trace.new ≡ trace.old
IsNotSaved observed p found trace (refused.Fault (fault.Trace e)) =
    (e ≡ of_trace.Link) × IsPartWitnessed observed p found trace
IsNotSaved observed p found trace (refused.Fault fault.Size) =
    (trace.new ≡ trace.old) × (IsWithinLimits p.config → ⊥)
IsNotSaved observed p found trace (refused.Fault fault.Full) = trace.new ≡ trace.old
IsNotSaved observed p found trace (refused.Fault fault.Memory) = trace.new ≡ trace.old
IsNotSaved observed p found trace (refused.Fault other) = ⊥

-- The machine's results and whether its fair schedules end are known, and only a beginning of the trace that is asked
-- for is written.
pub record IsPartOfFound {T : Type 0} (observed : Option (List Bool)) (p : Problem) (trace : TraceOutput T) : Type 0
  where
    pub opening : MachineLists
    pub opens : IsOpening p.config p.image opening
    pub found : SearchResult
    pub all : AreResultsOf opening found.classes found.results
    pub fair : IsFairnessOf (flat_state opening) found.fairness
    pub part : IsPartWitnessed observed p found trace

-- Why the results of an image or their witness are not found: the size is out of limits; or the machine opens, but the
-- search gives up, the number names nothing, there is no witness, or the trace cannot be written; or there is no
-- memory.
abbrev pub IsNotFound : {T : Type 0} → (observed : Option (List Bool)) → Problem → TraceOutput T → Refused → Type 0
IsNotFound observed p trace refused.Unknown =
    (trace.new ≡ trace.old) × HasNoWitness observed p p.asked.witness
IsNotFound observed p trace refused.Missed = (trace.new ≡ trace.old) × Opens p
IsNotFound observed p trace (refused.Fault fault.Size) =
    (trace.new ≡ trace.old) × (IsWithinLimits p.config → ⊥)
IsNotFound observed p trace (refused.Fault fault.States) = (trace.new ≡ trace.old) × HasTooMany p
IsNotFound observed p trace (refused.Fault fault.Budget) = (trace.new ≡ trace.old) × Opens p
IsNotFound observed p trace (refused.Fault fault.Alone) = (trace.new ≡ trace.old) × Opens p
IsNotFound observed p trace (refused.Fault fault.Full) = (trace.new ≡ trace.old) × Opens p
IsNotFound observed p trace (refused.Fault (fault.Trace e)) = (e ≡ of_trace.Link) × IsPartOfFound observed p trace
IsNotFound observed p trace (refused.Fault fault.Memory) = trace.new ≡ trace.old
IsNotFound observed p trace (refused.Fault other) = ⊥

-- Why there are no steps to what is wanted, if words are chosen: the number names nothing; the size is out of limits;
-- or the machine opens, but the search for the way gives up, or the way is too long or leads elsewhere; or there is no
-- memory.
abbrev pub IsNotLedTo : (observed : Option (List Bool)) → Problem → (witness : Option ℕ) → Refused → Type 0
IsNotLedTo observed p witness refused.Unknown = HasNoWitness observed p witness
IsNotLedTo observed p witness refused.Missed = Opens p
IsNotLedTo observed p witness (refused.Fault fault.Size) = IsWithinLimits p.config → ⊥
IsNotLedTo observed p witness (refused.Fault fault.States) = HasTooMany p
IsNotLedTo observed p witness (refused.Fault fault.Budget) = Opens p
IsNotLedTo observed p witness (refused.Fault fault.Alone) = Opens p
IsNotLedTo observed p witness (refused.Fault fault.Full) = Opens p
IsNotLedTo observed p witness (refused.Fault fault.Memory) = Unit {0}
IsNotLedTo observed p witness (refused.Fault other) = ⊥
