-- Steps that lead to a state that breaks a property.
use Rattle.std.specs.Prelude.{◌≡◌, ℕ, Bool, true, List, MatchOption, None, map}
use Rattle.flat_machine.specs.State.{FlatState, Processor}
use Rattle.flat_machine.specs.Limits.{IsWithinLimits}
use Rattle.flat_machine.specs.declared.config.Config.{Config}
use Rattle.elf_image.specs.Images.{ImageContents}
use Rattle.steps.specs.declared.step.Step.{Step}
use Rattle.trace_file.specs.declared.error.TraceError.TheVariants as of_trace
use Rattle.trace_file.specs.Traces.{trace_bytes, trace_of}
use Rattle.machine_steps.specs.Openings.{flat_state}
use Rattle.command_io.specs.declared.fault.Fault.TheVariants as fault
use Rattle.property_search.specs.declared.judging.Verdict.{Verdict}
use Rattle.property_search.specs.declared.judging.Verdict.TheVariants as verdict
use Rattle.state_conditions.specs.declared.condition.ProcessorState.{ProcessorState}
use Rattle.state_conditions.specs.declared.property.Property.{Property}
use Rattle.state_conditions.specs.Conditions.{breaks}
use Rattle.run_reports.specs.RunReports.{HasPartSaved, HasSaved, TraceOutput}
use Rattle.witness_traces.specs.declared.refused.Refused.{Refused}
use Rattle.witness_traces.specs.declared.refused.Refused.TheVariants as refused
use Rattle.witness_traces.specs.Rounds.{IsRound}

-- what a condition sees of a processor
abbrev pub processor_seen : Processor → ProcessorState
processor_seen p = record { pc = p.pc; status = p.status }

-- whether a state of the flat machine breaks the property
abbrev pub breaks_state : Property → FlatState → Bool
breaks_state property F = breaks property.kind property.condition (map processor_seen F.processors) F.shared

-- The machine of this size that opens on the image takes the steps, none of which is a poke. In them the processors of
-- the way issue references, one after another. After them no reference is open, and the state breaks the property. A
-- trace file can spell the steps.
pub record IsCounterexample (c : Config) (image : ImageContents) (property : Property) (way : List ℕ)
    (steps : List Step) : Type 0 where
  pub round : IsRound c image way steps
  pub broken : breaks_state property (flat_state round.issued.machine) ≡ true

-- If the property is broken and a trace is asked for, the trace is written, and its steps are a counterexample with
-- this way. Else nothing is written.
abbrev pub IsCounterexampleSaved : {T : Type 0} → Config → ImageContents → Property → Verdict → (way : List ℕ) →
    TraceOutput T → Type 0
IsCounterexampleSaved c image property verdict.Holds way trace = trace.new ≡ trace.old
IsCounterexampleSaved c image property verdict.Broken way trace =
    MatchOption trace.old (trace.new ≡ None)
    (λ old. (steps : List Step) × IsCounterexample c image property way steps
    × HasSaved trace (trace_bytes (trace_of c steps)))
IsCounterexampleSaved c image property verdict.Unknown way trace = trace.new ≡ trace.old

-- A beginning of the trace of a counterexample is written, and not all of it.
pub record IsCounterexamplePartSaved {T : Type 0} (c : Config) (image : ImageContents) (property : Property)
    (trace : TraceOutput T) : Type 0 where
  pub way : List ℕ
  pub steps : List Step
  pub counterexample : IsCounterexample c image property way steps
  pub part : HasPartSaved trace (trace_bytes (trace_of c steps))

-- Why the trace that is asked for is not written: it cannot be; the size is out of limits; the way is too long or leads
-- elsewhere; or there is no memory.
abbrev pub IsNotSaved : {T : Type 0} → Config → ImageContents → Property → TraceOutput T → Refused → Type 0
IsNotSaved c image property trace refused.Missed = trace.new ≡ trace.old
IsNotSaved c image property trace refused.Unknown = ⊥
IsNotSaved c image property trace (refused.Fault (fault.Trace e)) =
    (e ≡ of_trace.Link) × IsCounterexamplePartSaved c image property trace
IsNotSaved c image property trace (refused.Fault fault.Size) =
    (trace.new ≡ trace.old) × (IsWithinLimits c → ⊥)
IsNotSaved c image property trace (refused.Fault fault.Full) = trace.new ≡ trace.old
IsNotSaved c image property trace (refused.Fault fault.Memory) = trace.new ≡ trace.old
IsNotSaved c image property trace (refused.Fault other) = ⊥
