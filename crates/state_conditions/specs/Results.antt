-- What a condition sees of a result.
use Rattle.std.specs.Prelude.{Bool, List, map}
use Rattle.state_store.specs.local_reduction.Results.{FinalResult, ProcessorResult}
use Rattle.state_conditions.specs.declared.condition.Comparison.{Comparison}
use Rattle.state_conditions.specs.declared.condition.ProcessorState.{ProcessorState}
use Rattle.state_conditions.specs.declared.property.Kind.{Kind}
use Rattle.state_conditions.specs.Conditions.{breaks}

-- what a condition sees of a processor
abbrev pub processor_state : ProcessorResult → ProcessorState
processor_state r = record { pc = r.pc; status = r.status }

-- whether what a machine has left breaks the property
abbrev pub breaks_result : Kind → (condition : List (List Comparison)) → FinalResult → Bool
breaks_result kind condition r = breaks kind condition (map processor_state r.processors) r.words
