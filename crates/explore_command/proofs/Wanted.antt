-- Why there are no steps of what is asked for, if words are chosen.
use Rattle.std.proofs.Common.{◌≡◌, ℕ, Bool, List, Option, Some, None, refl}
use Rattle.command_io.specs.declared.fault.Fault.TheVariants as fault
use Rattle.machine_steps.specs.steps.declared.step.Step.{Step}
use Rattle.trace_file.specs.Traces.{trace_bytes, trace_of}
use Rattle.run_reports.specs.RunReports.{HasSaved, TraceOutput, trace_output}
use Rattle.witness_traces.specs.declared.refused.Refused.{Refused}
use Rattle.witness_traces.specs.declared.refused.Refused.TheVariants as refused
use Rattle.explore_command.specs.Causes.{IsNotFound, IsNotLedTo}
use Rattle.explore_command.specs.Explorations.{IsWanted, IsWitnessed, Problem, SearchResult}

module _ (marks : List Bool) (p : Problem) where
  -- If there are no steps to what is wanted, and nothing is written, the results are not found, for the same reason.
  pub not_led_to : {T : Type 0} (trace : TraceOutput T) → trace.new ≡ trace.old → (r : Refused) → IsNotLedTo (Some marks) p p.asked.witness r →
      IsNotFound (Some marks) p trace r
  not_led_to trace same refused.Unknown why = (same, why)
  not_led_to trace same refused.Missed why = (same, why)
  not_led_to trace same (refused.Fault (fault.Line line)) why = absurd why
  not_led_to trace same (refused.Fault (fault.Text e)) why = absurd why
  not_led_to trace same (refused.Fault fault.NotUtf8) why = absurd why
  not_led_to trace same (refused.Fault (fault.Image e)) why = absurd why
  not_led_to trace same (refused.Fault (fault.Trace e)) why = absurd why
  not_led_to trace same (refused.Fault fault.Size) why = (same, why)
  not_led_to trace same (refused.Fault (fault.Stalled place)) why = absurd why
  not_led_to trace same (refused.Fault fault.Budget) why = (same, why)
  not_led_to trace same (refused.Fault fault.Full) why = (same, why)
  not_led_to trace same (refused.Fault fault.Loan) why = absurd why
  not_led_to trace same (refused.Fault fault.Start) why = absurd why
  not_led_to trace same (refused.Fault fault.States) why = (same, why)
  not_led_to trace same (refused.Fault fault.Alone) why = (same, why)
  not_led_to trace same (refused.Fault fault.Link) why = absurd why
  not_led_to trace same (refused.Fault fault.Memory) why = same

-- If the steps lead to what is wanted, and their trace is saved if one is asked for, the witness is written.
pub witnessed : {T : Type 0} (observed : Option (List Bool)) (p : Problem) (found : SearchResult) (contents : T → Option (List ℕ)) (old new : Option T)
    (steps : List Step) → IsWanted observed p found steps → HasSaved (trace_output contents old new) (trace_bytes (trace_of p.config steps)) →
    IsWitnessed observed p found (trace_output contents old new)
witnessed observed p found contents None None steps wanted saved = refl
witnessed observed p found contents None (Some n) steps wanted saved = absurd saved
witnessed observed p found contents (Some o) new steps wanted saved = (steps, wanted, saved)
