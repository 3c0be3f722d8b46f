-- If the search gives up, or the trace of a counterexample is not saved, there is no verdict, and so nothing is printed.
use Rattle.std.proofs.Common.{◌≡◌, ℕ, List, Option, Some, None, refl}
use Rattle.flat_machine.specs.declared.config.Config.{Config}
use Rattle.elf_image.specs.Files.{IsImageOf}
use Rattle.elf_image.specs.Images.{ImageContents}
use Rattle.machine_steps.specs.Machines.{MachineLists}
use Rattle.machine_steps.specs.Openings.{flat_state}
use Rattle.machine_steps.specs.Runs.{IsOpening}
use Rattle.command_io.specs.declared.fault.Fault.{Fault}
use Rattle.command_io.specs.declared.fault.Fault.TheVariants as fault
use Rattle.command_io.specs.Links.{Output}
use Rattle.property_search.specs.declared.judging.Verdict.TheVariants as verdict
use Rattle.property_search.specs.Verdicts.{IsVerdict}
use Rattle.state_conditions.specs.declared.property.Property.{Property}
use Rattle.steps.specs.declared.step.Step.{Step}
use Rattle.trace_file.specs.Traces.{trace_bytes, trace_of}
use Rattle.run_reports.specs.RunReports.{HasSaved, TraceOutput, trace_output}
use Rattle.witness_traces.specs.declared.refused.Refused.{Refused}
use Rattle.witness_traces.specs.declared.refused.Refused.TheVariants as refused
use Rattle.witness_traces.specs.Refusals.{IsNotTaken}
use Rattle.property_command.specs.declared.command.Asked.{Asked}
use Rattle.property_command.specs.Counterexamples.{IsCounterexample, IsCounterexampleSaved, IsNotSaved}
use Rattle.property_command.specs.Judging.{IsNotJudged, IsNotSearched, IsRefused, Judging}

-- If the steps of a way are not taken, and nothing is written, no trace is saved, for the same reason.
pub not_taken : {T : Type 0} (c : Config) (image : ImageContents) (property : Property) (trace : TraceOutput T) → trace.new ≡ trace.old →
    (r : Refused) → IsNotTaken c r → IsNotSaved c image property trace r
not_taken c image property trace same refused.Unknown why = absurd why
not_taken c image property trace same refused.Missed why = same
not_taken c image property trace same (refused.Fault (fault.Line line)) why = absurd why
not_taken c image property trace same (refused.Fault (fault.Text e)) why = absurd why
not_taken c image property trace same (refused.Fault fault.NotUtf8) why = absurd why
not_taken c image property trace same (refused.Fault (fault.Image e)) why = absurd why
not_taken c image property trace same (refused.Fault (fault.Trace e)) why = absurd why
not_taken c image property trace same (refused.Fault fault.Size) why = (same, why)
not_taken c image property trace same (refused.Fault (fault.Stalled place)) why = absurd why
not_taken c image property trace same (refused.Fault fault.Budget) why = absurd why
not_taken c image property trace same (refused.Fault fault.Full) why = same
not_taken c image property trace same (refused.Fault fault.Loan) why = absurd why
not_taken c image property trace same (refused.Fault fault.Start) why = absurd why
not_taken c image property trace same (refused.Fault fault.States) why = absurd why
not_taken c image property trace same (refused.Fault fault.Alone) why = absurd why
not_taken c image property trace same (refused.Fault fault.Link) why = absurd why
not_taken c image property trace same (refused.Fault fault.Memory) why = same

-- If the steps are a counterexample, and their trace is saved if one is asked for, the counterexample is saved.
pub counterexample_saved : {T : Type 0} (c : Config) (image : ImageContents) (property : Property) (way : List ℕ)
    (contents : T → Option (List ℕ)) (old new : Option T) (steps : List Step) → IsCounterexample c image property way steps →
    HasSaved (trace_output contents old new) (trace_bytes (trace_of c steps)) →
    IsCounterexampleSaved c image property verdict.Broken way (trace_output contents old new)
counterexample_saved c image property way contents None None steps is saved = refl
counterexample_saved c image property way contents None (Some n) steps is saved = absurd saved
counterexample_saved c image property way contents (Some o) new steps is saved = (steps, is, saved)

module _ {T : Type 0} (c : Config) (asked : Asked) (image : ImageContents) (trace : TraceOutput T) (opening : MachineLists)
    (opens : IsOpening c image opening) where
  -- If the search of a machine gives up, there is no verdict on its image, with the same fault.
  pub not_searched : (f : Fault) → trace.new ≡ trace.old → IsNotSearched (flat_state opening) asked.limit f →
      IsNotJudged c asked image trace (refused.Fault f)
  not_searched (fault.Line line) same why = absurd why
  not_searched (fault.Text e) same why = absurd why
  not_searched fault.NotUtf8 same why = absurd why
  not_searched (fault.Image e) same why = absurd why
  not_searched (fault.Trace e) same why = absurd why
  not_searched fault.Size same why = absurd why
  not_searched (fault.Stalled place) same why = absurd why
  not_searched fault.Budget same why = (same, (opening, opens))
  not_searched fault.Full same why = absurd why
  not_searched fault.Loan same why = absurd why
  not_searched fault.Start same why = absurd why
  not_searched fault.States same why = (same, (opening, opens, why))
  not_searched fault.Alone same why = (same, (opening, opens))
  not_searched fault.Link same why = absurd why
  not_searched fault.Memory same why = same

  module _ (broken : IsVerdict (flat_state opening) asked.property.now.kind asked.property.now.condition verdict.Broken) where
    -- If the trace of a counterexample is not saved, there is no verdict, for the same reason.
    pub not_saved : (r : Refused) → IsNotSaved c image asked.property.now trace r → IsNotJudged c asked image trace r
    not_saved refused.Unknown why = absurd why
    not_saved refused.Missed why = (why, (opening, opens, broken))
    not_saved (refused.Fault (fault.Line line)) why = absurd why
    not_saved (refused.Fault (fault.Text e)) why = absurd why
    not_saved (refused.Fault fault.NotUtf8) why = absurd why
    not_saved (refused.Fault (fault.Image e)) why = absurd why
    not_saved (refused.Fault (fault.Trace e)) why = (why.0, why.1, (opening, opens, broken))
    not_saved (refused.Fault fault.Size) why = why
    not_saved (refused.Fault (fault.Stalled place)) why = absurd why
    not_saved (refused.Fault fault.Budget) why = absurd why
    not_saved (refused.Fault fault.Full) why = (why, (opening, opens, broken))
    not_saved (refused.Fault fault.Loan) why = absurd why
    not_saved (refused.Fault fault.Start) why = absurd why
    not_saved (refused.Fault fault.States) why = absurd why
    not_saved (refused.Fault fault.Alone) why = absurd why
    not_saved (refused.Fault fault.Link) why = absurd why
    not_saved (refused.Fault fault.Memory) why = why

-- If there is no verdict on the image in a file, the command fails for the same reason.
pub not_judged : {T : Type 0} (j : Judging) (trace : TraceOutput T) (out : Output) (image : ImageContents) →
    IsImageOf j.config.shared_words j.file.bytes image → (r : Refused) → IsNotJudged j.config j.asked image trace r → IsRefused j trace out r
not_judged j trace out image meant refused.Unknown why = absurd why
not_judged j trace out image meant refused.Missed why = (image, meant, why)
not_judged j trace out image meant (refused.Fault (fault.Line line)) why = absurd why
not_judged j trace out image meant (refused.Fault (fault.Text x)) why = absurd why
not_judged j trace out image meant (refused.Fault fault.NotUtf8) why = absurd why
not_judged j trace out image meant (refused.Fault (fault.Image x)) why = absurd why
not_judged j trace out image meant (refused.Fault (fault.Trace x)) why = (image, meant, why)
not_judged j trace out image meant (refused.Fault fault.Size) why = (image, meant, why)
not_judged j trace out image meant (refused.Fault (fault.Stalled place)) why = absurd why
not_judged j trace out image meant (refused.Fault fault.Budget) why = (image, meant, why)
not_judged j trace out image meant (refused.Fault fault.Full) why = (image, meant, why)
not_judged j trace out image meant (refused.Fault fault.Loan) why = absurd why
not_judged j trace out image meant (refused.Fault fault.Start) why = absurd why
not_judged j trace out image meant (refused.Fault fault.States) why = (image, meant, why)
not_judged j trace out image meant (refused.Fault fault.Alone) why = (image, meant, why)
not_judged j trace out image meant (refused.Fault fault.Link) why = absurd why
not_judged j trace out image meant (refused.Fault fault.Memory) why = why
