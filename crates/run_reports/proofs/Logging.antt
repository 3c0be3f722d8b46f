-- The steps of a log can be taken again, and a trace can have them.
use Rattle.std.proofs.Common.{◌≡◌, ◌≤◌, ℕ, List, length, refl, subst}
use Rattle.flat_machine.specs.declared.config.Config.{Config}
use Rattle.flat_machine.specs.Limits.{IsWithinLimits}
use Rattle.machine_steps.specs.elf_image.Images.{ImageContents}
use Rattle.steps.specs.declared.step.Step.{Step}
use Rattle.trace_file.specs.Traces.{HaveRecords, IsTrace, trace_of}
use Rattle.machine_steps.specs.Machines.{MachineLists}
use Rattle.machine_steps.specs.Runs.{IsOpening, IsReplay}
use Rattle.machine_log.specs.Replays.{StallsAt}
use Rattle.machine_log.proofs.Lemmas.{none_stalls}
use Rattle.machine_log.specs.Logs.{Log}
use Rattle.command_io.specs.declared.fault.Fault.{Fault}
use Rattle.command_io.specs.declared.fault.Fault.TheVariants as fault
use Rattle.run_reports.specs.CountedReplays.{IsNotRetaken}

-- If no step stalls, steps are refused only for a lack of memory.
pub only_memory : (old new : MachineLists) (steps : List Step) → ((place : ℕ) → StallsAt old steps place new → ⊥) → (f : Fault) →
    IsNotRetaken old steps new f → f ≡ fault.Memory
only_memory old new steps none (fault.Stalled place) h = absurd (none place h)
only_memory old new steps none fault.Memory h = refl
only_memory old new steps none (fault.Line number) h = absurd h
only_memory old new steps none (fault.Text e) h = absurd h
only_memory old new steps none fault.NotUtf8 h = absurd h
only_memory old new steps none (fault.Image e) h = absurd h
only_memory old new steps none (fault.Trace e) h = absurd h
only_memory old new steps none fault.Size h = absurd h
only_memory old new steps none fault.Budget h = absurd h
only_memory old new steps none fault.Full h = absurd h
only_memory old new steps none fault.Loan h = absurd h
only_memory old new steps none fault.Start h = absurd h
only_memory old new steps none fault.States h = absurd h
only_memory old new steps none fault.Alone h = absurd h
only_memory old new steps none fault.Link h = absurd h

-- The steps of a log are refused on another machine that opens on the image only for a lack of memory.
pub not_stalled : (log : Log) (c : Config) (image : ImageContents) (steps : List Step) (second new : MachineLists) →
    IsOpening log.machine.config log.machine.image log.opening → IsReplay log.opening log.steps log.machine →
    c ≡ log.machine.config → image ≡ log.machine.image → steps ≡ log.steps → IsOpening c image second → (f : Fault) → IsNotRetaken second steps new f →
    f ≡ fault.Memory
not_stalled log c image steps second new one replay size same all two =
    let opens : IsOpening log.machine.config log.machine.image second =
    subst (λ (x : Config × ImageContents). IsOpening x.0 x.1 second) (λ i. (size i, same i)) two in
    only_memory second new steps
    (λ place h. none_stalls log.machine.config log.machine.image log.opening second one opens log.steps log.machine replay place new
    (subst (λ (xs : List Step). StallsAt second xs place new) all h))

-- If the machine's size is within the limits, and each step has a record, a trace file can spell the steps.
pub is_spelled : (c : Config) (steps : List Step) → IsWithinLimits c → length steps ≤ 4194304 → HaveRecords c.k steps → IsTrace (trace_of c steps)
is_spelled c steps limits few records = record {
  header = record {
    stages = limits.stages;
    some_capacity = limits.some_capacity;
    capacity = limits.capacity;
    records = limits.records;
    some_combinations = limits.some_combinations;
    combinations = limits.combinations;
    answers = limits.answers;
    count = few;
  };
  records = records;
}
