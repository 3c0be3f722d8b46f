-- Final results of the combining machine: what is left once no processor runs.
use Rattle.std.specs.Prelude.{◌≡◌, ℕ, ◌^◌, ◌<◌, true, false, List, [], ◌∷◌, map}
use Rattle.std.specs.List.{range_with_len}
use Rattle.flat_machine.specs.declared.config.Config.{Config}
use Rattle.flat_machine.specs.declared.event.Event.{Event}
use Rattle.flat_machine.specs.State.{is_running}
use Rattle.machine_steps.specs.machine_theory.Theory as theory
use Rattle.machine_steps.specs.steps.declared.step.Step.{Step}
use Rattle.machine_steps.specs.steps.Kinds.{no_poke}
use Rattle.machine_steps.specs.machine_theory.Processors.{ObservedCore}
use Rattle.machine_steps.specs.Machines.{MachineLists, machine_of}
use Rattle.machine_steps.specs.Runs.{all_after}
use Rattle.local_reduction.specs.LocalStates.{printed_after}
use Rattle.local_reduction.specs.Results.{FinalResult, result_with}

-- the console after these events
abbrev pub printed_by : List ℕ → List Event → List ℕ
printed_by console [] = console
printed_by console (shown ∷ events) = printed_by (printed_after console shown) events

abbrev pub machine_result : Config → theory.Machine ObservedCore → FinalResult
machine_result c M = record {
  processors = map (λ k. result_with (M.core k).state (printed_by [] (M.core k).events)) (range_with_len 0 (2 ^ c.k));
  words = map M.mem (range_with_len 0 c.shared_words);
}

-- No processor runs.
abbrev pub NoneRuns : Config → theory.Machine ObservedCore → Type 0
NoneRuns c M = (k : ℕ) → k < 2 ^ c.k → is_running (M.core k).state.status ≡ false

-- the machine after these steps, with only their events shown
abbrev pub stands_after : MachineLists → List Step → theory.Machine ObservedCore
stands_after m steps = all_after m.config m.code (machine_of m (λ p. [])) steps

-- Some steps without writes from outside end in this result, with no processor running.
abbrev pub IsMachineResult : MachineLists → FinalResult → Type 0
IsMachineResult m r =
    (steps : List Step) × (no_poke steps ≡ true) × NoneRuns m.config (stands_after m steps)
    × (r ≡ machine_result m.config (stands_after m steps))
