-- What steps lead to: a final result, or a machine from which no result can be reached.
use Rattle.std.specs.Prelude.{◌≡◌, ℕ, zero, suc, ◌^◌, true, List, IsSomeAnd, map, slice_get, slice_index_or}
use Rattle.std.specs.List.{range_with_len}
use Rattle.flat_machine.specs.declared.config.Config.{Config}
use Rattle.elf_image.specs.Images.{ImageContents}
use Rattle.steps.specs.declared.step.Step.{Step}
use Rattle.steps.specs.Kinds.{no_poke}
use Rattle.trace_file.specs.Traces.{IsTrace, trace_of}
use Rattle.machine_steps.specs.Machines.{MachineLists, IsIdle}
use Rattle.machine_steps.specs.Runs.{IsOpening, IsReplay}
use Rattle.machine_steps.specs.machine_theory.Processors.{word_at}
use Rattle.command_io.specs.Tallies.{ShownBy, TallyState, nothing_shown}
use Rattle.machine_steps.specs.Standing.{HasRunning, processor_of}
use Rattle.run_reports.specs.CountedReplays.{IsReplayCounted}
use Rattle.exploration.specs.local_reduction.Results.{FinalResult, ProcessorResult}
use Rattle.exploration.specs.Results.{IsMachineResult, NoneRuns, machine_result, stands_after}

-- ---- what steps lead to

-- The steps lead to the result: each of them does something, none is a poke, no processor runs after them, and the
-- machine leaves the result.
pub record LeadToResult (opening : MachineLists) (steps : List Step) (r : FinalResult) : Type 0 where
  pub machine : MachineLists
  pub replay : IsReplay opening steps machine
  pub no_pokes : no_poke steps ≡ true
  pub stopped : NoneRuns opening.config (stands_after opening steps)
  pub left : r ≡ machine_result opening.config (stands_after opening steps)

-- No reference is open in the machine, and no result can be reached from it.
pub record IsStuck (m : MachineLists) : Type 0 where
  pub idle : IsIdle m
  pub never : (r : FinalResult) → IsMachineResult m r → ⊥

-- The steps lead to such a machine: each of them does something, and none is a poke.
pub record LeadToNoEnd (opening : MachineLists) (steps : List Step) : Type 0 where
  pub machine : MachineLists
  pub replay : IsReplay opening steps machine
  pub no_pokes : no_poke steps ≡ true
  pub stuck : IsStuck machine

-- The steps lead to the result of this number, counted from 1, or, for 0, to a machine from which none can be reached.
abbrev pub LeadTo : (opening : MachineLists) → List FinalResult → (number : ℕ) → List Step → Type 0
LeadTo opening results zero steps = LeadToNoEnd opening steps
LeadTo opening results (suc place) steps = IsSomeAnd (slice_get results place) (LeadToResult opening steps)

-- What a witness should lead to: the result of this number among these, counted from 1, or, for 0, a machine from which
-- none can be reached.
pub record Target : Type 0 where
  pub results : List FinalResult
  pub number : ℕ

abbrev pub target : List FinalResult → (number : ℕ) → Target
target results number = record { results = results; number = number }

-- The steps lead the machine of this size that opens on the image to the target, and a trace file can spell them.
pub record IsWitness (c : Config) (image : ImageContents) (to : Target) (steps : List Step) : Type 0 where
  pub opening : MachineLists
  pub opens : IsOpening c image opening
  pub leads : LeadTo opening to.results to.number steps
  pub trace : IsTrace (trace_of c steps)

-- ---- what a machine leaves

abbrev pub processor_left : MachineLists → List ShownBy → ℕ → ProcessorResult
processor_left m shown p = record {
  pc = (processor_of m p).pc;
  status = (processor_of m p).status;
  console = (slice_index_or shown p nothing_shown).console;
}

-- what a machine leaves, given what its processors have shown
abbrev pub left_by : MachineLists → List ShownBy → FinalResult
left_by m shown = record {
  processors = map (processor_left m shown) (range_with_len 0 (2 ^ m.config.k));
  words = map (word_at m.config.k m.modules) (range_with_len 0 m.config.shared_words);
}

-- No processor of the machine runs, and it leaves the result, given what its processors have shown.
pub record IsEnd (m : MachineLists) (shown : List ShownBy) (r : FinalResult) : Type 0 where
  pub stopped : HasRunning m → ⊥
  pub left : r ≡ left_by m shown

-- A machine of this size that opened on the image has taken the steps, and its processors have shown this in them.
pub record AreTaken (c : Config) (image : ImageContents) (steps : List Step) (m : MachineLists)
    (t : TallyState) : Type 0 where
  pub opening : MachineLists
  pub opens : IsOpening c image opening
  pub replay_counted : IsReplayCounted opening steps m t
