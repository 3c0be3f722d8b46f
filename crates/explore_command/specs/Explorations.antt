-- What the command prints: from the bytes of a file to all final results of the program in it.
use Rattle.std.specs.Prelude.{◌≡◌, ℕ, ◌<◌, ◌^◌, ◌++◌, Bool, true, List, MatchOption, Option, Some}
use Rattle.std.specs.Prelude.{None, All, length}
use Rattle.std.specs.Prelude.{option_map}
use Rattle.flat_machine.specs.declared.config.Config.{Config}
use Rattle.elf_image.specs.Files.{IsImageOf}
use Rattle.elf_image.specs.Images.{ImageContents}
use Rattle.machine_steps.specs.steps.declared.step.Step.{Step}
use Rattle.trace_file.specs.Traces.{trace_bytes, trace_of}
use Rattle.command_io.specs.Links.{Input}
use Rattle.machine_steps.specs.Machines.{MachineLists}
use Rattle.machine_steps.specs.Runs.{IsOpening}
use Rattle.machine_steps.specs.Openings.{flat_state}
use Rattle.machine_steps.specs.Standing.{IsFaulted}
use Rattle.exploration.specs.local_reduction.Results.{ProcessorResult, FinalResult}
use Rattle.exploration.specs.Endings.{AreResultsUpTo, AreSingle, IsOnce}
use Rattle.exploration.specs.Fairness.{IsFairnessOf}
use Rattle.exploration.specs.States.{AreAllStates}
use Rattle.exploration.specs.declared.outcome.Fairness.{Fairness}
use Rattle.exploration.specs.state_graph.declared.termination.Termination.{Termination}
use Rattle.exploration.specs.state_graph.declared.termination.Termination.TheVariants as fact
use Rattle.exploration.specs.state_graph.Laws.{IsTerminationOf}
use Rattle.explore_command.specs.declared.command.Asked.{Asked}
use Rattle.explore_command.specs.Lassos.{fairness_text}
use Rattle.witness_traces.specs.Rounds.{IsRoundOf}
use Rattle.run_reports.specs.RunReports.{HasSaved, TraceOutput}
use Rattle.witness_traces.specs.Witnesses.{IsWitness, target}
use Rattle.state_conditions.specs.declared.condition.Comparison.{Comparison}
use Rattle.observed_results.specs.Filters.{observed_lines}
use Rattle.observed_results.specs.Lines.{results_lines}
use Rattle.observed_results.specs.Parts.{HasPart}

-- ---- what is found

-- These results stand for the final results of the machine and for no others, and each is listed once. A final result
-- is what the machine leaves after steps without pokes after which no processor runs. A result stands for all results
-- that exchanges of processors of one class make of it.
pub record AreResultsOf (m : MachineLists) (classes : List ℕ) (results : List FinalResult) : Type 0 where
  pub stand : AreResultsUpTo m classes results
  pub all : length classes ≡ 2 ^ m.config.k
  pub once : IsOnce results

abbrev pub IsNotFaulted : ProcessorResult → Type 0
IsNotFaulted p = IsFaulted p.status → ⊥

-- No fault has stopped a processor of the result.
abbrev pub IsFaultless : FinalResult → Type 0
IsFaultless r = All IsNotFaulted r.processors

-- There is no state from which no end can be reached.
abbrev pub IsNotStuck : Termination → Type 0
IsNotStuck fact.Always = Unit {0}
IsNotStuck fact.Possible = Unit {0}
IsNotStuck (fact.Deadlock states first) = ⊥

-- This is the exit status: 1 if a fault has stopped a processor in a result, or if there is a state from which no end
-- can be reached; else 0.
pub record IsExitOf (results : List FinalResult) (termination : Termination) (status : ℕ) : Type 0 where
  pub fine : All IsFaultless results → IsNotStuck termination → status ≡ 0
  pub faulted : (All IsFaultless results → ⊥) → status ≡ 1
  pub stuck : (IsNotStuck termination → ⊥) → status ≡ 1

-- What is explored: the machine of this size that opens on the image, and what the search is asked for.
pub record Problem : Type 0 where
  pub config : Config
  pub image : ImageContents
  pub asked : Asked

abbrev pub problem_of : Config → ImageContents → Asked → Problem
problem_of c image asked = record { config = c; image = image; asked = asked }

-- What a command explores: machines of this size that open on the image in a file.
pub record Exploration : Type 0 where
  pub config : Config
  pub asked : Asked
  pub file : Input

abbrev pub exploration_of : Config → Asked → Input → Exploration
exploration_of c asked file = record { config = c; asked = asked; file = file }

-- What a search finds: classes of processors, results, whether schedules and fair ones end, and the number of states.
pub record SearchResult : Type 0 where
  pub classes : List ℕ
  pub results : List FinalResult
  pub termination : Termination
  pub fairness : Fairness
  pub states : ℕ

abbrev pub search_result : (classes : List ℕ) → List FinalResult → Termination → Fairness → (states : ℕ) → SearchResult
search_result classes results termination fairness states = record {
  classes = classes;
  results = results;
  termination = termination;
  fairness = fairness;
  states = states;
}

-- These are the final results of the machine that opens on the image, up to exchanges of processors of one class, and
-- this says whether its schedules end. If each result is asked for, each processor is in its own class.
pub record IsFound (p : Problem) (found : SearchResult) : Type 0 where
  pub opening : MachineLists
  pub opens : IsOpening p.config p.image opening
  pub all : AreResultsOf opening found.classes found.results
  pub single : p.asked.each ≡ true → AreSingle (2 ^ p.config.k) found.classes
  pub fact : IsTerminationOf (flat_state opening) found.termination
  pub fair : IsFairnessOf (flat_state opening) found.fairness
  -- There are this many states, and fewer than the limit.
  pub counted : AreAllStates (flat_state opening) found.classes found.results found.termination found.states
  pub few : found.states < p.asked.limit

-- ---- what is observed

-- the observed words, if some are chosen: a mark for each word; None for all words
abbrev pub marks_of : Asked → Option (List Bool)
marks_of asked = option_map (λ words. words.now) asked.observed

-- the condition that a result has to satisfy to be printed, if there is one
abbrev pub filter_of : Asked → Option (List (List Comparison))
filter_of asked = option_map (λ condition. condition.now) asked.filter

-- the lines of what is found: of the results, or, if words are chosen, of the different observed parts, of all results
-- or of those that satisfy the condition
abbrev pub lines_of : (observed : Option (List Bool)) → (condition : Option (List (List Comparison))) →
    SearchResult → List ℕ
lines_of None condition found = results_lines found.results found.classes found.states (Some found.termination)
lines_of (Some marks) condition found =
    observed_lines marks condition found.results found.classes found.states (Some found.termination)

-- ---- what is printed

-- The steps lead to the result of this number, or, if words are chosen, to one that has the observed part of this
-- number; for 0 they lead to a machine from which no result can be reached.
abbrev pub LeadsToNumber : (observed : Option (List Bool)) → Problem → List FinalResult → (number : ℕ) → List Step →
    Type 0
LeadsToNumber None p results number steps = IsWitness p.config p.image (target results number) steps
LeadsToNumber (Some marks) p results number steps = (place : ℕ) × HasPart marks results number place
    × IsWitness p.config p.image (target results place) steps

-- The steps lead to what the witness names. If no witness is asked for, they are those of the lasso: of its stem and
-- one turn round its cycle.
abbrev pub AreStepsOf : (witness : Option ℕ) → (observed : Option (List Bool)) → Problem → SearchResult → List Step →
    Type 0
AreStepsOf None observed p found steps = IsRoundOf p.config p.image found.fairness steps
AreStepsOf (Some number) observed p found steps = LeadsToNumber observed p found.results number steps

-- These are the steps that are asked for.
abbrev pub IsWanted : (observed : Option (List Bool)) → Problem → SearchResult → List Step → Type 0
IsWanted observed p found steps = AreStepsOf p.asked.witness observed p found steps

-- If a trace is asked for, it is written, and its steps are those that are asked for.
abbrev pub IsWitnessed : {T : Type 0} → (observed : Option (List Bool)) → Problem → SearchResult → TraceOutput T →
    Type 0
IsWitnessed observed p found trace =
    MatchOption trace.old (trace.new ≡ None)
    (λ old. (steps : List Step) × IsWanted observed p found steps
    × HasSaved trace (trace_bytes (trace_of p.config steps)))

-- These are the lines of what is found, and this is the exit status, whatever is observed. The trace of a witness or of
-- a lasso is written, if one is asked for.
pub record AreExplored {T : Type 0} (observed : Option (List Bool)) (p : Problem) (trace : TraceOutput T)
    (text : List ℕ) (status : ℕ) : Type 0 where
  pub found : SearchResult
  pub is : IsFound p found
  pub lines : text ≡ lines_of observed (filter_of p.asked) found ++ fairness_text p.asked.fair found.fairness
  pub exit : IsExitOf found.results found.termination status
  pub witnessed : IsWitnessed observed p found trace

-- These are the lines of the final results of the image in the file, and this is the exit status. The trace of a
-- witness is written, if one is asked for.
pub record PrintsResults {T : Type 0} (e : Exploration) (trace : TraceOutput T) (status : ℕ)
    (text : List ℕ) : Type 0 where
  pub image : ImageContents
  pub meant : IsImageOf e.config.shared_words e.file.bytes image
  pub explored : AreExplored (marks_of e.asked) (problem_of e.config image e.asked) trace text status

-- These are the lines, with some exit status.
abbrev pub PrintsSomeResults : {T : Type 0} → Exploration → TraceOutput T → (text : List ℕ) → Type 0
PrintsSomeResults e trace text = (status : ℕ) × PrintsResults e trace status text
