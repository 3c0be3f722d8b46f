-- What is printed of a search that gives up.
use Rattle.std.specs.Prelude.{◌≡◌, ◌⊎◌, ℕ, ◌≤◌, Bool, List, Option, Some, None}
use Rattle.elf_image.specs.declared.error.ImageError.TheVariants as of_image
use Rattle.elf_image.specs.Files.{IsImageOf, IsImageRefusal}
use Rattle.elf_image.specs.Images.{ImageContents}
use Rattle.machine_steps.specs.Machines.{MachineLists}
use Rattle.machine_steps.specs.Openings.{flat_state}
use Rattle.machine_steps.specs.Runs.{IsOpening}
use Rattle.command_io.specs.declared.fault.Fault.TheVariants as fault
use Rattle.command_io.specs.Links.{IsOfLink, Output}
use Rattle.command_io.specs.Printing.{PrintsPrefix}
use Rattle.exploration.specs.local_reduction.Results.{FinalResult}
use Rattle.exploration.specs.declared.refusal.GivenUp.{GivenUp}
use Rattle.exploration.specs.declared.refusal.GivenUp.TheVariants as given_up
use Rattle.exploration.specs.Results.{IsMachineResult}
use Rattle.exploration.specs.States.{ArePartial}
use Rattle.state_conditions.specs.declared.condition.Comparison.{Comparison}
use Rattle.observed_results.specs.Filters.{observed_lines}
use Rattle.observed_results.specs.Lines.{results_lines}
use Rattle.run_reports.specs.RunReports.{TraceOutput}
use Rattle.explore_command.specs.declared.report.ReportEnd.{ReportEnd}
use Rattle.explore_command.specs.declared.report.ReportEnd.TheVariants as end
use Rattle.witness_traces.specs.declared.refused.Refused.{Refused}
use Rattle.witness_traces.specs.declared.refused.Refused.TheVariants as refused
use Rattle.explore_command.specs.Causes.{IsNotFound}
use Rattle.explore_command.specs.Explorations.{AreExplored, Exploration, PrintsSomeResults, Problem, filter_of}
use Rattle.explore_command.specs.Explorations.{marks_of, problem_of}

-- the lines of the results found so far, or, if words are chosen, of their different observed parts, of all or of those
-- that satisfy the condition; they are said to be incomplete
abbrev pub part_lines : (observed : Option (List Bool)) → (condition : Option (List (List Comparison))) →
    (classes : List ℕ) → List FinalResult → (states : ℕ) → List ℕ
part_lines None condition classes results states = results_lines results classes states None
part_lines (Some marks) condition classes results states = observed_lines marks condition results classes states None

-- These are the lines of what a search has found that gives up, if it could have gone on.
abbrev pub AreLinesOf : (observed : Option (List Bool)) → (condition : Option (List (List Comparison))) → GivenUp →
    (text : List ℕ) → Type 0
AreLinesOf observed condition given_up.Memory text = ⊥
AreLinesOf observed condition (given_up.States found) text =
    text ≡ part_lines observed condition found.classes.items found.results.items found.states
AreLinesOf observed condition (given_up.Stopped found) text =
    text ≡ part_lines observed condition found.classes.items found.results.items found.states
AreLinesOf observed condition given_up.Alone text = ⊥

-- These are the lines of results of a machine, up to exchanges of processors of one class. They need not be all.
pub record IsPart (observed : Option (List Bool)) (condition : Option (List (List Comparison))) (m : MachineLists)
    (text : List ℕ) : Type 0 where
  pub classes : List ℕ
  pub results : List FinalResult
  pub states : ℕ
  pub are : ArePartial (IsMachineResult m) (flat_state m) classes results states
  pub lines : text ≡ part_lines observed condition classes results states

-- The machine of this size opens on the image, and these are the lines of results of it.
abbrev pub IsPartOfProblem : (observed : Option (List Bool)) → Problem → (text : List ℕ) → Type 0
IsPartOfProblem observed p text =
    (opening : MachineLists) × IsOpening p.config p.image opening × IsPart observed (filter_of p.asked) opening text

-- The text is what a search prints that ends in this way: all that is found, and the exit status, which is at most 1;
-- or the results found so far, if the search gives up for a reason.
abbrev pub IsReport : {T : Type 0} → (observed : Option (List Bool)) → Problem → TraceOutput T → (text : List ℕ) →
    ReportEnd → Type 0
IsReport observed p trace text (end.Complete status) = AreExplored observed p trace text status × (status ≤ 1)
IsReport observed p trace text (end.GivenUp why) =
    IsPartOfProblem observed p text × IsNotFound observed p trace (refused.Fault why)

-- These are the lines of results of the image in the file, which are said to be incomplete.
pub record PrintsPart (e : Exploration) (text : List ℕ) : Type 0 where
  pub image : ImageContents
  pub meant : IsImageOf e.config.shared_words e.file.bytes image
  pub part : IsPartOfProblem (marks_of e.asked) (problem_of e.config image e.asked) text

-- These are the lines of the results of the image in the file, all of them or some.
abbrev pub PrintsSome : {T : Type 0} → Exploration → TraceOutput T → (text : List ℕ) → Type 0
PrintsSome e trace text = PrintsSomeResults e trace text ⊎ PrintsPart e text

-- ---- why the command fails

-- Why no results are printed, or not all of them: the image is refused, its results or their witness are not found, or
-- the lines cannot be written.
abbrev pub IsRefused : {T : Type 0} → Exploration → TraceOutput T → Output → Refused → Type 0
IsRefused e trace out (refused.Fault (fault.Image r)) =
    (trace.new ≡ trace.old) × IsImageRefusal e.config.shared_words e.file.bytes r
IsRefused e trace out (refused.Fault fault.Link) = PrintsPrefix (PrintsSome e trace) out.old out.new
IsRefused e trace out (refused.Fault fault.Memory) = trace.new ≡ trace.old
IsRefused e trace out other = (image : ImageContents) × IsImageOf e.config.shared_words e.file.bytes image
    × IsNotFound (marks_of e.asked) (problem_of e.config image e.asked) trace other

-- Why the command fails: the refusal has a cause, and it is that of a link exactly if the link has failed.
pub record ExploreFails {T : Type 0} (e : Exploration) (trace : TraceOutput T) (out : Output)
    (r : Refused) : Type 0 where
  pub cause : IsRefused e trace out r
  pub unread : IsOfLink (refused.Fault (fault.Image of_image.Link)) e.file.has_failed r
  pub unprinted : IsOfLink (refused.Fault fault.Link) out.has_failed r
