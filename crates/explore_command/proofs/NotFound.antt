-- If the search gives up, or the witness is not saved, the results are not found, and so not printed.
use Rattle.std.proofs.Common.{◌≡◌, ◌⊎◌, inl, inr, ℕ, Bool, List, Option, None, refl, sym, subst}
use Rattle.flat_machine.specs.State.{FlatState}
use Rattle.elf_image.specs.Files.{IsImageOf}
use Rattle.elf_image.specs.Images.{ImageContents}
use Rattle.machine_steps.specs.Machines.{MachineLists}
use Rattle.machine_steps.specs.Openings.{flat_state}
use Rattle.machine_steps.specs.Runs.{IsOpening}
use Rattle.command_io.specs.declared.fault.Fault.{Fault}
use Rattle.command_io.specs.declared.fault.Fault.TheVariants as fault
use Rattle.command_io.specs.Links.{Output}
use Rattle.exploration.specs.declared.refusal.GivenUp.{GivenUp}
use Rattle.exploration.specs.declared.refusal.GivenUp.TheVariants as given_up
use Rattle.exploration.specs.declared.refusal.Refusal.{Refusal}
use Rattle.exploration.specs.declared.refusal.Refusal.TheVariants as search
use Rattle.exploration.specs.Fairness.{IsFairnessOf}
use Rattle.exploration.specs.Refusals.{HasFoundSome, why_of}
use Rattle.exploration.specs.Results.{IsMachineResult}
use Rattle.exploration.specs.States.{IsGivenUp}
use Rattle.exploration.specs.state_graph.Laws.{IsTerminationOf}
use Rattle.witness_traces.specs.declared.refused.Refused.{Refused}
use Rattle.witness_traces.specs.declared.refused.Refused.TheVariants as refused
use Rattle.explore_command.specs.Causes.{IsNotFound, IsNotSaved, IsNotSearched}
use Rattle.state_conditions.specs.declared.condition.Comparison.{Comparison}
use Rattle.explore_command.specs.Explorations.{AreResultsOf, Exploration, Problem, SearchResult, filter_of, marks_of, problem_of}
use Rattle.explore_command.specs.Parts.{AreLinesOf, IsPart, IsRefused, IsReport, PrintsSome}
use Rattle.explore_command.specs.declared.report.ReportEnd.{ReportEnd}
use Rattle.explore_command.specs.declared.report.ReportEnd.TheVariants as report_end
use Rattle.explore_command.specs.Causes.{fault_of_search}
use Rattle.run_reports.specs.RunReports.{TraceOutput}

-- The fault that reports why a search gives up is justified if the reason is.
pub search_refused : (m : FlatState) (limit : ℕ) (why : Refusal) → IsGivenUp m limit why → IsNotSearched m limit (fault_of_search why)
search_refused m limit search.Memory h = tt
search_refused m limit search.States h = h
search_refused m limit search.Stopped h = tt
search_refused m limit search.Alone h = tt

-- The lines of what a search has found that gives up are lines of results of the machine.
pub are_part : (observed : Option (List Bool)) (condition : Option (List (List Comparison))) (m : MachineLists) (g : GivenUp) (text : List ℕ) →
    HasFoundSome (IsMachineResult m) (flat_state m) g → AreLinesOf observed condition g text → IsPart observed condition m text
are_part observed condition m given_up.Memory text some lines = absurd lines
are_part observed condition m (given_up.States found) text some lines = record {
  classes = found.classes.items;
  results = found.results.items;
  states = found.states;
  are = some;
  lines = lines;
}
are_part observed condition m (given_up.Stopped found) text some lines = record {
  classes = found.classes.items;
  results = found.results.items;
  states = found.states;
  are = some;
  lines = lines;
}
are_part observed condition m given_up.Alone text some lines = absurd lines

module _ {T : Type 0} (observed : Option (List Bool)) (p : Problem) (trace : TraceOutput T) (opening : MachineLists)
    (opens : IsOpening p.config p.image opening) where
  -- If the search of a machine gives up, the results of its image are not found, with the same fault.
  pub not_searched : (f : Fault) → trace.new ≡ trace.old → IsNotSearched (flat_state opening) p.asked.limit f → IsNotFound observed p trace (refused.Fault f)
  not_searched (fault.Line line) same why = absurd why
  not_searched (fault.Text e) same why = absurd why
  not_searched fault.NotUtf8 same why = absurd why
  not_searched (fault.Image e) same why = absurd why
  not_searched (fault.Trace e) same why = absurd why
  not_searched fault.Size same why = absurd why
  not_searched (fault.Stalled place) same why = absurd why
  not_searched fault.Budget same why = (same, (opening, opens))
  not_searched fault.Full same why = absurd why
  not_searched fault.Loan same why = absurd why
  not_searched fault.Start same why = absurd why
  not_searched fault.States same why = (same, (opening, opens, why))
  not_searched fault.Alone same why = (same, (opening, opens))
  not_searched fault.Link same why = absurd why
  not_searched fault.Memory same why = same

  module _ (found : SearchResult) (all : AreResultsOf opening found.classes found.results)
      (fact : IsTerminationOf (flat_state opening) found.termination) (fair : IsFairnessOf (flat_state opening) found.fairness) where
    -- If the trace of a witness is not saved, the results are not found, for the same reason.
    pub not_saved : (r : Refused) → IsNotSaved observed p found trace r → IsNotFound observed p trace r
    not_saved refused.Unknown why = (
      why.0,
      record {
        opening = opening;
        opens = opens;
        classes = found.classes;
        results = found.results;
        all = all;
        termination = found.termination;
        fact = fact;
        fairness = found.fairness;
        fair = fair;
        none = why.1;
      },
    )
    not_saved refused.Missed why = (why, (opening, opens))
    not_saved (refused.Fault (fault.Line line)) why = absurd why
    not_saved (refused.Fault (fault.Text e)) why = absurd why
    not_saved (refused.Fault fault.NotUtf8) why = absurd why
    not_saved (refused.Fault (fault.Image e)) why = absurd why
    not_saved (refused.Fault (fault.Trace e)) why = (
      why.0,
      record { opening = opening; opens = opens; found = found; all = all; fair = fair; part = why.1 },
    )
    not_saved (refused.Fault fault.Size) why = why
    not_saved (refused.Fault (fault.Stalled place)) why = absurd why
    not_saved (refused.Fault fault.Budget) why = absurd why
    not_saved (refused.Fault fault.Full) why = (why, (opening, opens))
    not_saved (refused.Fault fault.Loan) why = absurd why
    not_saved (refused.Fault fault.Start) why = absurd why
    not_saved (refused.Fault fault.States) why = absurd why
    not_saved (refused.Fault fault.Alone) why = absurd why
    not_saved (refused.Fault fault.Link) why = absurd why
    not_saved (refused.Fault fault.Memory) why = why

-- ---- a search that gives up

module _ {T : Type 0} (observed : Option (List Bool)) (p : Problem) (trace : TraceOutput T) (opening : MachineLists)
    (opens : IsOpening p.config p.image opening) (same : trace.new ≡ trace.old) (g : GivenUp)
    (why : IsGivenUp (flat_state opening) p.asked.limit (why_of g)) where
  -- If a search gives up, and its report cannot be made for this reason, the results are not found.
  pub not_given_up : (f : Fault) → (f ≡ fault.Memory) ⊎ (f ≡ fault_of_search (why_of g)) → IsNotFound observed p trace (refused.Fault f)
  not_given_up f (inl is) = subst (λ x. IsNotFound observed p trace (refused.Fault x)) (sym is) same
  not_given_up f (inr is) =
      subst (λ x. IsNotFound observed p trace (refused.Fault x)) (sym is)
      (not_searched observed p trace opening opens (fault_of_search (why_of g)) same
      (search_refused (flat_state opening) p.asked.limit (why_of g) why))

  -- The lines of what a search has found that gives up are its report.
  pub part_reported : HasFoundSome (IsMachineResult opening) (flat_state opening) g → (text : List ℕ) (end : ReportEnd) →
      AreLinesOf observed (filter_of p.asked) g text → end ≡ report_end.GivenUp (fault_of_search (why_of g)) → IsReport observed p trace text end
  part_reported some text end lines is =
      subst (IsReport observed p trace text) (sym is)
      ((opening, opens, are_part observed (filter_of p.asked) opening g text some lines), not_given_up (fault_of_search (why_of g)) (inr refl))

-- If no words are chosen, the lines of what a search has found are those without a condition.
pub lines_of_all : (condition : Option (List (List Comparison))) (g : GivenUp) (text : List ℕ) → AreLinesOf None None g text →
    AreLinesOf None condition g text
lines_of_all condition given_up.Memory text lines = lines
lines_of_all condition (given_up.States found) text lines = lines
lines_of_all condition (given_up.Stopped found) text lines = lines
lines_of_all condition given_up.Alone text lines = lines

-- ---- the image in a file

-- If the results of the image in a file are not found, the command fails for the same reason.
pub not_found : {T : Type 0} (e : Exploration) (trace : TraceOutput T) (out : Output) (image : ImageContents) →
    IsImageOf e.config.shared_words e.file.bytes image → (r : Refused) → IsNotFound (marks_of e.asked) (problem_of e.config image e.asked) trace r →
    IsRefused e trace out r
not_found e trace out image meant refused.Unknown why = (image, meant, why)
not_found e trace out image meant refused.Missed why = (image, meant, why)
not_found e trace out image meant (refused.Fault (fault.Line line)) why = absurd why
not_found e trace out image meant (refused.Fault (fault.Text x)) why = absurd why
not_found e trace out image meant (refused.Fault fault.NotUtf8) why = absurd why
not_found e trace out image meant (refused.Fault (fault.Image x)) why = absurd why
not_found e trace out image meant (refused.Fault (fault.Trace x)) why = (image, meant, why)
not_found e trace out image meant (refused.Fault fault.Size) why = (image, meant, why)
not_found e trace out image meant (refused.Fault (fault.Stalled place)) why = absurd why
not_found e trace out image meant (refused.Fault fault.Budget) why = (image, meant, why)
not_found e trace out image meant (refused.Fault fault.Full) why = (image, meant, why)
not_found e trace out image meant (refused.Fault fault.Loan) why = absurd why
not_found e trace out image meant (refused.Fault fault.Start) why = absurd why
not_found e trace out image meant (refused.Fault fault.States) why = (image, meant, why)
not_found e trace out image meant (refused.Fault fault.Alone) why = (image, meant, why)
not_found e trace out image meant (refused.Fault fault.Link) why = absurd why
not_found e trace out image meant (refused.Fault fault.Memory) why = why

-- What a search prints of the image in a file are results of it, all of them or some.
pub prints_some : {T : Type 0} (e : Exploration) (trace : TraceOutput T) (image : ImageContents) → IsImageOf e.config.shared_words e.file.bytes image →
    (text : List ℕ) (end : ReportEnd) → IsReport (marks_of e.asked) (problem_of e.config image e.asked) trace text end → PrintsSome e trace text
prints_some e trace image meant text (report_end.Complete status) h = inl (status, record { image = image; meant = meant; explored = h.0 })
prints_some e trace image meant text (report_end.GivenUp why) h = inr (record { image = image; meant = meant; part = h.0 })
