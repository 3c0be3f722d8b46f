-- The report of a machine in which no reference is open is that of the flat machine after the serial order of its steps.
use Rattle.std.proofs.Common.{◌≡◌, ℕ, zero, suc, ◌^◌, ◌<◌, ◌≤◌, List, [], ◌++◌, refl, sym, ap, ap₂, ◌∙◌, subst, arith}
use Rattle.std.specs.Prelude.{slice_index, slice_index_or}
use Rattle.std.proofs.Math.ListN.{get_or-map}
use Rattle.std.proofs.lemmas.List.FromFn.{get_or-map-range_with_len}
use Rattle.flat_machine.specs.declared.config.Config.{Config}
use Rattle.flat_machine.specs.declared.event.Event.{Event}
use Rattle.flat_machine.specs.declared.poke.Entry.{Entry}
use Rattle.flat_machine.specs.Flat.{flat_events, flat_run}
use Rattle.flat_machine.specs.State.{FlatState, Processor}
use Rattle.machine_steps.specs.elf_image.Images.{ImageContents}
use Rattle.machine_steps.specs.elf_image.Openings.{opening as flat_opening}
use Rattle.machine_steps.specs.machine_theory.Theory as theory
use Rattle.machine_steps.specs.serialization.Order.{from_machine}
use Rattle.steps.specs.declared.step.Step.{Step}
use Rattle.machine_steps.specs.machine_ports.Ports.{PortState}
use Rattle.machine_steps.specs.Runs.{with_events, IsOpening, IsReplay, IsSerialized, events_of, flat_state, passed}
use Rattle.machine_steps.specs.machine_theory.Processors.{ObservedCore, no_port, no_processor, word_at}
use Rattle.machine_steps.specs.machine_theory.Steps.{machine_of_parts}
use Rattle.machine_steps.specs.Machines.{MachineLists, machine_of, IsIdle}
use Rattle.machine_steps.proofs.Lemmas.{alike, passes_machine}
use Rattle.command_io.specs.Events.{shown_by}
use Rattle.command_io.specs.Lines.{processor_line, word_lines}
use Rattle.command_io.specs.Tallies.{ShownBy, TallyState, nothing_shown}
use Rattle.machine_steps.specs.Standing.{HasFaulted, IsFaulted, processor_of}
use Rattle.run_reports.specs.RunReports.{IsReportOf}
use Rattle.run_reports.specs.Reports.{HasFlatFaulted, IsExitOf, flat_processor, flat_processor_lines, flat_report}
use Rattle.run_reports.specs.Reports.{flat_shared_lines, processor_lines, report_of, shared_lines}
use Rattle.run_reports.specs.CountedReplays.{IsReplayCounted, events_in}

module _ (c : Config) (image : ImageContents) (steps : List Step) (opening m : MachineLists) (tally : TallyState) (opens : IsOpening c image opening)
    (replay_counted : IsReplayCounted opening steps m tally) (idle : IsIdle m) (serialized : IsSerialized opening steps m) where
  abbrev order : List Entry
  order = (passed opening steps).order

  -- the flat machine after the order
  abbrev F : FlatState
  F = flat_run (flat_opening c image.layout) order

  abbrev events : ℕ → List Event
  events = with_events (λ p. []) (flat_events (flat_opening c image.layout) order)

  config_is : m.config ≡ c
  config_is = replay_counted.replay.run.config ∙ opens.config

  state_is : flat_state m ≡ F
  state_is = serialized.flat idle ∙ ap (λ G. flat_run G order) opens.flat

  processor_is : (p : ℕ) → processor_of m p ≡ flat_processor F p
  processor_is p =
      sym (get_or-map (λ (q : PortState). q.core.state) m.ports p no_port) ∙ ap (λ (G : FlatState). slice_index_or G.processors p no_processor) state_is

  word_is : (i : ℕ) → i < c.shared_words → word_at m.config.k m.modules i ≡ slice_index F.shared i
  word_is i within =
      sym (get_or-map-range_with_len (word_at m.config.k m.modules) 0 m.config.shared_words i i 0
      (subst (λ (d : Config). i < d.shared_words) (sym config_is) within) (omega arith))
      ∙ ap (λ (G : FlatState). slice_index G.shared i) state_is

  -- The events counted are those that the flat machine shows.
  events_are : (p : ℕ) → events_in opening steps p ≡ events p
  events_are p =
      ap (λ (M : theory.Machine ObservedCore). events_of M p)
      (sym (passes_machine opening.config opening.code steps (from_machine (machine_of opening (λ q. [])))))
      ∙ serialized.shown idle p
      ∙ ap (λ G. with_events (λ q. []) (flat_events G order) p) opens.flat

  shown_is : (p : ℕ) → p < 2 ^ c.k → slice_index_or tally.shown p nothing_shown ≡ shown_by (events p)
  shown_is p within = replay_counted.tally.each p (subst (λ (d : Config). p < 2 ^ d.k) (sym opens.config) within) ∙ ap shown_by (events_are p)

  processors_are : (count : ℕ) → count ≤ 2 ^ c.k → processor_lines m tally.shown count ≡ flat_processor_lines F events count
  processors_are zero few = refl
  processors_are (suc p) few =
      let line : processor_line p (processor_of m p).pc (processor_of m p).status (slice_index_or tally.shown p nothing_shown)
      ≡ processor_line p (flat_processor F p).pc (flat_processor F p).status (shown_by (events p)) =
      ap₂ (λ (q : Processor) (s : ShownBy). processor_line p q.pc q.status s) (processor_is p) (shown_is p (omega (arith, few))) in
      ap₂ (λ (xs ys : List ℕ). xs ++ ys) (processors_are p (omega (arith, few))) line

  words_are : (count : ℕ) → count ≤ c.shared_words → shared_lines m count ≡ flat_shared_lines F count
  words_are zero few = refl
  words_are (suc i) few = ap₂ (λ (xs ys : List ℕ). xs ++ ys) (words_are i (omega (arith, few))) (ap (word_lines i) (word_is i (omega (arith, few))))

  report_is : report_of m tally.shown ≡ flat_report c F events
  report_is =
      ap (λ (d : Config). processor_lines m tally.shown (2 ^ d.k) ++ shared_lines m d.shared_words) config_is
      ∙ ap₂ (λ (xs ys : List ℕ). xs ++ ys) (processors_are (2 ^ c.k) (omega arith)) (words_are c.shared_words (omega arith))

  flat_faulted : HasFlatFaulted c F → HasFaulted m
  flat_faulted (p, within, fault) =
      (p, subst (λ (d : Config). p < 2 ^ d.k) (sym config_is) within, subst (λ (q : Processor). IsFaulted q.status) (sym (processor_is p)) fault)

  faulted_flat : HasFaulted m → HasFlatFaulted c F
  faulted_flat (p, within, fault) =
      (p, subst (λ (d : Config). p < 2 ^ d.k) config_is within, subst (λ (q : Processor). IsFaulted q.status) (processor_is p) fault)

  -- The machine's report and exit status are a report of the steps that it has taken.
  pub report_is_of : (text : List ℕ) (status : ℕ) → text ≡ report_of m tally.shown → IsExitOf m status → IsReportOf c image steps text status
  report_is_of text status is exit = record {
    opening = opening;
    opens = opens;
    machine = m;
    tally = tally;
    replay_counted = replay_counted;
    idle = idle;
    is = is;
    exit = exit;
    serialized = serialized;
    flat = record { is = is ∙ report_is; faulted = λ f. exit.faulted (flat_faulted f); sound = λ none. exit.sound (λ f. none (faulted_flat f)) };
  }

-- If two machines open on one image and take the same steps, and no reference is open in one, none is open in the
-- other.
pub idle_alike : (c : Config) (image : ImageContents) (steps : List Step) (first second m n : MachineLists) → IsOpening c image first →
    IsOpening c image second → IsReplay first steps m → IsReplay second steps n → IsIdle m → IsIdle n
unfolding machine_of_parts
idle_alike c image steps first second m n one two r s idle p within =
    ap (λ (M : theory.Machine ObservedCore). M.is_open p)
    (s.run.after (λ q. []) ∙ sym (alike c image first second one two steps (λ q. [])) ∙ sym (r.run.after (λ q. [])))
    ∙ idle p (subst (λ (d : Config). p < 2 ^ d.k) (s.run.config ∙ two.config ∙ sym one.config ∙ sym r.run.config) within)
