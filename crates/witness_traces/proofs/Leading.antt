-- What steps lead to is what a machine leaves that has taken them again.
use Rattle.std.proofs.Common.{◌≡◌, ℕ, zero, suc, ◌^◌, ◌<◌, ◌==◌, true, false, List, [], ◌∷◌, Option}
use Rattle.std.proofs.Common.{Some, None, map, length, refl, sym, ap, ap₂, ◌∙◌, subst, arith}
use Rattle.std.specs.Prelude.{Contains, slice_get, slice_index_or, IsSomeAnd}
use Rattle.std.specs.List.{range_with_len}
use Rattle.std.proofs.lemmas.Bool.{ne_eqb}
use Rattle.std.proofs.lemmas.Option.{slice_get-get_or}
use Rattle.std.proofs.lemmas.List.FromFn.{fill_by_all, get_or-map-range_with_len, length-map-range_with_len}
use Rattle.flat_machine.specs.declared.config.Config.{Config}
use Rattle.flat_machine.specs.declared.event.Event.{Event}
use Rattle.flat_machine.specs.declared.event.Event.TheVariants as event
use Rattle.flat_machine.specs.declared.event.Status.{Status}
use Rattle.flat_machine.specs.declared.event.Status.TheVariants.{Running, Halted, Faulted}
use Rattle.flat_machine.specs.State.{Processor, is_running}
use Rattle.elf_image.specs.Images.{ImageContents}
use Rattle.steps.specs.declared.step.Step.{Step}
use Rattle.steps.specs.Kinds.{no_poke}
use Rattle.trace_file.specs.Traces.{IsTrace, trace_of}
use Rattle.machine_steps.specs.machine_theory.Theory as theory
use Rattle.machine_steps.specs.machine_theory.Processors.{ObservedCore, word_at}
use Rattle.machine_steps.specs.machine_theory.Steps.{machine_of_parts}
use Rattle.machine_steps.specs.Machines.{MachineLists, machine_of, AreHome}
use Rattle.machine_steps.proofs.Lemmas.{run_home}
use Rattle.machine_steps.specs.Runs.{events_of}
use Rattle.command_io.specs.Events.{shown_from, with_event}
use Rattle.command_io.specs.Tallies.{ShownBy, TallyState, nothing_shown, with_byte}
use Rattle.machine_steps.specs.Standing.{HasRunning, processor_of}
use Rattle.run_reports.specs.CountedReplays.{IsReplayCounted}
use Rattle.exploration.specs.local_reduction.LocalStates.{printed_after}
use Rattle.exploration.specs.local_reduction.Results.{FinalResult, ProcessorResult, result_with}
use Rattle.exploration.specs.Results.{NoneRuns, machine_result, printed_by, stands_after}
use Rattle.witness_traces.specs.Witnesses.{AreTaken, IsEnd, IsStuck, IsWitness, LeadTo, LeadToResult, left_by, processor_left, target}

-- ---- the console bytes that are counted are those of the events

printed_once : (s : ShownBy) (shown : Event) → printed_after s.console shown ≡ (with_event s shown).console
printed_once s (event.Retired retired) = go retired.out
  where
    go : (out : Option ℕ) → printed_after s.console (event.Retired (record retired { out = out })) ≡ with_byte s.console out
    go None = refl
    go (Some byte) = refl
printed_once s (event.Stopped cause) = refl

printed_all : (s : ShownBy) (events : List Event) → printed_by s.console events ≡ (shown_from s events).console
printed_all s [] = refl
printed_all s (shown ∷ events) = ap (λ console. printed_by console events) (printed_once s shown) ∙ printed_all (with_event s shown) events

-- ---- what is left

-- No core of a machine that has taken the steps is away.
pub taken_home : (c : Config) (image : ImageContents) (steps : List Step) (m : MachineLists) (t : TallyState) → AreTaken c image steps m t → AreHome m
taken_home c image steps m t taken = run_home taken.opening m steps taken.replay_counted.replay.run taken.opens.home

module _ (opening m : MachineLists) (steps : List Step) (tally : TallyState) (taken : IsReplayCounted opening steps m tally) where
  -- the machine after the steps
  abbrev M : theory.Machine ObservedCore
  M = stands_after opening steps

  stands : machine_of m (events_of M) ≡ M
  stands = taken.replay.run.after (λ p. [])

  state_is : (p : ℕ) → processor_of m p ≡ (M.core p).state
  unfolding machine_of_parts
  state_is p = ap (λ (N : theory.Machine ObservedCore). (N.core p).state) stands

  words_are : word_at m.config.k m.modules ≡ M.mem
  unfolding machine_of_parts
  words_are = ap (λ (N : theory.Machine ObservedCore). N.mem) stands

  config_is : m.config ≡ opening.config
  config_is = taken.replay.run.config

  -- what the steps leave of a processor
  abbrev left : ℕ → ProcessorResult
  left p = result_with (M.core p).state (printed_by [] (M.core p).events)

  console_is : (p : ℕ) → p < 2 ^ opening.config.k → (slice_index_or tally.shown p nothing_shown).console ≡ printed_by [] (M.core p).events
  console_is p within = ap (λ (s : ShownBy). s.console) (taken.tally.each p within) ∙ sym (printed_all nothing_shown (M.core p).events)

  processor_is : (p : ℕ) → p < 2 ^ opening.config.k → processor_left m tally.shown p ≡ left p
  processor_is p within = ap₂ result_with (state_is p) (console_is p within)

  processors_are : map (processor_left m tally.shown) (range_with_len 0 (2 ^ m.config.k)) ≡ map left (range_with_len 0 (2 ^ opening.config.k))
  processors_are =
      ap (λ (c : Config). map (processor_left m tally.shown) (range_with_len 0 (2 ^ c.k))) config_is
      ∙ fill_by_all left (map (processor_left m tally.shown) (range_with_len 0 (2 ^ opening.config.k))) (2 ^ opening.config.k) (left 0)
      (length-map-range_with_len (processor_left m tally.shown) 0 (2 ^ opening.config.k))
      (λ p within.
      get_or-map-range_with_len (processor_left m tally.shown) 0 (2 ^ opening.config.k) p p (left 0) within (omega arith) ∙ processor_is p within)

  all_words_are : map (word_at m.config.k m.modules) (range_with_len 0 m.config.shared_words) ≡ map M.mem (range_with_len 0 opening.config.shared_words)
  all_words_are = ap₂ (λ (f : ℕ → ℕ) (c : Config). map f (range_with_len 0 c.shared_words)) words_are config_is

  left_is : left_by m tally.shown ≡ machine_result opening.config M
  left_is =
      let processors = processors_are in
      let words = all_words_are in
      λ i. record { processors = processors i; words = words i }

  none_runs : (HasRunning m → ⊥) → NoneRuns opening.config M
  none_runs none p within = ap (λ (q : Processor). is_running q.status) (sym (state_is p)) ∙ by (processor_of m p).status refl
    where
      by : (s : Status) → (processor_of m p).status ≡ s → is_running (processor_of m p).status ≡ false
      by Running e = absurd (none (p, subst (λ (c : Config). p < 2 ^ c.k) (sym config_is) within, e))
      by (Halted byte) e = ap is_running e
      by (Faulted fault) e = ap is_running e

  pub to_result : no_poke steps ≡ true → (r : FinalResult) → IsEnd m tally.shown r → LeadToResult opening steps r
  to_result own r end = record { machine = m; replay = taken.replay; no_pokes = own; stopped = none_runs end.stopped; left = end.left ∙ left_is }

not_zero : (n : ℕ) → (suc n == 0) ≡ true → ⊥
not_zero n e = cc (sym e ∙ ne_eqb (suc n) 0 (λ z. cc z))

-- An empty list of results contains none.
pub none_contained : (results : List FinalResult) → (length results == 0) ≡ true → (r : FinalResult) → Contains results r → ⊥
none_contained [] none r (k, within, is) = absurd (omega (arith, within))
none_contained (x ∷ results) none r there = not_zero (length results) none

-- ---- the result of a number

result_there : (opening : MachineLists) (results : List FinalResult) (before number : ℕ) (r : FinalResult) (steps : List Step) → number ≡ suc before →
    slice_get results before ≡ Some r → LeadToResult opening steps r → LeadTo opening results number steps
result_there opening results before zero r steps is there leads = absurd (cc)
result_there opening results before (suc place) r steps is there leads =
    let same : before ≡ place = omega (arith, is) in
    subst (λ k. IsSomeAnd (slice_get results k) (LeadToResult opening steps)) same
    (subst (λ found. IsSomeAnd found (LeadToResult opening steps)) (sym there) leads)

module _ (c : Config) (image : ImageContents) (results : List FinalResult) (steps : List Step) (m : MachineLists) (tally : TallyState)
    (taken : AreTaken c image steps m tally) (own : no_poke steps ≡ true) (trace : IsTrace (trace_of c steps)) where
  -- If the machine has ended after the steps with the result of a number, the steps are a witness for this number.
  pub end_witness : (before number : ℕ) (r : FinalResult) → number ≡ suc before → before < length results → r ≡ slice_index_or results before r →
      IsEnd m tally.shown r → IsWitness c image (target results number) steps
  end_witness before number r is within there end = record {
    opening = taken.opening;
    opens = taken.opens;
    leads = result_there taken.opening results before number r steps is (slice_get-get_or results before r within ∙ ap Some (sym there))
        (to_result taken.opening m steps tally taken.replay_counted own r end);
    trace = trace;
  }

  -- If no result can be reached after the steps, the steps are a witness for the number 0.
  pub stuck_witness : (number : ℕ) → number ≡ 0 → IsStuck m → IsWitness c image (target results number) steps
  stuck_witness number is stuck = record {
    opening = taken.opening;
    opens = taken.opens;
    leads = subst (λ n. LeadTo taken.opening results n steps) (sym is)
        (record { machine = m; replay = taken.replay_counted.replay; no_pokes = own; stuck = stuck });
    trace = trace;
  }
