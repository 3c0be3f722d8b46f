-- What the passes of a run on threads show: each processor has stopped, no reference is open, and the bytes sent to the
-- consoles are those that the processors wrote.
use Rattle.std.proofs.Common.{◌≡◌, inl, inr, ℕ, ◌^◌, ◌<◌, Bool, false, true≢false, List, [], ◌∷◌, ◌++◌, length, map, append_assoc}
use Rattle.std.proofs.Common.{refl, sym, ap, ◌∙◌, subst, arith}
use Rattle.std.specs.Prelude.{Option, Some, None, slice_get, slice_index_or}
use Rattle.std.proofs.lemmas.List.{append-nil, length-map}
use Rattle.std.specs.Option.{option_map}
use Rattle.std.proofs.lemmas.Option.{get_or_from_slice_get, slice_get-get_or, slice_get-map}
use Rattle.flat_machine.specs.declared.config.Config.{Config}
use Rattle.flat_machine.specs.declared.event.Event.{Event}
use Rattle.flat_machine.specs.declared.event.Event.TheVariants as event
use Rattle.machine_log.specs.machine_theory.Theory as theory
use Rattle.machine_log.specs.machine_theory.Processors.{ObservedCore, open_at}
use Rattle.machine_log.specs.machine_theory.Steps.{machine_of_parts}
use Rattle.machine_steps.specs.serialization.Order.{from_machine}
use Rattle.machine_steps.specs.steps.declared.step.Step.{Step}
use Rattle.machine_steps.specs.Machines.{MachineLists, machine_of, IsIdle}
use Rattle.machine_steps.specs.Runs.{all_after, events_of}
use Rattle.machine_steps.specs.Laws.{EventsAreShown, RunsAreSerialized}
use Rattle.machine_steps.proofs.Lemmas.{passes_machine}
use Rattle.machine_log.specs.Logs.{Log, IsWellFormed}
use Rattle.machine_lock.specs.Laws.{EventsAreListed, StoppedAreShut}
use Rattle.machine_lock.specs.Lists.{pass_events_of}
use Rattle.machine_lock.specs.Passes.{Held, IsWhole, rows_of}
use Rattle.machine_lock.specs.Rows.{Fits}
use Rattle.machine_lock.specs.declared.row.PassEvent.{PassEvent}
use Rattle.processor_threads.specs.console_monitor.Ends.{held_of}
use Rattle.processor_threads.specs.Consoles.{console_bytes, console_of}
use Rattle.processor_threads.specs.Endings.{EndsWithStop, IsOfMemory, WereMade}
use Rattle.processor_threads.specs.declared.fault.RunFault.{RunFault}
use Rattle.command_io.specs.Events.{shown_by, shown_from, with_event}
use Rattle.command_io.specs.Tallies.{ShownBy, nothing_shown, with_byte}
use Rattle.run_reports.specs.CountedReplays.{AreConsoles, events_in}
use Rattle.processor_threads.specs.Faults.{is_of_host}
use Rattle.run_command.specs.ThreadRuns.{EndInStop, HasEnded, IsOfThreads}

-- ---- the console bytes of events

one_byte : (console : List ℕ) (out : Option ℕ) → with_byte console out ≡ console ++ held_of out
one_byte console None = sym (append-nil console)
one_byte console (Some byte) = refl

console_after_events : (s : ShownBy) (events : List Event) → (shown_from s events).console ≡ s.console ++ console_bytes events
console_after_events s [] = sym (append-nil s.console)
console_after_events s (event.Retired retired ∷ events) =
    console_after_events (with_event s (event.Retired retired)) events
    ∙ ap (λ bytes. bytes ++ console_bytes events) (one_byte s.console retired.out)
    ∙ append_assoc s.console (held_of retired.out) (console_bytes events)
console_after_events s (event.Stopped cause ∷ events) = console_after_events s events

-- The console bytes that a tally counts are those that the events have.
shown_console : (events : List Event) → (shown_by events).console ≡ console_bytes events
shown_console events = console_after_events nothing_shown events

-- ---- the passes

abbrev event_of : PassEvent → Event
event_of n = n.event

map_last : (ns : List PassEvent) (n : PassEvent) → map event_of (ns ++ n ∷ []) ≡ map event_of ns ++ n.event ∷ []
map_last [] n = refl
map_last (m ∷ ns) n = ap (λ es. m.event ∷ es) (map_last ns n)

module _ (listed : EventsAreListed) (shut : StoppedAreShut) (serialized : RunsAreSerialized) (fact : EventsAreShown) (log : Log) (kept : IsWellFormed log)
    (hs : List Held) (whole : IsWhole (2 ^ log.opening.config.k) hs) (fits : Fits log.opening [] (2 ^ log.opening.config.k) log.steps (rows_of hs))
    (stopped : (p : ℕ) (h : Held) → slice_get hs p ≡ Some h → EndsWithStop h) where
  abbrev m : MachineLists
  m = log.opening

  abbrev M : theory.Machine ObservedCore
  M = machine_of m (λ p. [])

  -- the pass events of a processor in the steps of the log
  abbrev given : ℕ → List PassEvent
  given p = pass_events_of m.config m.code p 0 M log.steps

  pass_is : (p : ℕ) (h : Held) → slice_get hs p ≡ Some h → h.row.pass_events ≡ given p
  unfolding all_after
  pass_is p h at = (fits.each p h.row (slice_get-map (λ (g : Held). g.row) hs p ∙ ap (λ (o : Option Held). option_map (λ (g : Held). g.row) o) at)).pass_events

  there : (p : ℕ) → p < 2 ^ m.config.k → (h : Held) × (slice_get hs p ≡ Some h)
  there p within = by hs (subst (λ n. p < n) (sym whole.many) within)
    where
      by : (hs : List Held) → p < length hs → (h : Held) × (slice_get hs p ≡ Some h)
      by [] inside = absurd (omega (arith, inside))
      by (g ∷ gs) inside = (slice_index_or (g ∷ gs) p g, slice_get-get_or (g ∷ gs) p g inside)

  shut_is : (p : ℕ) → p < 2 ^ m.config.k → open_at log.machine.ports p ≡ false
  unfolding machine_of_parts
  shut_is p within =
      let h = there p within in
      let s = stopped p h.0 h.1 in
      ap (λ (N : theory.Machine ObservedCore). N.is_open p) (kept.replay.run.after (λ q. []))
      ∙ shut m.config m.code p 0 M log.steps s.before s.place s.cause fits.no_pokes (sym (pass_is p h.0 h.1) ∙ s.is)

  pub idle_is : IsIdle log.machine
  idle_is p within = shut_is p (subst (λ (c : Config). p < 2 ^ c.k) kept.replay.run.config within)

  -- The pass of a processor has the events that the processor shows in the steps of the log.
  events_are : (p : ℕ) → p < 2 ^ m.config.k → (h : Held) → slice_get hs p ≡ Some h → map event_of h.row.pass_events ≡ events_in m log.steps p
  events_are p within h at =
      ap (map event_of) (pass_is p h at)
      ∙ listed m.config m.code p 0 M log.steps
      ∙ (fact m log.steps log.machine kept.opens kept.idle kept.replay.run).shut p (shut_is p within)
      ∙ sym ((serialized m log.steps log.machine kept.opens kept.idle kept.sound kept.replay.run).shown idle_is p)
      ∙ ap (λ (N : theory.Machine ObservedCore). events_of N p) (passes_machine m.config m.code log.steps (from_machine M))

  stop_is : (p : ℕ) → p < 2 ^ m.config.k → EndInStop (events_in m log.steps p)
  stop_is p within =
      let h = there p within in
      let s = stopped p h.0 h.1 in
      record {
        before = map event_of s.before;
        cause = s.cause;
        is = sym (events_are p within h.0 h.1) ∙ ap (map event_of) s.is ∙ map_last s.before (record { event = event.Stopped s.cause; place = s.place });
      }

  console_is : (p : ℕ) → p < 2 ^ m.config.k → slice_index_or (map console_of hs) p [] ≡ (shown_by (events_in m log.steps p)).console
  console_is p within =
      let h = there p within in
      get_or_from_slice_get (map console_of hs) p (console_of h.0) []
      (slice_get-map console_of hs p ∙ ap (λ (o : Option Held). option_map console_of o) h.1)
      ∙ ap console_bytes (events_are p within h.0 h.1)
      ∙ sym (shown_console (events_in m log.steps p))

  consoles_are : (consoles : List (List ℕ)) → consoles ≡ map console_of hs → AreConsoles m log.steps consoles
  consoles_are consoles sent = record {
    all = ap length sent ∙ length-map hs console_of ∙ whole.many;
    each = λ p within. ap (λ (cs : List (List ℕ)). slice_index_or cs p []) sent ∙ console_is p within;
  }

-- A run on threads that began with an empty log, and with a pass for each processor, has ended.
pub has_ended : EventsAreListed → StoppedAreShut → RunsAreSerialized → EventsAreShown → (opening : MachineLists) (first : List Step) (count : ℕ) →
    first ≡ [] → count ≡ 2 ^ opening.config.k → (log : Log) → log.opening ≡ opening → IsWellFormed log → (hs : List Held) → IsWhole count hs →
    Fits opening first count log.steps (rows_of hs) → ((p : ℕ) (h : Held) → slice_get hs p ≡ Some h → EndsWithStop h) →
    (consoles : List (List ℕ)) → consoles ≡ map console_of hs → HasEnded opening log consoles
has_ended listed shut serialized fact opening first count none all log is kept hs whole fits stopped consoles sent =
    let n : count ≡ 2 ^ log.opening.config.k = all ∙ ap (λ (m : MachineLists). 2 ^ m.config.k) (sym is) in
    let every : IsWhole (2 ^ log.opening.config.k) hs = subst (λ i. IsWhole i hs) n whole in
    let fit : Fits log.opening [] (2 ^ log.opening.config.k) log.steps (rows_of hs) =
    subst (λ (x : MachineLists × List Step × ℕ). Fits x.0 x.1 x.2 log.steps (rows_of hs)) (λ i. (sym is i, none i, n i)) fits in
    record {
      opening_is = is;
      kept = kept;
      no_pokes = fit.no_pokes;
      named = fit.named;
      stopped = stop_is listed shut serialized fact log kept hs every fit stopped;
      idle = idle_is listed shut serialized fact log kept hs every fit stopped;
      heard = consoles_are listed shut serialized fact log kept hs every fit stopped consoles sent;
    }

-- If the log of a run on threads began without steps, threads have taken all that it has.
pub of_threads : (opening : MachineLists) (first : List Step) (count : ℕ) → first ≡ [] → (log : Log) → log.opening ≡ opening → IsWellFormed log →
    (hs : List Held) → Fits opening first count log.steps (rows_of hs) → IsOfThreads opening log
of_threads opening first count none log is kept hs fits =
    let fit : Fits log.opening [] count log.steps (rows_of hs) =
    subst (λ (x : MachineLists × List Step). Fits x.0 x.1 count log.steps (rows_of hs)) (λ i. (sym is i, none i)) fits in
    record { opening_is = is; kept = kept; no_pokes = fit.no_pokes; named = fit.named }

abbrev pub is_host : Option RunFault → Bool
is_host None = false
is_host (Some fault) = is_of_host fault

-- If a run has no fault of the host, its passes were made.
pub were_made : (fault : Option RunFault) (hs : List Held) → is_host fault ≡ false → (hs ≡ [] → IsOfMemory fault) → WereMade hs
were_made fault hs none refused nothing = by (refused nothing)
  where
    by : IsOfMemory fault → ⊥
    by (inl memory) = true≢false (sym (ap is_host memory) ∙ none)
    by (inr console) = true≢false (sym (ap is_host console) ∙ none)
