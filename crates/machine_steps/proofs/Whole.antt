-- One whole instruction is a step of the flat machine.
use Rattle.std.proofs.Common.{◌≡◌, ℕ, zero, suc, ◌+◌, ◌*◌, ◌^◌, ◌<◌, ◌≤◌, Bool, true, false, List, [], ◌∷◌, ◌++◌}
use Rattle.std.proofs.Common.{length, nat_lt, Option, Some, None, ◌⊎◌, inl, inr, refl, sym, ap, ap₂, ◌∙◌, subst}
use Rattle.std.proofs.Common.{arith}
use Rattle.std.specs.Prelude.{map, slice_get, if◌then◌else◌}
use Rattle.std.proofs.lemmas.Bool.{true≢false, lt-ltb}
use Rattle.std.proofs.lemmas.List.{length-append}
use Rattle.std.proofs.lemmas.Nat.{pow_pos}
use Rattle.omega_network.specs.Networks.{net_of}
use Rattle.flat_machine.specs.declared.config.Config.{Config}
use Rattle.flat_machine.specs.declared.event.Event.{Event}
use Rattle.flat_machine.specs.declared.event.Event.TheVariants as event
use Rattle.flat_machine.specs.declared.poke.Entry.TheVariants as entry
use Rattle.flat_machine.specs.State.{Processor, is_running}
use Rattle.flat_machine.specs.Turns.{Turn, Retires, Reaches, Stops}
use Rattle.flat_machine.specs.declared.event.Retired as retirement
use Rattle.hart.specs.Deciding.{after_reply}
use Rattle.messages.specs.declared.message.Reply.{Reply}
use Rattle.flat_machine.specs.Flat.{flat_step, flat_event, flat_run, flat_events, with_taken, turned}
use Rattle.flat_machine.specs.Flat.{turn_event, with_processor_number, step_of as flat_step_of}
use Rattle.messages.proofs.Lemmas.{put_same}
use Rattle.machine_theory.specs.serialization.Program.{Rests}
use Rattle.machine_theory.specs.Order.{Passed, passed_by}
use Rattle.machine_theory.specs.Theory as theory
use Rattle.machine_theory.specs.serialization.Draining as draining
use Rattle.machine_theory.proofs.Lemmas.serialization.{bound_alone, distances_are}
use Rattle.machine_theory.specs.serialization.Order.{pass, passes, from_machine}
use Rattle.steps.specs.declared.step.Step.{Step}
use Rattle.steps.specs.declared.step.Step.TheVariants as step
use Rattle.steps.specs.declared.step.Outcome.{Outcome}
use Rattle.steps.specs.declared.step.Outcome.TheVariants.{Retired, Issued, Stopped, Moved, Combined, Served, Answered, Poked, Stalled}
use Rattle.machine_theory.specs.Processors.{ObservedCore, sizes_of, next, kind_of, program, no_processor, port_at, open_at}
use Rattle.machine_theory.specs.Flatness.{with_events}
use Rattle.machine_theory.specs.Steps.{named, answer_of, outcome_of_turn, outcome_of_reply, outcome_of, after, with_shown, machine_of_parts}
use Rattle.machine_theory.proofs.Lemmas.{read_found}
use Rattle.machine_steps.specs.Machines.{MachineLists, machine_of, IsIdle, IsMachine, IsStep}
use Rattle.machine_steps.specs.Openings.{flat_state}
use Rattle.machine_steps.specs.Runs.{all_after, events_of, IsRun, IsReplay, passed, IsSerialized}
use Rattle.machine_steps.specs.Draining.{step_of, drain_step, drain_bound, steps_home, drain_steps, IsDrained}
use Rattle.machine_steps.specs.Whole.{event_of, steps_from, one_steps, IsOne, IsSent}
use Rattle.machine_steps.proofs.Flattening.{all_shut, count_is, state_at}
use Rattle.machine_steps.proofs.Stalling.{stalled_keeps}
use Rattle.machine_steps.proofs.Running.{run_begins, run_more, passes_machine, serialized}
use Rattle.machine_steps.proofs.Replaying.{replay_begins, replay_more, replay_kept}
use Rattle.machine_steps.proofs.Drained.{named_again, named_step, goes_on as names_a_move, IsUnderWay, drain_begins}
use Rattle.machine_steps.proofs.Drained.{drain_goes_on, all_taken, none_more, steps_short, drain_stops}
use Rattle.machine_steps.proofs.Drained.{drain_is_whole}
use Rattle.machine_steps.proofs.Lone.{IsLone, IsAsking, IsAnswered, FirstTurn, first_turn, starts, After, goes_on, is_open_yet}

-- ---- events

abbrev pub list_of : Option Event → List Event
list_of None = []
list_of (Some e) = e ∷ []

same_option : (a b : Option Event) → list_of a ≡ list_of b → a ≡ b
same_option None None e = refl
same_option None (Some y) e = absurd (cc)
same_option (Some x) None e = absurd (cc)
same_option (Some x) (Some y) e = let same : x ≡ y = cc in ap Some same

events_one : (p : ℕ) (o : Option Event) → with_events (λ q. []) (with_processor_number (entry.Processor p) o ++ []) p ≡ list_of o
events_one p None = refl
events_one p (Some x) = put_same {X = List Event} (λ q. []) p (x ∷ [])

-- A turn of a processor that has shown nothing shows its outcome's event.
shown_turn : (shown : ℕ → List Event) (p : ℕ) (o : Outcome) → shown p ≡ [] → with_shown shown (step.Turn p) o p ≡ list_of (event_of o)
shown_turn shown p (Retired retired) e = put_same shown p (shown p ++ event.Retired retired ∷ []) ∙ ap (λ es. es ++ event.Retired retired ∷ []) e
shown_turn shown p (Stopped cause) e = put_same shown p (shown p ++ event.Stopped cause ∷ []) ∙ ap (λ es. es ++ event.Stopped cause ∷ []) e
shown_turn shown p Issued e = e
shown_turn shown p Moved e = e
shown_turn shown p (Combined first second) e = e
shown_turn shown p (Served leader) e = e
shown_turn shown p (Answered to) e = e
shown_turn shown p Poked e = e
shown_turn shown p Stalled e = e

-- An outcome without an event is a stall.
abbrev pub Tells : Outcome → Type 0
Tells o = event_of o ≡ None → o ≡ Stalled

turn_tells : (t : Turn) → Tells (outcome_of_turn t)
turn_tells (Retires later retired) e = absurd (cc)
turn_tells (Reaches word change later) e = refl
turn_tells (Stops cause) e = absurd (cc)

reply_tells : (o : Option (Processor × retirement.Retired)) → Tells (outcome_of_reply o)
reply_tells None e = refl
reply_tells (Some done) e = absurd (cc)

-- The same holds of the outcome of a turn of an open processor.
module _ (c : Config) (code : List ℕ) (M : theory.Machine ObservedCore) (p : ℕ) where
  abbrev answer : theory.Outcome → Outcome
  answer = answer_of (λ q. next c code q (M.core q).state)

  retire_tells : (ys : List Reply) → Tells (answer (theory.retire_from (program c code) M p ys).outcome)
  retire_tells [] e = refl
  retire_tells (y ∷ ys) e = reply_tells (after_reply (next c code p (M.core p).state) y.value) e

  taken_tells : (b : Bool) → Tells (answer (if b then theory.turned (program c code) M p true else theory.stalled M).outcome)
  taken_tells true = retire_tells (M.net.replies 0 p)
  taken_tells false = λ e. refl

  open_tells : M.is_open p ≡ true → Tells (outcome_of c code M (step.Turn p))
  unfolding outcome_of
  open_tells opened =
      subst (λ b. Tells (answer (if nat_lt p (2 ^ c.k) then theory.turned (program c code) M p b else theory.stalled M).outcome)) (sym opened)
      (taken_tells (nat_lt p (2 ^ c.k)))

-- ---- a step more

passes_more : (c : Config) (code : List ℕ) (xs : List Step) (s : Step) (h : Passed ObservedCore) →
    passes (sizes_of c) (program c code) (map named (xs ++ s ∷ [])) h
    ≡ pass (sizes_of c) (program c code) (passes (sizes_of c) (program c code) (map named xs) h) (named s)
unfolding passes
passes_more c code [] s h = refl
passes_more c code (x ∷ xs) s h = passes_more c code xs s (pass (sizes_of c) (program c code) h (named x))

-- The machine after a run is that of the theory's run.
pub run_reaches : (old new : MachineLists) (steps : List Step) → IsRun old steps new →
    machine_of new (events_of (passed old steps).machine) ≡ (passed old steps).machine
run_reaches old new steps r =
    let e : (passed old steps).machine ≡ all_after old.config old.code (machine_of old (λ p. [])) steps =
    passes_machine old.config old.code steps (from_machine (machine_of old (λ p. []))) in
    subst (λ (M : theory.Machine ObservedCore). machine_of new (events_of M) ≡ M) (sym e) (r.after (λ p. []))

-- After a run the same processors have a reference open as after the theory's run.
pub open_same : (old new : MachineLists) (steps : List Step) → IsRun old steps new → (q : ℕ) → open_at new.ports q ≡ (passed old steps).machine.is_open q
unfolding machine_of_parts
open_same old new steps r q = ap (λ (M : theory.Machine ObservedCore). M.is_open q) (run_reaches old new steps r)

-- ---- the end

module _ (old : MachineLists) (p : ℕ) (o : Outcome) (new : MachineLists) (steps : List Step) (is : IsMachine old) (idle : IsIdle old) (is' : IsMachine new)
    (idle' : IsIdle new) (r : IsRun old steps new) (taken : IsReplay old (one_steps old p) new) (nothing : o ≡ Stalled → one_steps old p ≡ []) where
  serial : IsSerialized old steps new
  serial = serialized old steps new is idle is' r

  -- A run whose order is p's entry alone is one whole instruction.
  pub is_one : (passed old steps).order ≡ entry.Processor p ∷ [] → events_of (passed old steps).machine p ≡ list_of (event_of o) → Tells o → IsOne old p o new
  is_one order shown tells =
      let same : event_of o ≡ flat_event (flat_state old) (entry.Processor p) =
      same_option (event_of o) (flat_event (flat_state old) (entry.Processor p))
      (sym shown ∙ serial.shown idle' p ∙ ap (λ es. with_events (λ q. []) (flat_events (flat_state old) es) p) order
      ∙ events_one p (flat_event (flat_state old) (entry.Processor p))) in
      record {
        replay = taken;
        idle = idle';
        flat = serial.flat idle' ∙ ap (flat_run (flat_state old)) order;
        event = same;
        stalled = λ none. let e : o ≡ Stalled = tells (same ∙ none) in (e, nothing e);
      }

  -- A run with an empty order is one whole instruction, if the flat machine has no step.
  pub is_none : (passed old steps).order ≡ [] → flat_step (flat_state old) (entry.Processor p) ≡ flat_state old →
      flat_event (flat_state old) (entry.Processor p) ≡ None → o ≡ Stalled → IsOne old p o new
  is_none order same none stalled = record {
    replay = taken;
    idle = idle';
    flat = serial.flat idle' ∙ ap (flat_run (flat_state old)) order ∙ sym same;
    event = ap event_of stalled ∙ sym none;
    stalled = λ e. (stalled, nothing stalled);
  }

-- ---- a reference retires

-- If p's turn has sent a request, the instruction's steps are the turn and those of a drain.
pub steps_back : (before : MachineLists) (p : ℕ) (sent : MachineLists) → IsSent before p sent → one_steps before p ≡ step.Turn p ∷ drain_steps sent
steps_back before p sent s =
    let M : theory.Machine ObservedCore = machine_of before (λ q. []) in
    let same : steps_home before.config before.code (drain_bound before.config) (after before.config before.code M (step.Turn p)) ≡ drain_steps sent =
    ap (steps_home before.config before.code (drain_bound before.config)) (sym (s.turn.step.after (λ q. [])))
    ∙ ap₂ (λ (c : Config) code. steps_home c code (drain_bound c) (machine_of_parts c (net_of sent.network) sent.ports sent.modules (λ q. [])))
    (sym s.turn.config) (sym s.turn.code) in
    ap (steps_from before.config before.code M (step.Turn p)) (sym s.turn.step.outcome) ∙ ap (λ xs. step.Turn p ∷ xs) same

-- These steps were taken since p's turn.
pub record IsComingBack (before : MachineLists) (p : ℕ) (tail : List Step) (m : MachineLists) (last : Outcome) : Type 0 where
  -- p's turn and these steps are a replay
  pub replay : IsReplay before (step.Turn p ∷ tail) m
  -- after these steps no other reference is open
  pub lone : IsLone ObservedCore (sizes_of before.config) (program before.config before.code) p (passed before (step.Turn p ∷ tail))
  -- the last of them did something
  pub moves : last ≡ Stalled → ⊥
  -- while p's reference is open, p has shown nothing
  pub silent : (passed before (step.Turn p ∷ tail)).machine.is_open p ≡ true → events_of (passed before (step.Turn p ∷ tail)).machine p ≡ []
  -- once p's reference is closed, p has shown what the last step tells of
  pub fact : (passed before (step.Turn p ∷ tail)).machine.is_open p ≡ false → events_of (passed before (step.Turn p ∷ tail)).machine p ≡ list_of (event_of last)
  -- and if the last step tells of nothing, it stalled
  pub tells : (passed before (step.Turn p ∷ tail)).machine.is_open p ≡ false → Tells last

module _ (before : MachineLists) (p : ℕ) (tail : List Step) (m : MachineLists) (last : Outcome) (b : IsComingBack before p tail m last) where
  abbrev done : List Step
  done = step.Turn p ∷ tail

  abbrev way : IsRun before done m
  way = b.replay.run

  abbrev h : Passed ObservedCore
  h = passed before done

  same_next : theory.drain_step (sizes_of before.config) h.machine ≡ draining.drain_step (sizes_of m.config) (machine_of m (λ p. []))
  unfolding machine_of_parts
  same_next = ap (draining.drain_step (sizes_of before.config)) (sym (run_reaches before m done way))
      ∙ ap (λ c. draining.drain_step (sizes_of c) (machine_of m (events_of h.machine))) (sym way.config)

  open_there : h.machine.is_open p ≡ true → (machine_of m (λ q. [])).is_open p ≡ true
  unfolding machine_of_parts
  open_there e = open_same before m done way p ∙ e

  module _ (s : Step) (o : Outcome) (new : MachineLists) (sound : IsMachine m) (names_s : drain_step m ≡ Some s) (is : IsStep m s o new) where
    abbrev h' : Passed ObservedCore
    h' = passed before (done ++ s ∷ [])

    moves_on : o ≡ Stalled → ⊥
    moves_on e = (names_a_move m sound s names_s).moves (sym is.step.outcome ∙ e)

    more : h' ≡ pass (sizes_of before.config) (program before.config before.code) h (named s)
    more = passes_more before.config before.code done s (from_machine (machine_of before (λ p. [])))

    shown_now : events_of h'.machine ≡ with_shown (events_of h.machine) s o
    unfolding after machine_of_parts
    shown_now =
        let leaves = is.step.after (events_of h.machine) in
        let same : after m.config m.code (machine_of m (events_of h.machine)) s ≡ after before.config before.code h.machine s =
        ap₂ (λ c code. after c code (machine_of m (events_of h.machine)) s) way.config way.code
        ∙ ap (λ (M : theory.Machine ObservedCore). after before.config before.code M s) (run_reaches before m done way) in
        ap (λ (g : Passed ObservedCore). events_of g.machine) more ∙ sym (ap events_of (leaves ∙ same))

    module _ (st : theory.Step) (e : draining.drain_step (sizes_of before.config) h.machine ≡ Some st) (names : step_of st ≡ s) where
      now : h' ≡ pass (sizes_of before.config) (program before.config before.code) h st
      now = more ∙ ap (pass (sizes_of before.config) (program before.config before.code) h) (ap named (sym names) ∙ named_again st)

      opened : h.machine.is_open p ≡ true
      opened = is_open_yet ObservedCore (sizes_of before.config) (program before.config before.code) p h b.lone st e

      goes : IsLone ObservedCore (sizes_of before.config) (program before.config before.code) p
          (pass (sizes_of before.config) (program before.config before.code) h st)
          × After ObservedCore (sizes_of before.config) (program before.config before.code) p h b.lone st
      goes = goes_on ObservedCore (sizes_of before.config) (program before.config before.code) p h b.lone st e

      shown_by : (t : Step) → t ≡ s → events_of h'.machine p ≡ with_shown (events_of h.machine) t o p
      shown_by t same = ap (λ (f : ℕ → List Event). f p) shown_now ∙ ap (λ u. with_shown (events_of h.machine) u o p) (sym same)

      back : (h'.machine.is_open p ≡ true → events_of h'.machine p ≡ []) → (h'.machine.is_open p ≡ false → events_of h'.machine p ≡ list_of (event_of o)) →
          (h'.machine.is_open p ≡ false → Tells o) → IsComingBack before p (tail ++ s ∷ []) new o
      back silent fact tells = record {
        replay = replay_more before m new done s o b.replay is moves_on;
        moves = moves_on;
        lone = subst (IsLone ObservedCore (sizes_of before.config) (program before.config before.code) p) (sym now) goes.0;
        silent = silent;
        fact = fact;
        tells = tells;
      }

      -- p has retired
      closes : (q : ℕ) → step.Turn q ≡ s → q ≡ p → h'.machine.is_open p ≡ false → IsComingBack before p (tail ++ s ∷ []) new o
      closes q same is_p shut =
          back (λ open_now. absurd (true≢false (sym open_now ∙ shut)))
          (λ f. shown_by (step.Turn p) (ap step.Turn (sym is_p) ∙ same) ∙ shown_turn (events_of h.machine) p o (b.silent opened))
          (λ f. subst Tells (sym (is.step.outcome ∙ ap (outcome_of m.config m.code (machine_of m (λ q. []))) (sym same ∙ ap step.Turn is_p)))
          (open_tells m.config m.code (machine_of m (λ q. [])) p (open_there opened)))

      -- p is still open
      stays : h'.machine.is_open p ≡ true → events_of h'.machine p ≡ events_of h.machine p → IsComingBack before p (tail ++ s ∷ []) new o
      stays open_now kept =
          back (λ f. kept ∙ b.silent opened) (λ shut. absurd (true≢false (sym open_now ∙ shut))) (λ shut. absurd (true≢false (sym open_now ∙ shut)))

    comes : (st : theory.Step) → draining.drain_step (sizes_of before.config) h.machine ≡ Some st → step_of st ≡ s →
        IsComingBack before p (tail ++ s ∷ []) new o
    comes st e names = by st e names (goes st e names).1
      where
        open_of : (st : theory.Step) (e : draining.drain_step (sizes_of before.config) h.machine ≡ Some st) (names : step_of st ≡ s) →
            (pass (sizes_of before.config) (program before.config before.code) h st).machine.is_open p ≡ h.machine.is_open p → h'.machine.is_open p ≡ true
        open_of st e names same = ap (λ (g : Passed ObservedCore). g.machine.is_open p) (now st e names) ∙ same ∙ opened st e names

        by : (st : theory.Step) (e : draining.drain_step (sizes_of before.config) h.machine ≡ Some st) (names : step_of st ≡ s) →
            After ObservedCore (sizes_of before.config) (program before.config before.code) p h b.lone st → IsComingBack before p (tail ++ s ∷ []) new o
        by (theory.Turn q) e names a =
            closes (theory.Turn q) e names q names a.0 (ap (λ (g : Passed ObservedCore). g.machine.is_open p) (now (theory.Turn q) e names) ∙ a.1)
        by (theory.Poke q) e names a = absurd a
        by (theory.Up i w) e names a = stays (theory.Up i w) e names (open_of (theory.Up i w) e names a) (shown_by (theory.Up i w) e names (step.Up i w) names)
        by (theory.Serve i) e names a =
            stays (theory.Serve i) e names (open_of (theory.Serve i) e names a) (shown_by (theory.Serve i) e names (step.Serve i) names)
        by (theory.Down i w) e names a =
            stays (theory.Down i w) e names (open_of (theory.Down i w) e names a) (shown_by (theory.Down i w) e names (step.Down i w) names)

    pub comes_on : IsComingBack before p (tail ++ s ∷ []) new o
    comes_on =
        let n = named_step (draining.drain_step (sizes_of m.config) (machine_of m (λ p. []))) s names_s in
        comes n.0 (same_next ∙ n.1) n.2

  -- If no reference is open, p's whole instruction is done.
  pub is_back : (sent : MachineLists) → IsSent before p sent → IsMachine m → IsIdle m → drain_steps sent ≡ tail → IsOne before p last m
  is_back sent s is' idle' all =
      let shut : h.machine.is_open p ≡ false = sym (open_same before m done way p) ∙ all_shut m is' idle' p in
      by shut b.lone.stage
    where
      by : h.machine.is_open p ≡ false → IsAsking ObservedCore (sizes_of before.config) (program before.config before.code) p h
          ⊎ IsAnswered ObservedCore (sizes_of before.config) (program before.config before.code) p h → IsOne before p last m
      by shut (inl a) = absurd (true≢false (sym a.opened ∙ shut))
      by shut (inr a) =
          is_one before p last m done s.machine s.idle is' idle' way
          (subst (λ xs. IsReplay before xs m) (sym (steps_back before p sent s ∙ ap (λ xs. step.Turn p ∷ xs) all)) b.replay)
          (λ e. absurd (b.moves e)) a.order (b.fact shut) (b.tells shut)

-- ---- a turn

-- A turn whose kind is to rest is that of a processor that does not run.
rests : (t : Turn) (b : Bool) → kind_of b t ≡ Rests → b ≡ false
rests t false e = refl
rests (Retires after retired) true e = absurd (cc)
rests (Reaches word change after) true e = absurd (cc)
rests (Stops cause) true e = absurd (cc)

module _ (old : MachineLists) (p : ℕ) (is : IsMachine old) (idle : IsIdle old) where
  abbrev M : theory.Machine ObservedCore
  M = machine_of old (λ p. [])

  abbrev c : Config
  c = old.config

  shut : (q : ℕ) → M.is_open q ≡ false
  unfolding machine_of_parts
  shut q = all_shut old is idle q

  first : FirstTurn (sizes_of c) (program c old.code) M p
  first = first_turn (sizes_of c) (program c old.code) M p (shut p)

  no_step : (nat_lt p (2 ^ c.k) ≡ false) ⊎ ((program c old.code).kind p (M.core p) ≡ Rests) →
      (flat_step (flat_state old) (entry.Processor p) ≡ flat_state old) × (flat_event (flat_state old) (entry.Processor p) ≡ None)
  unfolding flat_step flat_event machine_of_parts
  no_step why = at (slice_get (flat_state old).processors p) refl why
    where
      at : (o : Option Processor) → slice_get (flat_state old).processors p ≡ o →
          (nat_lt p (2 ^ c.k) ≡ false) ⊎ (kind_of (is_running (port_at old.ports p).core.state.status) (next c old.code p (port_at old.ports p).core.state)
          ≡ Rests) → (turned (flat_state old) p o ≡ flat_state old) × (turn_event (flat_state old) p o ≡ None)
      at None e why = (refl, refl)
      at (Some s) e (inl past) =
          let within : p < 2 ^ c.k = subst (λ n. p < n) (count_is old is) (read_found (flat_state old).processors p s no_processor e).1 in
          absurd (true≢false (sym (lt-ltb p (2 ^ c.k) within) ∙ past))
      at (Some s) e (inr none) =
          let state : (port_at old.ports p).core.state ≡ s = sym (state_at old is p) ∙ (read_found (flat_state old).processors p s no_processor e).0 in
          let still : is_running s.status ≡ false = ap (λ (x : Processor). is_running x.status) (sym state)
          ∙ rests (next c old.code p (port_at old.ports p).core.state) (is_running (port_at old.ports p).core.state.status) none in (
            ap (λ b. if b then with_taken (flat_state old) p (flat_step_of (flat_state old) p s) else flat_state old) still,
            ap (λ b. if b then Some (flat_step_of (flat_state old) p s).2 else None) still,
          )

  module _ (o : Outcome) (new : MachineLists) (st : IsStep old (step.Turn p) o new) where
    moved : (o ≡ Stalled → ⊥) → IsReplay old (step.Turn p ∷ []) new
    moved moves = replay_more old old new [] (step.Turn p) o (replay_begins old) st moves

    run : IsRun old (step.Turn p ∷ []) new
    run = run_more old old new [] (step.Turn p) o (run_begins old) st

    answers : (r : theory.Result ObservedCore) → theory.step (sizes_of c) (program c old.code) M (theory.Turn p) ≡ r →
        o ≡ answer_of (λ q. next c old.code q (M.core q).state) r.outcome
    unfolding outcome_of
    answers r e = st.step.outcome ∙ ap (λ (r : theory.Result ObservedCore). answer_of (λ q. next c old.code q (M.core q).state) r.outcome) e

    passes_to : (r : theory.Result ObservedCore) → theory.step (sizes_of c) (program c old.code) M (theory.Turn p) ≡ r →
        passed old (step.Turn p ∷ []) ≡ passed_by (from_machine M) r
    unfolding passes
    passes_to r e = ap (passed_by (from_machine M)) e

    -- A turn that sends no request is a replay of itself, or of no step if it stalls.
    replayed : (o' : Outcome) → o ≡ o' → (o' ≡ Issued → ⊥) → IsReplay old (steps_from c old.code M (step.Turn p) o') new
    replayed Stalled e other = replay_kept old old new [] (step.Turn p) o (replay_begins old) st (stalled_keeps old new (step.Turn p) o is st e)
    replayed Issued e other = absurd (other refl)
    replayed (Retired retired) e other = moved (λ f. let no : Retired retired ≡ Stalled = sym e ∙ f in cc)
    replayed (Stopped cause) e other = moved (λ f. let no : Stopped cause ≡ Stalled = sym e ∙ f in cc)
    replayed Moved e other = moved (λ f. let no : Moved ≡ Stalled = sym e ∙ f in cc)
    replayed (Combined first second) e other = moved (λ f. let no : Combined first second ≡ Stalled = sym e ∙ f in cc)
    replayed (Served leader) e other = moved (λ f. let no : Served leader ≡ Stalled = sym e ∙ f in cc)
    replayed (Answered to) e other = moved (λ f. let no : Answered to ≡ Stalled = sym e ∙ f in cc)
    replayed Poked e other = moved (λ f. let no : Poked ≡ Stalled = sym e ∙ f in cc)

    taken_whole : (o ≡ Issued → ⊥) → IsReplay old (one_steps old p) new
    taken_whole other = subst (λ x. IsReplay old (steps_from c old.code M (step.Turn p) x) new) st.step.outcome (replayed o refl other)

    nothing_stalled : o ≡ Stalled → one_steps old p ≡ []
    nothing_stalled e = ap (steps_from c old.code M (step.Turn p)) (sym st.step.outcome ∙ e)

    shown_is_that : events_of (passed old (step.Turn p ∷ [])).machine p ≡ list_of (event_of o)
    unfolding passes after machine_of_parts
    shown_is_that = sym (ap (λ (M : theory.Machine ObservedCore). events_of M p) (st.step.after (λ q. []))) ∙ shown_turn (λ q. []) p o refl

    idle_by : (r : theory.Result ObservedCore) → theory.step (sizes_of c) (program c old.code) M (theory.Turn p) ≡ r → r.machine.is_open ≡ M.is_open →
        IsIdle new
    idle_by r e same q within =
        open_same old new (step.Turn p ∷ []) run q
        ∙ ap (λ (h : Passed ObservedCore). h.machine.is_open q) (passes_to r e) ∙ ap (λ (f : ℕ → Bool). f q) same ∙ shut q

    -- The turn of a processor that sends no request is the whole instruction.
    pub turn_whole : IsMachine new → (o ≡ Issued → ⊥) → IsOne old p o new
    turn_whole is' other = by first
      where
        by : FirstTurn (sizes_of c) (program c old.code) M p → IsOne old p o new
        by (inl (e, why)) =
            let none = no_step why in
            is_none old p o new (step.Turn p ∷ []) is idle is' (idle_by (theory.stalled M) e refl) run (taken_whole other) nothing_stalled
            (ap (λ (h : Passed ObservedCore). h.order) (passes_to (theory.stalled M) e)) none.0 none.1 (answers (theory.stalled M) e)
        by (inr (inl e)) =
            is_one old p o new (step.Turn p ∷ []) is idle is' (idle_by (theory.advance (program c old.code) M p) e refl) run (taken_whole other) nothing_stalled
            (ap (λ (h : Passed ObservedCore). h.order) (passes_to (theory.advance (program c old.code) M p) e)) shown_is_that
            (subst Tells (sym (answers (theory.advance (program c old.code) M p) e)) (turn_tells (next c old.code p (M.core p).state)))
        by (inr (inr e)) = absurd (other (answers (theory.issue (program c old.code) M p) e))

    tells : (t : Turn) → Issued ≡ outcome_of_turn t → ⊥
    tells (Retires after retired) e = cc
    tells (Reaches word change after) e = cc
    tells (Stops cause) e = cc

    -- After a turn that sends a request, p's reference is on its way.
    on_way : o ≡ Issued → theory.step (sizes_of c) (program c old.code) M (theory.Turn p) ≡ theory.issue (program c old.code) M p →
        IsComingBack old p [] new Issued
    unfolding passes machine_of_parts
    on_way issued e = record {
      replay = moved (λ f. let no : Issued ≡ Stalled = sym issued ∙ f in cc);
      moves = λ f. cc;
      lone = starts ObservedCore (sizes_of c) (program c old.code) p M is.role is.steady shut e;
      silent = λ f. ap (λ (h : Passed ObservedCore). events_of h.machine p) (passes_to (theory.issue (program c old.code) M p) e);
      fact = λ f. absurd (true≢false (sym (ap (λ (h : Passed ObservedCore). h.machine.is_open p) (passes_to (theory.issue (program c old.code) M p) e)
          ∙ put_same M.is_open p true) ∙ f));
      tells = λ f. absurd (true≢false (sym (ap (λ (h : Passed ObservedCore). h.machine.is_open p) (passes_to (theory.issue (program c old.code) M p) e)
          ∙ put_same M.is_open p true) ∙ f));
    }

    pub sent_comes_back : o ≡ Issued → IsComingBack old p [] new Issued
    sent_comes_back issued = by first
      where
        by : FirstTurn (sizes_of c) (program c old.code) M p → IsComingBack old p [] new Issued
        by (inl (e, why)) = let no : Issued ≡ Stalled = sym issued ∙ answers (theory.stalled M) e in absurd (cc)
        by (inr (inl e)) = absurd (tells (next c old.code p (M.core p).state) (sym issued ∙ answers (theory.advance (program c old.code) M p) e))
        by (inr (inr e)) = on_way issued e

pub begins_back : (before : MachineLists) (p : ℕ) (m : MachineLists) → IsSent before p m → IsComingBack before p [] m Issued
begins_back before p m s = sent_comes_back before p s.machine s.idle Issued m s.turn refl

-- ---- the bound on a drain's steps

-- 2k + 2 is at most 2^k times as much.
pub few_moves : (k : ℕ) → 2 * k + 2 ≤ 2 ^ k * (2 * k + 2)
few_moves k = let some = pow_pos k in at (2 ^ k) some
  where
    at : (n : ℕ) → 0 < n → 2 * k + 2 ≤ n * (2 * k + 2)
    at zero l = absurd (omega (arith, l))
    at (suc n) l = omega arith

-- A drain after the turn of one processor takes at most 2k + 2 steps.
pub sent_is_short : (before : MachineLists) (p : ℕ) (m : MachineLists) → IsSent before p m → IsMachine m → length (drain_steps m) ≤ 2 * m.config.k + 2
unfolding machine_of_parts
sent_is_short before p m sent is =
    let z = sizes_of m.config in
    let P = program m.config m.code in
    let b = begins_back before p m sent in
    let M : theory.Machine ObservedCore = machine_of m (λ q. []) in
    let f = distances_are z P M is.role is.steady in
    let others : (q : ℕ) → (q ≡ p → ⊥) → M.is_open q ≡ false = (λ q n. open_same before m (step.Turn p ∷ []) b.replay.run q ∙ b.lone.others q n) in
    let near = bound_alone z P M is.role is.steady p others f.0 f.1 in
    steps_short m is (2 * m.config.k + 2) f.0 f.1 near (few_moves m.config.k)

-- ---- the loop of a drain

-- i steps of a drain were taken. If p alone had sent a request, its reference is coming back.
pub record IsGoingHome (sent : MachineLists) (tail : List Step) (i : ℕ) (m : MachineLists) (last : Outcome) : Type 0 where
  -- a drain is under way that has taken these steps
  pub under_way : IsUnderWay sent (drain_bound sent.config) tail m
  -- there are i of them
  pub count : length tail ≡ i
  -- what they lead to is a machine
  pub sound : IsMachine m
  -- if p alone had sent a request, its reference is coming back
  pub coming : (before : MachineLists) (p : ℕ) → IsSent before p sent → IsComingBack before p tail m last

-- A drain begins with no step taken.
pub home_begins : (m : MachineLists) → IsMachine m → IsGoingHome m [] 0 m Issued
home_begins m is = record {
  under_way = drain_begins (drain_bound m.config) m;
  count = refl;
  sound = is;
  coming = λ before p sent. begins_back before p m sent;
}

module _ (sent : MachineLists) (tail : List Step) (i : ℕ) (m : MachineLists) (last : Outcome) (b : IsGoingHome sent tail i m last) where
  -- If the next step of a drain is taken, the drain goes on with one step more.
  pub home_goes_on : (s : Step) (o : Outcome) (new : MachineLists) → IsMachine new → i < drain_bound sent.config → drain_step m ≡ Some s → IsStep m s o new →
      IsGoingHome sent (tail ++ s ∷ []) (i + 1) new o
  home_goes_on s o new is' within names is = record {
    under_way = drain_goes_on sent m (drain_bound sent.config) tail b.under_way s o new (let n = b.count in omega (arith, n, within)) names is;
    count = length-append tail (s ∷ []) ∙ (let n = b.count in omega (arith, n));
    sound = is';
    coming = λ before p sends. comes_on before p tail m last (b.coming before p sends) s o new b.sound names is;
  }

  -- These are all steps of the drain, and if p alone had sent a request, its whole instruction is done.
  abbrev AtHome : Type 0
  AtHome = (drain_steps sent ≡ tail) × IsDrained sent i m × ((before : MachineLists) (p : ℕ) → IsSent before p sent → IsOne before p last m)

  at_home : drain_steps sent ≡ tail → IsDrained sent (length tail) m → AtHome
  at_home all drained = (
    all,
    subst (λ n. IsDrained sent n m) b.count drained,
    λ before p sends. is_back before p tail m last (b.coming before p sends) sent sends b.sound drained.idle all,
  )

  -- The drain is at its end if it names no further step.
  pub home_now : drain_step m ≡ None → IsIdle m → AtHome
  home_now none idle = at_home (all_taken sent m (drain_bound sent.config) tail b.under_way none) (drain_stops sent m tail b.under_way none idle)

  -- The drain is at its end if at least as many steps were taken as it has.
  pub home_in_time : IsMachine sent → length (drain_steps sent) ≤ i → AtHome
  home_in_time is few =
      let n = b.count in
      let all = none_more sent m (drain_bound sent.config) tail b.under_way (omega (arith, few, n)) in
      at_home all (drain_is_whole sent m tail b.under_way is all)
