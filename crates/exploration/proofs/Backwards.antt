-- Every result of the flat machine is one of the machine, which takes whole instructions one after another.
use Rattle.std.proofs.Common.{◌≡◌, ◌⊎◌, inl, inr, ℕ, zero, suc, ◌<◌, ◌^◌, Bool, true, false, List, [], ◌∷◌, ◌++◌}
use Rattle.std.proofs.Common.{Option, Some, None, map, refl, sym, ap, ap₂, subst, ◌∙◌, nat_lt, append_assoc, lt-ltb}
use Rattle.std.specs.Prelude.{slice_get, slice_index, slice_index_or}
use Rattle.std.proofs.lemmas.Bool.{true≢false}
use Rattle.std.proofs.lemmas.List.{append-nil}
use mathlib.Core.Path.{fun_ext}
use Rattle.flat_machine.specs.declared.config.Config.{Config}
use Rattle.flat_machine.specs.declared.event.Event.{Event}
use Rattle.flat_machine.specs.declared.poke.Entry.{Entry}
use Rattle.flat_machine.specs.declared.poke.Entry.TheVariants as entry
use Rattle.flat_machine.specs.State.{FlatState, Processor, is_running}
use Rattle.flat_machine.specs.Limits.{IsWithinLimits}
use Rattle.flat_machine.specs.Laws.{AreBelow}
use Rattle.flat_machine.specs.Turns.{Turn, Retires, Reaches, Stops}
use Rattle.flat_machine.specs.Flat.{flat_step, flat_event, flat_run, flat_events, turned, turn_event, with_processor_number}
use Rattle.machine_steps.specs.network_theory.Roles.{Role}
use Rattle.machine_steps.specs.serialization.Program.{Rests}
use Rattle.machine_steps.specs.serialization.Steadiness.{Steady}
use Rattle.machine_steps.specs.serialization.Draining as draining
use Rattle.machine_steps.proofs.Lemmas.serialization.{drain_ends, steady_after}
use Rattle.machine_steps.specs.serialization.Order.{pass, passes, from_machine}
use Rattle.machine_steps.specs.steps.declared.step.Step.{Step}
use Rattle.machine_steps.specs.steps.declared.step.Step.TheVariants as step
use Rattle.machine_steps.specs.machine_theory.Theory as theory
use Rattle.machine_steps.specs.machine_theory.Processors.{ObservedCore, sizes_of, next, kind_of, program, no_processor}
use Rattle.machine_steps.specs.machine_theory.Steps.{named, after, machine_of_parts}
use Rattle.machine_steps.specs.machine_theory.FlatSizes.{IsSoundFlat}
use Rattle.machine_steps.specs.machine_theory.Order.{Passed, passed_by}
use Rattle.machine_steps.specs.machine_theory.Flatness.{with_events}
use Rattle.machine_steps.specs.machine_theory.Explained.{Opens, IsExplained}
use Rattle.machine_steps.proofs.Lemmas.machine_theory.{means_change, run_sound, runs_are_explained}
use Rattle.machine_steps.specs.Machines.{MachineLists, machine_of, IsIdle, IsMachine}
use Rattle.machine_steps.specs.Openings.{flat_state}
use Rattle.machine_steps.proofs.Lemmas.{all_shut, sound, FirstTurn, IsAnswered, IsAsking, IsLone, Named, drain_named}
use Rattle.machine_steps.proofs.Lemmas.{first_turn, lone_goes_on as goes_on, named_again, starts}
use Rattle.machine_steps.specs.Runs.{all_after, events_of}
use Rattle.machine_steps.specs.Draining.{step_of}
use Rattle.local_reduction.specs.LocalStates.{turns}
use Rattle.local_reduction.specs.Results.{FinalResult, IsFlatResult}
use Rattle.machine_steps.specs.steps.Kinds.{is_poke, no_poke}
use Rattle.machine_steps.proofs.Lemmas.steps.{no_poke_both, no_poke_more}
use Rattle.exploration.specs.Results.{stands_after, IsMachineResult}
use Rattle.exploration.proofs.MachineEnds.{found_at, Matches, results_same, none_runs}
use Rattle.exploration.proofs.Forwards.{turns_lawful, passes_all, theory_all, matches}
use Rattle.exploration.proofs.Shifting.{events_join, events_after, shift, shift_all, forget, as_before, all_shifted}

-- ---- lists of steps

after_both : (c : Config) (code : List ℕ) (xs ys : List Step) (N : theory.Machine ObservedCore) →
    all_after c code N (xs ++ ys) ≡ all_after c code (all_after c code N xs) ys
unfolding all_after
after_both c code [] ys N = refl
after_both c code (x ∷ xs) ys N = after_both c code xs ys (after c code N x)

again : (sts : List theory.Step) → map named (map step_of sts) ≡ sts
again [] = refl
again (t ∷ ts) = ap₂ (λ u us. u ∷ us) (named_again t) (again ts)

of_named : (N : theory.Machine ObservedCore) (st : theory.Step) → Named N st → is_poke (step_of st) ≡ false
of_named N (theory.Turn p) h = refl
of_named N (theory.Up s w) h = refl
of_named N (theory.Serve i) h = refl
of_named N (theory.Down s w) h = refl
of_named N (theory.Poke q) h = absurd h

-- ---- the flat machine's events

abbrev one_events : FlatState → ℕ → List (ℕ × Event)
one_events F k = with_processor_number (entry.Processor k) (flat_event F (entry.Processor k))

-- If a processor is not running, its turn leaves the flat machine unchanged.
no_turn : (F : FlatState) (k : ℕ) → ((p : Processor) → slice_get F.processors k ≡ Some p → is_running p.status ≡ false) →
    (flat_step F (entry.Processor k) ≡ F) × (one_events F k ≡ [])
unfolding flat_step flat_event
no_turn F k stands = by (slice_get F.processors k) refl
  where
    by : (o : Option Processor) → slice_get F.processors k ≡ o →
        (turned F k (slice_get F.processors k) ≡ F) × (with_processor_number (entry.Processor k) (turn_event F k (slice_get F.processors k)) ≡ [])
    by None e = (ap (turned F k) e, ap (λ o. with_processor_number (entry.Processor k) (turn_event F k o)) e)
    by (Some p) e =
        let still : is_running p.status ≡ false = stands p e in
        (ap (turned F k) e ∙ rw still refl, ap (λ o. with_processor_number (entry.Processor k) (turn_event F k o)) e ∙ rw still refl)

rests : (t : Turn) (b : Bool) → kind_of b t ≡ Rests → b ≡ false
rests t false e = refl
rests (Retires q r) true e = absurd (cc)
rests (Reaches word change later) true e = absurd (cc)
rests (Stops cause) true e = absurd (cc)

module _ (c : Config) (code : List ℕ) (limits : IsWithinLimits c) (bytes : AreBelow 256 code) where
  -- ---- one instruction, by steps of the machine

  -- The steps add one turn of processor k to the serial order, and leave no reference open.
  pub record IsTurn (k : ℕ) (N : theory.Machine ObservedCore) (steps : List Step) : Type 0 where
    pub own : no_poke steps ≡ true
    pub order : (passes (sizes_of c) (program c code) (map named steps) (from_machine N)).order ≡ turns (k ∷ [])
    pub shut : (p : ℕ) → (all_after c code N steps).is_open p ≡ false

  abbrev Loned : ℕ → Passed ObservedCore → List theory.Step → Type 0
  Loned k h sts = IsLone ObservedCore (sizes_of c) (program c code) k (passes (sizes_of c) (program c code) sts h) × (no_poke (map step_of sts) ≡ true)

  -- A drain completes k's reference, and no other.
  drained_alone : (n k : ℕ) (h : Passed ObservedCore) → IsLone ObservedCore (sizes_of c) (program c code) k h →
      Loned k h (draining.drain_steps (sizes_of c) (program c code) n h.machine)
  unfolding draining.drain_steps passes
  drained_alone zero k h lone = (lone, refl)
  drained_alone (suc n) k h lone = by (draining.drain_step (sizes_of c) h.machine) refl (λ st l. drained_alone n k (pass (sizes_of c) (program c code) h st) l)
    where
      by : (o : Option theory.Step) → draining.drain_step (sizes_of c) h.machine ≡ o →
          ((st : theory.Step) → IsLone ObservedCore (sizes_of c) (program c code) k (pass (sizes_of c) (program c code) h st) →
          Loned k (pass (sizes_of c) (program c code) h st)
          (draining.drain_steps (sizes_of c) (program c code) n (theory.step (sizes_of c) (program c code) h.machine st).machine)) →
          Loned k h (elim o [
            | Some st ↦ st ∷ draining.drain_steps (sizes_of c) (program c code) n
                (theory.step (sizes_of c) (program c code) h.machine st).machine
            | None ↦ []
          ])
      by None e more = (lone, refl)
      by (Some st) e more =
          let g = goes_on ObservedCore (sizes_of c) (program c code) k h lone st e in
          let l = more st g.0 in
          let later : List Step =
          map step_of (draining.drain_steps (sizes_of c) (program c code) n (theory.step (sizes_of c) (program c code) h.machine st).machine) in
          (l.0, no_poke_more (step_of st) later (of_named h.machine st (drain_named ObservedCore h.machine (sizes_of c) st e)) l.1)

  passes_after : (sts : List theory.Step) (h : Passed ObservedCore) →
      (passes (sizes_of c) (program c code) sts h).machine ≡ theory.machine_after (sizes_of c) (program c code) sts h.machine
  unfolding passes theory.machine_after
  passes_after [] h = refl
  passes_after (st ∷ sts) h = passes_after sts (pass (sizes_of c) (program c code) h st)

  module _ (k : ℕ) (N : theory.Machine ObservedCore) (role : ℕ → Role) (steady : Steady (sizes_of c) (program c code) N role) (shut : (p : ℕ) →
      N.is_open p ≡ false) where
    abbrev first_of : Passed ObservedCore
    first_of = pass (sizes_of c) (program c code) (from_machine N) (theory.Turn k)

    by_advance : theory.step (sizes_of c) (program c code) N (theory.Turn k) ≡ theory.advance (program c code) N k → IsTurn k N (step.Turn k ∷ [])
    unfolding passes all_after after
    by_advance e = record {
      own = refl;
      order = ap (λ (r : theory.Result ObservedCore). (passed_by (from_machine N) r).order) e;
      shut = λ p. ap (λ (r : theory.Result ObservedCore). r.machine.is_open p) e ∙ shut p;
    }

    -- the same after the turn and a whole drain
    drained : (lone : IsLone ObservedCore (sizes_of c) (program c code) k first_of) → (sts : List theory.Step) →
        sts ≡ draining.drain_steps (sizes_of c) (program c code) (draining.drain_bound (sizes_of c)) first_of.machine → Loned k first_of sts →
        IsTurn k N (step.Turn k ∷ map step_of sts)
    unfolding passes all_after after
    drained lone sts all l = record { own = no_poke_more (step.Turn k) (map step_of sts) refl l.1; order = order; shut = λ p. there_shut p }
      where
        last_shut : (p : ℕ) → (passes (sizes_of c) (program c code) sts (pass (sizes_of c) (program c code) (from_machine N) (theory.Turn k))).machine.is_open
            p ≡ false
        last_shut p =
            ap (λ (M : theory.Machine ObservedCore). M.is_open p) (passes_after sts first_of)
            ∙ ap (λ ss. (theory.machine_after (sizes_of c) (program c code) ss first_of.machine).is_open p) all
            ∙ drain_ends (sizes_of c) (program c code) first_of.machine lone.role lone.steady limits.answers p

        there_shut : (p : ℕ) → (all_after c code (theory.step (sizes_of c) (program c code) N (theory.Turn k)).machine (map step_of sts)).is_open p ≡ false
        there_shut p =
            ap (λ (M : theory.Machine ObservedCore). M.is_open p) (sym (passes_all c code (map step_of sts) first_of))
            ∙ ap (λ ss. (passes (sizes_of c) (program c code) ss first_of).machine.is_open p) (again sts)
            ∙ last_shut p

        entered : IsAsking ObservedCore (sizes_of c) (program c code) k
            (passes (sizes_of c) (program c code) sts (pass (sizes_of c) (program c code) (from_machine N) (theory.Turn k)))
            ⊎ IsAnswered ObservedCore (sizes_of c) (program c code) k
            (passes (sizes_of c) (program c code) sts (pass (sizes_of c) (program c code) (from_machine N) (theory.Turn k))) →
            (passes (sizes_of c) (program c code) sts (pass (sizes_of c) (program c code) (from_machine N) (theory.Turn k))).order ≡ turns (k ∷ [])
        entered (inl asking) = absurd (true≢false (sym asking.opened ∙ last_shut k))
        entered (inr answered) = answered.order

        order : (passes (sizes_of c) (program c code) (map named (map step_of sts))
            (pass (sizes_of c) (program c code) (from_machine N) (theory.Turn k))).order ≡ turns (k ∷ [])
        order = ap (λ ss. (passes (sizes_of c) (program c code) ss first_of).order) (again sts) ∙ entered l.0.stage

    by_issue : theory.step (sizes_of c) (program c code) N (theory.Turn k) ≡ theory.issue (program c code) N k → (steps : List Step) × IsTurn k N steps
    by_issue e =
        let lone = starts ObservedCore (sizes_of c) (program c code) k N role steady shut e in
        let sts = draining.drain_steps (sizes_of c) (program c code) (draining.drain_bound (sizes_of c)) first_of.machine in
        (step.Turn k ∷ map step_of sts, drained lone sts refl (drained_alone (draining.drain_bound (sizes_of c)) k first_of lone))

  -- ---- one turn of both machines

  -- The machine matches the flat machine, and no reference is open.
  pub record IsFlat (N : theory.Machine ObservedCore) (F : FlatState) (events : List (ℕ × Event)) : Type 0 where
    pub matches : Matches c N F events
    pub shut : (p : ℕ) → N.is_open p ≡ false
    pub role : ℕ → Role
    pub steady : Steady (sizes_of c) (program c code) N role
    pub sound : IsSoundFlat c code F

  forgotten : (N : theory.Machine ObservedCore) (role : ℕ → Role) → Steady (sizes_of c) (program c code) N role →
      Steady (sizes_of c) (program c code) (forget N) role
  forgotten N role s = record {
    placed = s.placed;
    worded = s.worded;
    marked = s.marked;
    few = s.few;
    stands = s.stands;
    shut = s.shut;
    small = s.small;
    refers = s.refers;
  }

  module _ (k : ℕ) (N : theory.Machine ObservedCore) (F : FlatState) (events : List (ℕ × Event)) (h : IsFlat N F events) where
    opens_there : Opens c code (forget N) F
    opens_there = record {
      few = limits.stages;
      sound = h.sound;
      role = h.role;
      steady = forgotten N h.role h.steady;
      idle = λ p within. h.shut p;
      reads = ap₂ (λ (f : ℕ → ℕ) (g : ℕ → ObservedCore). record { mem = f; core = g }) (fun_ext h.matches.words)
          (fun_ext (λ p. ap (λ (g : ObservedCore). record { state = g.state; events = [] }) (h.matches.cores p)));
    }

    sound_then : IsSoundFlat c code (flat_step F (entry.Processor k))
    sound_then = run_sound c code (means_change c code limits.stages bytes) (turns (k ∷ [])) F (turns_lawful c (k ∷ [])) h.sound

    -- If the steps add the turn to the serial order, the machine still matches after it.
    by_steps : (steps : List Step) → IsTurn k (forget N) steps → IsFlat (all_after c code N steps) (flat_step F (entry.Processor k)) (events ++ one_events F k)
    by_steps steps t = record {
      matches = record {
        count = sound_then.size.processors;
        size = sound_then.size.shared;
        cores = λ p. ap (λ (M : theory.Machine ObservedCore). M.core p) there ∙ ap (shift (events_of N) p) (core_there p) ∙ joined p;
        words = λ i. ap (λ (M : theory.Machine ObservedCore). M.mem i) there ∙ word_there i;
      };
      shut = λ p. ap (λ (M : theory.Machine ObservedCore). M.is_open p) there ∙ t.shut p;
      role = steady_then.0;
      steady = subst (λ M. Steady (sizes_of c) (program c code) M steady_then.0) (theory_all c code steps N) steady_then.1;
      sound = sound_then;
    }
      where
        there : all_after c code N steps ≡ shift_all (events_of N) (all_after c code (forget N) steps)
        there = ap (λ M. all_after c code M steps) (sym (as_before N)) ∙ all_shifted c code (events_of N) steps (forget N) t.own

        reached : (passes (sizes_of c) (program c code) (map named steps) (from_machine (forget N))).machine ≡ all_after c code (forget N) steps
        reached = passes_all c code steps (from_machine (forget N))

        explained : IsExplained c code F (passes (sizes_of c) (program c code) (map named steps) (from_machine (forget N)))
        explained = (runs_are_explained c code).moments (forget N) F (map named steps) opens_there

        flat_core : List Entry → ℕ → ObservedCore
        flat_core es p = record { state = slice_index_or (flat_run F es).processors p no_processor; events = with_events (λ j. []) (flat_events F es) p }

        core_there : (p : ℕ) → (all_after c code (forget N) steps).core p
            ≡ record { state = slice_index_or (flat_step F (entry.Processor k)).processors p no_processor; events = with_events (λ j. []) (one_events F k) p }
        core_there p =
            ap (λ (M : theory.Machine ObservedCore). M.core p) (sym reached)
            ∙ explained.unserved p (explained.shut p (ap (λ (M : theory.Machine ObservedCore). M.is_open p) reached ∙ t.shut p))
            ∙ ap (λ es. flat_core es p) t.order
            ∙ ap (λ es. record { state = slice_index_or (flat_step F (entry.Processor k)).processors p no_processor; events = with_events (λ j. []) es p })
            (append-nil (one_events F k))

        word_there : (i : ℕ) → (all_after c code (forget N) steps).mem i ≡ slice_index (flat_step F (entry.Processor k)).shared i
        word_there i = ap (λ (M : theory.Machine ObservedCore). M.mem i) (sym reached) ∙ explained.words i
            ∙ ap (λ es. slice_index (flat_run F es).shared i) t.order

        joined : (p : ℕ) → shift (events_of N) p (record {
          state = slice_index_or (flat_step F (entry.Processor k)).processors p no_processor;
          events = with_events (λ j. []) (one_events F k) p;
        })
            ≡ record {
              state = slice_index_or (flat_step F (entry.Processor k)).processors p no_processor;
              events = with_events (λ j. []) (events ++ one_events F k) p;
            }
        joined p =
            ap (λ es. record { state = slice_index_or (flat_step F (entry.Processor k)).processors p no_processor; events = es })
            (ap (λ (g : ObservedCore). g.events ++ with_events (λ j. []) (one_events F k) p) (h.matches.cores p)
            ∙ sym (events_after (one_events F k) (with_events (λ j. []) events) p)
            ∙ ap (λ (f : ℕ → List Event). f p) (sym (events_join events (one_events F k) (λ j. []))))

        steady_then : (role : ℕ → Role) × Steady (sizes_of c) (program c code) (theory.machine_after (sizes_of c) (program c code) (map named steps) N) role
        steady_then = steady_after (sizes_of c) (program c code) (map named steps) N h.role h.steady

    -- If there is no turn to take, the processor is not running.
    stands_still : (nat_lt k (2 ^ c.k) ≡ false) ⊎ (kind_of (is_running (N.core k).state.status) (next c code k (N.core k).state) ≡ Rests) →
        (p : Processor) → slice_get F.processors k ≡ Some p → is_running p.status ≡ false
    stands_still (inl past) p there =
        absurd (true≢false (sym (lt-ltb k (2 ^ c.k) (subst (λ n. k < n) h.matches.count (found_at F.processors k p no_processor there).0)) ∙ past))
    stands_still (inr none) p there =
        ap (λ (q : Processor). is_running q.status) (sym (found_at F.processors k p no_processor there).1)
        ∙ ap (λ (g : ObservedCore). is_running g.state.status) (sym (h.matches.cores k))
        ∙ rests (next c code k (N.core k).state) (is_running (N.core k).state.status) none

    by_none : (flat_step F (entry.Processor k) ≡ F) × (one_events F k ≡ []) → IsFlat N (flat_step F (entry.Processor k)) (events ++ one_events F k)
    by_none same = subst (λ (z : FlatState × List (ℕ × Event)). IsFlat N z.0 z.1)
        (λ i. (sym same.0 i, (sym (append-nil events) ∙ ap (λ es. events ++ es) (sym same.1)) i)) h

    abbrev Goes : Type 0
    Goes = (steps : List Step) × (no_poke steps ≡ true) × IsFlat (all_after c code N steps) (flat_step F (entry.Processor k)) (events ++ one_events F k)

    one_turn : Goes
    unfolding all_after
    one_turn = by (first_turn (sizes_of c) (program c code) (forget N) k (h.shut k))
      where
        taken : (steps : List Step) × IsTurn k (forget N) steps → Goes
        taken t = (t.0, t.1.own, by_steps t.0 t.1)

        by : FirstTurn (sizes_of c) (program c code) (forget N) k → Goes
        by (inl (e, why)) = ([], refl, by_none (no_turn F k (stands_still why)))
        by (inr (inl e)) = taken (step.Turn k ∷ [], by_advance k (forget N) h.role (forgotten N h.role h.steady) h.shut e)
        by (inr (inr e)) = taken (by_issue k (forget N) h.role (forgotten N h.role h.steady) h.shut e)

  all_turns : (order : List ℕ) (N : theory.Machine ObservedCore) (F : FlatState) (events : List (ℕ × Event)) → IsFlat N F events →
      (steps : List Step) × (no_poke steps ≡ true) × IsFlat (all_after c code N steps) (flat_run F (turns order)) (events ++ flat_events F (turns order))
  unfolding all_after
  all_turns [] N F events h = ([], refl, subst (IsFlat N F) (sym (append-nil events)) h)
  all_turns (k ∷ ks) N F events h =
      let one = one_turn k N F events h in
      let rest = all_turns ks (all_after c code N one.0) (flat_step F (entry.Processor k)) (events ++ one_events F k) one.2 in (
        one.0 ++ rest.0,
        no_poke_both one.0 rest.0 one.1 rest.1,
        subst (λ (z : theory.Machine ObservedCore × List (ℕ × Event)). IsFlat z.0 (flat_run F (turns (k ∷ ks))) z.1)
            (λ i. (
              sym (after_both c code one.0 rest.0 N) i,
              append_assoc events (one_events F k) (flat_events (flat_step F (entry.Processor k)) (turns ks)) i,
            )) rest.2,
      )

open_none : (m : MachineLists) → IsMachine m → IsIdle m → (p : ℕ) → (machine_of m (λ q. [])).is_open p ≡ false
unfolding machine_of_parts
open_none m is idle p = all_shut m is idle p

begins : (m : MachineLists) (is : IsMachine m) → IsIdle m → IsFlat m.config m.code is.limits is.code (machine_of m (λ p. [])) (flat_state m) []
unfolding all_after passes
begins m is idle = record {
  matches = matches m is idle [] [] refl (open_none m is idle);
  shut = open_none m is idle;
  role = is.role;
  steady = is.steady;
  sound = sound m is;
}

-- If no reference is open in a machine, every result of its flat machine is a result of the machine.
pub flat_results_are : (m : MachineLists) (r : FinalResult) → IsMachine m → IsIdle m → IsFlatResult (flat_state m) r → IsMachineResult m r
flat_results_are m r is idle h =
    let start : IsFlat m.config m.code is.limits is.code (machine_of m (λ p. [])) (flat_state m) [] = begins m is idle in
    let done = all_turns m.config m.code is.limits is.code h.0 (machine_of m (λ p. [])) (flat_state m) [] start in
    let F = flat_run (flat_state m) (turns h.0) in
    let events = flat_events (flat_state m) (turns h.0) in (
      done.0,
      done.1,
      none_runs m.config (stands_after m done.0) F events done.2.matches h.1,
      h.2 ∙ sym (results_same m.config (stands_after m done.0) F events done.2.matches),
    )
