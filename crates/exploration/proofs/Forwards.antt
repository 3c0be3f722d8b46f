-- Every result of the machine is one of the flat machine.
use Rattle.std.proofs.Common.{◌≡◌, ◌⊎◌, inl, inr, ℕ, ◌<◌, ◌^◌, Bool, true, false, List, [], ◌∷◌, ◌++◌, map, refl, sym, ap, subst, ◌∙◌, nat_lt}
use Rattle.std.specs.Prelude.{if◌then◌else◌, slice_index, slice_index_or}
use Rattle.std.proofs.lemmas.Bool.{cases_Bool, true≢false}
use Rattle.flat_machine.specs.declared.config.Config.{Config}
use Rattle.flat_machine.specs.declared.poke.Entry.{Entry}
use Rattle.flat_machine.specs.declared.poke.Entry.TheVariants as entry
use Rattle.flat_machine.specs.State.{is_running}
use Rattle.flat_machine.specs.Turns.{Turn}
use Rattle.flat_machine.specs.Flat.{flat_run, flat_events}
use Rattle.machine_steps.specs.messages.Network.{Net}
use Rattle.machine_steps.specs.messages.declared.message.Request.{Request}
use Rattle.machine_steps.specs.messages.declared.message.Reply.{Reply}
use Rattle.machine_steps.specs.messages.declared.moves.UpMove.{UpMove}
use Rattle.machine_steps.specs.messages.declared.moves.UpMove.TheVariants as up
use Rattle.machine_steps.specs.messages.declared.moves.DownMove.{DownMove}
use Rattle.machine_steps.specs.messages.declared.moves.DownMove.TheVariants as down
use Rattle.machine_steps.specs.messages.Moves.{moved_up, moved_down}
use Rattle.machine_steps.specs.network_theory.Roles.{Role, Idle}
use Rattle.machine_steps.specs.serialization.Program.{Kind, Rests, Alone, Refers}
use Rattle.machine_steps.specs.serialization.Steadiness.{Steady}
use Rattle.machine_steps.proofs.Lemmas.serialization.{steady_after}
use Rattle.machine_steps.specs.serialization.Order.{pass, passes, from_machine}
use Rattle.machine_steps.specs.steps.declared.step.Step.{Step}
use Rattle.machine_steps.specs.steps.declared.step.Step.TheVariants as step
use Rattle.machine_steps.specs.machine_theory.Theory as theory
use Rattle.machine_steps.specs.machine_theory.Processors.{ObservedCore, sizes_of, next, kind_of, program, no_processor}
use Rattle.machine_steps.specs.machine_theory.Steps.{named, after}
use Rattle.machine_steps.specs.machine_theory.FlatSizes.{IsSoundFlat}
use Rattle.machine_steps.specs.machine_theory.Order.{Passed, segment}
use Rattle.machine_steps.specs.machine_theory.Flatness.{AreLawful, with_events}
use Rattle.machine_steps.specs.machine_theory.Explained.{IsExplained}
use Rattle.machine_steps.proofs.Lemmas.machine_theory.{means_change, run_sound, runs_are_explained}
use Rattle.machine_steps.specs.Machines.{MachineLists, machine_of, IsIdle, IsMachine}
use Rattle.machine_steps.specs.Openings.{flat_state}
use Rattle.machine_steps.proofs.Lemmas.{sound, opens}
use Rattle.machine_steps.specs.Runs.{all_after, passed}
use Rattle.local_reduction.specs.LocalStates.{turns}
use Rattle.local_reduction.specs.Results.{FinalResult, IsFlatResult}
use Rattle.machine_steps.specs.steps.Kinds.{is_poke, no_poke}
use Rattle.machine_steps.proofs.Lemmas.steps.{no_poke_parts}
use Rattle.exploration.specs.Results.{NoneRuns, stands_after, IsMachineResult}
use Rattle.exploration.proofs.MachineEnds.{Matches, results_same, stopped_flat}

-- ---- orders of turns

turns_join : (xs ys : List ℕ) → turns xs ++ turns ys ≡ turns (xs ++ ys)
turns_join [] ys = refl
turns_join (x ∷ xs) ys = ap (λ es. entry.Processor x ∷ es) (turns_join xs ys)

turns_of : (xs : List ℕ) → map entry.Processor xs ≡ turns xs
turns_of [] = refl
turns_of (x ∷ xs) = ap (λ es. entry.Processor x ∷ es) (turns_of xs)

-- Turns of processors are lawful entries.
pub turns_lawful : (c : Config) (xs : List ℕ) → AreLawful c (turns xs)
turns_lawful c [] = tt
turns_lawful c (x ∷ xs) = (tt, turns_lawful c xs)

abbrev NotPoked : theory.Outcome → Type 0
NotPoked (theory.Poked q) = ⊥
NotPoked _ = Unit {0}

segment_turns : (group : ℕ → List ℕ) (o : theory.Outcome) → NotPoked o → (xs : List ℕ) × (segment group o ≡ turns xs)
segment_turns group (theory.Issued p) h = ([], refl)
segment_turns group (theory.Advanced p) h = (p ∷ [], refl)
segment_turns group (theory.Retired p v) h = ([], refl)
segment_turns group theory.Moved h = ([], refl)
segment_turns group (theory.Combined p q) h = ([], refl)
segment_turns group (theory.Served p) h = (group p, turns_of (group p))
segment_turns group (theory.Answered p) h = ([], refl)
segment_turns group (theory.Poked q) h = absurd h
segment_turns group theory.Stalled h = ([], refl)

module _ (c : Config) (code : List ℕ) where
  module _ (M : theory.Machine ObservedCore) where
    either : (b : Bool) (r : theory.Result ObservedCore) → NotPoked r.outcome → NotPoked (if b then r else theory.stalled M).outcome
    either true r h = h
    either false r h = tt

    by_reply : (p : ℕ) (ys : List Reply) → NotPoked (theory.retire_from (program c code) M p ys).outcome
    by_reply p [] = tt
    by_reply p (y ∷ ys) = tt

    by_kind : (p : ℕ) (kind : Kind) → NotPoked (theory.begin (program c code) M p kind).outcome
    by_kind p Rests = tt
    by_kind p Alone = tt
    by_kind p Refers = tt

    by_turn : (p : ℕ) (b : Bool) → NotPoked (theory.turned (program c code) M p b).outcome
    by_turn p true = by_reply p (M.net.replies 0 p)
    by_turn p false = by_kind p ((program c code).kind p (M.core p))

    by_up : (r : UpMove × Net) → NotPoked (theory.went_up M r).outcome
    by_up (up.Stalled, net) = tt
    by_up (up.Moved, net) = tt
    by_up (up.Combined first second, net) = tt

    by_down : (r : DownMove × Net) → NotPoked (theory.went_down M r).outcome
    by_down (down.Stalled, net) = tt
    by_down (down.Moved, net) = tt
    by_down (down.Answered to, net) = tt

    by_serving : (i : ℕ) (xs : List Request) (ys : List Reply) → NotPoked (theory.serve_from (sizes_of c) M i xs ys).outcome
    by_serving i [] ys = tt
    by_serving i (x ∷ xs) [] = tt
    by_serving i (x ∷ xs) (y ∷ ys) = tt

    not_poked : (s : Step) → is_poke s ≡ false → NotPoked (theory.step (sizes_of c) (program c code) M (named s)).outcome
    not_poked (step.Turn p) h = either (nat_lt p (2 ^ c.k)) (theory.turned (program c code) M p (M.is_open p)) (by_turn p (M.is_open p))
    not_poked (step.Up s w) h = either (nat_lt w (2 ^ c.k)) (theory.went_up M (moved_up (sizes_of c) M.net s w)) (by_up (moved_up (sizes_of c) M.net s w))
    not_poked (step.Serve i) h =
        either (nat_lt i (2 ^ c.k)) (theory.serve_from (sizes_of c) M i (M.net.requests c.k i) (M.net.replies c.k i))
        (by_serving i (M.net.requests c.k i) (M.net.replies c.k i))
    not_poked (step.Down s w) h =
        either (nat_lt w (2 ^ c.k)) (theory.went_down M (moved_down (sizes_of c) M.net s w)) (by_down (moved_down (sizes_of c) M.net s w))
    not_poked (step.Poke q) h = absurd (true≢false h)

  -- Steps without writes from outside add only turns to the serial order.
  order_of_turns : (steps : List Step) (h : Passed ObservedCore) (js : List ℕ) → no_poke steps ≡ true → h.order ≡ turns js →
      (xs : List ℕ) × ((passes (sizes_of c) (program c code) (map named steps) h).order ≡ turns xs)
  unfolding passes
  order_of_turns [] h js all e = (js, e)
  order_of_turns (s ∷ steps) h js all e =
      let parts = no_poke_parts s steps all in
      let more = segment_turns h.group (theory.step (sizes_of c) (program c code) h.machine (named s)).outcome (not_poked h.machine s parts.0) in
      order_of_turns steps (pass (sizes_of c) (program c code) h (named s)) (js ++ more.0) parts.1
      ((λ i. e i ++ more.1 i) ∙ turns_join js more.0)

  -- The theory's pass over some steps ends with the machine after these steps.
  pub passes_all : (steps : List Step) (h : Passed ObservedCore) →
      (passes (sizes_of c) (program c code) (map named steps) h).machine ≡ all_after c code h.machine steps
  unfolding passes all_after after
  passes_all [] h = refl
  passes_all (s ∷ steps) h = passes_all steps (pass (sizes_of c) (program c code) h (named s))

  -- The theory's machine after some steps is the machine after these steps.
  pub theory_all : (steps : List Step) (M : theory.Machine ObservedCore) →
      theory.machine_after (sizes_of c) (program c code) (map named steps) M ≡ all_after c code M steps
  unfolding all_after after theory.machine_after
  theory_all [] M = refl
  theory_all (s ∷ steps) M = theory_all steps (after c code M s)

  -- A processor whose turn is a reference runs.
  refers_runs : (b : Bool) (t : Turn) → kind_of b t ≡ Refers → b ≡ true
  refers_runs true t e = refl
  refers_runs false t e = absurd (cc)

  -- If no processor runs, none is open.
  pub none_open : (M : theory.Machine ObservedCore) (role : ℕ → Role) → Steady (sizes_of c) (program c code) M role → NoneRuns c M → (p : ℕ) →
      M.is_open p ≡ false
  none_open M role steady none p = by (cases_Bool (M.is_open p))
    where
      within : M.is_open p ≡ true → (role p ≡ Idle) ⊎ (p < 2 ^ c.k) → M.is_open p ≡ false
      within opened (inl idle) = (steady.shut p).1 idle
      within opened (inr less) =
          absurd (true≢false (sym (refers_runs (is_running (M.core p).state.status) (next c code p (M.core p).state) (steady.refers p opened)) ∙ none p less))

      by : (M.is_open p ≡ true) ⊎ (M.is_open p ≡ false) → M.is_open p ≡ false
      by (inl opened) = within opened (steady.small p)
      by (inr shut) = shut

-- ---- the law

module _ (m : MachineLists) (is : IsMachine m) (idle : IsIdle m) where
  abbrev start : theory.Machine ObservedCore
  start = machine_of m (λ p. [])

  explained : (steps : List Step) → IsExplained m.config m.code (flat_state m) (passed m steps)
  explained steps = (runs_are_explained m.config m.code).moments start (flat_state m) (map named steps) (opens m is idle)

  -- If no reference is open after some steps, the machine matches the flat machine after the turns of their order.
  pub matches : (steps : List Step) (js : List ℕ) → (passed m steps).order ≡ turns js → ((p : ℕ) → (stands_after m steps).is_open p ≡ false) →
      Matches m.config (stands_after m steps) (flat_run (flat_state m) (turns js)) (flat_events (flat_state m) (turns js))
  matches steps js order shut =
      let there : (passed m steps).machine ≡ stands_after m steps = passes_all m.config m.code steps (from_machine start) in
      let e = explained steps in
      let flat : IsSoundFlat m.config m.code (flat_run (flat_state m) (turns js)) =
      run_sound m.config m.code (means_change m.config m.code is.limits.stages is.code) (turns js) (flat_state m) (turns_lawful m.config js) (sound m is) in
      record {
        count = flat.size.processors;
        size = flat.size.shared;
        cores = λ p.
            ap (λ (M : theory.Machine ObservedCore). M.core p) (sym there)
            ∙ e.unserved p (e.shut p (ap (λ (M : theory.Machine ObservedCore). M.is_open p) there ∙ shut p))
            ∙ ap (λ es. after_flat es p) order;
        words = λ i. ap (λ (M : theory.Machine ObservedCore). M.mem i) (sym there) ∙ e.words i
            ∙ ap (λ es. slice_index (flat_run (flat_state m) es).shared i) order;
      }
    where
      after_flat : List Entry → ℕ → ObservedCore
      after_flat es p = record {
        state = slice_index_or (flat_run (flat_state m) es).processors p no_processor;
        events = with_events (λ j. []) (flat_events (flat_state m) es) p;
      }

  pub flat_result : (r : FinalResult) → IsMachineResult m r → IsFlatResult (flat_state m) r
  flat_result r h =
      let steps = h.0 in
      let steady = steady_after (sizes_of m.config) (program m.config m.code) (map named steps) start is.role is.steady in
      let shut = none_open m.config m.code (stands_after m steps) steady.0
      (subst (λ M. Steady (sizes_of m.config) (program m.config m.code) M steady.0) (theory_all m.config m.code steps start) steady.1) h.2 in
      let order = order_of_turns m.config m.code steps (from_machine start) [] h.1 refl in
      let same = matches steps order.0 order.1 shut in
      let F = flat_run (flat_state m) (turns order.0) in
      let events = flat_events (flat_state m) (turns order.0) in
      (order.0, stopped_flat m.config (stands_after m steps) F events same h.2, h.3 ∙ results_same m.config (stands_after m steps) F events same)

-- If no reference is open in a machine, every result of it is a result of its flat machine.
pub results_are_flat : (m : MachineLists) (r : FinalResult) → IsMachine m → IsIdle m → IsMachineResult m r → IsFlatResult (flat_state m) r
results_are_flat m r is idle h = flat_result m is idle r h
