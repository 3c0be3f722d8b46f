-- Runs of the machine, and the theorem about them.
use Rattle.std.proofs.Common.{◌≡◌, ℕ, false, List, [], ◌∷◌, ◌++◌, refl, sym, ap, ap₂, ◌∙◌, subst}
use Rattle.std.specs.Prelude.{map, slice_index, slice_index_or}
use Rattle.flat_machine.specs.declared.config.Config.{Config}
use Rattle.flat_machine.specs.declared.event.Event.{Event}
use Rattle.flat_machine.specs.State.{FlatState}
use Rattle.flat_machine.specs.Flat.{flat_run, flat_events}
use Rattle.omega_network.specs.Networks.{net_of}
use Rattle.machine_theory.specs.Theory as theory
use Rattle.machine_theory.specs.serialization.Order.{pass, passes, from_machine}
use Rattle.steps.specs.declared.step.Step.{Step}
use Rattle.steps.specs.declared.step.Outcome.{Outcome}
use Rattle.machine_theory.specs.Order.{Passed}
use Rattle.machine_theory.specs.Processors.{ObservedCore, sizes_of, program, no_processor, port_at, word_at}
use Rattle.machine_theory.specs.FlatSizes.{HasSize, IsSoundFlat}
use Rattle.machine_theory.specs.Flatness.{with_events}
use Rattle.machine_theory.specs.Steps.{named, after, with_shown, machine_of_parts}
use Rattle.machine_theory.specs.Explained.{IsExplained, flat_after}
use Rattle.machine_theory.proofs.Lemmas.{means_change, order_lawful, run_sound, runs_are_explained}
use Rattle.machine_steps.specs.Machines.{MachineLists, machine_of, IsIdle, IsMachine, IsStep}
use Rattle.machine_steps.specs.Openings.{flat_state}
use Rattle.machine_steps.specs.Runs.{all_after, events_of, IsRun, passed, IsSerialized}
use Rattle.machine_steps.proofs.Flattening.{all_shut, flat_is, sound}
use Rattle.machine_steps.proofs.IdleMachines.{opens}

-- ---- one step more

-- The machine after some steps and one more is the one after that step on the machine after the others.
pub all_after_more : (c : Config) (code : List ℕ) (M : theory.Machine ObservedCore) (xs : List Step) (s : Step) →
    all_after c code M (xs ++ s ∷ []) ≡ after c code (all_after c code M xs) s
unfolding all_after
all_after_more c code M [] s = refl
all_after_more c code M (x ∷ xs) s = all_after_more c code (after c code M x) xs s

-- The events that a machine of parts has shown are those that it was given.
pub shown_is : (m : MachineLists) (shown : ℕ → List Event) → events_of (machine_of m shown) ≡ shown
unfolding machine_of_parts
shown_is m shown = refl

-- A machine is a run of itself, with no step.
pub run_begins : (m : MachineLists) → IsRun m [] m
unfolding all_after
run_begins m = record { config = refl; image = refl; code = refl; after = λ shown. ap (machine_of m) (shown_is m shown) }

-- A step that is taken next comes last in the run.
pub run_more : (old m new : MachineLists) (done : List Step) (s : Step) (o : Outcome) → IsRun old done m → IsStep m s o new → IsRun old (done ++ s ∷ []) new
run_more old m new done s o r is = record {
  config = is.config ∙ r.config;
  image = is.image ∙ r.image;
  code = is.code ∙ r.code;
  after = λ shown.
      let M1 : theory.Machine ObservedCore = all_after old.config old.code (machine_of old shown) done in
      let fact : ℕ → List Event = with_shown (events_of M1) s o in
      let there : machine_of new fact ≡ after old.config old.code M1 s =
      ap (λ c. machine_of_parts c (net_of new.network) new.ports new.modules fact) is.config
      ∙ is.step.after (events_of M1)
      ∙ ap₂ (λ c code. after c code (machine_of m (events_of M1)) s) r.config r.code
      ∙ ap (λ M. after old.config old.code M s) (r.after shown) in
      let all = there ∙ sym (all_after_more old.config old.code (machine_of old shown) done s) in
      let events : fact ≡ events_of (all_after old.config old.code (machine_of old shown) (done ++ s ∷ [])) = sym (shown_is new fact) ∙ ap events_of all in
      ap (machine_of new) (sym events) ∙ all;
}

-- ---- the theory's run is the same

-- The machine of the theory's run over some steps is the machine after these steps.
pub passes_machine : (c : Config) (code : List ℕ) (steps : List Step) (h : Passed ObservedCore) →
    (passes (sizes_of c) (program c code) (map named steps) h).machine ≡ all_after c code h.machine steps
unfolding passes all_after after
passes_machine c code [] h = refl
passes_machine c code (s ∷ ss) h = passes_machine c code ss (pass (sizes_of c) (program c code) h (named s))

module _ (old : MachineLists) (steps : List Step) (new : MachineLists) (is : IsMachine old) (idle : IsIdle old) (is' : IsMachine new)
    (r : IsRun old steps new) where
  abbrev h : Passed ObservedCore
  h = passed old steps

  reached : machine_of new (events_of h.machine) ≡ h.machine
  reached =
      let e : h.machine ≡ all_after old.config old.code (machine_of old (λ p. [])) steps =
      passes_machine old.config old.code steps (from_machine (machine_of old (λ p. []))) in
      subst (λ M. machine_of new (events_of M) ≡ M) (sym e) (r.after (λ p. []))

  explained : IsExplained old.config old.code (flat_state old) h
  explained = (runs_are_explained old.config old.code).moments (machine_of old (λ p. [])) (flat_state old) (map named steps) (opens old is idle)

  -- the flat machine after the order
  abbrev F : FlatState
  F = flat_run (flat_state old) h.order

  sound_after : IsSoundFlat old.config old.code F
  sound_after = run_sound old.config old.code (means_change old.config old.code is.limits.stages is.code) h.order (flat_state old)
      (order_lawful old.config old.code (map named steps) (from_machine (machine_of old (λ p. []))) tt) (sound old is)

  module _ (idle' : IsIdle new) where
    none_open : (p : ℕ) → h.machine.is_open p ≡ false
    unfolding machine_of_parts
    none_open p = ap (λ (M : theory.Machine ObservedCore). M.is_open p) (sym reached) ∙ all_shut new is' idle' p

    stands : (p : ℕ) → h.machine.core p ≡ (flat_after old.config old.code (flat_state old) h.order).core p
    stands p = explained.unserved p (explained.shut p (none_open p))

    state_is : (p : ℕ) → (port_at new.ports p).core.state ≡ slice_index_or F.processors p no_processor
    unfolding machine_of_parts
    state_is p = ap (λ (M : theory.Machine ObservedCore). (M.core p).state) reached ∙ ap (λ (g : ObservedCore). g.state) (stands p)

    word_same : (i : ℕ) → word_at new.config.k new.modules i ≡ slice_index F.shared i
    unfolding machine_of_parts
    word_same i = ap (λ (M : theory.Machine ObservedCore). M.mem i) reached ∙ explained.words i

    size_after : HasSize new.config new.code F
    size_after =
        subst (λ c. HasSize c new.code F) (sym r.config) (subst (λ code. HasSize old.config code F) (sym r.code) sound_after.size)

    flat_same : flat_state new ≡ F
    flat_same = flat_is new is' F size_after state_is word_same

    shown_same : (p : ℕ) → events_of h.machine p ≡ with_events (λ p. []) (flat_events (flat_state old) h.order) p
    shown_same p = ap (λ (g : ObservedCore). g.events) (stands p)

  -- One serial order of whole instructions explains a run that begins with no open reference.
  pub serialized : IsSerialized old steps new
  serialized = record {
    machine = reached;
    explained = explained;
    once = (runs_are_explained old.config old.code).once (machine_of old (λ p. [])) (flat_state old) (map named steps) (opens old is idle);
    flat = flat_same;
    shown = shown_same;
  }
