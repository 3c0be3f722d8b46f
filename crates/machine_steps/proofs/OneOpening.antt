-- All machines that open on one image are the same: after the same steps they are alike, and have the same drain.
use Rattle.std.proofs.Common.{◌≡◌, ℕ, List, [], refl, sym, ap, ◌∙◌}
use Rattle.std.specs.Prelude.{map}
use Rattle.flat_machine.specs.declared.config.Config.{Config}
use Rattle.flat_machine.specs.declared.event.Event.{Event}
use Rattle.flat_machine.specs.State.{FlatState}
use Rattle.steps.specs.declared.step.Step.{Step}
use Rattle.machine_theory.specs.serialization.Draining as draining
use Rattle.machine_theory.specs.Processors.{sizes_of, program}
use Rattle.machine_theory.specs.Steps.{machine_of_parts}
use Rattle.elf_image.specs.Images.{ImageContents}
use Rattle.machine_steps.specs.Machines.{MachineLists, machine_of}
use Rattle.machine_steps.proofs.Stalling.{observe_as}
use Rattle.machine_steps.specs.Runs.{all_after, events_of, IsOpening, IsReplay}
use Rattle.machine_steps.specs.Draining.{drain_bound, drain_steps, step_of}

-- A drain takes the same steps on machines that are the same.
same_drain : (m n : MachineLists) → m.config ≡ n.config → m.code ≡ n.code → machine_of m (λ p. []) ≡ machine_of n (λ p. []) → drain_steps m ≡ drain_steps n
same_drain m n config code machine i =
    map step_of (draining.drain_steps (sizes_of (config i)) (program (config i) (code i)) (drain_bound (config i)) (machine i))

nothing_is_observed : (m : MachineLists) (shown : ℕ → List Event) → observe_as (λ p. []) (machine_of m shown) ≡ machine_of m (λ p. [])
unfolding machine_of_parts
nothing_is_observed m shown = refl

module _ (c : Config) (image : ImageContents) (first second : MachineLists) (one : IsOpening c image first) (two : IsOpening c image second) where
  -- Two machines that open on one image have the same configuration.
  pub same_config : first.config ≡ second.config
  same_config = one.config ∙ sym two.config

  -- Two machines that open on one image have the same code.
  pub same_code : first.code ≡ second.code
  same_code = ap (λ (s : FlatState). s.code) one.flat ∙ sym (ap (λ (s : FlatState). s.code) two.flat)

  -- Two machines that open on one image are the same in the theory, with any events shown.
  pub same_machine : (shown : ℕ → List Event) → machine_of first shown ≡ machine_of second shown
  same_machine shown = one.machine shown ∙ sym (two.machine shown)

  -- Two machines that open on one image are the same in the theory after the same steps.
  pub alike : (steps : List Step) (shown : ℕ → List Event) →
      all_after first.config first.code (machine_of first shown) steps ≡ all_after second.config second.code (machine_of second shown) steps
  alike steps shown i = all_after (same_config i) (same_code i) (same_machine shown i) steps

  -- A machine after a replay, with nothing shown, is the theory's machine after the steps, with nothing shown.
  there : (opening m : MachineLists) (steps : List Step) → IsReplay opening steps m →
      machine_of m (λ p. []) ≡ observe_as (λ p. []) (all_after opening.config opening.code (machine_of opening (λ p. [])) steps)
  there opening m steps r =
      sym (nothing_is_observed m (events_of (all_after opening.config opening.code (machine_of opening (λ p. [])) steps)))
      ∙ ap (observe_as (λ p. [])) (r.run.after (λ p. []))

  -- After replays of the same steps, two machines that opened on one image have the same drain.
  pub drained_alike : (steps : List Step) (m n : MachineLists) → IsReplay first steps m → IsReplay second steps n → drain_steps m ≡ drain_steps n
  drained_alike steps m n r s =
      same_drain m n (r.run.config ∙ same_config ∙ sym s.run.config) (r.run.code ∙ same_code ∙ sym s.run.code)
      (there first m steps r ∙ ap (observe_as (λ p. [])) (alike steps (λ p. [])) ∙ sym (there second n steps s))
