-- All machines that open on one image are the same: a step that one of them has taken does not stall in another.
use Rattle.std.proofs.Common.{◌≡◌, ℕ, zero, suc, ◌<◌, List, [], ◌∷◌, length, take, slice_index_or, ◌∙◌, subst, arith}
use Rattle.flat_machine.specs.declared.config.Config.{Config}
use Rattle.machine_steps.specs.elf_image.Images.{ImageContents}
use Rattle.machine_theory.specs.Theory as theory
use Rattle.steps.specs.declared.step.Step.{Step}
use Rattle.steps.specs.declared.step.Step.TheVariants as step
use Rattle.steps.specs.declared.step.Outcome.TheVariants.{Stalled}
use Rattle.machine_theory.specs.Processors.{ObservedCore}
use Rattle.machine_theory.specs.Steps.{outcome_of, after}
use Rattle.machine_steps.specs.Machines.{MachineLists, machine_of}
use Rattle.machine_steps.specs.Runs.{IsOpening, IsReplay, NoneStalls, all_after}
use Rattle.machine_steps.proofs.Lemmas.{outcome_there, same_code, same_config, same_machine}
use Rattle.machine_log.specs.Replays.{StallsAt}

-- Each step of a replay does something on the machine that takes it.
moves_there : (c : Config) (code : List ℕ) (M : theory.Machine ObservedCore) (steps : List Step) (place : ℕ) → NoneStalls c code M steps →
    place < length steps →
    outcome_of c code (all_after c code M (take place steps)) (slice_index_or steps place (step.Turn 0)) ≡ Stalled → ⊥
unfolding all_after
moves_there c code M [] place moved inside = absurd (omega (arith, inside))
moves_there c code M (s ∷ ss) zero moved inside = moved.0
moves_there c code M (s ∷ ss) (suc place) moved inside = moves_there c code (after c code M s) ss place moved.1 (omega (arith, inside))

module _ (c : Config) (image : ImageContents) (first second : MachineLists) (one : IsOpening c image first) (two : IsOpening c image second) where
  moves : (steps : List Step) → NoneStalls first.config first.code (machine_of first (λ p. [])) steps →
      NoneStalls second.config second.code (machine_of second (λ p. [])) steps
  moves steps moved =
      subst (λ (m : Config × List ℕ × theory.Machine ObservedCore). NoneStalls m.0 m.1 m.2 steps) (λ i.
      (same_config c image first second one two i, same_code c image first second one two i, same_machine c image first second one two (λ p. []) i)) moved

  -- If some steps are a replay from one opening of an image, none of them stalls from another opening of it.
  pub none_stalls : (steps : List Step) (last : MachineLists) → IsReplay first steps last → (place : ℕ) (m : MachineLists) → StallsAt second steps place m → ⊥
  none_stalls steps last replay place m stalled =
      moves_there second.config second.code (machine_of second (λ p. [])) steps place (moves steps replay.moved) stalled.inside
      (outcome_there second m (take place steps) stalled.before.run (slice_index_or steps place (step.Turn 0)) ∙ stalled.stalls)
