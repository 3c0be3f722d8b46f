-- After any steps, the same cores are away as before.
use Rattle.std.proofs.Common.{◌≡◌, ℕ, ◌^◌, ◌<◌, List, [], ◌∷◌, refl, ap, ◌∙◌, subst}
use Rattle.flat_machine.specs.declared.config.Config.{Config}
use Rattle.machine_theory.specs.Theory as theory
use Rattle.machine_theory.specs.Processors.{ObservedCore}
use Rattle.machine_theory.specs.Steps.{after, machine_of_parts}
use Rattle.machine_theory.proofs.Lemmas.{away_in, cores_stay}
use Rattle.steps.specs.declared.step.Step.{Step}
use Rattle.machine_steps.specs.Machines.{MachineLists, AreHome, away_at, machine_of}
use Rattle.machine_steps.specs.Runs.{all_after, IsRun}

all_stay : (c : Config) (code : List ℕ) (steps : List Step) (M : theory.Machine ObservedCore) (p : ℕ) → away_in (all_after c code M steps) p ≡ away_in M p
unfolding all_after
all_stay c code [] M p = refl
all_stay c code (s ∷ ss) M p = all_stay c code ss (after c code M s) p ∙ cores_stay c code M s p

-- After a run, the same cores are away as before.
pub run_stays : (old new : MachineLists) (steps : List Step) → IsRun old steps new → (p : ℕ) → away_at new p ≡ away_at old p
unfolding machine_of_parts
run_stays old new steps run p =
    ap (λ (M : theory.Machine ObservedCore). away_in M p) (run.after (λ q. [])) ∙ all_stay old.config old.code steps (machine_of old (λ q. [])) p

-- If no core is away before a run, none is away after it.
pub run_home : (old new : MachineLists) (steps : List Step) → IsRun old steps new → AreHome old → AreHome new
run_home old new steps run home p within = run_stays old new steps run p ∙ home p (subst (λ (c : Config). p < 2 ^ c.k) run.config within)
