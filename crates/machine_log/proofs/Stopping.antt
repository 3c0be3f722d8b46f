-- Where a replay stops.
use Rattle.std.proofs.Common.{◌≡◌, ℕ, ◌<◌, List, [], length, take, slice_index_or, sym, ap, ap₂, ◌∙◌}
use Rattle.flat_machine.specs.declared.event.Event.{Event}
use Rattle.steps.specs.declared.step.Step.{Step}
use Rattle.steps.specs.declared.step.Step.TheVariants as step
use Rattle.steps.specs.declared.step.Outcome.{Outcome}
use Rattle.steps.specs.declared.step.Outcome.TheVariants.{Stalled}
use Rattle.machine_theory.specs.Steps.{outcome_of}
use Rattle.machine_steps.specs.Machines.{MachineLists, machine_of, IsStep}
use Rattle.machine_steps.specs.Runs.{IsReplay}
use Rattle.machine_steps.proofs.Lemmas.{replay_kept}
use Rattle.machine_log.specs.Replays.{StallsAt}

pub stops : (old m new : MachineLists) (steps : List Step) (place : ℕ) (o : Outcome) → IsReplay old (take place steps) m →
    IsStep m (slice_index_or steps place (step.Turn 0)) o new → o ≡ Stalled →
    ((shown : ℕ → List Event) → machine_of new shown ≡ machine_of m shown) → place < length steps → StallsAt old steps place new
stops old m new steps place o r st stalls same inside =
    let s : Step = slice_index_or steps place (step.Turn 0) in
    record {
      inside = inside;
      before = replay_kept old m new (take place steps) s o r st same;
      stalls =
          ap (λ M. outcome_of new.config new.code M s) (same (λ p. [])) ∙ ap₂ (λ c code. outcome_of c code (machine_of m (λ p. [])) s) st.config st.code
          ∙ sym st.step.outcome ∙ stalls;
    }
