-- Results that stand for others.
use Rattle.std.proofs.Common.{◌≡◌, ℕ, List, map, refl, sym, ap, ◌∙◌}
use Rattle.exploration.specs.local_reduction.Results.{FinalResult, StandsFor}
use Rattle.state_conditions.specs.declared.condition.Comparison.{Comparison}
use Rattle.state_conditions.specs.declared.property.Kind.TheVariants.{Never}
use Rattle.state_conditions.specs.Conditions.{holds}
use Rattle.state_conditions.specs.Laws.{ExchangesKeepConditions}
use Rattle.state_conditions.specs.Results.{processor_state}
use Rattle.state_conditions.proofs.Lemmas.{states_exchanged}
use Rattle.observed_results.specs.Filters.{satisfies}

-- A result stands for itself.
pub stands_for_itself : (classes : List ℕ) (r : FinalResult) → StandsFor classes r r
stands_for_itself classes r = (
  record { place = λ k. k; taker = λ k. k; taken = λ i. refl; takes = λ k. refl; alike = λ k. refl },
  record { words = refl; each = λ k. refl },
)

-- A result satisfies a condition if one for which it stands does.
pub satisfy_alike : ExchangesKeepConditions → (condition : List (List Comparison)) (classes : List ℕ) (r q : FinalResult) → StandsFor classes r q →
    satisfies condition r ≡ satisfies condition q
satisfy_alike law condition classes r q x =
    sym (law Never condition (map processor_state r.processors) (map processor_state q.processors) q.words (states_exchanged classes r q x)
    ∙ ap (holds condition (map processor_state r.processors)) x.1.words)
