-- The references that steps issue.
use Rattle.std.proofs.Common.{◌≡◌, ◌++◌, ℕ, List, [], ◌∷◌, sym, ap, ◌∙◌, append_assoc, append-nil}
use Rattle.flat_machine.specs.declared.config.Config.{Config}
use Rattle.steps.specs.declared.step.Step.{Step}
use Rattle.steps.specs.declared.step.Outcome.{Outcome}
use Rattle.machine_steps.specs.machine_theory.Theory as theory
use Rattle.machine_steps.specs.machine_theory.Processors.{ObservedCore}
use Rattle.machine_steps.specs.machine_theory.Steps.{outcome_of, after}
use Rattle.machine_steps.specs.Machines.{MachineLists}
use Rattle.machine_steps.specs.Noting.{AreNoted, AreNotedFrom}
use Rattle.exploration.specs.declared.outcome.Fairness.{Fairness}
use Rattle.witness_traces.specs.declared.refused.Refused.{Refused}
use Rattle.witness_traces.specs.declared.refused.Refused.TheVariants as refused
use Rattle.witness_traces.specs.declared.round.Issuers.{Issuers}
use Rattle.witness_traces.specs.Rounds.{issuer_of, issuers_from, issuers_in}
use Rattle.witness_traces.specs.Refusals.{IsNoRound, IsNotTaken}

-- If the steps of a lasso are not taken, there is no round, for the same reason.
pub no_round : (c : Config) (f : Fairness) (r : Refused) → IsNotTaken c r → IsNoRound c f r
no_round c f (refused.Fault x) why = why
no_round c f refused.Unknown why = absurd why
no_round c f refused.Missed why = tt

abbrev pub Lists : Issuers → Step → Outcome → Issuers → Type 0
Lists old s o new = new.list.items ≡ old.list.items ++ issuer_of s o

noted_from : (c : Config) (code : List ℕ) (M : theory.Machine ObservedCore) (steps : List Step) (old new : Issuers) →
    AreNotedFrom Lists c code M steps old new → new.list.items ≡ old.list.items ++ issuers_from c code M steps
noted_from c code M [] old new same = ap (λ (x : Issuers). x.list.items) same ∙ sym (append-nil old.list.items)
noted_from c code M (s ∷ steps) old new noted =
    noted_from c code (after c code M s) steps noted.0 new noted.2
    ∙ (ap (λ xs. xs ++ issuers_from c code (after c code M s) steps) noted.1
    ∙ append_assoc old.list.items (issuer_of s (outcome_of c code M s)) (issuers_from c code (after c code M s) steps))

-- An observer that begins with an empty list has the processors that issue references in the steps.
pub all_issued : (m : MachineLists) (steps : List Step) (old new : Issuers) → old.list.items ≡ [] → AreNoted Lists m steps old new →
    new.list.items ≡ issuers_in m steps
all_issued m steps old new empty noted =
    noted_from m.config m.code _ steps old new noted ∙ ap (λ xs. xs ++ issuers_in m steps) empty
