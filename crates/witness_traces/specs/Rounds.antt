-- The steps of a lasso: of its stem and one turn round its cycle.
use Rattle.std.specs.Prelude.{◌≡◌, ℕ, ◌++◌, true, List, [], ◌∷◌}
use Rattle.flat_machine.specs.declared.config.Config.{Config}
use Rattle.elf_image.specs.Images.{ImageContents}
use Rattle.steps.specs.declared.step.Step.{Step}
use Rattle.steps.specs.declared.step.Step.TheVariants as step
use Rattle.steps.specs.declared.step.Outcome.{Outcome}
use Rattle.steps.specs.declared.step.Outcome.TheVariants as outcome
use Rattle.steps.specs.Kinds.{no_poke}
use Rattle.trace_file.specs.Traces.{IsTrace, trace_of}
use Rattle.machine_steps.specs.machine_theory.Theory as theory
use Rattle.machine_steps.specs.machine_theory.Processors.{ObservedCore}
use Rattle.machine_steps.specs.machine_theory.Steps.{outcome_of, after}
use Rattle.machine_steps.specs.Machines.{MachineLists, IsIdle, machine_of}
use Rattle.machine_steps.specs.Runs.{IsOpening, IsReplay}
use Rattle.exploration.specs.declared.outcome.Fairness.{Fairness}
use Rattle.exploration.specs.declared.outcome.Fairness.TheVariants as fairness

-- the processor that issues a reference in a step, if one does
abbrev pub issuer_of : Step → Outcome → List ℕ
issuer_of (step.Turn p) outcome.Issued = p ∷ []
issuer_of s o = []

-- the processors that issue references in these steps, one after another
abbrev pub issuers_from : Config → (code : List ℕ) → theory.Machine ObservedCore → List Step → List ℕ
issuers_from c code M [] = []
issuers_from c code M (s ∷ steps) = issuer_of s (outcome_of c code M s) ++ issuers_from c code (after c code M s) steps

abbrev pub issuers_in : (opening : MachineLists) → List Step → List ℕ
issuers_in opening steps = issuers_from opening.config opening.code (machine_of opening (λ p. [])) steps

-- The machine of this size that opens on the image takes the steps, each of which does something. In them these
-- processors issue references, one after another, and after them no reference is open.
pub record HaveIssued (c : Config) (image : ImageContents) (steps : List Step) (issuers : List ℕ) : Type 0 where
  pub opening : MachineLists
  pub opens : IsOpening c image opening
  pub machine : MachineLists
  pub replay : IsReplay opening steps machine
  pub idle : IsIdle machine
  pub issued : issuers ≡ issuers_in opening steps

-- In the steps, none of which is a poke, these processors issue references, one after another. A trace file can spell
-- the steps.
pub record IsRound (c : Config) (image : ImageContents) (movers : List ℕ) (steps : List Step) : Type 0 where
  pub issued : HaveIssued c image steps movers
  pub no_pokes : no_poke steps ≡ true
  pub trace : IsTrace (trace_of c steps)

-- In the steps the processors of the stem, and then those of the cycle once, issue references, one after another.
abbrev pub IsRoundOf : Config → ImageContents → Fairness → List Step → Type 0
IsRoundOf c image fairness.Ends steps = ⊥
IsRoundOf c image (fairness.Endless lasso) steps = IsRound c image (lasso.stem.items ++ lasso.cycle.items) steps
IsRoundOf c image fairness.Unknown steps = ⊥

-- Some fair schedule is known that never ends.
abbrev pub HasLasso : Fairness → Type 0
HasLasso fairness.Ends = ⊥
HasLasso (fairness.Endless lasso) = Unit {0}
HasLasso fairness.Unknown = ⊥
