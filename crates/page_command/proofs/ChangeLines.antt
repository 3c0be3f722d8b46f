-- The lines of changes of steps that a machine takes one after another.
use Rattle.std.proofs.Common.{◌≡◌, ℕ, List, [], ◌∷◌, ◌++◌, codes, flat_map, sym, ap, ap₂, ◌∙◌, append_assoc}
use Rattle.std.proofs.lemmas.List.{append-nil}
use Rattle.std.proofs.lemmas.Grind.{flat_map-append}
use Rattle.steps.specs.declared.step.Step.{Step}
use Rattle.machine_steps.specs.Answers.{AnswersGoOn}
use Rattle.machine_steps.specs.Machines.{MachineLists, machine_of}
use Rattle.machine_steps.specs.Runs.{IsRun}
use Rattle.machine_steps.proofs.Lemmas.{run_begins}
use Rattle.page_command.specs.Changes.{Change, changes_text}
use Rattle.page_command.specs.Pages.{change_lines, changes_line}
use Rattle.page_command.specs.Steps.{IsTaken, changes_between, changes_from}
use Rattle.page_command.proofs.Leading.{changes_more, changes_there, none_changed}

-- the changes of the steps that a machine takes
abbrev pub changes_of : MachineLists → List Step → List (List Change)
changes_of m steps = changes_from m.config m.code (machine_of m (λ p. [])) steps

-- The machine has taken the steps, and the text has grown by a line of changes for each.
pub record HasLines (first : MachineLists) (done : List Step) (old new : List ℕ) (m : MachineLists) : Type 0 where
  pub run : IsRun first done m
  pub are : new ≡ old ++ change_lines (changes_of first done)

-- Before the first step the text is as it was.
pub no_lines_yet : (m : MachineLists) (old : List ℕ) → HasLines m [] old old m
unfolding change_lines
no_lines_yet m old = record {
  run = run_begins m;
  are = sym (append-nil old) ∙ ap (λ all. old ++ flat_map changes_line all) (sym (none_changed m.config m.code (machine_of m (λ p. []))));
}

-- After the next step it has one more.
pub one_line : AnswersGoOn → (first m next : MachineLists) (done : List Step) (s : Step) (old new mid new' : List ℕ) → HasLines first done old new m →
    IsTaken m s next → mid ≡ new ++ changes_text (changes_between m next s) → new' ≡ mid ++ codes "\n" →
    HasLines first (done ++ s ∷ []) old new' next
unfolding change_lines
one_line go_on first m next done s old new mid new' has taken shown ends = record {
  run = run;
  are =
      ends ∙ ap (λ text. text ++ codes "\n") shown ∙ append_assoc new _ _
      ∙ ap₂ (λ text (changes : List Change). text ++ changes_line changes) has.are (sym (changes_there first m next done s has.run run))
      ∙ append_assoc old _ _
      ∙ ap (λ text. old ++ text) (sym (flat_map-append changes_line (changes_of first done) _
      ∙ ap (λ text. flat_map changes_line (changes_of first done) ++ text) (append-nil _)))
      ∙ ap (λ all. old ++ flat_map changes_line all) (sym (changes_more first.config first.code (machine_of first (λ p. [])) done s));
}
  where
    run : IsRun first (done ++ s ∷ []) next
    run = (go_on first m next done s taken.0 has.run taken.1).0
