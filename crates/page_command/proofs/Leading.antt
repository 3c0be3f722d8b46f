-- The changes of steps lead from view to view.
use Rattle.std.proofs.Common.{◌≡◌, ℕ, zero, suc, ◌⊎◌, inl, inr, List, [], ◌∷◌, ◌++◌, take, refl, sym, ap, ap₂, ◌∙◌}
use Rattle.flat_machine.specs.declared.config.Config.{Config}
use Rattle.messages.specs.Places.{In}
use Rattle.omega_network.specs.Networks.{net_of}
use Rattle.steps.specs.declared.step.Step.{Step}
use Rattle.machine_steps.specs.Machines.{MachineLists, machine_of}
use Rattle.machine_steps.specs.Runs.{IsRun, all_after, machine_after}
use Rattle.machine_steps.specs.machine_theory.Processors.{ObservedCore, open_at, word_at}
use Rattle.machine_steps.specs.machine_theory.Steps.{after, machine_of_parts}
use Rattle.machine_steps.specs.machine_theory.Theory as theory
use Rattle.machine_steps.proofs.Lemmas.{all_after_more}
use Rattle.machine_views.specs.Subjects.{processors_of}
use Rattle.page_command.specs.Changes.{changes_to, with_changes}
use Rattle.page_command.specs.Laws.{view_after}
use Rattle.page_command.specs.Steps.{changes_between, changes_from, parts_by, parts_on, step_changes}
use Rattle.page_command.specs.Views.{AreSameViews, View, view_at, view_by, view_on}
use Rattle.page_command.proofs.Putting.{put_shown}
use Rattle.page_command.proofs.Writing.{step_shows}

-- ---- views

module _ (c : Config) (code : List ℕ) where
  -- The changes of a step, put on the view before it, give the view after it.
  one_leads : (M : theory.Machine ObservedCore) (s : Step) (V : View) → AreSameViews c.k V (view_on c code M) →
      AreSameViews c.k (with_changes V (step_changes c code M s)) (view_on c code (after c code M s))
  one_leads M s V same x within =
      put_shown V (view_on c code N) (parts_on c.k M N s) x (by (step_shows c code M s x within))
    where
      N : theory.Machine ObservedCore
      N = after c code M s

      by : (view_on c code M x ≡ view_on c code N x) ⊎ In x (parts_on c.k M N s) → (V x ≡ view_on c code N x) ⊎ In x (parts_on c.k M N s)
      by (inl kept) = inl (same x within ∙ kept)
      by (inr there) = inr there

  -- Those of the first steps, put on the view before them, give the view after them.
  pub all_lead : (M : theory.Machine ObservedCore) (steps : List Step) (count : ℕ) (V : View) → AreSameViews c.k V (view_on c code M) →
      AreSameViews c.k (view_after V (take count (changes_from c code M steps))) (view_on c code (all_after c code M (take count steps)))
  unfolding view_after changes_from all_after
  all_lead M steps zero V same = same
  all_lead M [] (suc n) V same = same
  all_lead M (s ∷ ss) (suc n) V same =
      all_lead (after c code M s) ss n (with_changes V (step_changes c code M s)) (one_leads M s V same)

-- ---- machines

-- The view of the theory's machine with a machine's parts is that of the machine.
pub view_first : (m : MachineLists) → view_on m.config m.code (machine_of m (λ p. [])) ≡ view_at m
unfolding machine_of_parts
view_first m = refl

-- The view of the theory's machine after a run is that of the machine.
pub view_there : (old new : MachineLists) (steps : List Step) → IsRun old steps new →
    view_on old.config old.code (machine_after old steps) ≡ view_at new
unfolding machine_of_parts
view_there old new steps run =
    ap (view_on old.config old.code) (sym (run.after (λ p. [])))
    ∙ ap₂ (λ c code. view_by c code (net_of new.network) (word_at new.config.k new.modules) (processors_of new) (open_at new.ports))
    (sym run.config) (sym run.code)

module _ (old m new : MachineLists) (done : List Step) (s : Step) (before : IsRun old done m) (run : IsRun old (done ++ s ∷ []) new) where
  abbrev M : theory.Machine ObservedCore
  M = machine_after old done

  next_machine : machine_after old (done ++ s ∷ []) ≡ after old.config old.code M s
  next_machine = all_after_more old.config old.code (machine_of old (λ p. [])) done s

  parts_there : parts_on old.config.k M (after old.config old.code M s) s
      ≡ parts_by m.config.k (net_of m.network) (processors_of m) (processors_of new) (open_at m.ports) (open_at new.ports) s
  unfolding machine_of_parts
  parts_there =
      ap₂ (λ (N : theory.Machine ObservedCore) (L : theory.Machine ObservedCore). parts_on old.config.k N L s)
      (sym (before.after (λ p. []))) (sym next_machine ∙ sym (run.after (λ p. [])))
      ∙ ap (λ (c : Config). parts_by c.k (net_of m.network) (processors_of m) (processors_of new) (open_at m.ports) (open_at new.ports) s)
      (sym before.config)

  -- The changes of a step that a machine takes next are those between the machines before it and after it.
  pub changes_there : step_changes old.config old.code M s ≡ changes_between m new s
  changes_there =
      ap (λ (N : theory.Machine ObservedCore). changes_to (view_on old.config old.code N) (parts_on old.config.k M (after old.config old.code M s) s))
      (sym next_machine)
      ∙ ap₂ changes_to (view_there old new (done ++ s ∷ []) run) parts_there

-- The changes of a step that is taken next come last.
pub changes_more : (c : Config) (code : List ℕ) (M : theory.Machine ObservedCore) (done : List Step) (s : Step) →
    changes_from c code M (done ++ s ∷ []) ≡ changes_from c code M done ++ step_changes c code (all_after c code M done) s ∷ []
unfolding changes_from all_after
changes_more c code M [] s = refl
changes_more c code M (x ∷ done) s = ap (λ xs. step_changes c code M x ∷ xs) (changes_more c code (after c code M x) done s)

-- A machine that takes no step has no changes.
pub none_changed : (c : Config) (code : List ℕ) (M : theory.Machine ObservedCore) → changes_from c code M [] ≡ []
unfolding changes_from
none_changed c code M = refl
