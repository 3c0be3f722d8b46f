-- Skipped steps of a round would enter nothing.
use Rattle.std.proofs.Common.{◌≡◌, ℕ, zero, suc, ◌+◌, ◌-◌, ◌<◌, ◌≤◌, List, [], ◌∷◌, length, take, get_or, Some, sym, ap, ◌∙◌, subst, arith}
use Rattle.std.specs.Prelude.{slice_get}
use Rattle.std.proofs.lemmas.Option.{slice_get-get_or, slice_get_within}
use Rattle.steps.specs.declared.step.Step.{Step}
use Rattle.steps.specs.declared.step.Step.TheVariants as step
use Rattle.steps.specs.declared.step.Outcome.TheVariants.{Stalled}
use Rattle.machine_steps.specs.machine_theory.Steps.{outcome_of}
use Rattle.machine_steps.specs.Machines.{machine_of}
use Rattle.machine_steps.specs.Runs.{IsReplay}
use Rattle.machine_steps.proofs.Lemmas.{outcome_there}
use Rattle.machine_log.specs.Logs.{Log, entered}
use Rattle.schedules.specs.Rounds.{round}
use Rattle.schedules.specs.Skips.{AreQuiet, IsNext, IsQuiet}
use Rattle.schedules.specs.Sweeps.{entered_of}
use Rattle.schedules.proofs.Asking.{next_asked}

-- A step that stalls is not entered.
left_out : (l : Log) (s : Step) → IsReplay l.opening l.steps l.machine →
    outcome_of l.machine.config l.machine.code (machine_of l.machine (λ p. [])) s ≡ Stalled → l.steps ≡ entered_of l.opening l.steps (s ∷ [])
unfolding entered_of
left_out l s r e = sym (ap (entered l.steps s) (outcome_there l.opening l.machine l.steps r.run s ∙ e))

module _ (old l : Log) (opens : l.opening ≡ old.opening) (size : l.machine.config.k ≡ old.machine.config.k) (r : IsReplay l.opening l.steps l.machine) where
  abbrev all : List Step
  all = round old.machine.config.k

  -- The steps are what is entered of the first i steps of the round.
  abbrev pub HasAsked : (List Step) → ℕ → Type 0
  HasAsked steps i = steps ≡ entered_of old.opening old.steps (take i all)

  quiet_here : (place : ℕ) (s : Step) → IsQuiet l.machine place → slice_get all place ≡ Some s →
      outcome_of l.machine.config l.machine.code (machine_of l.machine (λ p. [])) s ≡ Stalled
  quiet_here place s quiet there = quiet s (subst (λ k. slice_get (round k) place ≡ Some s) (sym size) there)

  skipped : (i n : ℕ) → i + n ≤ length all → AreQuiet l.machine i (i + n) → HasAsked l.steps i → HasAsked l.steps (i + n)
  skipped i zero within quiet before = subst (HasAsked l.steps) (let same : i ≡ i + zero = omega arith in same) before
  skipped i (suc n) within quiet before =
      let s : Step = get_or all (i + n) (step.Turn 0) in
      let inside : i + n < length all = omega (arith, within) in
      let there : slice_get all (i + n) ≡ Some s = slice_get-get_or all (i + n) (step.Turn 0) inside in
      let so_far : HasAsked l.steps (i + n) = skipped i n (omega (arith, within)) (λ place from to. quiet place from (omega (arith, to))) before in
      let more : HasAsked l.steps (i + n + 1) =
      next_asked old l old.machine.config.k (i + n) s l.steps opens inside there so_far
      (left_out l s r (quiet_here (i + n) s (quiet (i + n) (omega arith) (omega arith)) there)) in
      subst (HasAsked l.steps) (let same : i + n + 1 ≡ i + suc n = omega arith in same) more

  -- If the steps of a round from one place up to another stall, what is entered up to either is the same.
  pub skipped_to : (i j : ℕ) → i ≤ j → j ≤ length all → AreQuiet l.machine i j → HasAsked l.steps i → HasAsked l.steps j
  skipped_to i j ahead within quiet before =
      let same : i + (j - i) ≡ j = omega (arith, ahead) in
      subst (HasAsked l.steps) same (skipped i (j - i) (subst (λ n. n ≤ length all) (sym same) within) (subst (AreQuiet l.machine i) (sym same) quiet) before)

  -- After the next step is asked for, the log has entered what is entered of the steps up to it.
  pub next_is_asked : (i j : ℕ) (s : Step) (steps' : List Step) → IsNext l.machine i s j → HasAsked l.steps i →
      steps' ≡ entered_of l.opening l.steps (s ∷ []) → HasAsked steps' j
  next_is_asked i j s steps' n before is =
      let there : slice_get all n.place ≡ Some s = subst (λ k. slice_get (round k) n.place ≡ Some s) size n.there in
      let inside : n.place < length all = slice_get_within all n.place s there in
      let so_far : HasAsked l.steps n.place = skipped_to i n.place n.reached (omega (arith, inside)) n.quiet before in
      subst (HasAsked steps') (sym n.next) (next_asked old l old.machine.config.k n.place s steps' opens inside there so_far is)
