-- Lists over steps and one more, and over steps and others.
use Rattle.std.proofs.Common.{◌≡◌, ◌≢◌, ℕ, zero, suc, ◌+◌, Bool, true, ◌&&◌, List, [], ◌∷◌, ◌++◌, length, refl, sym, ap, ◌∙◌, subst, arith, append_assoc}
use Rattle.std.specs.Prelude.{slice_get, slice_set, Some}
use Rattle.std.specs.List.{list_all}
use Rattle.std.proofs.lemmas.List.{append-nil}
use mathlib.Core.Logic.{dite}
use native.Mathlib.Decide.{ℕ_discrete}
use Rattle.std.proofs.lemmas.List.Folds.{list_all-append}
use Rattle.flat_machine.specs.declared.config.Config.{Config}
use Rattle.machine_steps.specs.machine_theory.Theory.{Machine}
use Rattle.machine_steps.specs.machine_theory.Processors.{ObservedCore}
use Rattle.machine_steps.specs.machine_theory.Steps.{outcome_of, after}
use Rattle.steps.specs.declared.step.Step.{Step}
use Rattle.machine_steps.specs.Runs.{all_after}
use Rattle.machine_lock.specs.Lists.{pass_events_of, given_to}

pub all_after-append : (c : Config) (code : List ℕ) (M : Machine ObservedCore) (xs ys : List Step) →
    all_after c code M (xs ++ ys) ≡ all_after c code (all_after c code M xs) ys
unfolding all_after
all_after-append c code M [] ys = refl
all_after-append c code M (x ∷ xs) ys = all_after-append c code (after c code M x) xs ys

-- The list over steps and then others is the list over the steps, followed by that over the others from their place on.
pub pass_events_joined : (c : Config) (code : List ℕ) (p place : ℕ) (M : Machine ObservedCore) (xs ys : List Step) →
    pass_events_of c code p place M (xs ++ ys) ≡ pass_events_of c code p place M xs ++ pass_events_of c code p (place + length xs) (all_after c code M xs) ys
unfolding all_after
pass_events_joined c code p place M [] ys = ap (λ k. pass_events_of c code p k M ys) (omega arith)
pass_events_joined c code p place M (x ∷ xs) ys =
    let rest = pass_events_joined c code p (suc place) (after c code M x) xs ys in
    let n : suc place + length xs ≡ place + length (x ∷ xs) = omega arith in
    let M' : Machine ObservedCore = all_after c code (after c code M x) xs in
    ap (λ ns. given_to p place x (outcome_of c code M x) ++ ns)
    (rest ∙ ap (λ k. pass_events_of c code p (suc place) (after c code M x) xs ++ pass_events_of c code p k M' ys) n)
    ∙ sym (append_assoc (given_to p place x (outcome_of c code M x)) (pass_events_of c code p (suc place) (after c code M x) xs)
    (pass_events_of c code p (place + length (x ∷ xs)) M' ys))

-- The list over steps and one more is the list over the steps, followed by what the last one gives.
pub pass_events_pushed : (c : Config) (code : List ℕ) (p place : ℕ) (M : Machine ObservedCore) (xs : List Step) (s : Step) →
    pass_events_of c code p place M (xs ++ s ∷ []) ≡ pass_events_of c code p place M xs
    ++ given_to p (place + length xs) s (outcome_of c code (all_after c code M xs) s)
pass_events_pushed c code p place M xs s =
    pass_events_joined c code p place M xs (s ∷ [])
    ∙ ap (λ ns. pass_events_of c code p place M xs ++ ns) (append-nil (given_to p (place + length xs) s (outcome_of c code (all_after c code M xs) s)))

-- ---- tests of all steps

pub all-push : (test : Step → Bool) (xs : List Step) (s : Step) → list_all test xs ≡ true → test s ≡ true → list_all test (xs ++ s ∷ []) ≡ true
all-push test xs s h e = list_all-append test xs (s ∷ []) ∙ ap (λ b. b && (test s && true)) h ∙ ap (λ b. b && true) e

-- ---- places of lists

module _ {A : Type 0} where
  pub get-front : (xs ys : List A) (k : ℕ) (r : A) → slice_get xs k ≡ Some r → slice_get (xs ++ ys) k ≡ Some r
  get-front [] ys k r e = absurd (cc)
  get-front (x ∷ xs) ys zero r e = e
  get-front (x ∷ xs) ys (suc k) r e = get-front xs ys k r e

  pub get-last : (xs : List A) (r : A) → slice_get (xs ++ r ∷ []) (length xs) ≡ Some r
  get-last [] r = refl
  get-last (x ∷ xs) r = get-last xs r

  pub get-set : (xs : List A) (k : ℕ) (r s : A) → slice_get (slice_set xs k r) k ≡ Some s → s ≡ r
  get-set [] k r s e = absurd (cc)
  get-set (x ∷ xs) zero r s e = cc
  get-set (x ∷ xs) (suc k) r s e = get-set xs k r s e

  pub get-set_else : (xs : List A) (k j : ℕ) (r s : A) → j ≢ k → slice_get (slice_set xs k r) j ≡ Some s → slice_get xs j ≡ Some s
  get-set_else [] k j r s ne e = e
  get-set_else (x ∷ xs) zero zero r s ne e = absurd (ne refl)
  get-set_else (x ∷ xs) zero (suc j) r s ne e = e
  get-set_else (x ∷ xs) (suc k) zero r s ne e = e
  get-set_else (x ∷ xs) (suc k) (suc j) r s ne e = get-set_else xs k j r s (λ h. ne (ap suc h)) e

  -- What holds of an element that is set at its place, and of all others at theirs, holds of each after the change.
  pub each-set : (P : ℕ → A → Type 0) (xs : List A) (k : ℕ) (r : A) → P k r → ((j : ℕ) (s : A) → j ≢ k → slice_get xs j ≡ Some s → P j s) →
      (j : ℕ) (s : A) → slice_get (slice_set xs k r) j ≡ Some s → P j s
  each-set P xs k r here others j s e = dite (ℕ_discrete j k)
      (λ same.
      let is : s ≡ r = get-set xs k r s (subst (λ i. slice_get (slice_set xs k r) i ≡ Some s) same e) in
      subst (λ (y : ℕ × A). P y.0 y.1) (λ i. (sym same i, sym is i)) here)
      (λ other. others j s other (get-set_else xs k j r s other e))

  pub length-slice_set : (xs : List A) (k : ℕ) (r : A) → length (slice_set xs k r) ≡ length xs
  length-slice_set [] k r = refl
  length-slice_set (x ∷ xs) zero r = refl
  length-slice_set (x ∷ xs) (suc k) r = ap suc (length-slice_set xs k r)

  pub set-same : (xs : List A) (k : ℕ) (r : A) → slice_get xs k ≡ Some r → slice_set xs k r ≡ xs
  set-same [] k r e = refl
  set-same (x ∷ xs) zero r e = let h : r ≡ x = cc in ap (λ y. y ∷ xs) h
  set-same (x ∷ xs) (suc k) r e = ap (λ ys. x ∷ ys) (set-same xs k r e)
