-- A processor's list has the events that the outcomes of the steps have for it.
use Rattle.std.proofs.Common.{◌≡◌, ℕ, suc, cond, Bool, true, false, List, [], ◌∷◌, ◌++◌, refl, sym, ap}
use Rattle.std.proofs.Common.{◌∙◌, subst, append_assoc, inl, inr, eqb, ◌==◌, ◌≢◌, ◌⊎◌, eq-eqb, ne_eqb}
use Rattle.std.specs.Prelude.{map, if◌then◌else◌}
use Rattle.std.proofs.lemmas.Bool.{cases_eq}
use Rattle.std.proofs.lemmas.List.{append-nil, map-append}
use Rattle.flat_machine.specs.declared.config.Config.{Config}
use Rattle.flat_machine.specs.declared.event.Event.{Event}
use Rattle.flat_machine.specs.declared.event.Event.TheVariants as event
use Rattle.machine_steps.specs.messages.Places.{put}
use Rattle.machine_steps.specs.machine_theory.Theory.{Machine}
use Rattle.machine_steps.specs.machine_theory.Processors.{ObservedCore}
use Rattle.machine_steps.specs.machine_theory.Steps.{outcome_of, after, with_shown}
use Rattle.steps.specs.declared.step.Step.{Step}
use Rattle.steps.specs.declared.step.Step.TheVariants as step
use Rattle.steps.specs.declared.step.Outcome.{Outcome}
use Rattle.steps.specs.declared.step.Outcome.TheVariants.{Retired, Issued, Stopped, Moved, Combined, Served, Answered, Poked, Stalled}
use Rattle.machine_steps.specs.Laws.{shown_after}
use Rattle.machine_lock.specs.declared.row.PassEvent.{PassEvent}
use Rattle.machine_lock.specs.Lists.{pass_events_of, given_to}

abbrev events : List PassEvent → List Event
events ns = map (λ n. n.event) ns

-- What a turn of q shows comes after the events of p, if q is p.
shown_by_turn : (shown : ℕ → List Event) (q p place : ℕ) (e : Event) →
    put shown q (shown q ++ e ∷ []) p ≡ shown p ++ events (if q == p then record { event = e; place = place } ∷ [] else [])
unfolding put
shown_by_turn shown q p place e = by (cases_eq p q)
  where
    by : (p ≡ q) ⊎ (p ≢ q) → cond (eqb p q) (shown q ++ e ∷ []) (shown p) ≡ shown p ++ events (if q == p then record { event = e; place = place } ∷ [] else [])
    by (inl same) = subst (λ (r : ℕ). cond (eqb r q) (shown q ++ e ∷ []) (shown r)
        ≡ shown r ++ events (if q == r then record { event = e; place = place } ∷ [] else [])) (sym same)
        (ap (λ b. cond b (shown q ++ e ∷ []) (shown q)) (eq-eqb q q refl)
        ∙ ap (λ b. shown q ++ events (if b then record { event = e; place = place } ∷ [] else [])) (sym (eq-eqb q q refl)))
    by (inr other) =
        ap (λ b. cond b (shown q ++ e ∷ []) (shown p)) (ne_eqb p q other) ∙ sym (append-nil (shown p))
        ∙ ap (λ b. shown p ++ events (if b then record { event = e; place = place } ∷ [] else [])) (sym (ne_eqb q p (λ h. other (sym h))))

none : (shown : ℕ → List Event) (p : ℕ) (b : Bool) → shown p ≡ shown p ++ events (if b then [] else [])
none shown p true = sym (append-nil (shown p))
none shown p false = sym (append-nil (shown p))

-- One step adds to the events of p what it gives p.
step_is : (shown : ℕ → List Event) (p place : ℕ) (s : Step) (o : Outcome) → with_shown shown s o p ≡ shown p ++ events (given_to p place s o)
step_is shown p place (step.Turn q) (Retired retired) = shown_by_turn shown q p place (event.Retired retired)
step_is shown p place (step.Turn q) (Stopped cause) = shown_by_turn shown q p place (event.Stopped cause)
step_is shown p place (step.Turn q) Issued = none shown p (q == p)
step_is shown p place (step.Turn q) Moved = none shown p (q == p)
step_is shown p place (step.Turn q) (Combined first second) = none shown p (q == p)
step_is shown p place (step.Turn q) (Served leader) = none shown p (q == p)
step_is shown p place (step.Turn q) (Answered to) = none shown p (q == p)
step_is shown p place (step.Turn q) Poked = none shown p (q == p)
step_is shown p place (step.Turn q) Stalled = none shown p (q == p)
step_is shown p place (step.Up s w) o = sym (append-nil (shown p))
step_is shown p place (step.Serve m) o = sym (append-nil (shown p))
step_is shown p place (step.Down s w) o = sym (append-nil (shown p))
step_is shown p place (step.Poke poke) o = sym (append-nil (shown p))

pub listed_after : (c : Config) (code : List ℕ) (p place : ℕ) (M : Machine ObservedCore) (steps : List Step) (shown : ℕ → List Event) →
    shown_after c code M steps shown p ≡ shown p ++ events (pass_events_of c code p place M steps)
unfolding shown_after
listed_after c code p place M [] shown = sym (append-nil (shown p))
listed_after c code p place M (s ∷ ss) shown =
    let o : Outcome = outcome_of c code M s in
    let rest = pass_events_of c code p (suc place) (after c code M s) ss in
    listed_after c code p (suc place) (after c code M s) ss (with_shown shown s o)
    ∙ ap (λ es. es ++ events rest) (step_is shown p place s o)
    ∙ append_assoc (shown p) (events (given_to p place s o)) (events rest)
    ∙ ap (λ es. shown p ++ es) (sym (map-append (λ n. n.event) (given_to p place s o) rest))

-- A processor's list has the events that the outcomes of the steps have for it, in their order.
pub events_are_listed : (c : Config) (code : List ℕ) (p place : ℕ) (M : Machine ObservedCore) (steps : List Step) →
    events (pass_events_of c code p place M steps) ≡ shown_after c code M steps (λ q. []) p
events_are_listed c code p place M steps = sym (listed_after c code p place M steps (λ q. []))
