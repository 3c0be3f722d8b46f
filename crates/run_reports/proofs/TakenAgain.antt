-- A tally that has noted the steps of a machine has what the processors show in them.
use Rattle.std.proofs.Common.{◌≡◌, ℕ, ◌+◌, ◌^◌, List, [], ◌∷◌, ◌++◌, length, Option, Some, None, ◌∙◌, ap, refl, sym, subst, arith}
use Rattle.std.specs.Prelude.{Err, IfOk, Ok, Result, replicate}
use Rattle.std.specs.Result.{result_ok}
use Rattle.std.proofs.lemmas.List.{length-append}
use Rattle.std.proofs.lemmas.Option.{none-some, same_Some}
use Rattle.flat_machine.specs.declared.config.Config.{Config}
use Rattle.flat_machine.specs.declared.event.Event.{Event}
use Rattle.steps.specs.declared.step.Step.{Step}
use Rattle.steps.specs.declared.step.Outcome.{Outcome}
use Rattle.machine_steps.specs.machine_theory.Theory as theory
use Rattle.machine_steps.specs.machine_theory.Processors.{ObservedCore}
use Rattle.machine_steps.specs.machine_theory.Steps.{outcome_of, after, with_shown}
use Rattle.machine_steps.specs.Machines.{MachineLists, machine_of}
use Rattle.machine_steps.specs.Runs.{all_after, events_of, IsReplay}
use Rattle.machine_steps.specs.Laws.{shown_after}
use Rattle.machine_steps.specs.Noting.{AreNoted, AreNotedFrom}
use Rattle.machine_steps.proofs.Lemmas.{all_joined, noted_after_run, replay_joined, shown_is, steps_tell}
use Rattle.command_io.specs.Tallies.{TallyState, nothing_shown, noted_after}
use Rattle.command_io.specs.Events.{IsTally}
use Rattle.run_reports.specs.CountedReplays.{events_in, IsReplayCounted, IsTallied}
use Rattle.run_reports.specs.declared.tally_in_memory.TallyInMemory.{TallyInMemory}
use Rattle.run_reports.proofs.Tallying.{tally_begins, tally_more}

abbrev pub StepObserver : TallyState → Step → Outcome → TallyState → Type 0
StepObserver t s o t' = t' ≡ noted_after t s o

answered_all : (n : ℕ) (c : Config) (code : List ℕ) (M : theory.Machine ObservedCore) (steps : List Step) (t t' : TallyState) (shown : ℕ →
    List Event) (count : ℕ) →
    AreNotedFrom StepObserver c code M steps t t' → IsTally n t shown count → IsTally n t' (shown_after c code M steps shown) (count + length steps)
unfolding shown_after
answered_all n c code M [] t t' shown count same is =
    subst (λ m. IsTally n t' shown m) (omega (arith)) (subst (λ x. IsTally n x shown count) (sym same) is)
answered_all n c code M (s ∷ ss) t t' shown count observed is =
    let o = outcome_of c code M s in
    let one : IsTally n observed.0 (with_shown shown s o) (count + 1) =
    subst (λ x. IsTally n x (with_shown shown s o) (count + 1)) (sym observed.1) (tally_more n t shown count is s o) in
    subst (λ m. IsTally n t' (shown_after c code (after c code M s) ss (with_shown shown s o)) m) (omega (arith))
    (answered_all n c code (after c code M s) ss observed.0 t' (with_shown shown s o) (count + 1) observed.2 one)

-- If the tally of a machine notes more steps, it has what the processors show in these too.
tally_all : (n : ℕ) (c : Config) (code : List ℕ) (M : theory.Machine ObservedCore) (steps : List Step) (t t' : TallyState) (count : ℕ) →
    AreNotedFrom StepObserver c code M steps t t' → IsTally n t (events_of M) count → IsTally n t' (events_of (all_after c code M steps)) (count + length steps)
tally_all n c code M steps t t' count observed is =
    subst (λ events. IsTally n t' events (count + length steps)) (steps_tell c code M steps)
    (answered_all n c code M steps t t' (events_of M) count observed is)

-- If steps are replayed and noted in an empty tally, it has what the processors show in them.
pub all_replayed : (m new : MachineLists) (steps : List Step) (t t' : TallyState) →
    t ≡ record { shown = replicate (2 ^ m.config.k) nothing_shown; observed = 0 } →
    IsReplay m steps new → AreNoted StepObserver m steps t t' → IsReplayCounted m steps new t'
all_replayed m new steps t t' is replay observed = record {
  replay = replay;
  tally =
      let begun : IsTally (2 ^ m.config.k) t (events_of (machine_of m (λ p. []))) 0 =
      subst (λ events. IsTally (2 ^ m.config.k) t events 0) (sym (shown_is m (λ p. [])))
      (subst (λ x. IsTally (2 ^ m.config.k) x (λ p. []) 0) (sym is) (tally_begins (2 ^ m.config.k))) in
      subst (λ n. IsTally (2 ^ m.config.k) t' (events_in m steps) n) (omega arith)
      (tally_all (2 ^ m.config.k) m.config m.code (machine_of m (λ p. [])) steps t t' 0 observed begun);
}

-- If more steps are replayed and noted after others, the tally has what the processors show in all of them.
pub drain_replayed : (opening old new : MachineLists) (steps more : List Step) (t t' : TallyState) → IsReplayCounted opening steps old t →
    IsReplay old more new →
    AreNoted StepObserver old more t t' → IsReplayCounted opening (steps ++ more) new t'
drain_replayed opening old new steps more t t' r replay observed = record {
  replay = replay_joined opening old new steps more r.replay replay;
  tally =
      let n : ℕ = 2 ^ opening.config.k in
      let M1 : theory.Machine ObservedCore = all_after opening.config opening.code (machine_of opening (λ p. [])) steps in
      let all : IsTally n t' (events_of (all_after opening.config opening.code M1 more)) (length steps + length more) =
      tally_all n opening.config opening.code M1 more t t' (length steps)
      (noted_after_run StepObserver opening old steps more t t' r.replay.run observed) r.tally in
      let joined : all_after opening.config opening.code M1 more ≡ all_after opening.config opening.code (machine_of opening (λ p. [])) (steps ++ more) =
      sym (all_joined opening.config opening.code (machine_of opening (λ p. [])) steps more) in
      subst (λ M. IsTally n t' (events_of M) (length (steps ++ more))) joined
      (subst (λ count. IsTally n t' (events_of (all_after opening.config opening.code M1 more)) count) (sym (length-append steps more)) all);
}

-- ---- a tally that may be lost

-- The tally after a step, if it is still there, has noted the step.
abbrev pub InMemory : TallyInMemory → Step → Outcome → TallyInMemory → Type 0
InMemory old s o new = IsTallied old.tally s o new.tally

tallied_one : (old : Option TallyState) (s : Step) (o : Outcome) (t' : TallyState) → IsTallied old s o (Some t') →
    (t : TallyState) × (old ≡ Some t) × StepObserver t s o t'
tallied_one None s o t' is = absurd is
tallied_one (Some t) s o t' is = (t, refl, is)

tallied_all : (c : Config) (code : List ℕ) (M : theory.Machine ObservedCore) (steps : List Step) (old new : TallyInMemory) (t' : TallyState) →
    AreNotedFrom InMemory c code M steps old new → new.tally ≡ Some t' →
    (t : TallyState) × (old.tally ≡ Some t) × AreNotedFrom StepObserver c code M steps t t'
tallied_all c code M [] old new t' same is = (t', ap (λ (x : TallyInMemory). x.tally) (sym same) ∙ is, refl)
tallied_all c code M (s ∷ ss) old new t' observed is =
    let o = outcome_of c code M s in
    let mid = observed.0 in
    let rest = tallied_all c code (after c code M s) ss mid new t' observed.2 is in
    let one = tallied_one old.tally s o rest.0 (subst (λ x. IsTallied old.tally s o x) rest.1 observed.1) in
    (one.0, one.1, (rest.0, one.2, rest.2))

-- If a tally is there after steps that are noted, it was there before them, and has noted them.
pub were_tallied : (m : MachineLists) (steps : List Step) (old new : TallyInMemory) (t' : TallyState) → AreNoted InMemory m steps old new →
    new.tally ≡ Some t' → (t : TallyState) × (old.tally ≡ Some t) × AreNoted StepObserver m steps t t'
were_tallied m steps old new t' observed is = tallied_all m.config m.code (machine_of m (λ p. [])) steps old new t' observed is

-- If a new tally was made, it is empty.
pub was_made : {E : Type 0} (r : Result TallyState E) (o : Option TallyState) (t begun : TallyState) → o ≡ result_ok r → o ≡ Some t →
    IfOk r (λ x. x ≡ begun) → t ≡ begun
was_made (Ok x) o t begun made is begins = sym (same_Some x t (sym made ∙ is)) ∙ begins
was_made (Err e) o t begun made is begins = absurd (none-some t (sym made ∙ is))
