-- Replays are cut and runs are joined. What processors have shown before changes nothing but what they have shown.
use Rattle.std.proofs.Common.{◌≡◌, ℕ, List, [], ◌∷◌, ◌++◌, refl, sym, ap, ◌∙◌, subst}
use Rattle.flat_machine.specs.declared.config.Config.{Config}
use Rattle.flat_machine.specs.declared.event.Event.{Event}
use Rattle.machine_theory.specs.serialization.Machine.{Machine}
use Rattle.steps.specs.declared.step.Step.{Step}
use Rattle.machine_theory.specs.Processors.{ObservedCore}
use Rattle.machine_theory.specs.Steps.{outcome_of, after, machine_of_parts}
use Rattle.machine_steps.specs.Machines.{MachineLists, machine_of}
use Rattle.machine_steps.specs.Runs.{all_after, events_of, NoneStalls, IsRun, IsReplay}
use Rattle.machine_steps.proofs.Retelling.{after_alike, outcome_same}
use Rattle.machine_steps.proofs.Stalling.{observe_as, observed_again}

abbrev none : ℕ → List Event
none p = []

-- ---- runs of machines that differ in what was shown

abbrev pub Alikes : Machine ObservedCore → Machine ObservedCore → Type 0
Alikes M N = (fact : ℕ → List Event) → observe_as fact M ≡ observe_as fact N

-- A machine that is given the events that it has shown is the same.
own_is_observed : (M : Machine ObservedCore) → observe_as (events_of M) M ≡ M
own_is_observed M = refl

module _ (c : Config) (code : List ℕ) where
  -- If two machines differ only in shown events, so do the machines after the same step.
  pub after_alikes : (M N : Machine ObservedCore) (s : Step) → Alikes M N → Alikes (after c code M s) (after c code N s)
  after_alikes M N s same fact =
      sym (after_alike c code M none fact s) ∙ ap (λ K. observe_as fact (after c code K s)) (same none) ∙ after_alike c code N none fact s

  all_alikes : (M N : Machine ObservedCore) (steps : List Step) → Alikes M N → Alikes (all_after c code M steps) (all_after c code N steps)
  unfolding all_after
  all_alikes M N [] same = same
  all_alikes M N (s ∷ ss) same = all_alikes (after c code M s) (after c code N s) ss (after_alikes M N s same)

  -- If two machines differ only in shown events, a step has the same outcome on both.
  pub outcome_alike : (M N : Machine ObservedCore) (s : Step) → Alikes M N → outcome_of c code M s ≡ outcome_of c code N s
  outcome_alike M N s same = sym (outcome_same c code M none s) ∙ ap (λ K. outcome_of c code K s) (same none) ∙ outcome_same c code N none s

  none_alike : (M N : Machine ObservedCore) (steps : List Step) → Alikes M N → NoneStalls c code M steps → NoneStalls c code N steps
  none_alike M N [] alike moves = tt
  none_alike M N (s ∷ ss) alike moves =
      (λ e. moves.0 (outcome_alike M N s alike ∙ e), none_alike (after c code M s) (after c code N s) ss (after_alikes M N s alike) moves.1)

  -- The machine after steps and more steps is the one after the latter from where the former lead.
  pub all_joined : (M : Machine ObservedCore) (steps more : List Step) → all_after c code M (steps ++ more) ≡ all_after c code (all_after c code M steps) more
  unfolding all_after
  all_joined M [] more = refl
  all_joined M (s ∷ ss) more = all_joined (after c code M s) ss more

  none_after : (M : Machine ObservedCore) (steps more : List Step) → NoneStalls c code M (steps ++ more) → NoneStalls c code (all_after c code M steps) more
  unfolding all_after
  none_after M [] more moves = moves
  none_after M (s ∷ ss) more moves = none_after (after c code M s) ss more moves.1

-- ---- a replay, cut

observed_alike : (m : MachineLists) (shown : ℕ → List Event) → Alikes (machine_of m shown) (machine_of m none)
unfolding machine_of_parts
observed_alike m shown fact = refl

-- A machine after a run differs from the theory's machine after the steps only in shown events.
pub run_alike : (opening mid : MachineLists) (steps : List Step) → IsRun opening steps mid → (shown : ℕ → List Event) →
    Alikes (machine_of mid shown) (all_after opening.config opening.code (machine_of opening none) steps)
run_alike opening mid steps r shown fact =
    let M1 : Machine ObservedCore = all_after opening.config opening.code (machine_of opening none) steps in
    observed_alike mid shown fact ∙ sym (observed_alike mid (events_of M1) fact) ∙ ap (observe_as fact) (r.after none)

module _ (opening mid new : MachineLists) (steps more : List Step) (first : IsReplay opening steps mid) (all : IsReplay opening (steps ++ more) new) where
  abbrev C : Config
  C = opening.config

  abbrev M1 : Machine ObservedCore
  M1 = all_after C opening.code (machine_of opening none) steps

  abbrev N1 : Machine ObservedCore
  N1 = all_after C opening.code M1 more

  at_end : machine_of new (events_of N1) ≡ N1
  at_end =
      let e = all_joined C opening.code (machine_of opening none) steps more in
      subst (λ (K : Machine ObservedCore). machine_of new (events_of K) ≡ K) e (all.run.after none)

  later_machine : (shown : ℕ → List Event) →
      machine_of new (events_of (all_after C opening.code (machine_of mid shown) more)) ≡ all_after C opening.code (machine_of mid shown) more
  later_machine shown =
      let X : Machine ObservedCore = all_after C opening.code (machine_of mid shown) more in
      let same : observe_as (events_of X) X ≡ observe_as (events_of X) N1 =
      all_alikes C opening.code (machine_of mid shown) M1 more (run_alike opening mid steps first.run shown) (events_of X) in
      let there : observe_as (events_of X) (machine_of new (events_of N1)) ≡ observe_as (events_of X) N1 = ap (observe_as (events_of X)) at_end in
      let new_observed : observe_as (events_of X) (machine_of new (events_of N1)) ≡ machine_of new (events_of X) =
      observed_alike new (events_of N1) (events_of X) ∙ observed_again new (events_of X) in
      sym new_observed ∙ there ∙ sym same

  cut_moved : NoneStalls C opening.code (machine_of mid none) more
  cut_moved =
      none_alike C opening.code M1 (machine_of mid none) more (λ fact. sym (run_alike opening mid steps first.run none fact))
      (none_after C opening.code (machine_of opening none) steps more all.moved)

  -- The steps of a replay after a machine on its way are a replay from that machine.
  pub cut_at : IsReplay mid more new
  cut_at = record {
    run = record {
      config = all.run.config ∙ sym first.run.config;
      image = all.run.image ∙ sym first.run.image;
      code = all.run.code ∙ sym first.run.code;
      after =
          subst (λ (k : Config × List ℕ). (shown : ℕ → List Event) →
          machine_of new (events_of (all_after k.0 k.1 (machine_of mid shown) more)) ≡ all_after k.0 k.1 (machine_of mid shown) more)
          (λ i. (sym first.run.config i, sym first.run.code i)) later_machine;
    };
    moved = subst (λ (k : Config × List ℕ). NoneStalls k.0 k.1 (machine_of mid none) more) (λ i. (sym first.run.config i, sym first.run.code i)) cut_moved;
  }

-- ---- runs, joined

-- A run followed by a run is one run over the steps of both.
pub run_joined : (opening mid new : MachineLists) (steps more : List Step) → IsRun opening steps mid → IsRun mid more new → IsRun opening (steps ++ more) new
run_joined opening mid new steps more first second = record {
  config = second.config ∙ first.config;
  image = second.image ∙ first.image;
  code = second.code ∙ first.code;
  after = λ shown.
      let M : Machine ObservedCore = all_after opening.config opening.code (machine_of opening shown) steps in
      let here : machine_of new (events_of (all_after opening.config opening.code (machine_of mid (events_of M)) more))
      ≡ all_after opening.config opening.code (machine_of mid (events_of M)) more =
      subst (λ (k : Config × List ℕ). machine_of new (events_of (all_after k.0 k.1 (machine_of mid (events_of M)) more))
      ≡ all_after k.0 k.1 (machine_of mid (events_of M)) more)
      (λ i. (first.config i, first.code i)) (second.after (events_of M)) in
      let there : machine_of new (events_of (all_after opening.config opening.code M more)) ≡ all_after opening.config opening.code M more =
      subst (λ (K : Machine ObservedCore). machine_of new (events_of (all_after opening.config opening.code K more))
      ≡ all_after opening.config opening.code K more)
      (first.after shown) here in
      subst (λ (K : Machine ObservedCore). machine_of new (events_of K) ≡ K)
      (sym (all_joined opening.config opening.code (machine_of opening shown) steps more)) there;
}

none_joined : (c : Config) (code : List ℕ) (M : Machine ObservedCore) (steps more : List Step) → NoneStalls c code M steps →
    NoneStalls c code (all_after c code M steps) more → NoneStalls c code M (steps ++ more)
unfolding all_after
none_joined c code M [] more first second = second
none_joined c code M (s ∷ ss) more first second = (first.0, none_joined c code (after c code M s) ss more first.1 second)

-- A replay followed by a replay is one replay over the steps of both.
pub replay_joined : (opening mid new : MachineLists) (steps more : List Step) → IsReplay opening steps mid → IsReplay mid more new →
    IsReplay opening (steps ++ more) new
replay_joined opening mid new steps more first second = record {
  run = run_joined opening mid new steps more first.run second.run;
  moved =
      let M1 : Machine ObservedCore = all_after opening.config opening.code (machine_of opening none) steps in
      let moves : NoneStalls opening.config opening.code (machine_of mid none) more =
      subst (λ (k : Config × List ℕ). NoneStalls k.0 k.1 (machine_of mid none) more) (λ i. (first.run.config i, first.run.code i)) second.moved in
      none_joined opening.config opening.code (machine_of opening none) steps more first.moved
      (none_alike opening.config opening.code (machine_of mid none) M1 more (run_alike opening mid steps first.run none) moves);
}
