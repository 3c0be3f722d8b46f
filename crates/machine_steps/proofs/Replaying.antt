-- Replays: runs in which each step does something.
use Rattle.std.proofs.Common.{◌≡◌, ℕ, true, List, [], ◌∷◌, ◌++◌, refl, sym, ap, ap₂, ◌∙◌}
use Rattle.std.proofs.lemmas.Bool.{true≢false}
use Rattle.flat_machine.specs.declared.config.Config.{Config}
use Rattle.flat_machine.specs.declared.event.Event.{Event}
use Rattle.machine_theory.specs.serialization.Machine.{Machine}
use Rattle.steps.specs.declared.step.Step.{Step}
use Rattle.steps.specs.declared.step.Outcome.{Outcome}
use Rattle.steps.specs.declared.step.Outcome.TheVariants.{Retired, Issued, Stopped, Moved, Combined, Served, Answered, Poked, Stalled}
use Rattle.steps.specs.Answers.{is_stalled}
use Rattle.machine_theory.specs.Processors.{ObservedCore}
use Rattle.machine_theory.specs.Steps.{outcome_of, after}
use Rattle.machine_steps.specs.Machines.{MachineLists, machine_of, IsStep}
use Rattle.machine_steps.specs.Runs.{all_after, events_of, NoneStalls, IsRun, IsReplay}
use Rattle.machine_steps.proofs.Running.{run_begins, run_more}
use Rattle.machine_steps.proofs.Retelling.{outcome_same}
use Rattle.machine_steps.proofs.Stalling.{observed_again}

-- ---- stalls

-- An outcome that passes the test of a stall is a stall.
pub stalled_is : (o : Outcome) → is_stalled o ≡ true → o ≡ Stalled
stalled_is Stalled e = refl
stalled_is (Retired retired) e = absurd (true≢false (sym e))
stalled_is Issued e = absurd (true≢false (sym e))
stalled_is (Stopped cause) e = absurd (true≢false (sym e))
stalled_is Moved e = absurd (true≢false (sym e))
stalled_is (Combined first second) e = absurd (true≢false (sym e))
stalled_is (Served leader) e = absurd (true≢false (sym e))
stalled_is (Answered to) e = absurd (true≢false (sym e))
stalled_is Poked e = absurd (true≢false (sym e))

-- ---- a step after a run

-- A step has the same outcome on a machine after a run and on the theory's machine after its steps.
pub outcome_there : (old m : MachineLists) (done : List Step) → IsRun old done m → (s : Step) →
    outcome_of old.config old.code (all_after old.config old.code (machine_of old (λ p. [])) done) s ≡ outcome_of m.config m.code (machine_of m (λ p. [])) s
outcome_there old m done r s =
    let M : Machine ObservedCore = all_after old.config old.code (machine_of old (λ p. [])) done in
    ap (λ N. outcome_of old.config old.code N s) (sym (r.after (λ p. [])) ∙ sym (observed_again m (events_of M)))
    ∙ outcome_same old.config old.code (machine_of m (λ p. [])) (events_of M) s
    ∙ ap₂ (λ c code. outcome_of c code (machine_of m (λ p. [])) s) (sym r.config) (sym r.code)

-- ---- one step more

none_more : (c : Config) (code : List ℕ) (M : Machine ObservedCore) (xs : List Step) (s : Step) → NoneStalls c code M xs →
    (outcome_of c code (all_after c code M xs) s ≡ Stalled → ⊥) → NoneStalls c code M (xs ++ s ∷ [])
unfolding all_after
none_more c code M [] s n moves = (moves, tt)
none_more c code M (x ∷ xs) s n moves = (n.0, none_more c code (after c code M x) xs s n.1 moves)

-- A machine is a replay of itself, with no step.
pub replay_begins : (m : MachineLists) → IsReplay m [] m
replay_begins m = record { run = run_begins m; moved = tt }

-- A step that is taken next, and does something, comes last in the replay.
pub replay_more : (old m new : MachineLists) (done : List Step) (s : Step) (o : Outcome) → IsReplay old done m → IsStep m s o new → (o ≡ Stalled → ⊥) →
    IsReplay old (done ++ s ∷ []) new
replay_more old m new done s o r is moves = record {
  run = run_more old m new done s o r.run is;
  moved = none_more old.config old.code (machine_of old (λ p. [])) done s r.moved (λ e. moves (is.step.outcome ∙ sym (outcome_there old m done r.run s) ∙ e));
}

-- A step that changes nothing leaves the replay as it was.
pub replay_kept : (old m new : MachineLists) (done : List Step) (s : Step) (o : Outcome) → IsReplay old done m → IsStep m s o new →
    ((shown : ℕ → List Event) → machine_of new shown ≡ machine_of m shown) → IsReplay old done new
replay_kept old m new done s o r is same = record {
  run = record {
    config = is.config ∙ r.run.config;
    image = is.image ∙ r.run.image;
    code = is.code ∙ r.run.code;
    after = λ shown. same (events_of (all_after old.config old.code (machine_of old shown) done)) ∙ r.run.after shown;
  };
  moved = r.moved;
}
