-- A tally that may be lost has what the processors show: after one more step, and after those of a drain.
use Rattle.std.proofs.Common.{◌≡◌, ℕ, List, [], ◌∷◌, ◌++◌, Option, Some, None, ◌∙◌, ap, refl, sym, subst}
use Rattle.std.specs.Prelude.{true, false, if◌then◌else◌}
use Rattle.std.proofs.lemmas.Bool.{true≢false}
use Rattle.flat_machine.specs.declared.event.Event.{Event}
use Rattle.steps.specs.declared.step.Step.{Step}
use Rattle.steps.specs.declared.step.Outcome.{Outcome}
use Rattle.steps.specs.declared.step.Outcome.TheVariants.{Stalled}
use Rattle.steps.specs.Answers.{is_stalled}
use Rattle.machine_steps.specs.Machines.{MachineLists, machine_of, IsStep}
use Rattle.machine_steps.specs.Noting.{AreNoted}
use Rattle.machine_steps.specs.Runs.{IsReplay}
use Rattle.machine_steps.proofs.Lemmas.{noted_more, replay_begins, replay_joined, replay_kept, replay_more, run_begins}
use Rattle.machine_log.specs.Logs.{entered}
use Rattle.command_io.specs.Tallies.{TallyState}
use Rattle.run_reports.specs.CountedReplays.{IsReplayCounted, IsTallied}
use Rattle.run_reports.specs.InMemory.{IsReplayInMemory}
use Rattle.run_reports.specs.declared.tally_in_memory.TallyInMemory.{TallyInMemory}
use Rattle.run_reports.proofs.TakenAgain.{InMemory, StepObserver, drain_replayed, were_tallied}

-- An outcome that is not stalled is not `Stalled`.
pub moving_is : (o : Outcome) → is_stalled o ≡ false → o ≡ Stalled → ⊥
moving_is o moves e = true≢false (sym (ap is_stalled e) ∙ moves)

-- A step that stalls is not entered.
pub entered_stalled : (steps : List Step) (s : Step) (o : Outcome) → is_stalled o ≡ true → entered steps s o ≡ steps
entered_stalled steps s o stalls = ap (λ b. if b then steps else steps ++ s ∷ []) stalls

-- A tally that is there after a step was there before it, and has noted the step.
was_tallied : (old : Option TallyState) (s : Step) (o : Outcome) (t' : TallyState) → IsTallied old s o (Some t') →
    (t : TallyState) × (old ≡ Some t) × StepObserver t s o t'
was_tallied None s o t' is = absurd is
was_tallied (Some t) s o t' is = (t, refl, is)

-- If a step is taken and noted after others, the tally has what the processors show in it too.
one_replayed : (opening old new : MachineLists) (steps : List Step) (s : Step) (o : Outcome) (t t' : TallyState) → IsReplayCounted opening steps old t →
    IsStep old s o new → (o ≡ Stalled → ⊥) → StepObserver t s o t' → IsReplayCounted opening (steps ++ s ∷ []) new t'
one_replayed opening old new steps s o t t' r is moves one =
    drain_replayed opening old new steps (s ∷ []) t t' r (replay_more old old new [] s o (replay_begins old) is moves)
    (noted_more StepObserver old old new [] s o t t t' (run_begins old) is refl one)

-- If a step that does something is taken and noted after others, the tally has what the processors show in it too.
pub more_in_memory : (opening old new : MachineLists) (steps : List Step) (s : Step) (o : Outcome) (t t' : Option TallyState) →
    IsReplayInMemory opening steps old t → IsStep old s o new → (o ≡ Stalled → ⊥) → IsTallied t s o t' →
    IsReplayInMemory opening (steps ++ s ∷ []) new t'
more_in_memory opening old new steps s o t t' r is moves noted = record {
  replay = replay_more opening old new steps s o r.replay is moves;
  counted = λ u there.
      let one = was_tallied t s o u (subst (λ x. IsTallied t s o x) there noted) in
      one_replayed opening old new steps s o one.0 u (r.counted one.0 one.1) is moves one.2;
}

-- If a step that stalls is taken after others, the tally still has what the processors show.
pub kept_in_memory : (opening old new : MachineLists) (steps : List Step) (s : Step) (o : Outcome) (t : Option TallyState) →
    IsReplayInMemory opening steps old t → IsStep old s o new → ((shown : ℕ → List Event) → machine_of new shown ≡ machine_of old shown) →
    IsReplayInMemory opening steps new t
kept_in_memory opening old new steps s o t r is same =
    let replay = replay_kept opening old new steps s o r.replay is same in
    record { replay = replay; counted = λ u there. record { replay = replay; tally = (r.counted u there).tally } }

-- If more steps are replayed and noted after others, the tally has what the processors show in them too.
pub all_in_memory : (opening old new : MachineLists) (steps more : List Step) (t t' : TallyInMemory) → IsReplayInMemory opening steps old t.tally →
    IsReplay old more new → AreNoted InMemory old more t t' → IsReplayInMemory opening (steps ++ more) new t'.tally
all_in_memory opening old new steps more t t' r replay noted = record {
  replay = replay_joined opening old new steps more r.replay replay;
  counted = λ u there.
      let were = were_tallied old more t t' u noted there in
      drain_replayed opening old new steps more were.0 u (r.counted were.0 were.1) replay were.2;
}
