-- A step of a round, and the end of a round.
use Rattle.std.proofs.Common.{◌≡◌, ℕ, ◌<◌, ◌≤◌, Bool, true, false, ◌⊎◌, inl, inr, length, take, sym, ap, ◌∙◌, subst, arith}
use Rattle.std.proofs.lemmas.Bool.{cases_lt, true≢false}
use Rattle.std.proofs.lemmas.List.{take_all}
use Rattle.steps.specs.declared.step.Outcome.{Outcome}
use Rattle.steps.specs.declared.step.Outcome.TheVariants.{Stalled}
use Rattle.steps.specs.declared.step.Step.{Step}
use Rattle.machine_steps.specs.Machines.{IsMachine}
use Rattle.machine_steps.specs.Runs.{IsReplay, answer_after}
use Rattle.machine_steps.proofs.Lemmas.{outcome_there}
use Rattle.machine_log.specs.Logs.{Log, HasTaken, entered}
use Rattle.schedules.specs.Rounds.{round}
use Rattle.machine_steps.specs.Standing.{HasRunning}
use Rattle.schedules.specs.Sweeps.{EndsInFault, IsFault, IsOver, IsStop, RunsAfter, WasAskedRound, entered_of}
use Rattle.schedules.proofs.Asking.{each_stalls}
use Rattle.schedules.proofs.Ending.{IsFirst, IsUnder, ends_in, first_on, has_running, runs_after, runs_on, sound_on}
use Rattle.schedules.proofs.Progress.{in_round, some_step_moves}
use Rattle.steps.specs.Kinds.{is_poke}

-- ---- a step

module _ (old l new : Log) (s : Step) (o : Outcome) (opens : l.opening ≡ old.opening) (replay : IsReplay l.opening l.steps l.machine) (own : is_poke s ≡ false)
    (taken : HasTaken l s o new) (under : IsUnder old.opening (length old.steps) l.steps) where
  -- The outcome is the one that the definition gives.
  answer_is : o ≡ answer_after old.opening l.steps s
  answer_is = taken.step.step.outcome ∙ sym (outcome_there l.opening l.machine l.steps replay.run s) ∙ ap (λ m. answer_after m l.steps s) opens

  steps_are : new.steps ≡ entered l.steps s (answer_after old.opening l.steps s)
  steps_are = taken.steps ∙ ap (entered l.steps s) answer_is

  -- If the sweep is not over and was over at no place before, it was over at none before the end of one more step.
  pub step_first : IsFirst old.opening (length old.steps) l.steps → IsFirst old.opening (length old.steps) new.steps
  step_first first = subst (IsFirst old.opening (length old.steps)) (sym taken.steps) (first_on old.opening (length old.steps) l.steps s o first under)

  module _ (replayed : IsReplay new.opening new.steps new.machine) where
    runs_there : HasRunning new.machine → RunsAfter old.opening new.steps
    runs_there runs = subst (λ m. RunsAfter m new.steps) (taken.opening ∙ opens) (runs_after new.opening new.machine new.steps replayed runs)

    running_on : (IsStop o → ⊥) ⊎ HasRunning new.machine → RunsAfter old.opening new.steps
    running_on (inr runs) = runs_there runs
    running_on (inl plain) =
        subst (RunsAfter old.opening) (sym steps_are) (runs_on old.opening l.steps s own (λ stop. plain (subst IsStop (sym answer_is) stop)) under.running)

    -- If the step is not a fault, and stops no processor or leaves one running, the sweep is not over.
    pub step_under : (IsFault o → ⊥) × ((IsStop o → ⊥) ⊎ HasRunning new.machine) → IsUnder old.opening (length old.steps) new.steps
    step_under (plain, runs) = record {
      running = running_on runs;
      sound = λ f. sound_on old.opening (length old.steps) l.steps s (λ fault. plain (subst IsFault (sym answer_is) fault)) under.sound
          (subst (λ xs. EndsInFault old.opening (length old.steps) xs) steps_are f);
    }

    -- If the step is a fault, or leaves no processor running, the sweep is over.
    pub step_over : length old.steps ≤ length l.steps → IsFault o ⊎ (HasRunning new.machine → ⊥) → IsOver old.opening (length old.steps) new.steps
    step_over behind (inl fault) =
        inl (subst (λ xs. EndsInFault old.opening (length old.steps) xs) (sym steps_are)
        (ends_in old.opening (length old.steps) l.steps s behind (subst IsFault answer_is fault)))
    step_over behind (inr none) =
        inr (λ runs. none (has_running new.opening new.machine new.steps replayed (subst (λ m. RunsAfter m new.steps) (sym (taken.opening ∙ opens)) runs)))

-- ---- a round

module _ (limit : ℕ) (old l : Log) (i : ℕ) (opens : l.opening ≡ old.opening) (replayed : IsReplay l.opening l.steps l.machine) (steps : l.steps
    ≡ entered_of old.opening old.steps (take i (round old.machine.config.k))) (few : length l.steps ≤ limit)
    (first : IsFirst old.opening (length old.steps) l.steps) where
  -- If the sweep is over, the round has ended.
  pub round_over : (b : Bool) → b ≡ true → IsOver old.opening (length old.steps) l.steps → WasAskedRound limit old b l
  round_over b is over = record {
    opening = opens;
    replay = replayed;
    part = i;
    steps = steps;
    few = few;
    first = first;
    over = λ e. over;
    goes_on = λ other. absurd (true≢false (sym is ∙ other));
  }

  module _ (under : IsUnder old.opening (length old.steps) l.steps) (b : Bool) (is_not : b ≡ false) where
    goes_on_by : (take i (round old.machine.config.k) ≡ round old.machine.config.k) ⊎ (limit ≤ length l.steps) → length old.steps < length l.steps →
        WasAskedRound limit old b l
    goes_on_by whole some = record {
      opening = opens;
      replay = replayed;
      part = i;
      steps = steps;
      few = few;
      first = first;
      over = λ other. absurd (true≢false (sym other ∙ is_not));
      goes_on = λ e. record { running = under.running; sound = under.sound; whole = whole; some = some };
    }

    -- If there is no room, the round has ended.
    pub full_round : length old.steps < limit → limit ≤ length l.steps → WasAskedRound limit old b l
    full_round room full = goes_on_by (inr full) (omega (arith, room, full))

    -- If the round has no more steps, it has ended.
    pub whole_round : IsMachine old.machine → HasRunning old.machine → IsReplay old.opening old.steps old.machine → length (round old.machine.config.k) ≤ i →
        WasAskedRound limit old b l
    whole_round is running replay over = goes_on_by (inl all) (some (cases_lt (length old.steps) (length l.steps)))
      where
        all : take i (round old.machine.config.k) ≡ round old.machine.config.k
        all = take_all i (round old.machine.config.k) over

        each : length l.steps ≤ length old.steps → ⊥
        each short =
            let goes = some_step_moves old.machine is running in
            let place = in_round old.machine.config.k goes.0 goes.1.0 in
            let none : length (entered_of old.opening old.steps (round old.machine.config.k)) ≤ length old.steps =
            subst (λ n. n ≤ length old.steps) (ap length (steps ∙ ap (entered_of old.opening old.steps) all)) short in
            let stalls : answer_after old.opening old.steps goes.0 ≡ Stalled =
            each_stalls old.opening old.steps (round old.machine.config.k) none place.0 goes.0 place.1 in
            goes.1.1 (sym (outcome_there old.opening old.machine old.steps replay.run goes.0) ∙ stalls)

        some : (length old.steps < length l.steps) ⊎ (length l.steps ≤ length old.steps) → length old.steps < length l.steps
        some (inl less) = less
        some (inr short) = absurd (each short)
