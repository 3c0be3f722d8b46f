-- A run, step by step of its schedule.
use Rattle.std.proofs.Common.{◌≡◌, ℕ, ◌<◌, ◌≤◌, ◌⊎◌, inl, inr, true, List, [], ◌∷◌, ◌++◌, length, refl, sym, ap, ◌∙◌, subst, arith, append_assoc}
use Rattle.steps.specs.declared.step.Outcome.{Outcome}
use Rattle.steps.specs.declared.step.Step.{Step}
use Rattle.machine_steps.specs.Runs.{IsReplay}
use Rattle.machine_log.specs.Logs.{HasTaken, Log}
use Rattle.steps.specs.Kinds.{no_poke}
use Rattle.steps.proofs.Lemmas.{no_poke_parts}
use Rattle.machine_steps.specs.Standing.{HasRunning}
use Rattle.schedules.specs.Sweeps.{IsFault, IsStop, RunsAfter, entered_of}
use Rattle.schedules.specs.declared.sweeping.SweepEnd.TheVariants.{Over, Budget}
use Rattle.schedules.proofs.Lemmas.{IsFirst, IsUnder, asked_append, at_most_one, first_begins, longer, none_asked}
use Rattle.schedules.proofs.Lemmas.{none_faulted, not_over, one_asked, runs_after, step_first, step_over, step_under}
use Rattle.hunt_command.specs.Runs.{WasAsked}

-- The run is under way and not over, and these steps of its schedule are left.
pub record IsAsking (plan : List Step) (limit : ℕ) (old l : Log) (unasked : List Step) : Type 0 where
  -- The log opened as the old one did.
  pub opening : l.opening ≡ old.opening
  -- Its machine is the replay of its steps.
  pub replay : IsReplay l.opening l.steps l.machine
  -- the steps that were asked for
  pub asked : List Step
  -- These and the steps that are left are the whole schedule.
  pub all : plan ≡ asked ++ unasked
  -- No step that is left is a poke.
  pub own : no_poke unasked ≡ true
  -- The log has each step asked for that did something.
  pub steps : l.steps ≡ entered_of old.opening old.steps asked
  -- It has no more steps than the limit.
  pub few : length l.steps ≤ limit
  -- The run was not over before.
  pub first : IsFirst old.opening (length old.steps) l.steps
  -- It is not over now: a processor runs, and the last step was no fault.
  pub under : IsUnder old.opening (length old.steps) l.steps

-- If a processor runs and there is room, a run begins, with its whole schedule left.
pub asking_begins : (plan : List Step) (limit : ℕ) (l : Log) → no_poke plan ≡ true → length l.steps ≤ limit → IsReplay l.opening l.steps l.machine →
    HasRunning l.machine → IsAsking plan limit l l plan
asking_begins plan limit l own few replay runs = record {
  opening = refl;
  replay = replay;
  asked = [];
  all = refl;
  own = own;
  steps = none_asked l.opening l.steps;
  few = few;
  first = first_begins l.opening (length l.steps) l.steps (omega arith);
  under = record { running = runs_after l.opening l.machine l.steps replay runs; sound = none_faulted l.opening (length l.steps) l.steps (omega arith) };
}

-- If no processor runs, the run is over at once.
pub over_at_once : (plan : List Step) (limit : ℕ) (l : Log) → length l.steps ≤ limit → IsReplay l.opening l.steps l.machine →
    (RunsAfter l.opening l.steps → ⊥) → WasAsked plan limit l Over l
over_at_once plan limit l few replay none = record {
  opening = refl;
  replay = replay;
  asked = [];
  unasked = plan;
  all = refl;
  steps = none_asked l.opening l.steps;
  few = few;
  first = first_begins l.opening (length l.steps) l.steps (omega arith);
  ends = inr none;
}

-- If there is no room, or no step is left, the budget is used up.
pub budget_used : (plan : List Step) (limit : ℕ) (old l : Log) (rest : List Step) → IsAsking plan limit old l rest →
    (limit ≤ length l.steps) ⊎ (rest ≡ []) → WasAsked plan limit old Budget l
budget_used plan limit old l rest i used = record {
  opening = i.opening;
  replay = i.replay;
  asked = i.asked;
  unasked = rest;
  all = i.all;
  steps = i.steps;
  few = i.few;
  first = i.first;
  ends = (by used, not_over old.opening (length old.steps) l.steps i.under);
}
  where
    by : (limit ≤ length l.steps) ⊎ (rest ≡ []) → (length l.steps ≡ limit) ⊎ (rest ≡ [])
    by (inl full) = inl (let few = i.few in let same : length l.steps ≡ limit = omega (arith, few, full) in same)
    by (inr none) = inr none

-- ---- one more step

module _ (plan : List Step) (limit : ℕ) (old l new : Log) (s : Step) (rest : List Step) (o : Outcome) (i : IsAsking plan limit old l (s ∷ rest))
    (room : length l.steps < limit) (taken : HasTaken l s o new) (replayed : IsReplay new.opening new.steps new.machine) where
  all_more : plan ≡ (i.asked ++ s ∷ []) ++ rest
  all_more = i.all ∙ sym (append_assoc i.asked (s ∷ []) rest)

  steps_more : new.steps ≡ entered_of old.opening old.steps (i.asked ++ s ∷ [])
  steps_more =
      one_asked l new s o i.replay taken
      ∙ ap (λ m. entered_of m l.steps (s ∷ [])) i.opening
      ∙ ap (λ xs. entered_of old.opening xs (s ∷ [])) i.steps
      ∙ sym (asked_append old.opening old.steps i.asked (s ∷ []))

  few_more : length new.steps ≤ limit
  few_more = (let one = at_most_one l.steps new.steps s o taken.steps in omega (arith, one, room))

  first_more : IsFirst old.opening (length old.steps) new.steps
  first_more = step_first old l new s o i.opening i.replay (no_poke_parts s rest i.own).0 taken i.under i.first

  -- If a step asked for is no fault, and stops no processor or leaves one running, the run goes on after it.
  pub asks_on : (IsFault o → ⊥) × ((IsStop o → ⊥) ⊎ HasRunning new.machine) → IsAsking plan limit old new rest
  asks_on plain = record {
    opening = taken.opening ∙ i.opening;
    replay = replayed;
    asked = i.asked ++ s ∷ [];
    all = all_more;
    own = (no_poke_parts s rest i.own).1;
    steps = steps_more;
    few = few_more;
    first = first_more;
    under = step_under old l new s o i.opening i.replay (no_poke_parts s rest i.own).0 taken i.under replayed plain;
  }

  start_is_past : length old.steps ≤ length l.steps
  start_is_past = subst (λ xs. length old.steps ≤ length xs) (sym i.steps) (longer old.opening old.steps i.asked)

  -- If a step asked for is a fault, or no processor runs after it, the run is over.
  pub run_over : IsFault o ⊎ (HasRunning new.machine → ⊥) → WasAsked plan limit old Over new
  run_over over = record {
    opening = taken.opening ∙ i.opening;
    replay = replayed;
    asked = i.asked ++ s ∷ [];
    unasked = rest;
    all = all_more;
    steps = steps_more;
    few = few_more;
    first = first_more;
    ends = step_over old l new s o i.opening i.replay (no_poke_parts s rest i.own).0 taken i.under replayed start_is_past over;
  }
