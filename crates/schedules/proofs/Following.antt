-- A sweep, round by round.
use Rattle.std.proofs.Common.{◌≡◌, ℕ, suc, ◌<◌, ◌≤◌, Bool, true, false, ◌⊎◌, inl, inr, List, [], ◌∷◌, ◌++◌, length, take, refl, sym, ap, ◌∙◌, subst, arith}
use Rattle.std.proofs.lemmas.List.{append-nil, length-append}
use Rattle.steps.specs.declared.step.Step.{Step}
use Rattle.machine_steps.specs.Runs.{IsReplay, answer_after}
use Rattle.machine_log.specs.Logs.{Log}
use Rattle.schedules.specs.Rounds.{round}
use Rattle.machine_steps.specs.Standing.{HasRunning}
use Rattle.schedules.specs.Sweeps.{EndsInFault, IsUnderWay, HasFollowed, IsFault, IsOver, RunsAfter, WasAskedRound, entered_of, rounds}
use Rattle.schedules.specs.declared.sweeping.SweepEnd.TheVariants.{Over, Budget}
use Rattle.schedules.proofs.Asking.{none_asked, round_more, rounds_more}
use Rattle.schedules.proofs.NoPoke.{no_poke_asked, no_poke_entered}
use Rattle.schedules.proofs.Ending.{IsFirst, IsUnder, first_begins, first_joined, has_running, none_faulted, not_over, over_sooner, runs_after}

-- The log has followed the sweep so far, and it is not over. If there is room, it continues with a whole round.
pub record IsFollowing (limit : ℕ) (old l : Log) : Type 0 where
  -- The log has the opening of the log with which the sweep began.
  pub opening : l.opening ≡ old.opening
  -- Its machine is the one to which its steps lead from the opening.
  pub replay : IsReplay l.opening l.steps l.machine
  pub whole : ℕ
  pub part : ℕ
  -- Its steps are what is entered of whole rounds and a part of one.
  pub steps : l.steps ≡ entered_of old.opening old.steps (rounds old.machine.config.k whole ++ take part (round old.machine.config.k))
  pub cut : (take part (round old.machine.config.k) ≡ []) ⊎ (limit ≤ length l.steps)
  pub longer : length old.steps ≤ length l.steps
  -- Its steps are at most as many as the limit.
  pub few : length l.steps ≤ limit
  pub first : IsFirst old.opening (length old.steps) l.steps
  pub under : IsUnder old.opening (length old.steps) l.steps

-- A log within the limit on whose machine a processor runs begins to follow the sweep.
pub following_begins : (limit : ℕ) (l : Log) → length l.steps ≤ limit → IsReplay l.opening l.steps l.machine → HasRunning l.machine → IsFollowing limit l l
following_begins limit l few replay runs = record {
  opening = refl;
  replay = replay;
  whole = 0;
  part = 0;
  steps = none_asked l.opening l.steps;
  cut = inl refl;
  longer = omega arith;
  few = few;
  first = first_begins l.opening (length l.steps) l.steps (omega arith);
  under = record { running = runs_after l.opening l.machine l.steps replay runs; sound = none_faulted l.opening (length l.steps) l.steps (omega arith) };
}

-- If no processor runs, the sweep is over at once.
pub over_at_once : (limit : ℕ) (l : Log) → length l.steps ≤ limit → IsReplay l.opening l.steps l.machine → (RunsAfter l.opening l.steps → ⊥) →
    HasFollowed limit l Over l
over_at_once limit l few replay none = record {
  opening = refl;
  replay = replay;
  whole = 0;
  part = 0;
  steps = none_asked l.opening l.steps;
  few = few;
  first = first_begins l.opening (length l.steps) l.steps (omega arith);
  ends = inr none;
}

-- If the log is following the sweep, a processor runs.
pub runs_there : (limit : ℕ) (old l : Log) → IsFollowing limit old l → HasRunning l.machine
runs_there limit old l f = has_running l.opening l.machine l.steps f.replay (subst (λ m. RunsAfter m l.steps) (sym f.opening) f.under.running)

-- If there is no room, the budget is used up.
pub budget_used : (limit : ℕ) (old l : Log) → IsFollowing limit old l → limit ≤ length l.steps → HasFollowed limit old Budget l
budget_used limit old l f full = record {
  opening = f.opening;
  replay = f.replay;
  whole = f.whole;
  part = f.part;
  steps = f.steps;
  few = f.few;
  first = f.first;
  ends = ((let few = f.few in let same : length l.steps ≡ limit = omega (arith, few, full) in same), not_over old.opening (length old.steps) l.steps f.under);
}

module _ (limit : ℕ) (old l new : Log) (f : IsFollowing limit old l) (size : l.machine.config.k ≡ old.machine.config.k) (room : length l.steps < limit)
    (b : Bool) (r : WasAskedRound limit l b new) where
  abbrev k : ℕ
  k = old.machine.config.k

  abbrev start : ℕ
  start = length old.steps

  opens : new.opening ≡ old.opening
  opens = r.opening ∙ f.opening

  -- So far there were only whole rounds.
  so_far : l.steps ≡ entered_of old.opening old.steps (rounds k f.whole)
  so_far = by f.cut
    where
      by : (take f.part (round k) ≡ []) ⊎ (limit ≤ length l.steps) → l.steps ≡ entered_of old.opening old.steps (rounds k f.whole)
      by (inl none) = f.steps ∙ ap (λ xs. entered_of old.opening old.steps (rounds k f.whole ++ xs)) none
          ∙ ap (entered_of old.opening old.steps) (append-nil (rounds k f.whole))
      by (inr full) = absurd (omega (arith, full, room))

  part_is : new.steps ≡ entered_of old.opening l.steps (take r.part (round k))
  part_is = r.steps ∙ ap (λ n. entered_of l.opening l.steps (take r.part (round n))) size ∙ ap (λ m. entered_of m l.steps (take r.part (round k))) f.opening

  after : new.steps ≡ entered_of old.opening old.steps (rounds k f.whole ++ take r.part (round k))
  after = rounds_more old.opening old.steps l.steps new.steps k f.whole r.part so_far part_is

  -- The new steps come after the old ones.
  steps_go_on : (rest : List Step) × (new.steps ≡ l.steps ++ rest)
  steps_go_on = let e = no_poke_entered old.opening l.steps (take r.part (round k)) (no_poke_asked k 0 r.part) in (e.0, part_is ∙ e.2)

  first_here : IsFirst old.opening (length l.steps) new.steps
  first_here = subst (λ m. IsFirst m (length l.steps) new.steps) f.opening r.first

  first_all : IsFirst old.opening start new.steps
  first_all =
      subst (IsFirst old.opening start) (sym steps_go_on.1)
      (first_joined old.opening start l.steps steps_go_on.0 f.longer f.first f.under (subst (IsFirst old.opening (length l.steps)) steps_go_on.1 first_here))

  -- If the sweep is over after the next round, the log has followed the sweep to its end.
  pub following_over : b ≡ true → HasFollowed limit old Over new
  following_over is = record {
    opening = opens;
    replay = r.replay;
    whole = f.whole;
    part = r.part;
    steps = after;
    few = r.few;
    first = first_all;
    ends = over_sooner old.opening start (length l.steps) new.steps f.longer (subst (λ m. IsOver m (length l.steps) new.steps) f.opening (r.over is));
  }

  -- If the sweep is not over after the next round, the log is still following the sweep.
  pub following_more : b ≡ false → IsFollowing limit old new
  following_more is = by g.whole
    where
      g : IsUnderWay limit l r.part new
      g = r.goes_on is

      sound : EndsInFault old.opening start new.steps → ⊥
      sound e =
          let count = ap length e.is in
          g.sound
          (record {
            before = e.before;
            last = e.last;
            is = e.is;
            after = (let one = length-append e.before (e.last ∷ []) in let some = g.some in omega (arith, count, one, some));
            fault = subst (λ m. IsFault (answer_after m e.before e.last)) (sym f.opening) e.fault;
          })

      under : IsUnder old.opening start new.steps
      under = record { running = subst (λ m. RunsAfter m new.steps) f.opening g.running; sound = sound }

      longer : start ≤ length new.steps
      longer = (let before = f.longer in let some = g.some in omega (arith, before, some))

      by : (take r.part (round l.machine.config.k) ≡ round l.machine.config.k) ⊎ (limit ≤ length new.steps) → IsFollowing limit old new
      by (inl all) = record {
        opening = opens;
        replay = r.replay;
        whole = suc f.whole;
        part = 0;
        steps =
            round_more old.opening old.steps l.steps new.steps k f.whole r.part so_far part_is (subst (λ n. take r.part (round n) ≡ round n) size all)
            ∙ ap (entered_of old.opening old.steps) (sym (append-nil (rounds k (suc f.whole))));
        cut = inl refl;
        longer = longer;
        few = r.few;
        first = first_all;
        under = under;
      }
      by (inr full) = record {
        opening = opens;
        replay = r.replay;
        whole = f.whole;
        part = r.part;
        steps = after;
        cut = inr full;
        longer = longer;
        few = r.few;
        first = first_all;
        under = under;
      }
