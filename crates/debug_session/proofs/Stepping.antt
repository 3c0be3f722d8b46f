-- A sweep, step by step.
use Rattle.std.proofs.Common.{◌≡◌, ℕ, ◌^◌, ◌<◌, ◌≤◌, ◌⊎◌, inl, inr, ◌↔◌, Bool, true, false, List, []}
use Rattle.std.proofs.Common.{◌∷◌, ◌++◌, length, refl, sym, ap, ◌∙◌, subst, append_assoc, arith}
use Rattle.std.proofs.lemmas.Bool.{true≢false}
use Rattle.std.proofs.lemmas.List.{append-nil, length-append}
use Rattle.steps.specs.declared.step.Step.{Step}
use Rattle.steps.specs.declared.step.Step.TheVariants as step
use Rattle.steps.specs.declared.step.Outcome.{Outcome}
use Rattle.steps.specs.declared.step.Outcome.TheVariants as outcome
use Rattle.machine_steps.specs.Machines.{MachineLists}
use Rattle.machine_steps.specs.Runs.{IsReplay, answer_after}
use Rattle.machine_log.specs.Logs.{HasTaken, Log, entered}
use Rattle.steps.specs.Kinds.{is_poke, no_poke}
use Rattle.steps.proofs.Lemmas.{no_poke_both, no_poke_more}
use Rattle.machine_steps.specs.Standing.{HasRunning}
use Rattle.schedules.specs.Sweeps.{EndsInFault, IsFault}
use Rattle.schedules.proofs.Lemmas.{at_most_one}
use Rattle.debug_session.specs.Breaks.{AreFlagged, HasRetired, IsRetirement, MeetsBreak, Retires, StandsAtBreak, is_noted}
use Rattle.debug_session.specs.Sweeps.{EndsHere, FaultsAreLast, HasNoFault, HasSwept, IsUnderWay, NoBreakIsPassed}
use Rattle.debug_session.proofs.Noting.{retired_either, retired_more, retired_now}
use Rattle.debug_session.proofs.Splits.{split_last}
use Rattle.debug_session.proofs.Standing.{at_break, has_running, stands_there}

-- A step was logged, or it stalled.
pub entered_either : (steps : List Step) (s : Step) (o : Outcome) →
    ((o ≡ outcome.Stalled) × (entered steps s o ≡ steps)) ⊎ (entered steps s o ≡ steps ++ s ∷ [])
entered_either steps s outcome.Stalled = inl (refl, refl)
entered_either steps s (outcome.Retired retired) = inr refl
entered_either steps s outcome.Issued = inr refl
entered_either steps s (outcome.Stopped cause) = inr refl
entered_either steps s outcome.Moved = inr refl
entered_either steps s (outcome.Combined first second) = inr refl
entered_either steps s (outcome.Served leader) = inr refl
entered_either steps s (outcome.Answered to) = inr refl
entered_either steps s outcome.Poked = inr refl

retires_none : (s : Step) (o : Outcome) (p : ℕ) → o ≡ outcome.Stalled → Retires s o p → ⊥
retires_none s o p stalled r = subst IsRetirement stalled r.1

module _ (breaks : List Bool) (limit : ℕ) (old l new : Log) (flags : List Bool) (u : IsUnderWay breaks limit old flags l) (s : Step) (o : Outcome)
    (taken : HasTaken l s o new) (answer : o ≡ answer_after l.opening l.steps s) (own : is_poke s ≡ false)
    (replayed : IsReplay new.opening new.steps new.machine)
    (clear : MeetsBreak l.machine breaks flags s → ⊥) (room : length l.steps < limit) where
  abbrev m : MachineLists
  m = old.opening

  abbrev start : ℕ
  start = length old.steps

  answer_is : o ≡ answer_after m l.steps s
  answer_is = answer ∙ ap (λ n. answer_after n l.steps s) u.opening

  opens : new.opening ≡ m
  opens = taken.opening ∙ u.opening

  few : length new.steps ≤ limit
  few = let one = at_most_one l.steps new.steps s o taken.steps in omega (arith, one, room)

  start_is_past : start ≤ length l.steps
  start_is_past = let count = ap length u.steps in let more = length-append old.steps u.more in omega (arith, count, more)

  abbrev Either : Type 0
  Either = ((o ≡ outcome.Stalled) × (new.steps ≡ l.steps)) ⊎ (new.steps ≡ l.steps ++ s ∷ [])

  either : Either
  either = by (entered_either l.steps s o)
    where
      by : ((o ≡ outcome.Stalled) × (entered l.steps s o ≡ l.steps)) ⊎ (entered l.steps s o ≡ l.steps ++ s ∷ []) → Either
      by (inl (stalled, same)) = inl (stalled, taken.steps ∙ same)
      by (inr more) = inr (taken.steps ∙ more)

  -- The log has more steps than the old one, and none of these is a poke.
  abbrev More : Type 0
  More = (more : List Step) × (new.steps ≡ old.steps ++ more) × (no_poke more ≡ true)

  has_more : More
  has_more = by either
    where
      by : Either → More
      by (inl (stalled, same)) = (u.more, same ∙ u.steps, u.no_pokes)
      by (inr one) = (
        u.more ++ s ∷ [],
        one ∙ ap (λ xs. xs ++ s ∷ []) u.steps ∙ append_assoc old.steps u.more (s ∷ []),
        no_poke_both u.more (s ∷ []) u.no_pokes (no_poke_more s [] own refl),
      )

  -- The step is no turn of a processor at a break.
  clear_now : (p : ℕ) → s ≡ step.Turn p → StandsAtBreak m breaks start l.steps p → ⊥
  clear_now p is stands =
      clear (subst (MeetsBreak l.machine breaks flags) (sym is)
      (at_break m l.machine l.steps (subst (λ n. IsReplay n l.steps l.machine) u.opening u.replay) breaks flags start u.noted p stands))

  -- A step of the new log is the last one, or was in the log before.
  abbrev Placed : List Step → List Step → Step → Type 0
  Placed before rest t = ((rest ≡ []) × (l.steps ≡ before) × (s ≡ t)) ⊎ ((rest' : List Step) × (l.steps ≡ before ++ t ∷ rest'))

  placed : (before rest : List Step) (t : Step) → new.steps ≡ before ++ t ∷ rest → Placed before rest t
  placed before rest t is = by either
    where
      by : Either → Placed before rest t
      by (inl (stalled, same)) = inr (rest, sym same ∙ is)
      by (inr one) = split_last l.steps before rest s t (sym one ∙ is)

  no_break : NoBreakIsPassed m breaks start new.steps
  no_break before rest p is from stands = by (placed before rest (step.Turn p) is)
    where
      by : Placed before rest (step.Turn p) → ⊥
      by (inl (none, alike, last)) = clear_now p last (subst (λ xs. StandsAtBreak m breaks start xs p) (sym alike) stands)
      by (inr (rest', there)) = u.breaks_are_met before rest' p there from stands

  -- After a step that is no fault, the sweep is still under way.
  pub goes_on : (flags' : List Bool) → ((p : ℕ) → p < 2 ^ m.config.k → (is_noted flags' p ≡ true) ↔ ((is_noted flags p ≡ true) ⊎ Retires s o p)) →
      (IsFault o → ⊥) → IsUnderWay breaks limit old flags' new
  goes_on flags' marks plain = record {
    opening = opens;
    replay = replayed;
    more = has_more.0;
    steps = has_more.1;
    no_pokes = has_more.2;
    few = few;
    sound = sound;
    breaks_are_met = no_break;
    noted = noted;
  }
    where
      sound : HasNoFault m start new.steps
      sound before rest t is from fault = by (placed before rest t is)
        where
          by : Placed before rest t → ⊥
          by (inl (none, alike, last)) =
              plain (subst IsFault (ap (answer_after m before) (sym last) ∙ ap (λ xs. answer_after m xs s) (sym alike) ∙ sym answer_is) fault)
          by (inr (rest', there)) = u.sound before rest' t there from fault

      noted : AreFlagged m start flags' new.steps
      noted p within = by either
        where
          now : Retires s o p → Retires s (answer_after m l.steps s) p
          now = subst (λ a. Retires s a p) answer_is

          fact : (xs : List Step) → HasRetired m start l.steps p ⊎ Retires s o p → (is_noted flags' p ≡ true)
          fact xs (inl before) = (marks p within).1 (inl ((u.noted p within).1 before))
          fact xs (inr r) = (marks p within).1 (inr r)

          back : HasRetired m start l.steps p ⊎ Retires s (answer_after m l.steps s) p → HasRetired m start l.steps p ⊎ Retires s o p
          back (inl h) = inl h
          back (inr r) = inr (subst (λ a. Retires s a p) (sym answer_is) r)

          after : (is_noted flags p ≡ true) ⊎ Retires s o p → HasRetired m start (l.steps ++ s ∷ []) p
          after (inl flag) = retired_more m start l.steps s p ((u.noted p within).0 flag)
          after (inr r) = retired_now m start l.steps s p start_is_past (now r)

          same_after : o ≡ outcome.Stalled → (is_noted flags p ≡ true) ⊎ Retires s o p → HasRetired m start l.steps p
          same_after stalled (inl flag) = (u.noted p within).0 flag
          same_after stalled (inr r) = absurd (retires_none s o p stalled r)

          by : Either → (is_noted flags' p ≡ true) ↔ HasRetired m start new.steps p
          by (inl (stalled, same)) = (
            λ flag. subst (λ xs. HasRetired m start xs p) (sym same) (same_after stalled ((marks p within).0 flag)),
            λ h. fact l.steps (inl (subst (λ xs. HasRetired m start xs p) same h)),
          )
          by (inr one) = (
            λ flag. subst (λ xs. HasRetired m start xs p) (sym one) (after ((marks p within).0 flag)),
            λ h. fact l.steps (back (retired_either m start l.steps s p (subst (λ xs. HasRetired m start xs p) one h))),
          )

  -- After a step that is a fault, the sweep has ended.
  pub ends_by_fault : IsFault o → HasSwept breaks limit old new
  ends_by_fault fault = record {
    opening = opens;
    replay = replayed;
    more = has_more.0;
    steps = has_more.1;
    no_pokes = has_more.2;
    few = few;
    faults = faults;
    breaks_are_met = no_break;
    ends = inl (ends either);
  }
    where
      faults : FaultsAreLast m start new.steps
      faults before rest t is from wrong = by (placed before rest t is)
        where
          by : Placed before rest t → rest ≡ []
          by (inl (none, alike, last)) = none
          by (inr (rest', there)) = absurd (u.sound before rest' t there from wrong)

      ends : Either → EndsInFault m start new.steps
      ends (inl (stalled, same)) = absurd (subst IsFault stalled fault)
      ends (inr one) = record { before = l.steps; last = s; is = one; after = start_is_past; fault = subst IsFault answer_is fault }

-- If a sweep under way has reason to end, it has ended.
pub ends_here : (breaks : List Bool) (limit : ℕ) (old l : Log) (flags : List Bool) → IsUnderWay breaks limit old flags l →
    EndsHere old.opening breaks (length old.steps) limit l.steps → HasSwept breaks limit old l
ends_here breaks limit old l flags u ends = record {
  opening = u.opening;
  replay = u.replay;
  more = u.more;
  steps = u.steps;
  no_pokes = u.no_pokes;
  few = u.few;
  faults = λ before rest s is from fault. absurd (u.sound before rest s is from fault);
  breaks_are_met = u.breaks_are_met;
  ends = ends;
}

module _ (breaks : List Bool) (limit : ℕ) (old l : Log) (flags : List Bool) (u : IsUnderWay breaks limit old flags l) where
  replay_there : IsReplay old.opening l.steps l.machine
  replay_there = subst (λ n. IsReplay n l.steps l.machine) u.opening u.replay

  -- If the next step is a turn of a processor at a break, a sweep that is under way has ended.
  pub ends_at_break : (s : Step) → MeetsBreak l.machine breaks flags s → HasSwept breaks limit old l
  ends_at_break (step.Turn p) meets =
      ends_here breaks limit old l flags u (inr (inr (inr (
        p,
        stands_there old.opening l.machine l.steps replay_there breaks flags (length old.steps) u.noted p meets,
      ))))
  ends_at_break (step.Up t w) meets = absurd meets
  ends_at_break (step.Serve q) meets = absurd meets
  ends_at_break (step.Down t w) meets = absurd meets
  ends_at_break (step.Poke q) meets = absurd meets

  -- If no processor runs, a sweep that is under way has ended.
  pub ends_where_none_runs : (HasRunning l.machine → ⊥) → HasSwept breaks limit old l
  ends_where_none_runs none = ends_here breaks limit old l flags u (inr (inl (λ runs. none (has_running old.opening l.machine l.steps replay_there runs))))

  pub ends_with_budget : limit ≤ length l.steps → HasSwept breaks limit old l
  ends_with_budget full =
      ends_here breaks limit old l flags u (inr (inr (inl (let few = u.few in let same : length l.steps ≡ limit = omega (arith, few, full) in same))))

-- A sweep begins with no step of its own.
pub begins : (breaks : List Bool) (limit : ℕ) (old : Log) (flags : List Bool) → IsReplay old.opening old.steps old.machine → length old.steps ≤ limit →
    ((p : ℕ) → p < 2 ^ old.opening.config.k → is_noted flags p ≡ false) → IsUnderWay breaks limit old flags old
begins breaks limit old flags replay few none = record {
  opening = refl;
  replay = replay;
  more = [];
  steps = sym (append-nil old.steps);
  no_pokes = refl;
  few = few;
  sound = λ before rest s is from fault. past before rest s is from;
  breaks_are_met = λ before rest p is from stands. past before rest (step.Turn p) is from;
  noted = λ p within. (λ flag. absurd (true≢false (sym flag ∙ none p within)), λ h. absurd (past h.before h.rest (step.Turn p) h.is h.after));
}
  where
    past : (before rest : List Step) (s : Step) → old.steps ≡ before ++ s ∷ rest → length old.steps ≤ length before → ⊥
    past before rest s is from = let count = ap length is in let more = length-append before (s ∷ rest) in omega (arith, count, more, from)
