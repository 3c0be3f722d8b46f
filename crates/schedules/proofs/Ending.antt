-- Whether a sweep is over after one more step, and after one part and another.
use Rattle.std.proofs.Common.{◌≡◌, ℕ, zero, suc, ◌^◌, ◌<◌, ◌≤◌, Bool, true, false, ◌⊎◌, inl, inr, List}
use Rattle.std.proofs.Common.{[], ◌∷◌, ◌++◌, length, take, refl, sym, ap, ◌∙◌, subst, arith}
use Rattle.std.specs.Prelude.{if◌then◌else◌}
use Rattle.std.proofs.lemmas.Bool.{cases_eq, cases_lt}
use Rattle.std.proofs.lemmas.List.{length-append, take_all}
use Rattle.flat_machine.specs.declared.config.Config.{Config}
use Rattle.machine_steps.specs.machine_theory.Theory as theory
use Rattle.steps.specs.Answers.{is_stalled}
use Rattle.steps.specs.declared.step.Outcome.{Outcome}
use Rattle.steps.specs.declared.step.Outcome.TheVariants.{Stalled}
use Rattle.steps.specs.declared.step.Step.{Step}
use Rattle.machine_steps.specs.machine_theory.Processors.{ObservedCore}
use Rattle.machine_steps.specs.machine_theory.Steps.{machine_of_parts}
use Rattle.machine_steps.specs.Machines.{MachineLists, machine_of}
use Rattle.machine_steps.specs.Runs.{IsReplay, all_after, answer_after}
use Rattle.machine_steps.proofs.Lemmas.{all_after_more}
use Rattle.machine_log.specs.Logs.{entered}
use Rattle.machine_log.proofs.Lemmas.{entered_moving}
use Rattle.machine_steps.specs.Standing.{HasRunning, processor_of}
use Rattle.schedules.specs.Sweeps.{EndsInFault, IsFault, IsOver, IsStop, RunsAfter, status_after}
use Rattle.steps.specs.Kinds.{is_poke}
use Rattle.schedules.proofs.Statuses.{statuses_kept}

-- ---- lists

take_front : (n : ℕ) (xs ys : List Step) → n ≤ length xs → take n (xs ++ ys) ≡ take n xs
take_front zero xs ys few = refl
take_front (suc n) [] ys few = absurd (omega (arith, few))
take_front (suc n) (x ∷ xs) ys few = ap (λ zs. x ∷ zs) (take_front n xs ys (omega (arith, few)))

same_last : (xs ys : List Step) (x y : Step) → xs ++ x ∷ [] ≡ ys ++ y ∷ [] → (xs ≡ ys) × (x ≡ y)
same_last [] [] x y e = (refl, (let same : x ≡ y = cc in same))
same_last [] (b ∷ ys) x y e = absurd (let count = ap length e in let more = length-append ys (y ∷ []) in omega (arith, count, more))
same_last (a ∷ xs) [] x y e = absurd (let count = ap length e in let more = length-append xs (x ∷ []) in omega (arith, count, more))
same_last (a ∷ xs) (b ∷ ys) x y e =
    let first : a ≡ b = cc in
    let rest : xs ++ x ∷ [] ≡ ys ++ y ∷ [] = cc in
    let r = same_last xs ys x y rest in (λ i. first i ∷ r.0 i, r.1)

take_length : (n : ℕ) (xs : List Step) → n ≤ length xs → length (take n xs) ≡ n
take_length zero xs few = refl
take_length (suc n) [] few = absurd (omega (arith, few))
take_length (suc n) (x ∷ xs) few = let r = take_length n xs (omega (arith, few)) in ap suc r

-- ---- the machine, and what the definition says about it

module _ (opening m : MachineLists) (steps : List Step) (r : IsReplay opening steps m) where
  status_is : (p : ℕ) → (processor_of m p).status ≡ status_after opening steps p
  unfolding machine_of_parts
  status_is p = ap (λ (M : theory.Machine ObservedCore). (M.core p).state.status) (r.run.after (λ q. []))

  -- If a processor of the machine runs that the steps leave, one runs after the steps.
  pub runs_after : HasRunning m → RunsAfter opening steps
  runs_after (p, within, runs) = (p, subst (λ (k : ℕ). p < 2 ^ k) (ap (λ (c : Config). c.k) r.run.config) within, sym (status_is p) ∙ runs)

  -- If a processor runs after the steps, one of the machine runs that they leave.
  pub has_running : RunsAfter opening steps → HasRunning m
  has_running (p, within, runs) = (p, subst (λ (k : ℕ). p < 2 ^ k) (sym (ap (λ (c : Config). c.k) r.run.config)) within, status_is p ∙ runs)

-- ---- one more step

-- If a processor runs, a step that stops none leaves one running.
pub runs_on : (m : MachineLists) (done : List Step) (s : Step) → is_poke s ≡ false → (IsStop (answer_after m done s) → ⊥) → RunsAfter m done →
    RunsAfter m (entered done s (answer_after m done s))
runs_on m done s own plain (p, within, runs) = by (is_stalled (answer_after m done s))
  where
    by : (b : Bool) → RunsAfter m (if b then done else done ++ s ∷ [])
    by true = (p, within, runs)
    by false =
        let M : theory.Machine ObservedCore = all_after m.config m.code (machine_of m (λ q. [])) done in (
          p,
          within,
          ap (λ (N : theory.Machine ObservedCore). (N.core p).state.status) (all_after_more m.config m.code (machine_of m (λ q. [])) done s)
              ∙ statuses_kept m.config m.code M s own plain p ∙ runs,
        )

module _ (m : MachineLists) (start : ℕ) where
  -- The sweep is not over after these steps: a processor runs, and the last step was not a fault.
  pub record IsUnder (steps : List Step) : Type 0 where
    -- A processor runs.
    pub running : RunsAfter m steps
    -- The sweep's last step is not one in which a fault stopped a processor.
    pub sound : EndsInFault m start steps → ⊥

  -- If a processor runs and the sweep's last step was not a fault, the sweep is not over.
  pub not_over : (steps : List Step) → IsUnder steps → IsOver m start steps → ⊥
  not_over steps u (inl fault) = u.sound fault
  not_over steps u (inr none) = none u.running

  -- A sweep without a step of its own has not ended in a fault.
  pub none_faulted : (steps : List Step) → length steps ≤ start → EndsInFault m start steps → ⊥
  none_faulted steps short f =
      let count = ap length f.is in
      let more = length-append f.before (f.last ∷ []) in
      let behind = f.after in omega (arith, count, more, behind, short)

  -- After one more step that is not a fault, the sweep has not ended in a fault.
  pub sound_on : (done : List Step) (s : Step) → (IsFault (answer_after m done s) → ⊥) → (EndsInFault m start done → ⊥) →
      EndsInFault m start (entered done s (answer_after m done s)) → ⊥
  sound_on done s plain before = by (is_stalled (answer_after m done s))
    where
      by : (b : Bool) → EndsInFault m start (if b then done else done ++ s ∷ []) → ⊥
      by true f = before f
      by false f =
          let same = same_last done f.before s f.last f.is in
          plain (subst IsFault (λ i. answer_after m (sym same.0 i) (sym same.1 i)) f.fault)

  -- After one more step that is a fault, the sweep has ended in a fault.
  pub ends_in : (done : List Step) (s : Step) → start ≤ length done → IsFault (answer_after m done s) →
      EndsInFault m start (entered done s (answer_after m done s))
  ends_in done s behind fault = record {
    before = done;
    last = s;
    is = entered_moving done s (answer_after m done s) (no_stall (answer_after m done s) fault);
    after = behind;
    fault = fault;
  }
    where
      no_stall : (o : Outcome) → IsFault o → o ≡ Stalled → ⊥
      no_stall o is e = absurd (subst IsFault e is)

  -- The sweep is over after no proper beginning of the steps with at least `start` of them.
  abbrev pub IsFirst : List Step → Type 0
  IsFirst steps = (place : ℕ) → start ≤ place → place < length steps → IsOver m start (take place steps) → ⊥

  -- A sweep without a step of its own was over at no place before.
  pub first_begins : (steps : List Step) → length steps ≤ start → IsFirst steps
  first_begins steps short place from inside = absurd (omega (arith, short, from, inside))

  -- If the sweep is not over and was over at no place before, it was over at none before the end of one more step.
  pub first_on : (done : List Step) (s : Step) (o : Outcome) → IsFirst done → IsUnder done → IsFirst (entered done s o)
  first_on done s o before under = by (is_stalled o)
    where
      entered_first : (place : ℕ) → start ≤ place → place < length (done ++ s ∷ []) → IsOver m start (take place (done ++ s ∷ [])) →
          (place < length done) ⊎ (length done ≤ place) → ⊥
      entered_first place from inside over (inl less) =
          before place from less (subst (IsOver m start) (take_front place done (s ∷ []) (omega (arith, less))) over)
      entered_first place from inside over (inr past) =
          let count = length-append done (s ∷ []) in
          let last : place ≡ length done = omega (arith, past, inside, count) in
          not_over done under
          (subst (IsOver m start) (ap (λ n. take n (done ++ s ∷ [])) last ∙ take_front (length done) done (s ∷ []) (omega arith)
          ∙ take_all (length done) done (omega arith)) over)

      by : (b : Bool) → IsFirst (if b then done else done ++ s ∷ [])
      by true = before
      by false = λ place from inside over. entered_first place from inside over (cases_lt place (length done))

-- ---- parts of a sweep

-- A sweep that is over is also over if it began earlier.
pub over_sooner : (m : MachineLists) (start mid : ℕ) (steps : List Step) → start ≤ mid → IsOver m mid steps → IsOver m start steps
over_sooner m start mid steps less (inl f) =
    inl (record { before = f.before; last = f.last; is = f.is; after = (let behind = f.after in omega (arith, behind, less)); fault = f.fault })
over_sooner m start mid steps less (inr none) = inr none

-- A sweep that is over is also over if it began later, but has a step of its own.
over_later : (m : MachineLists) (start mid : ℕ) (steps : List Step) → mid < length steps → IsOver m start steps → IsOver m mid steps
over_later m start mid steps more (inl f) =
    inl (record {
      before = f.before;
      last = f.last;
      is = f.is;
      after = (let count = ap length f.is in let one = length-append f.before (f.last ∷ []) in omega (arith, count, one, more));
      fault = f.fault;
    })
over_later m start mid steps more (inr none) = inr none

-- If a sweep is over nowhere within one part, nor at its end, nor within the next part, it is over nowhere within both.
pub first_joined : (m : MachineLists) (start : ℕ) (middle rest : List Step) → start ≤ length middle → IsFirst m start middle → IsUnder m start middle →
    IsFirst m (length middle) (middle ++ rest) → IsFirst m start (middle ++ rest)
first_joined m start middle rest less one under other place from inside over = by (cases_lt place (length middle)) (cases_eq place (length middle))
  where
    by : (place < length middle) ⊎ (length middle ≤ place) → (place ≡ length middle) ⊎ (place ≡ length middle → ⊥) → ⊥
    by (inl before) either = one place from before (subst (IsOver m start) (take_front place middle rest (omega (arith, before))) over)
    by (inr behind) (inl same) =
        not_over m start middle under
        (subst (IsOver m start) (ap (λ n. take n (middle ++ rest)) same ∙ take_front (length middle) middle rest (omega arith)
        ∙ take_all (length middle) middle (omega arith)) over)
    by (inr behind) (inr later) =
        let long = take_length place (middle ++ rest) (omega (arith, inside)) in
        other place behind inside (over_later m start (length middle) (take place (middle ++ rest)) (omega (arith, long, behind, later)) over)
