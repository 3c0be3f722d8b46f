-- A round in which each step stalls is quiet as a whole.
use Rattle.std.proofs.Common.{◌≡◌, ℕ, ◌^◌, ◌<◌, ◌≤◌, ◌⊎◌, inl, inr, [], ◌∷◌, ◌++◌, length, Some, sym, ap, ◌∙◌, subst, arith}
use Rattle.std.specs.Prelude.{slice_get}
use Rattle.std.proofs.lemmas.Bool.{cases_lt}
use Rattle.std.proofs.lemmas.List.{length-append}
use Rattle.flat_machine.specs.declared.config.Config.{Config}
use Rattle.machine_steps.specs.machine_theory.Theory as theory
use Rattle.steps.specs.declared.step.Step.{Step}
use Rattle.steps.specs.declared.step.Outcome.{Outcome}
use Rattle.steps.specs.declared.step.Outcome.TheVariants.{Stalled}
use Rattle.machine_steps.specs.machine_theory.Processors.{ObservedCore}
use Rattle.machine_steps.specs.machine_theory.Steps.{machine_of_parts, outcome_of}
use Rattle.machine_steps.specs.Machines.{IsMachine, MachineLists, machine_of}
use Rattle.machine_log.specs.Logs.{HasTaken, Log, entered}
use Rattle.schedules.specs.Rounds.{round}
use Rattle.schedules.specs.Skips.{AreQuiet, IsNext, IsQuiet}
use Rattle.machine_steps.specs.Standing.{HasRunning}
use Rattle.debug_session.proofs.Stepping.{entered_either}

-- The round has logged a step; or all steps asked for so far stall, and a processor runs.
abbrev pub HasMoved : (count : ℕ) → (place : ℕ) → Log → Type 0
HasMoved count place l = (count < length l.steps) ⊎ ((length l.steps ≡ count) × HasRunning l.machine × AreQuiet l.machine 0 place)

module _ (l new : Log) (s : Step) (o : Outcome) (taken : HasTaken l s o new) (stalled : o ≡ Stalled) where
  machine_is : machine_of new.machine (λ p. []) ≡ machine_of l.machine (λ p. [])
  machine_is = taken.stalled stalled (λ p. [])

  size : new.machine.config.k ≡ l.machine.config.k
  size = ap (λ (c : Config). c.k) taken.step.config

  still_quiet : (place : ℕ) → IsQuiet l.machine place → IsQuiet new.machine place
  still_quiet place quiet t there =
      (λ i. outcome_of (taken.step.config i) (taken.step.code i) (machine_is i) t) ∙ quiet t (subst (λ k. slice_get (round k) place ≡ Some t) size there)

  still_running : HasRunning l.machine → HasRunning new.machine
  unfolding machine_of_parts
  still_running (p, within, runs) = (
    p,
    subst (λ (k : ℕ). p < 2 ^ k) (sym size) within,
    ap (λ (M : theory.Machine ObservedCore). (M.core p).state.status) machine_is ∙ runs,
  )

  -- The step itself is quiet.
  quiet_now : (place : ℕ) → slice_get (round l.machine.config.k) place ≡ Some s → IsQuiet l.machine place
  quiet_now place there t also =
      let same : t ≡ s = (let both = sym also ∙ there in cc) in
      ap (outcome_of l.machine.config l.machine.code (machine_of l.machine (λ p. []))) same ∙ sym taken.step.step.outcome ∙ stalled

  stays_quiet : (behind behind' : ℕ) → IsNext l.machine behind s behind' → AreQuiet l.machine 0 behind → AreQuiet new.machine 0 behind'
  stays_quiet behind behind' n before place from to = still_quiet place (by (cases_lt place behind) (cases_lt place n.place))
    where
      by : (place < behind) ⊎ (behind ≤ place) → (place < n.place) ⊎ (n.place ≤ place) → IsQuiet l.machine place
      by (inl less) either = before place from less
      by (inr more) (inl less) = n.quiet place more less
      by (inr more) (inr here) =
          let next = n.next in
          let same : n.place ≡ place =
          omega (arith, next, here, to) in quiet_now place (subst (λ i. slice_get (round l.machine.config.k) i ≡ Some s) same n.there)

-- After one more step, the round has logged a step, or all steps asked for so far stall.
pub moved_more : (count behind behind' : ℕ) (l new : Log) (s : Step) (o : Outcome) → HasTaken l s o new → IsNext l.machine behind s behind' →
    HasMoved count behind l → HasMoved count behind' new
moved_more count behind behind' l new s o taken next so_far = by (entered_either l.steps s o) so_far
  where
    by : ((o ≡ Stalled) × (entered l.steps s o ≡ l.steps)) ⊎ (entered l.steps s o ≡ l.steps ++ s ∷ []) → HasMoved count behind l → HasMoved count behind' new
    by (inl (stalled, same)) (inl more) = inl (let is = ap length (taken.steps ∙ same) in omega (arith, is, more))
    by (inl (stalled, same)) (inr (is, runs, quiet)) =
        inr (ap length (taken.steps ∙ same) ∙ is, still_running l new s o taken stalled runs, stays_quiet l new s o taken stalled behind behind' next quiet)
    by (inr one) (inl more) = inl (let is = ap length (taken.steps ∙ one) in let plus = length-append l.steps (s ∷ []) in omega (arith, is, plus, more))
    by (inr one) (inr (is, runs, quiet)) =
        inl (let now = ap length (taken.steps ∙ one) in let plus = length-append l.steps (s ∷ []) in omega (arith, now, plus, is))

-- If the round is quiet up to a place and from it on, it is quiet as a whole.
all_quiet : (m : MachineLists) (place : ℕ) → AreQuiet m 0 place → AreQuiet m place (length (round m.config.k)) → AreQuiet m 0 (length (round m.config.k))
all_quiet m place front rest i from to = by (cases_lt i place)
  where
    by : (i < place) ⊎ (place ≤ i) → IsQuiet m i
    by (inl less) = front i from less
    by (inr more) = rest i more to

-- At its end, a round has logged a step, since no round is quiet while a processor runs.
pub some_moved : (count place : ℕ) (l : Log) → ((m : MachineLists) → IsMachine m → HasRunning m → AreQuiet m 0 (length (round m.config.k)) → ⊥) →
    IsMachine l.machine → AreQuiet l.machine place (length (round l.machine.config.k)) → HasMoved count place l → count < length l.steps
some_moved count place l law is rest (inl more) = more
some_moved count place l law is rest (inr (same, runs, quiet)) = absurd (law l.machine is runs (all_quiet l.machine place quiet rest))
