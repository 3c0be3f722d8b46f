-- A machine that counts its steps, and what its processors show in them.
use Rattle.std.proofs.Common.{◌≡◌, ℕ, zero, suc, ◌+◌, ◌*◌, ◌^◌, ◌<◌, ◌≤◌, true, false, List, [], ◌∷◌, ◌++◌, length, Option, Some, None}
use Rattle.std.proofs.Common.{refl, sym, ap, ◌∙◌, subst, arith}
use Rattle.std.specs.Prelude.{Err, IfOk, Ok, Result, replicate, if◌then◌else◌}
use Rattle.std.specs.Result.{result_ok}
use Rattle.std.proofs.lemmas.Bool.{true≢false}
use Rattle.std.proofs.lemmas.List.{length-append}
use Rattle.flat_machine.specs.declared.config.Config.{Config}
use Rattle.flat_machine.specs.declared.event.Event.{Event}
use Rattle.machine_steps.specs.steps.Answers.{is_stalled}
use Rattle.machine_steps.specs.steps.declared.step.Outcome.{Outcome}
use Rattle.machine_steps.specs.steps.declared.step.Outcome.TheVariants.{Stalled}
use Rattle.machine_steps.specs.steps.declared.step.Step.{Step}
use Rattle.machine_steps.specs.Draining.{drain_bound}
use Rattle.machine_steps.specs.Machines.{MachineLists, machine_of, IsStep}
use Rattle.machine_steps.proofs.Lemmas.{replay_begins}
use Rattle.machine_log.specs.Logs.{Log, HasTaken, entered}
use Rattle.machine_log.proofs.Lemmas.{entered_moving}
use Rattle.command_io.specs.Tallies.{TallyState, nothing_shown}
use Rattle.run_reports.specs.CountedReplays.{HasRoom, IsTallied}
use Rattle.run_reports.specs.InMemory.{IsReplayInMemory}
use Rattle.run_reports.proofs.Lemmas.{all_replayed, was_made}
use Rattle.run_command.specs.CountedMachines.{CountedModel, HasNoted, IsCountedLog}

-- ---- the tally

-- A new tally has noted no step.
pub noted_none : {E : Type 0} (r : Result TallyState E) (o : Option TallyState) (begun : TallyState) → o ≡ result_ok r → IfOk r (λ t. t ≡ begun) →
    begun.observed ≡ 0 → HasNoted o 0
noted_none (Ok t) o begun made is none = subst (λ x. HasNoted x 0) (sym made) (ap (λ (s : TallyState). s.observed) is ∙ none)
noted_none (Err e) o begun made is none = subst (λ x. HasNoted x 0) (sym made) tt

-- A new tally has what a machine shows in no steps.
pub counted_none : {E : Type 0} (m : MachineLists) (r : Result TallyState E) (o : Option TallyState) (processors : ℕ) → o ≡ result_ok r →
    IfOk r (λ t. t ≡ record { shown = replicate processors nothing_shown; observed = 0 }) → processors ≡ 2 ^ m.config.k → IsReplayInMemory m [] m o
counted_none m r o processors made begins size = record {
  replay = replay_begins m;
  counted = λ t there.
      all_replayed m m [] t t
      (was_made r o t (record { shown = replicate processors nothing_shown; observed = 0 }) made there begins
      ∙ ap (λ n. record { shown = replicate n nothing_shown; observed = 0 }) size) (replay_begins m) refl;
}

-- After one more step the tally has noted one more.
pub noted_on : (old new : Option TallyState) (s : Step) (o : Outcome) (count : ℕ) → IsTallied old s o new → HasNoted old count → HasNoted new (count + 1)
noted_on old None s o count noted before = tt
noted_on None (Some t) s o count noted before = absurd noted
noted_on (Some t) (Some t') s o count noted before = ap (λ (x : TallyState). x.observed) noted ∙ ap (λ n. n + 1) before

-- A tally of few steps has room for one more.
pub one_fits : (tally : Option TallyState) (count : ℕ) → HasNoted tally count → count < 4000000000 → HasRoom tally 1
one_fits None count noted few = tt
one_fits (Some t) count noted few = omega (arith, noted, few)

-- A drain is short.
few_moves : (k : ℕ) → k ≤ 6 → 2 ^ k * (2 * k + 2) ≤ 896
few_moves zero few = omega arith
few_moves (suc zero) few = omega arith
few_moves (suc (suc zero)) few = omega arith
few_moves (suc (suc (suc zero))) few = omega arith
few_moves (suc (suc (suc (suc zero)))) few = omega arith
few_moves (suc (suc (suc (suc (suc zero))))) few = omega arith
few_moves (suc (suc (suc (suc (suc (suc zero)))))) few = omega arith
few_moves (suc (suc (suc (suc (suc (suc (suc n))))))) few = absurd (omega (arith, few))

-- A tally of few steps has room for those of a drain.
pub drain_fits : (c : Config) (tally : Option TallyState) (count : ℕ) → c.k ≤ 6 → HasNoted tally count → count ≤ 4000000000 → HasRoom tally (drain_bound c)
drain_fits c None count stages noted few = tt
drain_fits c (Some t) count stages noted few = let short = few_moves c.k stages in omega (arith, noted, few, short)

-- ---- a step

module _ (old : CountedModel) (m : MachineLists) (tally : Option TallyState) (s : Step) (o : Outcome) (step : IsStep old.machine s o m)
    (stalled : o ≡ Stalled → (shown : ℕ → List Event) → machine_of m shown ≡ machine_of old.machine shown)
    (counted : (opening : MachineLists) (steps : List Step) → IsReplayInMemory opening steps old.machine old.tally →
    IsReplayInMemory opening (entered steps s o) m tally) where
  -- the log after the step
  abbrev pub after : Log → Log
  after log = record { opening = log.opening; steps = entered log.steps s o; machine = m }

  -- A log of the machine before has taken the step.
  pub has_taken : (log : Log) → IsCountedLog old log → HasTaken log s o (after log)
  has_taken log is = record {
    opening = refl;
    step = subst (λ (x : MachineLists). IsStep x s o m) (sym is.machine) step;
    steps = refl;
    stalled = λ e shown. stalled e shown ∙ ap (λ (x : MachineLists). machine_of x shown) (sym is.machine);
  }

  -- Then it is a log of the machine after it, if the machine has counted the step.
  pub is_after : (count : ℕ) (log : Log) → IsCountedLog old log → length (entered log.steps s o) ≡ count →
      IsCountedLog (record { opening = old.opening; machine = m; count = count; tally = tally }) (after log)
  is_after count log is many = record {
    opening = is.opening;
    machine = refl;
    count = many;
    counted = counted log.opening log.steps (subst (λ (x : MachineLists). IsReplayInMemory log.opening log.steps x old.tally) is.machine is.counted);
  }

-- A step that does something is one more.
pub one_more : (steps : List Step) (s : Step) (o : Outcome) (count : ℕ) → is_stalled o ≡ false → length steps ≡ count →
    length (entered steps s o) ≡ count + 1
one_more steps s o count moves is =
    ap length (entered_moving steps s o (λ e. true≢false (sym (ap is_stalled e) ∙ moves))) ∙ length-append steps (s ∷ []) ∙ ap (λ n. n + 1) is

-- A step that stalls is none.
pub no_more : (steps : List Step) (s : Step) (o : Outcome) (count : ℕ) → is_stalled o ≡ true → length steps ≡ count → length (entered steps s o) ≡ count
no_more steps s o count stalls is = ap (λ b. length (if b then steps else steps ++ s ∷ [])) stalls ∙ is

-- An outcome that is not stalled is not `Stalled`.
pub moving_is : (o : Outcome) → is_stalled o ≡ false → o ≡ Stalled → ⊥
moving_is o moves e = true≢false (sym (ap is_stalled e) ∙ moves)
