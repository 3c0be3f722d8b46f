-- The log of a run from its machine's opening on, and the run's result.
use Rattle.std.proofs.Common.{◌≡◌, ℕ, ◌+◌, ◌^◌, Bool, Option, List, ◌++◌, length, ◌∙◌, ap, sym, refl, subst, arith}
use Rattle.std.specs.Prelude.{replicate}
use Rattle.flat_machine.specs.declared.config.Config.{Config}
use Rattle.flat_machine.specs.Limits.{IsWithinLimits}
use Rattle.elf_image.specs.Images.{ImageContents}
use Rattle.trace_file.specs.Traces.{HaveRecords}
use Rattle.run_reports.specs.CountedReplays.{IsReplayCounted}
use Rattle.run_reports.proofs.Lemmas.{StepObserver, all_replayed, is_spelled}
use Rattle.machine_steps.specs.Draining.{drain_steps}
use Rattle.machine_steps.specs.Machines.{MachineLists}
use Rattle.machine_steps.specs.Noting.{AreNoted}
use Rattle.machine_steps.specs.Runs.{IsOpening}
use Rattle.machine_log.specs.Logs.{IsWellFormed, Log}
use Rattle.schedules.specs.Sweeps.{opened, most_of}
use Rattle.schedules.specs.declared.sweeping.SweepEnd.{SweepEnd}
use Rattle.command_io.specs.Tallies.{TallyState, nothing_shown}
use Rattle.hunt_command.specs.declared.policy.Policy.{Policy}
use Rattle.hunt_command.specs.Runs.{HasRunAtRandom, WasAsked}
use Rattle.random_schedules.specs.Schedules.{schedule}
use Rattle.hunt_command.specs.Hunts.{IsDrainedTo, IsLogOf, IsResultOf}

module _ (c : Config) (policy : Policy) (number : ℕ) (image : ImageContents) (m : MachineLists) (opens : IsOpening c image m)
    (old log : Log) (starts : old ≡ opened m)
    (kept : IsWellFormed log) (end : SweepEnd) (ran : HasRunAtRandom number policy old end log)
    (records : HaveRecords old.machine.config.k old.steps → HaveRecords log.machine.config.k log.steps) where
  opening_is : log.opening ≡ m
  opening_is = ran.opening ∙ ap (λ (l : Log). l.opening) starts

  config_is : log.machine.config ≡ c
  config_is = kept.replay.run.config ∙ ap (λ (n : MachineLists). n.config) opening_is ∙ opens.config

  -- A log that has run by a schedule from the machine's opening on is that of the run with this number.
  pub log_of : IsLogOf c image policy number end log
  log_of = record {
    ran = record {
      opens = subst (IsOpening c image) (sym opening_is) opens;
      replay = kept.replay;
      ran = subst (λ (l : Log). HasRunAtRandom number policy l end log) (starts ∙ ap opened (sym opening_is)) ran;
    };
    trace =
        is_spelled c log.steps (subst IsWithinLimits config_is kept.sound.limits) kept.room
        (subst (λ (d : Config). HaveRecords d.k log.steps) config_is
        (records (subst (λ (l : Log). HaveRecords l.machine.config.k l.steps) (sym starts) (λ p d inside. absurd (omega (arith, inside))))));
  }

-- The result to which the drain leads after the steps of a schedule is the result of the run.
pub result_of_drain : (observed : Option (List Bool)) (c : Config) (image : ImageContents) (policy : Policy) (number : ℕ) (m : MachineLists) (old log : Log)
    (end : SweepEnd) (text printed : List ℕ) (status : ℕ) →
    IsOpening c image m → old ≡ opened m → WasAsked (schedule policy.strategy old.machine.config.k number (most_of policy.budget))
    (length old.steps + most_of policy.budget) old end log →
    IsDrainedTo observed log.opening log.steps log.machine end text printed status →
    IsResultOf observed c image policy number (record { text = text; printed = printed; end = end; status = status })
result_of_drain observed c image policy number m old log end text printed status opens starts asked d =
    let is : log.opening ≡ m = asked.opening ∙ ap (λ (l : Log). l.opening) starts in
    let at_first : IsOpening c image log.opening = subst (IsOpening c image) (sym is) opens in
    let new : Log = record { opening = log.opening; steps = log.steps ++ drain_steps log.machine; machine = d.machine } in
    let ran : HasRunAtRandom number policy old end new =
    record { middle = log; asked = asked; opening = asked.opening; steps = refl; idle = d.idle } in
    record {
      log = new;
      ran = record {
        opens = at_first;
        replay = d.replay_counted.replay;
        ran = subst (λ (l : Log). HasRunAtRandom number policy l end new) (starts ∙ ap opened (sym is)) ran;
      };
      opening = log.opening;
      opens = at_first;
      machine = d.machine;
      tally = d.tally;
      replay_counted = d.replay_counted;
      is = d.is;
      printed_is = d.printed_is;
      exit = d.exit;
    }

-- A tally that has noted the steps of a well-formed log since its opening has what the processors show in them.
pub log_retaken : (m : MachineLists) (old log : Log) (t t' : TallyState) → old ≡ opened m → IsWellFormed log → log.opening ≡ old.opening →
    t ≡ record { shown = replicate (2 ^ m.config.k) nothing_shown; observed = 0 } → AreNoted StepObserver old.opening log.steps t t' →
    IsReplayCounted log.opening log.steps log.machine t'
log_retaken m old log t t' starts kept same begins noted =
    let is : log.opening ≡ m = same ∙ ap (λ (l : Log). l.opening) starts in
    all_replayed log.opening log.machine log.steps t t'
    (begins ∙ ap (λ (n : MachineLists). record { shown = replicate (2 ^ n.config.k) nothing_shown; observed = 0 }) (sym is)) kept.replay
    (subst (λ n. AreNoted StepObserver n log.steps t t') (sym same) noted)
