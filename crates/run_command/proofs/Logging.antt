-- The log of a run on threads, and why there may be none.
use Rattle.std.proofs.Common.{◌≡◌, ℕ, List, [], Option, None, Some, ◌∙◌, ap, refl, sym, subst}
use Rattle.std.specs.Prelude.{IfSome}
use Rattle.flat_machine.specs.declared.config.Config.{Config}
use Rattle.flat_machine.specs.Limits.{IsWithinLimits}
use Rattle.elf_image.specs.Files.{IsImageOf}
use Rattle.elf_image.specs.Images.{ImageContents}
use Rattle.schedules.specs.trace_file.Traces.{HaveRecords}
use Rattle.machine_steps.specs.Machines.{MachineLists}
use Rattle.machine_steps.specs.Runs.{IsOpening}
use Rattle.machine_log.specs.Logs.{Log}
use Rattle.command_io.specs.declared.fault.Fault.{Fault}
use Rattle.command_io.specs.declared.fault.Fault.TheVariants as fault
use Rattle.run_reports.proofs.Lemmas.{is_spelled}
use Rattle.command_io.specs.Links.{Input}
use Rattle.run_command.specs.Faults.{IsOfRun}
use Rattle.run_command.specs.ThreadRuns.{HasBegun, HasEnded, IsDrainedAfter, IsNotThreaded, IsThreaded, IsThreadsLog, IsUnfinished, ThreadedRun}
use Rattle.run_command.specs.ThreadRuns.{threaded_run}
use Rattle.schedules.specs.Sweeps.{entered_of}
use Rattle.schedules.proofs.Lemmas.{drained_has_records}
use Rattle.schedules.proofs.Lemmas.trace_file.{have_records}

module _ (run : ThreadedRun) (image : ImageContents) (log : Log) (consoles : List (List ℕ)) (is : IsThreaded run image log consoles) where
  -- The opening of the log of a run on threads is a machine that opens on the image.
  pub log_opens : IsOpening run.config image log.opening
  log_opens = subst (IsOpening run.config image) (sym is.ended.opening_is) is.opens

-- If a run has ended on a machine that opens on the image, it is a run of the image, and a trace file can spell its
-- steps.
pub threaded_is : (c : Config) (file : Input) (image : ImageContents) (meant : IsImageOf c.shared_words file.bytes image) (opening : MachineLists)
    (opens : IsOpening c image opening) (log : Log) (consoles : List (List ℕ)) → HasEnded opening log consoles →
    IsThreaded (threaded_run c file) image log consoles
threaded_is c file image meant opening opens log consoles ended =
    let opening_config : log.opening.config ≡ c = ap (λ (m : MachineLists). m.config) ended.opening_is ∙ opens.config in
    let limits : IsWithinLimits c = subst IsWithinLimits (ended.kept.replay.run.config ∙ opening_config) ended.kept.sound.limits in
    record {
      meant = meant;
      opening = opening;
      opens = opens;
      ended = ended;
      trace =
          is_spelled c log.steps limits ended.kept.room
          (subst (λ (d : Config). HaveRecords d.k log.steps) opening_config
          (have_records log.opening.config.k log.steps ended.no_pokes ended.named));
    }

-- What holds of a value that there may be implies what is implied for each value.
pub some_weaker : {T : Type 0} (o : Option T) (P Q : T → Type 0) → ((x : T) → P x → Q x) → IfSome o P → IfSome o Q
some_weaker None P Q f h = tt
some_weaker (Some x) P Q f h = f x h

-- The opening of the log of an unfinished run is a machine that opens on the image.
pub unfinished_opens : (run : ThreadedRun) (image : ImageContents) (log : Log) → IsUnfinished run image log → IsOpening run.config image log.opening
unfinished_opens run image log is =
    subst (IsOpening run.config image) (sym (is.drained.opening ∙ is.taken.steps_are.opening_is)) is.taken.opens

-- If threads have taken the steps of a log, and it is then drained, it is the log of an unfinished run.
pub unfinished_is : (run : ThreadedRun) (image : ImageContents) (before log : Log) → IsThreadsLog run image before → IsDrainedAfter before log →
    IsUnfinished run image log
unfolding entered_of
unfinished_is run image before log taken drained =
    let by = taken.steps_are in
    let size : before.machine.config ≡ before.opening.config = by.kept.replay.run.config in
    let opening_config : before.opening.config ≡ run.config = ap (λ (m : MachineLists). m.config) by.opening_is ∙ taken.opens.config in
    let config_is : log.machine.config ≡ run.config =
    drained.kept.replay.run.config ∙ ap (λ (m : MachineLists). m.config) drained.opening ∙ opening_config in
    let here : HaveRecords before.machine.config.k before.steps =
    subst (λ (d : Config). HaveRecords d.k before.steps) (sym size)
    (have_records before.opening.config.k before.steps by.no_pokes by.named) in
    record {
      before = before;
      taken = taken;
      drained = drained;
      trace =
          is_spelled run.config log.steps (subst IsWithinLimits config_is drained.kept.sound.limits) drained.kept.room
          (subst (λ (d : Config). HaveRecords d.k log.steps) config_is
          (drained_has_records before before log [] refl refl drained.opening drained.steps drained.kept.replay size here));
    }

-- Threads have begun on a machine that opens on the image.
pub has_begun : (run : ThreadedRun) (image : ImageContents) (log : Log) → IsThreadsLog run image log → HasBegun run
has_begun run image log taken = record { image = image; meant = taken.meant; opening = taken.opening; opens = taken.opens }

-- If a run ends with a fault, there is no run, for the same fault.
pub not_threaded : (run : ThreadedRun) → HasBegun run → (f : Fault) → IsOfRun f → IsNotThreaded run f
not_threaded run begun fault.Memory is = tt
not_threaded run begun fault.Full is = begun
not_threaded run begun fault.Loan is = begun
not_threaded run begun fault.Budget is = absurd is
not_threaded run begun fault.Start is = begun
not_threaded run begun (fault.Image e) is = absurd is
not_threaded run begun (fault.Line n) is = absurd is
not_threaded run begun (fault.Text e) is = absurd is
not_threaded run begun fault.NotUtf8 is = absurd is
not_threaded run begun (fault.Trace e) is = absurd is
not_threaded run begun fault.Size is = absurd is
not_threaded run begun fault.States is = absurd is
not_threaded run begun fault.Alone is = absurd is
not_threaded run begun (fault.Stalled n) is = absurd is
not_threaded run begun fault.Link is = absurd is
