-- If there is no machine, there is no run.
use Rattle.std.proofs.Common.{◌≡◌, ℕ, Bool, subst}
use Rattle.flat_machine.specs.declared.config.Config.{Config}
use Rattle.elf_image.specs.Files.{IsImageOf}
use Rattle.elf_image.specs.Images.{ImageContents}
use Rattle.command_io.specs.declared.fault.Fault.{Fault}
use Rattle.command_io.specs.declared.fault.Fault.TheVariants as fault
use Rattle.command_io.specs.Files.{IsFaultOfSize}
use Rattle.command_io.specs.Links.{Input}
use Rattle.run_command.specs.SweepRuns.{FailsBefore, RunFailsWithin, sweep_run}
use Rattle.run_command.specs.ThreadRuns.{IsNotThreaded, threaded_run}

module _ (c : Config) (file : Input) (image : ImageContents) (meant : IsImageOf c.shared_words file.bytes image) where
  -- There is no run by the sweep, for the same fault.
  pub not_run : (most budget : ℕ) (f : Fault) → IsFaultOfSize c f → RunFailsWithin most (sweep_run c budget file) f
  not_run most budget fault.Size p = ((image, meant), p)
  not_run most budget fault.Memory p = tt
  not_run most budget (fault.Image e) p = absurd p
  not_run most budget (fault.Line n) p = absurd p
  not_run most budget (fault.Text e) p = absurd p
  not_run most budget fault.NotUtf8 p = absurd p
  not_run most budget (fault.Trace e) p = absurd p
  not_run most budget (fault.Stalled n) p = absurd p
  not_run most budget fault.Budget p = absurd p
  not_run most budget fault.Full p = absurd p
  not_run most budget fault.Loan p = absurd p
  not_run most budget fault.Start p = absurd p
  not_run most budget fault.States p = absurd p
  not_run most budget fault.Alone p = absurd p
  not_run most budget fault.Link p = absurd p

  -- The fault is not that of the budget.
  pub not_spent : (f : Fault) → IsFaultOfSize c f → f ≡ fault.Budget → ⊥
  not_spent f p e = subst (IsFaultOfSize c) e p

  -- So there is no report, whether an unfinished run is reported or not.
  pub fails_before : (both : Bool) (most budget : ℕ) (f : Fault) → IsFaultOfSize c f → FailsBefore both most (sweep_run c budget file) f
  fails_before both most budget f p = record { cause = not_run most budget f p; budget = λ e. absurd (not_spent f p e) }

  -- There is no run on threads, for the same fault.
  pub not_on_threads : (f : Fault) → IsFaultOfSize c f → IsNotThreaded (threaded_run c file) f
  not_on_threads fault.Size p = ((image, meant), p)
  not_on_threads fault.Memory p = tt
  not_on_threads (fault.Image e) p = absurd p
  not_on_threads (fault.Line n) p = absurd p
  not_on_threads (fault.Text e) p = absurd p
  not_on_threads fault.NotUtf8 p = absurd p
  not_on_threads (fault.Trace e) p = absurd p
  not_on_threads (fault.Stalled n) p = absurd p
  not_on_threads fault.Budget p = absurd p
  not_on_threads fault.Full p = absurd p
  not_on_threads fault.Loan p = absurd p
  not_on_threads fault.Start p = absurd p
  not_on_threads fault.States p = absurd p
  not_on_threads fault.Alone p = absurd p
  not_on_threads fault.Link p = absurd p
