-- How a command ends if the budget of a run is used up.
use Rattle.std.proofs.Common.{◌≡◌, ◌↔◌, ◌⊎◌, ◌∙◌, inl, inr, Bool, true, false, true≢false, Result, Ok, Err, ap, refl, sym, subst}
use Rattle.std.specs.Prelude.{IfErr, OnErr}
use Rattle.flat_machine.specs.declared.config.Config.{Config}
use Rattle.elf_image.specs.Images.{ImageContents}
use Rattle.machine_steps.specs.Runs.{IsOpening, IsReplay}
use Rattle.machine_log.specs.Logs.{Log}
use Rattle.command_io.specs.declared.fault.Fault.{Fault}
use Rattle.command_io.specs.declared.fault.Fault.TheVariants as fault
use Rattle.command_io.specs.Links.{Output}
use Rattle.run_reports.specs.Causes.{LogReportFails, RunFails}
use Rattle.run_reports.specs.RunReports.{AskedRun, TraceOutput}
use Rattle.run_reports.proofs.Lemmas.{no_run, run_printed}
use Rattle.run_command.specs.UnfinishedRuns.{AskedRuns, EndsInFault, IsSilentBut, PrintsUnfinished, RunsEndIn, UnfinishedLogEnds}
use Rattle.run_command.specs.UnfinishedRuns.{is_reported}
use Rattle.schedules.specs.declared.sweeping.SweepEnd.{SweepEnd}
use Rattle.schedules.specs.declared.sweeping.SweepEnd.TheVariants.{Budget, Over}

-- If a run that is over is not reported, for this fault, the command ends with the fault. If an unfinished run is reported,
-- too, the fault is not that of the budget.
pub ends : {T : Type 0} (over unfinished : AskedRun) (trace : TraceOutput T) (out : Output) (both : Bool) (f : Fault) → (f ≡ fault.Budget → both ≡ false) →
    RunFails over trace out f → EndsInFault both over unfinished trace out f
ends over unfinished trace out false f in_time p = p
ends over unfinished trace out true fault.Budget in_time p = absurd (true≢false (in_time refl))
ends over unfinished trace out true (fault.Image e) in_time p = inl p
ends over unfinished trace out true (fault.Line n) in_time p = inl p
ends over unfinished trace out true (fault.Text e) in_time p = inl p
ends over unfinished trace out true fault.NotUtf8 in_time p = inl p
ends over unfinished trace out true (fault.Trace e) in_time p = inl p
ends over unfinished trace out true fault.Size in_time p = inl p
ends over unfinished trace out true (fault.Stalled n) in_time p = inl p
ends over unfinished trace out true fault.Full in_time p = inl p
ends over unfinished trace out true fault.Loan in_time p = inl p
ends over unfinished trace out true fault.Start in_time p = inl p
ends over unfinished trace out true fault.States in_time p = inl p
ends over unfinished trace out true fault.Alone in_time p = inl p
ends over unfinished trace out true fault.Link in_time p = inl p
ends over unfinished trace out true fault.Memory in_time p = inl p

-- If the log of an unfinished run is not reported, for this fault, that is how the log ends.
pub log_ends : {T : Type 0} (log : Log) (trace : TraceOutput T) (out : Output) (f : Fault) → LogReportFails log trace out f →
    UnfinishedLogEnds log trace out f
log_ends log trace out fault.Budget p = absurd p
log_ends log trace out (fault.Image e) p = p
log_ends log trace out (fault.Line n) p = p
log_ends log trace out (fault.Text e) p = p
log_ends log trace out fault.NotUtf8 p = p
log_ends log trace out (fault.Trace e) p = p
log_ends log trace out fault.Size p = p
log_ends log trace out (fault.Stalled n) p = p
log_ends log trace out fault.Full p = p
log_ends log trace out fault.Loan p = p
log_ends log trace out fault.Start p = p
log_ends log trace out fault.States p = p
log_ends log trace out fault.Alone p = p
log_ends log trace out fault.Link p = p
log_ends log trace out fault.Memory p = p

module _ (c : Config) (image : ImageContents) (log : Log) (opens : IsOpening c image log.opening) (replay : IsReplay log.opening log.steps log.machine)
    {T : Type 0} (over unfinished : AskedRun) (trace : TraceOutput T) (out : Output) where
  -- If the log of a run that is over is not reported, the command ends with the same fault.
  pub over_ends : (both : Bool) → over.config ≡ c → over.is_run image log → over.is_not_run fault.Memory → (f : Fault) → LogReportFails log trace out f →
      EndsInFault both over unfinished trace out f
  over_ends both size is none f p =
      ends over unfinished trace out both f (λ e. absurd (subst (LogReportFails log trace out) e p))
      (no_run c image log opens replay over size is trace out none f p)

  module _ (size : unfinished.config ≡ c) (is : unfinished.is_run image log) (none : unfinished.is_not_run fault.Memory) where
    -- If it is that of an unfinished run, which is to be reported, the command ends with the log's fault.
    pub printed_ends : (f : Fault) → UnfinishedLogEnds log trace out f → EndsInFault true over unfinished trace out f
    printed_ends fault.Budget p = (p.0, run_printed c image log opens replay unfinished size is trace out p.0 p.1)
    printed_ends (fault.Image e) p = inr (no_run c image log opens replay unfinished size is trace out none (fault.Image e) p)
    printed_ends (fault.Line n) p = inr (no_run c image log opens replay unfinished size is trace out none (fault.Line n) p)
    printed_ends (fault.Text e) p = inr (no_run c image log opens replay unfinished size is trace out none (fault.Text e) p)
    printed_ends fault.NotUtf8 p = inr (no_run c image log opens replay unfinished size is trace out none fault.NotUtf8 p)
    printed_ends (fault.Trace e) p = inr (no_run c image log opens replay unfinished size is trace out none (fault.Trace e) p)
    printed_ends fault.Size p = inr (no_run c image log opens replay unfinished size is trace out none fault.Size p)
    printed_ends (fault.Stalled n) p = inr (no_run c image log opens replay unfinished size is trace out none (fault.Stalled n) p)
    printed_ends fault.Full p = inr (no_run c image log opens replay unfinished size is trace out none fault.Full p)
    printed_ends fault.Loan p = inr (no_run c image log opens replay unfinished size is trace out none fault.Loan p)
    printed_ends fault.Start p = inr (no_run c image log opens replay unfinished size is trace out none fault.Start p)
    printed_ends fault.States p = inr (no_run c image log opens replay unfinished size is trace out none fault.States p)
    printed_ends fault.Alone p = inr (no_run c image log opens replay unfinished size is trace out none fault.Alone p)
    printed_ends fault.Link p = inr (no_run c image log opens replay unfinished size is trace out none fault.Link p)
    printed_ends fault.Memory p = inr (no_run c image log opens replay unfinished size is trace out none fault.Memory p)

-- A fault that is returned is as it was.
abbrev fault_in : {T : Type 0} → Fault → Result T Fault → Fault
fault_in other (Ok x) = other
fault_in other (Err f) = f

-- If a fault is that of the link exactly if the link has failed, the same holds of the result that has it.
pub as_error : {T : Type 0} (r : Result T Fault) (f x : Fault) (failed : Bool) → r ≡ Err f → (f ≡ x) ↔ (failed ≡ true) → (r ≡ Err x) ↔ (failed ≡ true)
as_error r f x failed is exact = (
  (λ same. exact.0 (ap (fault_in f) (sym is ∙ same))),
  (λ fails. is ∙ ap (λ e. Err e) (exact.1 fails)),
)

-- What holds with every fault holds with one that is not that of the budget.
pub silent_of : {T : Type 0} (r : Result T Fault) (both : Bool) (S : Type 0) → OnErr r S → IfErr r (IsSilentBut both S)
silent_of (Ok x) both S silent = tt
silent_of (Err f) both S silent = inl silent

-- If an unfinished run is reported, the fault of the budget may come with its report.
pub silent_but : (both : Bool) (S : Type 0) (f : Fault) → both ≡ true → S ⊎ (f ≡ fault.Budget) → IsSilentBut both S f
silent_but both S f asked (inl silent) = inl silent
silent_but both S f asked (inr spent) = inr (spent, asked)

-- If a run is not reported, its budget has ended it, and it is not asked for.
pub not_reported : (both : Bool) (end : SweepEnd) → is_reported both end ≡ false → (end ≡ Budget) × (both ≡ false)
not_reported both Over e = absurd (true≢false e)
not_reported both Budget e = (refl, e)

-- Every fault except that of the budget.
abbrev IsOther : Fault → Type 0
IsOther fault.Budget = ⊥
IsOther other = Unit {0}

-- Such a fault is not that of the budget.
pub other_is : (f : Fault) → IsOther f → f ≡ fault.Budget → ⊥
other_is f other e = subst IsOther e other

-- Nothing is printed with a fault, or it is that of the budget and the report of an unfinished run is printed.
pub silent_or_printed : {T W S : Type 0} (runs : AskedRuns) (trace : TraceOutput T) (out : Output) (reports : Fault → Type 0) (f : Fault) →
    RunsEndIn runs trace out f → reports f → IsSilentBut runs.both (W → S) f → W → S ⊎ PrintsUnfinished runs trace out reports
silent_or_printed runs trace out reports f cause reported (inl silent) works = inl (silent works)
silent_or_printed runs trace out reports f cause reported (inr spent) works =
    let there : EndsInFault true runs.over runs.unfinished trace out fault.Budget =
    subst (λ (x : Bool × Fault). EndsInFault x.0 runs.over runs.unfinished trace out x.1) (λ i. (spent.1 i, spent.0 i)) cause in
    inr (record { asked = spent.1; status = there.0; printed = there.1; reported = subst reports spent.0 reported })
