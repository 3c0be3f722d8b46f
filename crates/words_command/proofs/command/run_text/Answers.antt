use Rattle.std.proofs.Common.{◌≡◌, ℕ, List, Option, Ok, Err, refl, subst, ap, ◌∙◌}
use Rattle.std.proofs.lemmas.Result.{err_from_is_err_and}
use Rattle.flat_machine.specs.State.{FlatState}
use Rattle.machine_steps.specs.Runs.{flat_state}
use Rattle.machine_log.specs.Logs.{Log}
use Rattle.command_io.specs.Printing.{PrintsPrefix}
use Rattle.words_command.specs.declared.print.PrintError.{PrintError}
use Rattle.words_command.specs.declared.print.PrintError.TheVariants as printing
use Rattle.words_command.specs.declared.run.WordsEnd.{WordsEnd}
use Rattle.words_command.specs.declared.run.WordsEnd.TheVariants as running
use Rattle.words_command.specs.Loading.{flat_of_words}
use Rattle.words_command.specs.Report.{report_of}
use Rattle.words_command.specs.Running.{HasRunAlone, processor_of}
use Rattle.words_command.specs.HexText.{words_of_text}
use Rattle.words_command.specs.Command.{ReportOfFails, IsSomeReport, exit_status_of}
use Rattle.words_command.specs.Faults.{fault_of_printing, fault_of_running}
use Rattle.words_command.proofs.command.run_text.Goals as goal

-- If a run ends before the processor stops, the report fails for the same reason.
ended : (end : WordsEnd) (text words : List ℕ) (old new : Option (List ℕ)) (first last : FlatState) → words_of_text text ≡ Ok words
    → first ≡ flat_of_words words → (end ≡ running.Budget → HasRunAlone first last 1000000) → ReportOfFails (fault_of_running end) text old new
ended running.Budget text words old new first last spelled is ran =
    record { words = words; spelled = spelled; last = last; run = subst (λ m. HasRunAlone m last 1000000) is (ran refl) }
ended running.Memory text words old new first last spelled is ran = tt

-- If the report is not printed, it fails for the same reason.
unprinted : (error : PrintError) (text : List ℕ) (old new : Option (List ℕ)) → (error ≡ printing.Link → PrintsPrefix (IsSomeReport text) old new) →
    ReportOfFails (fault_of_printing error) text old new
unprinted printing.Link text old new part = part refl
unprinted printing.Memory text old new part = tt

pub returns-in_err-words_run-clause-fault : goal.returns-in_err-words_run-clause-fault
returns-in_err-words_run-clause-fault g c =
    let p = err_from_is_err_and c.from_residual-in_err-words_run.result c.from_residual-in_err-words_run.ensures.1 in
    let opened : flat_state c.new-log.result.machine ≡ flat_of_words c.in_ok-words.words.items
    = ap (λ (l : Log). flat_state l.machine) c.new-log.ensures ∙ c.in-Ok.ensures.flat ∙ ap flat_of_words c.as_slice.ensures.value in
    rw (p.1, p.2)
    (ended c.in_err-words_run.field-0.0 c.args.text.now c.in_ok-words.words.items _ _ (flat_state c.new-log.result.machine)
    (flat_state c.words_run.new.log.machine)
    c.in_ok-words.ensures.words opened (λ e. (c.in_err-words_run.ensures.budget (ap Err e)).0))

pub returns-in_err-words_print-clause-fault : goal.returns-in_err-words_print-clause-fault
returns-in_err-words_print-clause-fault g c =
    let p = err_from_is_err_and c.from_residual-in_err-words_print.result c.from_residual-in_err-words_print.ensures.1 in
    let opened : flat_state c.new-log.result.machine ≡ flat_of_words c.in_ok-words.words.items
    = ap (λ (l : Log). flat_state l.machine) c.new-log.ensures ∙ c.in-Ok.ensures.flat ∙ ap flat_of_words c.as_slice.ensures.value in
    let machine = c.words_run.new.log.machine in
    let ran = c.in_ok-words_run.ensures.ran in
    rw (p.1, p.2)
    (unprinted c.in_err-words_print.field-0.0 c.args.text.now _ _ (λ e. record {
      text = report_of (processor_of machine);
      meant = (
        exit_status_of (processor_of machine).status,
        record {
          words = c.in_ok-words.words.items;
          spelled = c.in_ok-words.ensures.words;
          last = flat_state machine;
          retired = ran.0;
          few = ran.1;
          run = subst (λ m. HasRunAlone m (flat_state machine) ran.0) opened ran.2;
          processor = processor_of machine;
          alone = c.in_ok-words_run.ensures.alone;
          stopped = c.in_ok-words_run.ensures.stopped;
          exit = refl;
          is = refl;
        },
      );
      part = c.in_err-words_print.ensures.begun (ap Err e);
    }))
