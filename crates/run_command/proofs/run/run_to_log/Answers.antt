use Rattle.std.proofs.Common.{◌≡◌, map, None, ap, sym, subst}
use Rattle.std.specs.Prelude.{IfSome}
use Rattle.std.proofs.lemmas.Result.{IfErr-weaker, IfOk-weaker, err_from_is_err_and}
use Rattle.machine_steps.specs.Runs.{IsOpening}
use Rattle.machine_log.specs.Logs.{Log}
use Rattle.command_io.specs.Links.{input}
use Rattle.processor_threads.specs.Consoles.{bytes_of}
use Rattle.run_command.specs.Faults.{IsOfRun}
use Rattle.run_command.specs.ThreadRuns.{HasBegun, HasEnded, IsNotThreaded, IsOfThreads, IsSomeThreaded, IsSomeThreadsLog, threaded_run}
use Rattle.run_command.proofs.Logging.{not_threaded, some_weaker, threaded_is}
use Rattle.run_command.proofs.Sizes.{not_on_threads}
use Rattle.run_command.proofs.run.run_to_log.Goals as goal

pub returns-clause-run_to_log : goal.returns-clause-run_to_log
returns-clause-run_to_log g c =
    let file = (input {R = g.row.F.Denot} g.F.Read.remaining g.F.Link.has_failed c.args.file.now c.image_of.new.file) in
    let image = c.in_ok-image.image in
    let opening = c.new-log.result.opening in
    let opens = subst (IsOpening c.args.config image) (sym (ap (λ (l : Log). l.opening) c.new-log.ensures)) c.in_ok-machine_of.ensures.opening in
    IfOk-weaker c.run_on_threads.result (λ e. IfSome e.consoles (λ cs. HasEnded opening e.log (map bytes_of cs.items)))
    (λ e. IfSome e.consoles (λ cs. IsSomeThreaded (threaded_run c.args.config file) e.log (map bytes_of cs.items)))
    (λ e. some_weaker e.consoles (λ cs. HasEnded opening e.log (map bytes_of cs.items))
    (λ cs. IsSomeThreaded (threaded_run c.args.config file) e.log (map bytes_of cs.items))
    (λ cs ended. (image, threaded_is c.args.config file image c.in_ok-image.ensures.image opening opens e.log (map bytes_of cs.items) ended)))
    c.run_on_threads.ensures.ended

pub returns-clause-unfinished : goal.returns-clause-unfinished
returns-clause-unfinished g c =
    let file = (input {R = g.row.F.Denot} g.F.Read.remaining g.F.Link.has_failed c.args.file.now c.image_of.new.file) in
    let image = c.in_ok-image.image in
    let opening = c.new-log.result.opening in
    let opens = subst (IsOpening c.args.config image) (sym (ap (λ (l : Log). l.opening) c.new-log.ensures)) c.in_ok-machine_of.ensures.opening in
    IfOk-weaker c.run_on_threads.result (λ e. e.consoles ≡ None → IsOfThreads opening e.log)
    (λ e. e.consoles ≡ None → IsSomeThreadsLog (threaded_run c.args.config file) e.log)
    (λ e is none. (image, record { meant = c.in_ok-image.ensures.image; opening = opening; opens = opens; steps_are = is none }))
    c.run_on_threads.ensures.unfinished

pub returns-clause-refused : goal.returns-clause-refused
returns-clause-refused g c =
    let file = (input {R = g.row.F.Denot} g.F.Read.remaining g.F.Link.has_failed c.args.file.now c.image_of.new.file) in
    let begun : HasBegun (threaded_run c.args.config file) = record {
      image = c.in_ok-image.image;
      meant = c.in_ok-image.ensures.image;
      opening = c.in_ok-machine_of.field-0;
      opens = c.in_ok-machine_of.ensures.opening;
    } in
    IfErr-weaker c.run_on_threads.result IsOfRun (IsNotThreaded (threaded_run c.args.config file))
    (not_threaded (threaded_run c.args.config file) begun) c.run_on_threads.ensures.fault

pub returns-in_err-machine_of-clause-refused : goal.returns-in_err-machine_of-clause-refused
returns-in_err-machine_of-clause-refused g c =
    let p = err_from_is_err_and c.from_residual-in_err-machine_of.result c.from_residual-in_err-machine_of.ensures.1 in
    rw (p.1, p.2)
    (not_on_threads c.args.config
    (input {R = g.row.F.Denot} g.F.Read.remaining g.F.Link.has_failed c.args.file.now c.image_of.new.file)
    c.in_ok-image.image c.in_ok-image.ensures.image c.in_err-machine_of.field-0.0
    c.in_err-machine_of.ensures.refused)

pub returns-in_err-arbiters-clause-refused : goal.returns-in_err-arbiters-clause-refused
returns-in_err-arbiters-clause-refused g c =
    let p = err_from_is_err_and c.from_residual-in_err-arbiters.result c.from_residual-in_err-arbiters.ensures.1 in
    rw (p.1, p.2) tt
