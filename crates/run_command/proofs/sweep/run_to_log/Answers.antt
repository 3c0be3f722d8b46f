use Rattle.std.proofs.Common.{subst}
use Rattle.std.specs.Prelude.{OnOk}
use Rattle.std.proofs.lemmas.Result.{IfErr-at_err, IfOk-at_ok, err_from_is_err_and}
use Rattle.command_io.specs.Links.{input}
use Rattle.schedules.specs.Sweeps.{most_of}
use Rattle.schedules.specs.trace_file.Traces.{HaveRecords}
use Rattle.schedules.specs.declared.sweeping.SweepEnd.TheVariants.{Budget}
use Rattle.run_command.specs.SweepRuns.{IsNotReported, sweep_run}
use Rattle.run_command.proofs.Running.{not_swept, run_of, trace_is}
use Rattle.run_command.proofs.Sizes.{fails_before}
use Rattle.run_command.proofs.sweep.run_to_log.Goals as goal

pub returns-in-Ok-clause-run_to_log : goal.returns-in-Ok-clause-run_to_log
returns-in-Ok-clause-run_to_log g c =
    let file = (input {R = g.row.R.Denot} g.R.Read.remaining g.R.Link.has_failed c.args.file.now c.image_of.new.file) in
    let old = c.new-log.result in
    let log = c.run_to_end-ended.new.log in
    let meant = c.in_ok-image.ensures.image in
    let opens = c.in_ok-machine_of.ensures.opening in
    let ended = c.run_to_end-ended.ensures in
    let end = c.in-Ok.end in
    let swept = IfOk-at_ok _ c.in-Ok.is ended.swept in
    let records = subst (λ r. OnOk r (HaveRecords old.machine.config.k old.steps → HaveRecords log.machine.config.k log.steps)) c.in-Ok.is ended.records in (
      c.in_ok-image.image,
      record {
        ended = run_of c.args.config c.args.budget file c.in_ok-image.image meant c.in_ok-machine_of.field-0 opens old log c.new-log.ensures
            c.log_is_well_formed.ensures.kept end swept;
        trace = trace_is c.args.config c.args.budget file c.in_ok-image.image meant c.in_ok-machine_of.field-0 opens old log c.new-log.ensures
            c.log_is_well_formed.ensures.kept end swept records;
      },
    )

pub returns-in-Err-clause-refused : goal.returns-in-Err-clause-refused
returns-in-Err-clause-refused g c =
    let file = (input {R = g.row.R.Denot} g.R.Read.remaining g.R.Link.has_failed c.args.file.now c.image_of.new.file) in
    let old = c.new-log.result in
    let log = c.run_to_end-ended.new.log in
    not_swept c.args.unfinished (sweep_run c.args.config c.args.budget file) c.in_ok-image.image old log
    (run_of c.args.config c.args.budget file c.in_ok-image.image c.in_ok-image.ensures.image c.in_ok-machine_of.field-0
    c.in_ok-machine_of.ensures.opening old log c.new-log.ensures c.log_is_well_formed.ensures.kept Budget)
    c.in-Err.fault (IfErr-at_err (IsNotReported c.args.unfinished c.args.budget old log) c.in-Err.is c.run_to_end-ended.ensures.refused)

pub returns-in_err-machine_of-clause-refused : goal.returns-in_err-machine_of-clause-refused
returns-in_err-machine_of-clause-refused g c =
    let p = err_from_is_err_and c.from_residual-in_err-machine_of.result c.from_residual-in_err-machine_of.ensures.1 in
    rw (p.1, p.2)
    (fails_before c.args.config (input {R = g.row.R.Denot} g.R.Read.remaining g.R.Link.has_failed c.args.file.now c.image_of.new.file)
    c.in_ok-image.image c.in_ok-image.ensures.image c.args.unfinished
    (most_of c.args.budget) c.args.budget c.in_err-machine_of.field-0.0 c.in_err-machine_of.ensures.refused)
