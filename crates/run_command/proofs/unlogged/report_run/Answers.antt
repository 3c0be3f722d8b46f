use Rattle.std.specs.Prelude.{string_bytes}
use Rattle.std.proofs.lemmas.Result.{err_from_is_err_and}
use Rattle.machine_steps.proofs.Lemmas.{run_home}
use Rattle.command_io.specs.Links.{input}
use Rattle.run_command.specs.SweepRuns.{most_unlogged}
use Rattle.run_command.proofs.Sizes.{fails_before}
use Rattle.run_command.proofs.WithoutLog.{not_counted, run_is_reported}
use Rattle.run_command.proofs.unlogged.report_run.Goals as goal

pub returns-in_err-machine-clause-refused : goal.returns-in_err-machine-clause-refused
returns-in_err-machine-clause-refused g c =
    let file = (input {R = g.row.R.Denot} g.R.Read.remaining g.R.Link.has_failed c.args.file.now c.image_of.new.file) in
    let p = err_from_is_err_and c.from_residual-in_err-machine.result c.from_residual-in_err-machine.ensures.1 in
    rw (p.1, p.2)
    (fails_before c.args.config file c.in_ok-image.image c.in_ok-image.ensures.image c.args.unfinished (most_unlogged c.args.budget) c.args.budget
    c.in_err-machine.field-0.0 c.in_err-machine.ensures.refused)

pub returns-in_err-machine-2-clause-refused : goal.returns-in_err-machine-2-clause-refused
returns-in_err-machine-2-clause-refused g c =
    let file = (input {R = g.row.R.Denot} g.R.Read.remaining g.R.Link.has_failed c.args.file.now c.image_of.new.file) in
    let p = err_from_is_err_and c.from_residual-in_err-machine-2.result c.from_residual-in_err-machine-2.ensures.1 in
    rw (p.1, p.2)
    (not_counted c.args.config c.args.budget file c.in_ok-image.image c.in_ok-image.ensures.image c.in_ok-machine.machine
    c.in_ok-machine.ensures.opening c.args.unfinished c.in_err-machine-2.field-0.0 c.in_err-machine-2.ensures.refused)

pub report_with_status-requires-clause-home : goal.report_with_status-requires-clause-home
report_with_status-requires-clause-home g c =
    let run = c.in_ok-machine-2.ensures.counted in
    run_home c.in_ok-machine.machine c.in_ok-machine-2.machine run.steps run.counted.replay.run c.in_ok-machine.ensures.opening.home

pub returns-clause-reported : goal.returns-clause-reported
returns-clause-reported g c =
    let file = (input {R = g.row.R.Denot} g.R.Read.remaining g.R.Link.has_failed c.args.file.now c.image_of.new.file) in
    let image = c.in_ok-image.image in
    let opening = c.in_ok-machine.machine in
    let opens = c.in_ok-machine.ensures.opening in
    let run = c.in_ok-machine-2.ensures.counted in
    run_is_reported c.args.config c.args.budget file image c.in_ok-image.ensures.image opening opens c.in_ok-machine-2.end c.in_ok-machine-2.machine
    c.in_ok-machine-2.tally (string_bytes c.in_ok-text.text) c.in_ok-text.status run
    (c.in_ok-text.ensures.report c.args.config image run.steps opening opens c.machine_is_well_formed.ensures run.counted run.swept.idle)
