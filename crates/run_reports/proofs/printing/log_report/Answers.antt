use Rattle.std.proofs.Common.{List, map, ◌∙◌, ap, sym, subst}
use Rattle.std.specs.Prelude.{string_bytes}
use Rattle.std.proofs.lemmas.Option.{IfSome_then}
use Rattle.std.proofs.lemmas.Result.{err_from_is_err_and}
use Rattle.flat_machine.specs.declared.config.Config.{Config}
use Rattle.machine_steps.specs.elf_image.Images.{ImageContents}
use Rattle.steps.specs.declared.step.Step.{Step}
use Rattle.machine_steps.specs.Machines.{MachineLists}
use Rattle.machine_steps.specs.Runs.{IsOpening, IsReplay}
use Rattle.machine_steps.proofs.Lemmas.{run_home}
use Rattle.run_reports.specs.RunReports.{IsReportOf}
use Rattle.run_reports.specs.CountedReplays.{AreConsoles}
use Rattle.run_reports.proofs.FlatReports.{idle_alike}
use Rattle.run_reports.proofs.Hearing.{consoles_alike, heard_in}
use Rattle.run_reports.proofs.Logging.{not_stalled}
use Rattle.run_reports.proofs.printing.log_report.Goals as goal

pub returns-in_err-tally-clause-refused : goal.returns-in_err-tally-clause-refused
returns-in_err-tally-clause-refused c =
    let p = err_from_is_err_and c.from_residual-in_err-tally.result c.from_residual-in_err-tally.ensures.1 in
    let log = c.args.log.now in
    let size = c.config.ensures.config ∙ ap (λ (m : MachineLists). m.config) c.machine-machine.ensures.machine in
    let image = c.image.ensures ∙ ap (λ (m : MachineLists). m.image) c.machine-machine.ensures.machine in
    rw (p.1, p.2)
    (not_stalled log c.config.result c.image.result.now c.steps.result.now c.in_ok-again.again c.replay_counted.new.machine c.requires.ready.opens
    c.machine-machine.ensures.replay size image c.steps.ensures.steps c.in_ok-again.ensures.opening c.in_err-tally.field-0.0
    c.in_err-tally.ensures.refused)

pub report_with_status-requires-clause-home : goal.report_with_status-requires-clause-home
report_with_status-requires-clause-home c =
    run_home c.in_ok-again.again c.replay_counted.new.machine c.steps.result.now c.in_ok-tally.ensures.taken.replay.run c.in_ok-again.ensures.opening.home

pub report_with_status-requires-clause-heard : goal.report_with_status-requires-clause-heard
report_with_status-requires-clause-heard c =
    let log = c.args.log.now in
    let opening = c.in_ok-again.again in
    let size = c.config.ensures.config ∙ ap (λ (m : MachineLists). m.config) c.machine-machine.ensures.machine in
    let image = c.image.ensures ∙ ap (λ (m : MachineLists). m.image) c.machine-machine.ensures.machine in
    let here = subst (λ (x : Config × ImageContents). IsOpening x.0 x.1 opening) (λ i. (size i, image i)) c.in_ok-again.ensures.opening in
    IfSome_then c.args.consoles c.requires.heard
    (λ cs are.
    heard_in opening c.steps.result.now c.replay_counted.new.machine c.in_ok-tally.tally cs.now c.in_ok-tally.ensures.taken
    (subst (λ (xs : List Step). AreConsoles opening xs (map (λ v. v.items) cs.now)) (sym c.steps.ensures.steps)
    (consoles_alike log.machine.config log.machine.image log.opening opening c.requires.ready.opens here log.steps (map (λ v. v.items) cs.now) are)))

pub returns-clause-report : goal.returns-clause-report
returns-clause-report c =
    let log = c.args.log.now in
    let opening = c.in_ok-again.again in
    let opens = c.in_ok-again.ensures.opening in
    let taken = c.in_ok-tally.ensures.taken in
    let new = c.replay_counted.new.machine in
    let size = c.config.ensures.config ∙ ap (λ (m : MachineLists). m.config) c.machine-machine.ensures.machine in
    let image = c.image.ensures ∙ ap (λ (m : MachineLists). m.image) c.machine-machine.ensures.machine in
    let steps = c.steps.ensures.steps in
    let here = subst (λ (x : Config × ImageContents). IsOpening x.0 x.1 opening) (λ i. (size i, image i)) opens in
    let replay = subst (λ (xs : List Step). IsReplay opening xs new) steps taken.replay in
    let idle = idle_alike log.machine.config log.machine.image log.steps log.opening opening log.machine new c.requires.ready.opens here
    c.machine-machine.ensures.replay replay c.requires.ready.idle in
    let done = c.in_ok-report_with_status.field-0 in
    subst (λ (x : Config × ImageContents × List Step). IsReportOf x.0 x.1 x.2 (string_bytes done.0) done.1) (λ i. (size i, image i, steps i))
    (c.in_ok-report_with_status.ensures.report c.config.result c.image.result.now c.steps.result.now opening opens c.machine_is_well_formed.ensures taken idle)
