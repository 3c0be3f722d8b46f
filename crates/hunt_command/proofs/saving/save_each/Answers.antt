use Rattle.std.proofs.Common.{refl, arith}
use Rattle.std.proofs.lemmas.Result.{err_from_is_err_and}
use Rattle.hunt_command.specs.Findings.{firsts}
use Rattle.hunt_command.proofs.Noting.{firsts_length}
use Rattle.hunt_command.proofs.Writing.{not_written, written_more, written_whole}
use Rattle.hunt_command.proofs.saving.save_each.Goals as goal

pub loop-place-init : goal.loop-place-init
loop-place-init g c = refl

pub loop-place-preserved : goal.loop-place-preserved
loop-place-preserved g c =
    written_more g.T.Traces.opens g.T.Traces.closes g.T.Writer.Link.has_failed g.T.Writer.Write.contents c.args.config c.args.image.now
    c.args.policy (firsts c.args.findings.now.found) c.loop-place.place c.first_at-number.result c.args.traces.now
    c.loop-place.traces c.save_run.new.traces c.first_at-number.ensures c.loop-place.invariant c.in_ok-save_run.ensures.saved

pub returns-in_err-save_run-clause-refused : goal.returns-in_err-save_run-clause-refused
returns-in_err-save_run-clause-refused g c =
    let p = err_from_is_err_and c.from_residual.result c.from_residual.ensures.1 in
    rw (p.1, p.2)
    (not_written g.T.Traces.opens g.T.Traces.closes g.T.Writer.Link.has_failed g.T.Writer.Write.contents c.args.config c.args.image.now
    c.args.policy (firsts c.args.findings.now.found) c.loop-place.place c.first_at-number.result c.args.traces.now
    c.loop-place.traces c.save_run.new.traces c.in_err-save_run.field-0.0 c.first_at-number.ensures c.loop-place.invariant
    c.in_err-save_run.ensures.refused)

pub returns-clause-saved : goal.returns-clause-saved
returns-clause-saved g c =
    let all = firsts_length c.args.findings.now.found in
    let past = c.loop-place-test.false in
    let end = c.count-place-end.ensures in
    written_whole g.T.Traces.opens g.T.Traces.closes g.T.Writer.Link.has_failed g.T.Writer.Write.contents c.args.config c.args.image.now
    c.args.policy (firsts c.args.findings.now.found) c.loop-place.place c.args.traces.now c.loop-place.traces
    (omega (arith, all, past, end)) c.loop-place.invariant
