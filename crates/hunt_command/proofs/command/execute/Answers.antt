use Rattle.std.proofs.Common.{refl}
use Rattle.std.proofs.lemmas.Result.{IfOk-weaker, IfErr-weaker, err_from_is_err_and}
use Rattle.command_io.specs.Links.{input, output}
use Rattle.hunt_command.specs.Hunts.{asked_hunt, hunt_traces, trace_store}
use Rattle.hunt_command.proofs.Refusing.{of_image}
use Rattle.hunt_command.proofs.command.execute.Goals as goal

pub returns-in_err-image-clause-fault : goal.returns-in_err-image-clause-fault
returns-in_err-image-clause-fault g c =
    let p = err_from_is_err_and c.from_residual.result c.from_residual.ensures.1 in
    rw (p.1, p.2)
    (of_image (asked_hunt c.args.config c.args.hunt (input g.R.Read.remaining g.R.Link.has_failed c.args.file.now c.image_of.new.file))
    (hunt_traces (trace_store g.T.Traces.finds g.T.Traces.opens g.T.Traces.closes g.T.Writer.Link.has_failed g.T.Writer.Write.contents)
    c.args.traces.now c.args.traces.now)
    (output g.W.Write.contents g.W.Link.has_failed c.args.out.now c.args.out.now) c.in_err-image.field-0.0 refl c.in_err-image.ensures.refused)

pub returns-clause-printed : goal.returns-clause-printed
returns-clause-printed g c =
    IfOk-weaker c.hunt_image.result _ _
    (λ status all. all (input g.R.Read.remaining g.R.Link.has_failed c.args.file.now c.image_of.new.file) c.in_ok-image.ensures.image)
    c.hunt_image.ensures.printed

pub returns-clause-fault : goal.returns-clause-fault
returns-clause-fault g c =
    IfErr-weaker c.hunt_image.result _ _
    (λ refused all. all (input g.R.Read.remaining g.R.Link.has_failed c.args.file.now c.image_of.new.file) c.in_ok-image.ensures.image)
    c.hunt_image.ensures.fault
