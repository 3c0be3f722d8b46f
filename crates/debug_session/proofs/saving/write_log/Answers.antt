use Rattle.std.proofs.Common.{◌≡◌, ◌∙◌, List, OnErr, ap, subst}
use Rattle.flat_machine.specs.declared.config.Config.{Config}
use Rattle.link.specs.Transfer.{AppendsPart}
use Rattle.machine_steps.specs.Machines.{MachineLists}
use Rattle.steps.specs.declared.step.Step.{Step}
use Rattle.trace_file.specs.Traces.{trace_bytes, trace_of}
use Rattle.debug_session.proofs.saving.write_log.Goals as goal

pub returns-clause-err : goal.returns-clause-err
returns-clause-err g c =
    let config : c.config.result ≡ c.args.log.now.machine.config = c.config.ensures.config
    ∙ ap (λ (m : MachineLists). m.config) c.machine.ensures.machine in
    subst (λ (x : Config × List Step). OnErr c.write_trace.result
    (AppendsPart (g.T.Write.contents c.args.writer.now) (g.T.Write.contents c.write_trace.new.writer) (trace_bytes (trace_of x.0 x.1))))
    (λ i. (config i, c.steps.ensures.steps i)) c.write_trace.ensures.err
