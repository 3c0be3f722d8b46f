use Rattle.std.proofs.Common.{inl}
use Rattle.command_io.specs.ErrorOutputs.{errors_to}
use Rattle.command_io.specs.Links.{input}
use Rattle.debug_session.specs.Sessions.{asked_session, link_spec, outputs, trace_link}
use Rattle.debug_session.proofs.Ending.{has_ended}
use Rattle.debug_session.proofs.command.debug_command.Goals as goal

pub returns-in-Ok : goal.returns-in-Ok
returns-in-Ok g c =
    inl (has_ended (link_spec (g.C.Connect.gives c.args.door.now) g.C.Reader.Read.remaining g.C.Writer.Write.contents)
    (asked_session c.args.config c.args.budget (input g.F.Read.remaining g.F.Link.has_failed c.args.file.now c.session.new.file))
    (outputs (trace_link g.T.Link.has_failed g.T.Write.contents c.args.trace.now c.finish.new.trace)
    (errors_to g.E.Write.contents c.args.err.now c.finish.new.err))
    c.in-Ok.end c.in-Ok.log c.finish.result c.in-Ok.ensures.session c.finish.ensures c.in-Ok.ensures.read)
