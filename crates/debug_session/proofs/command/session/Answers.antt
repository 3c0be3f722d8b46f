use Rattle.std.proofs.lemmas.Result.{err_from_is_err_and}
use Rattle.command_io.specs.Links.{input}
use Rattle.debug_session.specs.Sessions.{asked_session}
use Rattle.debug_session.proofs.Beginning.{no_machine, session}
use Rattle.debug_session.proofs.command.session.Goals as goal

pub returns-clause-session : goal.returns-clause-session
returns-clause-session g c =
    session (g.C.Connect.gives c.args.door.now) g.C.Reader.Read.remaining g.C.Writer.Write.contents c.args.config c.args.budget
    (g.F.Read.remaining c.args.file.now) (g.F.Link.has_failed c.image_of.new.file) c.in_ok-image.image c.in_ok-machine_of.field-0
    c.new-log.result c.serve-end.new.log c.in-Ok.link c.serve-end.new.reader c.serve-end.new.writer c.serve-end.result
    c.in_ok-image.ensures.image c.in_ok-machine_of.ensures.opening c.new-log.ensures c.in-Ok.ensures.gives
    c.serve-end.ensures.served c.serve-end.ensures.refused c.log_is_well_formed.ensures.replay

pub returns-in_err-machine_of-clause-refused : goal.returns-in_err-machine_of-clause-refused
returns-in_err-machine_of-clause-refused g c =
    let p = err_from_is_err_and c.from_residual-in_err-machine_of.result c.from_residual-in_err-machine_of.ensures.1 in
    let file = input g.F.Read.remaining g.F.Link.has_failed c.args.file.now c.image_of.new.file in
    rw (p.1, p.2)
    (no_machine (asked_session c.args.config c.args.budget file) c.in_ok-image.image c.in_err-machine_of.field-0.0
    c.in_ok-image.ensures.image c.in_err-machine_of.ensures.refused)
