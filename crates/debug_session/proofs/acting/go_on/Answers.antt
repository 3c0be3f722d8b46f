use Rattle.std.proofs.Common.{subst, sym}
use Rattle.debug_session.specs.Answers.{Continues}
use Rattle.debug_session.proofs.GoingOn.{gone_on}
use Rattle.debug_session.proofs.acting.go_on.Goals as goal

pub returns-clause-goes_on : goal.returns-clause-goes_on
returns-clause-goes_on g c =
    let old = c.args.log.now in
    let new = c.run-ran.new.log in
    let run = g.C.Runner.spec c.args.budget in
    subst (λ ending. Continues run c.args.breaks.now old ending new) (sym c.map_refusal.ensures)
    (gone_on run c.args.breaks.now old new c.run-ran.result (c.runs_are_in_order.ensures old new) c.log_is_well_formed.ensures.kept
    c.log_is_well_formed-2.ensures.kept c.requires.idle
    c.run-ran.ensures.ran c.run-ran.ensures.runs c.run-ran.ensures.full c.run-ran.ensures.named c.run-ran.ensures.not_free c.run-ran.ensures.refused)
