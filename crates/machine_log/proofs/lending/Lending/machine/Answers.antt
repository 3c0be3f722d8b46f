use Rattle.std.proofs.Common.{◌≡◌, ◌∙◌, [], sym, subst}
use Rattle.machine_theory.specs.Steps.{outcome_of}
use Rattle.machine_steps.specs.Machines.{machine_of}
use Rattle.machine_log.specs.Lendings.{LendingLog, OfOthers}
use Rattle.machine_log.proofs.Noticing.{answers_back}
use Rattle.machine_log.proofs.lending.Lending.machine.Goals as goal

pub returns-clause-answers : goal.returns-clause-answers
returns-clause-answers c s others =
    let l = c.self.inside in
    let is = c.self.invariant.0 in
    subst (λ (x : LendingLog). outcome_of (l.machine).config (l.machine).code (machine_of l.machine (λ p. [])) s
    ≡ outcome_of x.log.machine.config x.log.machine.code (machine_of x.log.machine (λ p. [])) s) c.self.view_is
    (answers_back c.others_do_not_notice.ensures.step l.machine l.lent.items (is.all ∙ sym is.sound.ports.all) s
    (subst (λ (x : LendingLog). OfOthers x.lent s) (sym c.self.view_is) others))
