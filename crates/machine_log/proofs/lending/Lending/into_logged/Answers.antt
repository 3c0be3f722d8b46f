use Rattle.std.proofs.Common.{◌≡◌, ◌∙◌, ◌^◌, ◌<◌, length, None, sym, ap, subst, arith}
use Rattle.flat_machine.specs.declared.config.Config.{Config}
use Rattle.machine_steps.specs.Machines.{MachineLists}
use Rattle.machine_log.specs.Logs.{IsWellFormed, Log}
use Rattle.machine_log.specs.Lendings.{LendingLog, lent_at}
use Rattle.machine_log.proofs.Backing.{none_set}
use Rattle.machine_log.proofs.Changing.{back_all}
use Rattle.machine_log.proofs.lending.Lending.into_logged.Goals as goal

pub loop-p-preserved : goal.loop-p-preserved
loop-p-preserved c = (
  ap (λ (l : LendingLog). l.log) c.bring_back.ensures ∙ c.loop-p.invariant.0,
  λ q within. ap (λ (l : LendingLog). lent_at l.lent q) c.bring_back.ensures
      ∙ none_set c.loop-p.self.lent c.loop-p.p q (λ apart. c.loop-p.invariant.1 q (omega (arith, within, apart))),
)

pub of_parts-requires : goal.of_parts-requires
of_parts-requires c =
    let l = c.self-2.inside in
    let size = ap (λ (x : Log). x.machine.config) c.loop-p.invariant.0 ∙ sym (ap (λ (x : LendingLog). x.log.machine.config) c.self.view_is)
    ∙ sym c.config.ensures.config in
    let machine = back_all c.self-2.invariant.0 c.self-2.view_is size c.processors-p-end.ensures c.loop-p-test.false c.loop-p.invariant.1 in
    record {
      kept = subst (λ (x : MachineLists). IsWellFormed (record { opening = l.opening.value; steps = l.steps.items; machine = x })) machine
          c.self-2.invariant.0.kept;
    }

pub returns : goal.returns
returns c =
    let l = c.self-2.inside in
    let size = ap (λ (x : Log). x.machine.config) c.loop-p.invariant.0 ∙ sym (ap (λ (x : LendingLog). x.log.machine.config) c.self.view_is)
    ∙ sym c.config.ensures.config in
    let machine = back_all c.self-2.invariant.0 c.self-2.view_is size c.processors-p-end.ensures c.loop-p-test.false c.loop-p.invariant.1 in
    c.of_parts.ensures ∙ (λ i. record { opening = l.opening.value; steps = l.steps.items; machine = sym machine i })
    ∙ ap (λ (x : LendingLog). x.log) c.self-2.view_is ∙ c.loop-p.invariant.0
