use Rattle.std.proofs.Common.{◌∙◌, subst}
use Rattle.hart.specs.LocalRuns.{HasRunLocally}
use Rattle.machine_lock.proofs.Running.{loan_goes_on}
use Rattle.machine_lock.proofs.loan.Loan.run_local.Goals as goal

pub invariant_of-self : goal.invariant_of-self
invariant_of-self g c =
    let i = c.self.invariant in
    let l = c.self.inside in
    let new = c.run_local-end.new in
    let end = c.run_local-end.result in
    let run = subst (λ code. HasRunLocally code l.core new.core l.retired new.retirements end) (c.deref.ensures ∙ i.0) c.run_local-end.ensures in (
      i.0,
      run.most ∙ i.1,
      loan_goes_on g.N.Run.opening.code l.record l.core new.core l.retired new.retirements end i.2 run c.retirements_are_few.ensures i.1,
    )
