use Rattle.std.proofs.Common.{sym, ◌∙◌, ap, subst}
use Rattle.machine_lock.specs.Passes.{LockedStateModel, row_of, IsAgreed}
use Rattle.machine_lock.proofs.Lists.{set-same}
use Rattle.machine_lock.proofs.locked_state.LockedState.sync_row.Goals as goal

pub invariant_of-self : goal.invariant_of-self
invariant_of-self g c =
    let p = c.pass.inside in
    let w = c.write_row.ensures p.processor (row_of p.stored) c.pass.invariant.0 in
    let authority = w.authority ∙ set-same c.self.inside.authority p.processor (row_of p.stored) w.agreed in
    subst (λ rows. IsAgreed g.N.Run.opening g.N.Run.first g.N.Run.count
    (record { log = c.self.inside.lending.log; rows = rows; lent = c.self.inside.lending.lent }))
    (sym authority) c.self.invariant

pub invariant_of-pass : goal.invariant_of-pass
invariant_of-pass g c = ((c.write_row.ensures c.pass.inside.processor (row_of c.pass.inside.stored) c.pass.invariant.0).fragment, c.pass.invariant.1)

pub returns-clause-same : goal.returns-clause-same
returns-clause-same g c =
    let p = c.pass.inside in
    let w = c.write_row.ensures p.processor (row_of p.stored) c.pass.invariant.0 in
    let authority = w.authority ∙ set-same c.self.inside.authority p.processor (row_of p.stored) w.agreed in (
      c.pass.view_is,
      ap (λ rows. let s : LockedStateModel = record { log = c.self.inside.lending.log; rows = rows; lent = c.self.inside.lending.lent } in s)
          authority ∙ c.self.view_is,
    )
