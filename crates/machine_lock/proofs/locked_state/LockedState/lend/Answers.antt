use Rattle.std.proofs.Common.{◌<◌, ◌^◌, List, Option, length, None, Some, slice_set, get_or-set_same, get_or-set_other, refl, sym, ◌∙◌, ap, subst, arith}
use Rattle.std.proofs.lemmas.Option.{slice_get_within}
use Rattle.steps.specs.declared.step.Step.{Step}
use Rattle.hart.specs.LocalRuns.{RetirementList}
use Rattle.machine_steps.specs.Machines.{MachineLists}
use Rattle.machine_log.specs.Lendings.{LendingLog}
use Rattle.machine_log.specs.declared.lent.Lent.{Lent}
use Rattle.machine_lock.specs.declared.row.PassState.{PassState}
use Rattle.machine_lock.specs.Rows.{Fits, with_loan}
use Rattle.machine_lock.specs.Passes.{LockedStateModel, IsAgreed, most_of, row_of}
use Rattle.machine_lock.proofs.Returning.{SayLoans, brought_back, loan_fits, say_set}
use Rattle.machine_lock.proofs.Running.{loan_begins}
use Rattle.machine_lock.proofs.locked_state.LockedState.lend.Goals as goal

pub invariant_of-self-in_default : goal.invariant_of-self-in_default
invariant_of-self-in_default g c =
    let l = c.in_ok-core.ensures in
    let same = brought_back c.self.inside.lending c.lend.new.self c.bring_back.new.self c.pass.inside.processor _ l.lent l.unlent c.bring_back.ensures in
    let of = λ (x : LendingLog). let s : LockedStateModel = record { log = x.log; rows = c.self.inside.authority; lent = x.lent } in s in
    subst (λ x. IsAgreed g.N.Run.opening g.N.Run.first g.N.Run.count (of x)) (sym same) c.self.invariant

pub returns-in_default-clause-err : goal.returns-in_default-clause-err
returns-in_default-clause-err g c =
    let l = c.in_ok-core.ensures in
    let same = brought_back c.self.inside.lending c.lend.new.self c.bring_back.new.self c.pass.inside.processor _ l.lent l.unlent c.bring_back.ensures in
    let of = λ (x : LendingLog). let s : LockedStateModel = record { log = x.log; rows = c.self.inside.authority; lent = x.lent } in s in
    (c.pass.view_is ∙ c.sync_row.ensures.same.0, ap of same ∙ c.self.view_is ∙ c.sync_row.ensures.same.1)

pub invariant_of-result : goal.invariant_of-result
invariant_of-result g c =
    let l = c.in_ok-core.ensures.loan in
    let code = c.in-Some.ensures.code _ refl ∙ ap (λ (m : MachineLists). m.code) c.self.invariant.opening in
    let list = c.requires.list _ (c.in-Some.ensures.list _ refl) in (
      code,
      ap (λ (r : RetirementList). r.most) list ∙ sym (ap (λ (k : Lent). k.most) l.0),
      loan_begins g.N.Run.opening.code c.in_ok-core.record c.in_ok-core.core c.in-Some.retired (ap (λ (r : RetirementList). r.items) list) l.1,
    )

pub invariant_of-self-2 : goal.invariant_of-self-2
invariant_of-self-2 g c =
    let p = c.pass.inside.processor in
    let r = row_of c.pass.inside.stored in
    let w = c.write_row.ensures p r c.pass.invariant.0 in
    let i = c.self.invariant in
    let old = c.self.inside.lending in
    let rows = c.self.inside.authority in
    let l = c.in_ok-core.ensures.lent in
    let lent = ap (λ (x : LendingLog). x.lent) l in
    let log = ap (λ (x : LendingLog). x.log) l in
    let new = with_loan r (Some c.args.most) in
    let within = slice_get_within rows p r w.agreed in
    let all = c.lending_is_well_formed.ensures.all ∙ ap (λ x. 2 ^ x.k) i.config in
    let many = i.fits.many ∙ i.count in
    let inside : p < length old.lent = omega (arith, within, all, many) in
    record {
      opening = ap (λ x. x.opening) log ∙ i.opening;
      config = ap (λ x. x.machine.config) log ∙ i.config;
      count = i.count;
      loans = subst (λ (x : List PassState × List (Option Lent)). SayLoans x.0 x.1) (λ k. (sym w.authority k, sym lent k))
          (say_set rows old.lent (slice_set old.lent p (Some _)) p new i.loans (λ q other. get_or-set_other old.lent p q (Some _) None other)
          (ap most_of (sym (get_or-set_same old.lent p (Some _) None inside))));
      fits = subst (λ (x : List Step × List PassState). Fits g.N.Run.opening g.N.Run.first g.N.Run.count x.0 x.1)
          (λ k. (sym (ap (λ x. x.steps) log) k, sym w.authority k))
          (loan_fits g.N.Run.opening g.N.Run.first g.N.Run.count old.log.steps rows p r (Some c.args.most) i.fits w.agreed);
    }
