use Rattle.std.proofs.Common.{◌∙◌, ◌<◌, List, Option, Some, length, slice_set, sym, ap, subst, arith}
use Rattle.std.specs.Vec.{vec_capacity}
use Rattle.hart.specs.State.{CoreState}
use Rattle.steps.specs.declared.step.Step.{Step}
use Rattle.machine_theory.specs.Processors.{port_at}
use Rattle.machine_log.specs.Lendings.{IsLending, LendingLog, lent_at, promised, whole}
use Rattle.machine_log.specs.declared.lent.Lent.{Lent}
use Rattle.machine_log.proofs.Backing.{promise_more}
use Rattle.machine_log.proofs.Changing.{found_free, free_core, free_unlent, free_within, lent_out, whole_out}
use Rattle.machine_log.proofs.lending.Lending.lend.Goals as goal

pub records-requires : goal.records-requires
records-requires c = found_free c.self.invariant.0 c.self.view_is c.args.p c.may_lend.ensures c.if-not-may_lend.false

pub taken_out-core-requires : goal.taken_out-core-requires
taken_out-core-requires c = found_free c.self.invariant.0 c.self.view_is c.args.p c.may_lend.ensures c.if-not-may_lend.false

pub invariant_of-self-2 : goal.invariant_of-self-2
invariant_of-self-2 c =
    let l = c.self.inside in
    let is = c.self.invariant.0 in
    let free = found_free c.self.invariant.0 c.self.view_is c.args.p c.may_lend.ensures c.if-not-may_lend.false in
    let kept = c.in-Ok.kept in
    let core = ap (λ (k : Lent). k.core) c.in-Ok.ensures.0 in
    let most = ap (λ (k : Lent). k.most) c.in-Ok.ensures.0 in
    let within = free_within is c.args.p free in
    let unlent = free_unlent is c.args.p free in
    let more = promise_more l.lent.items c.args.p kept (subst (λ n. c.args.p < n) (sym is.all) within) unlent in
    let promises = c.self.invariant.1 in
    let room = is.room in
    let capacity_left = c.in-Ok-reserve.ensures.ok in
    let len = ap length c.reserve.ensures.items in
    let count = c.len.ensures in
    let lending = lent_out is c.args.p free kept core c.taken_out-core.new.machine
    (vec_capacity c.reserve.new.self) c.taken_out-core.ensures.away c.machine_is_well_formed.ensures (omega (arith, promises, most, capacity_left, len))
    (omega (arith, promises, most, room, count, c.if-promises-len.false)) in
    let lent = ap (λ i. slice_set l.lent.items i (Some kept)) (sym c.from.ensures) in (
      subst (λ (x : List Step × List (Option Lent)). IsLending l.opening.value c.taken_out-core.new.machine x.0 (vec_capacity c.reserve.new.self) x.1)
          (λ i. (sym c.reserve.ensures.items i, lent i)) lending,
      omega (arith, promises, most, more) ∙ ap promised lent,
    )

pub returns-clause-loan : goal.returns-clause-loan
returns-clause-loan c =
    let l = c.self.inside in
    let is = c.self.invariant.0 in
    let free = found_free c.self.invariant.0 c.self.view_is c.args.p c.may_lend.ensures c.if-not-may_lend.false in
    let core = sym (free_core is c.args.p free)
    ∙ ap (λ (x : LendingLog). (port_at x.log.machine.ports c.args.p).core) c.self.view_is in
    let given = c.in-Ok.ensures.1 ∙ c.in-Ok.ensures.0 in (
      given ∙ ap (λ (x : CoreState). record { core = x; most = c.args.most }) core,
      c.taken_out-core.ensures.core ∙ sym (ap (λ (k : Lent). k.core) given),
    )

pub returns-clause-lent : goal.returns-clause-lent
returns-clause-lent c =
    let l = c.self.inside in
    let is = c.self.invariant.0 in
    let free = found_free c.self.invariant.0 c.self.view_is c.args.p c.may_lend.ensures c.if-not-may_lend.false in
    let kept = c.in-Ok.kept in
    let core = ap (λ (k : Lent). k.core) c.in-Ok.ensures.0 in
    let lent = ap (λ i. slice_set l.lent.items i (Some kept)) c.from.ensures in
    let machine = ap (whole c.taken_out-core.new.machine) lent
    ∙ whole_out is c.args.p free kept core c.taken_out-core.new.machine
    c.taken_out-core.ensures.away in
    let there = sym (free_core is c.args.p free) in
    (λ i. record { log = record { opening = l.opening.value; steps = c.reserve.ensures.items i; machine = machine i }; lent = lent i })
    ∙ ap (λ (k : Lent). record {
      log = record { opening = l.opening.value; steps = l.steps.items; machine = whole l.machine l.lent.items };
      lent = slice_set l.lent.items c.args.p (Some k);
    }) (c.in-Ok.ensures.0 ∙ ap (λ (x : CoreState). record { core = x; most = c.args.most }) there)
    ∙ ap (λ (x : LendingLog).
    record { log = x.log; lent = slice_set x.lent c.args.p (Some (record { core = (port_at x.log.machine.ports c.args.p).core; most = c.args.most })) })
    c.self.view_is

pub returns-clause-unlent : goal.returns-clause-unlent
returns-clause-unlent c =
    let l = c.self.inside in
    let is = c.self.invariant.0 in
    let free = found_free c.self.invariant.0 c.self.view_is c.args.p c.may_lend.ensures c.if-not-may_lend.false in
    sym (ap (λ (x : LendingLog). lent_at x.lent c.args.p) c.self.view_is)
    ∙ free_unlent is c.args.p free
