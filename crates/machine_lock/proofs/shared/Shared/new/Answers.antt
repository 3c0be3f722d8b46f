use Rattle.std.proofs.Common.{◌≡◌, ◌^◌, ◌+◌, ◌++◌, suc, [], ◌∷◌, None, List, Option, sym, ◌∙◌, ap, subst, arith}
use Rattle.steps.specs.declared.step.Step.{Step}
use Rattle.machine_lock.specs.declared.row.PassState.{PassState}
use Rattle.machine_lock.specs.Rows.{row, new_row, Fits}
use Rattle.machine_lock.specs.Passes.{held, rows_of, new_passes, IsWhole}
use Rattle.machine_lock.proofs.Fitting.{new_loans, rows_of-push, starts, whole-new}
use Rattle.machine_lock.proofs.Returning.{SayLoans}
use Rattle.machine_log.specs.Logs.{Log}
use Rattle.machine_log.specs.Lendings.{LendingLog}
use Rattle.machine_log.specs.declared.lent.Lent.{Lent}
use Rattle.machine_lock.proofs.shared.Shared.new.Goals as goal

pub invariant_of-new : goal.invariant_of-new
invariant_of-new g c =
    let e : c.loop-p.p ≡ c.processors-count.result = (let a = c.loop-p.auto.p-end in let b = c.loop-p-test.false in omega arith) in
    let config = c.machine.ensures.replay.run.config ∙ ap (λ m. m.config) c.requires.opening in
    let n = e ∙ c.processors-count.ensures ∙ ap (λ x. 2 ^ x.k) (c.config.ensures.config ∙ ap (λ m. m.config) c.machine.ensures.machine ∙ config)
    ∙ sym c.requires.count in
    let log = ap (λ (l : LendingLog). l.log) c.in-Ok.ensures.lending in
    let lent = ap (λ (l : LendingLog). l.lent) c.in-Ok.ensures.lending in
    record {
      opening = ap (λ (l : Log). l.opening) log ∙ c.requires.opening;
      config = ap (λ (l : Log). l.machine.config) log ∙ config;
      count = c.requires.count;
      loans = subst (λ (x : List PassState × List (Option Lent)). SayLoans x.0 x.1) (λ i. (sym c.loop-p.invariant.0 i, sym lent i))
          (new_loans c.loop-p.p (2 ^ c.args.logged.machine.config.k));
      fits = subst (λ (x : List Step × List PassState). Fits g.N.Run.opening g.N.Run.first g.N.Run.count x.0 x.1)
          (λ i. (sym (ap (λ (l : Log). l.steps) log ∙ c.requires.first) i, sym (c.loop-p.invariant.0 ∙ ap (λ k. rows_of (new_passes k)) n) i))
          (starts g.N.Run.opening g.N.Run.first g.N.Run.count);
    }

pub returns-clause-whole : goal.returns-clause-whole
returns-clause-whole g c =
    let e : c.loop-p.p ≡ c.processors-count.result = (let a = c.loop-p.auto.p-end in let b = c.loop-p-test.false in omega arith) in
    let config = c.machine.ensures.replay.run.config ∙ ap (λ m. m.config) c.requires.opening in
    let n = e ∙ c.processors-count.ensures ∙ ap (λ x. 2 ^ x.k) (c.config.ensures.config ∙ ap (λ m. m.config) c.machine.ensures.machine ∙ config)
    ∙ sym c.requires.count in
    subst (IsWhole g.N.Run.count) (sym (c.loop-p.invariant.1 ∙ ap new_passes n)) (whole-new g.N.Run.count)

pub returns-clause-passes : goal.returns-clause-passes
returns-clause-passes g c =
    let e : c.loop-p.p ≡ c.processors-count.result = (let a = c.loop-p.auto.p-end in let b = c.loop-p-test.false in omega arith) in
    let config = c.machine.ensures.replay.run.config ∙ ap (λ m. m.config) c.requires.opening in
    let n = e ∙ c.processors-count.ensures ∙ ap (λ x. 2 ^ x.k) (c.config.ensures.config ∙ ap (λ m. m.config) c.machine.ensures.machine ∙ config)
    ∙ sym c.requires.count in
    c.loop-p.invariant.1 ∙ ap new_passes n

pub loop-p-preserved : goal.loop-p-preserved
loop-p-preserved g c =
    let i = c.loop-p.invariant in
    let p = c.loop-p.p in
    let next : p + 1 ≡ suc p = omega arith in
    let row = ap (λ pass_events. row pass_events 0 None None) c.new-in-loop-p.ensures.items in
    let push = c.push_reserved.ensures in
    let len = push.len in
    let before = i.2 in
    let capacity = push.capacity in
    let room = i.3 in (
      c.allocate-fragment.ensures.authority ∙ ap (λ rows. rows ++ new_row ∷ []) i.0 ∙ sym (rows_of-push (new_passes p) (held p new_row))
          ∙ ap (λ n. rows_of (new_passes n)) (sym next),
      push.items ∙ (λ n. i.1 n ++ held p (row n) ∷ []) ∙ ap new_passes (sym next),
      omega (arith, len, before),
      omega (arith, capacity, room),
    )
