use Rattle.std.proofs.Common.{◌≡◌, ◌∙◌, ℕ, Some, ap, length, sym, subst, arith}
use Rattle.std.specs.Vec.{vec_capacity}
use Rattle.machine_steps.specs.Runs.{answer_after}
use Rattle.machine_log.specs.Logs.{HasTaken, entered}
use Rattle.machine_log.proofs.Taking.{entered_length}
use Rattle.machine_theory.specs.Loans.{IsOfOthers}
use Rattle.machine_log.specs.Lendings.{LendingLog, lent_at, whole}
use Rattle.machine_log.specs.declared.lent.Lent.{Lent}
use Rattle.machine_log.proofs.Stepping.{answer_there, lends_on, taken_there}
use Rattle.machine_log.proofs.lending.Lending.step.Goals as goal

pub invariant_of-self : goal.invariant_of-self
invariant_of-self c =
    let l = c.self.inside in
    let e = c.enter.ensures in
    let entered_in = e.steps ∙ ap (λ xs. entered xs c.args.step c.enter.result) c.reserve.ensures.items in
    let steps = l.steps.items in
    let others = subst (λ (l : LendingLog). (p : ℕ) (k : Lent) → lent_at l.lent p ≡ Some k → IsOfOthers p c.args.step) (sym c.self.view_is) c.requires.others in
    let is = c.self.invariant.0 in
    let room = is.room in
    let promises = c.self.invariant.1 in
    let same = e.capacity in
    let len = ap length c.reserve.ensures.items in
    let capacity_left = c.in-Ok.ensures.ok in
    let count = c.len.ensures in
    let more = entered_length l.machine c.enter.new.machine c.reserve.new.self.items c.enter.new.steps.items 1 e.entered in (
      lends_on c.others_do_not_notice.ensures.step l.opening.value l.machine c.enter.new.machine steps (vec_capacity l.steps)
          l.lent.items is c.args.step c.enter.result others e.step
          e.entered.sound c.enter.new.steps.items (vec_capacity c.enter.new.steps) entered_in (omega (arith, room, promises, more, same, len, capacity_left))
          (omega (arith, room, promises, more, len, c.if-len-self-ge-MAX_STEPS.false, count)),
      promises,
    )

pub returns-in-Ok-clause-taken : goal.returns-in-Ok-clause-taken
returns-in-Ok-clause-taken c =
    let l = c.self.inside in
    let e = c.enter.ensures in
    let entered_in = e.steps ∙ ap (λ xs. entered xs c.args.step c.enter.result) c.reserve.ensures.items in
    let others = subst (λ (l : LendingLog). (p : ℕ) (k : Lent) → lent_at l.lent p ≡ Some k → IsOfOthers p c.args.step) (sym c.self.view_is) c.requires.others in
    subst (λ (x : LendingLog). HasTaken x.log c.args.step c.enter.result
    (record { opening = l.opening.value; steps = c.enter.new.steps.items; machine = whole c.enter.new.machine l.lent.items })) c.self.view_is
    (taken_there c.others_do_not_notice.ensures.step l.opening.value l.machine c.enter.new.machine l.steps.items (vec_capacity l.steps)
    l.lent.items c.self.invariant.0 c.args.step
    c.enter.result others e.step e.entered.sound c.enter.new.steps.items entered_in)

pub returns-in-Ok-clause-answer : goal.returns-in-Ok-clause-answer
returns-in-Ok-clause-answer c =
    let l = c.self.inside in
    let e = c.enter.ensures in
    let entered_in = e.steps ∙ ap (λ xs. entered xs c.args.step c.enter.result) c.reserve.ensures.items in
    let others = subst (λ (l : LendingLog). (p : ℕ) (k : Lent) → lent_at l.lent p ≡ Some k → IsOfOthers p c.args.step) (sym c.self.view_is) c.requires.others in
    subst (λ (x : LendingLog). c.enter.result ≡ answer_after x.log.opening x.log.steps c.args.step) c.self.view_is
    (answer_there c.others_do_not_notice.ensures.step l.opening.value l.machine c.enter.new.machine l.steps.items (vec_capacity l.steps)
    l.lent.items c.self.invariant.0 c.args.step
    c.enter.result others e.step e.entered.sound)
