use Rattle.std.proofs.Common.{◌≡◌, ◌≤◌, ℕ, length, take, slice_index_or, sym, ap, subst, arith}
use Rattle.std.proofs.lemmas.List.{take_more, take_all}
use Rattle.steps.specs.declared.step.Step.TheVariants as step
use Rattle.machine_steps.specs.Runs.{passed}
use Rattle.machine_steps.specs.Ordering.{outcome_by, group_in, IsEntered}
use Rattle.machine_steps.proofs.Running.{serialized}
use Rattle.machine_steps.proofs.Ordering.{IsOrdered, order_begins, few_after, order_goes_on}
use Rattle.machine_theory.specs.Order.{group_after}
use Rattle.machine_steps.proofs.machine.Machine.order.Goals as goal

pub loop-step-init : goal.loop-step-init
loop-step-init c =
    let made = c.in_ok-order.ensures in
    let none : length c.in_ok-order.order.entries.items ≡ 0 = ap length made.entries in
    record {
      ordered = order_begins c.args.self.now c.in_ok-order.order.groups.items c.in_ok-order.order.entries.items made.leaders made.groups made.entries;
      room = made.places;
      count = (let waiting = made.none in omega (arith, none, waiting));
    }

pub enter-requires-clause-few : goal.enter-requires-clause-few
enter-requires-clause-few c =
    let steps = c.args.steps.now in
    let i = c.loop-step.step-index in
    let s = slice_index_or steps i (step.Turn 0) in
    let groups = c.loop-step.order.groups.items in
    subst (λ b. (p : ℕ) → length (group_after (group_in groups) (outcome_by s b c.apply-outcome.result) p) ≤ 64) (sym c.is_open_at-was_open.ensures)
    (few_after c.args.self.now c.loop-step.self
    (take i steps) groups c.loop-step.order.entries.items c.loop-step.invariant.ordered s c.apply-outcome.result c.apply-outcome.new.self
    c.apply-outcome.ensures.step
    c.machine_is_well_formed.ensures c.requires.idle)

pub enter-requires-clause-room : goal.enter-requires-clause-room
enter-requires-clause-room c = omega (arith, c.loop-step.invariant.count, c.loop-step.invariant.room, c.loop-step-test.true)

pub loop-step-preserved : goal.loop-step-preserved
loop-step-preserved c =
    let steps = c.args.steps.now in
    let i = c.loop-step.step-index in
    let s = slice_index_or steps i (step.Turn 0) in
    let groups = c.loop-step.order.groups.items in
    let entries = c.loop-step.order.entries.items in
    let groups_after = c.enter.new.self.groups.items in
    let entries_after = c.enter.new.self.entries.items in
    let entered = subst (λ b. IsEntered groups entries (outcome_by s b c.apply-outcome.result) groups_after entries_after) c.is_open_at-was_open.ensures
    c.enter.ensures.entered in
    record {
      ordered =
          subst (λ done. IsOrdered c.args.self.now done c.apply-outcome.new.self groups_after entries_after)
          (sym (take_more steps i (step.Turn 0) c.loop-step-test.true))
          (order_goes_on c.args.self.now c.loop-step.self
          (take i steps) groups entries c.loop-step.invariant.ordered s c.apply-outcome.result c.apply-outcome.new.self c.apply-outcome.ensures.step
          groups_after entries_after entered);
      room = subst (λ n. length steps ≤ n) (sym c.enter.ensures.capacity) c.loop-step.invariant.room;
      count = (let more = entered.count in let before = c.loop-step.invariant.count in omega (arith, more, before));
    }

pub returns-clause-order : goal.returns-clause-order
returns-clause-order c =
    let steps = c.args.steps.now in
    let d = subst (λ done. IsOrdered c.args.self.now done c.loop-step.self c.loop-step.order.groups.items c.loop-step.order.entries.items)
    (take_all c.loop-step.step-index steps c.loop-step-test.false) c.loop-step.invariant.ordered in
    subst (λ entries. entries.items ≡ (passed c.args.self.now steps).order) (sym c.into_entries.ensures) d.order

pub returns-clause-run : goal.returns-clause-run
returns-clause-run c =
    let steps = c.args.steps.now in
    let d = subst (λ done. IsOrdered c.args.self.now done c.loop-step.self c.loop-step.order.groups.items c.loop-step.order.entries.items)
    (take_all c.loop-step.step-index steps c.loop-step-test.false) c.loop-step.invariant.ordered in
    d.run

pub returns-clause-serialized : goal.returns-clause-serialized
returns-clause-serialized c =
    let steps = c.args.steps.now in
    let d = subst (λ done. IsOrdered c.args.self.now done c.loop-step.self c.loop-step.order.groups.items c.loop-step.order.entries.items)
    (take_all c.loop-step.step-index steps c.loop-step-test.false) c.loop-step.invariant.ordered in
    serialized c.args.self.now steps c.loop-step.self c.machine_is_well_formed.ensures c.requires.idle c.machine_is_well_formed-2.ensures d.run
