use Rattle.std.proofs.Common.{◌≤◌, length, arith}
use Rattle.combining_switch.specs.Links.{queue_at}
use Rattle.combining_switch.proofs.Linking.{count_is, few_in, last_within, pushed_first, pushed_more}
use Rattle.combining_switch.proofs.links.Links.push.Goals as goal

pub invariant_of-self : goal.invariant_of-self
invariant_of-self c =
    (pushed_first c.self.inside.next.items c.self.inside.queues.items c.args.self.now c.args.queue c.args.number c.index-ends.result.now c.self.view_is
    c.self.invariant c.requires.queue c.requires.number c.requires.free c.index-ends.ensures c.if-ends-eq0.true).linked

pub index_mut-requires-else-ends-eq0 : goal.index_mut-requires-else-ends-eq0
index_mut-requires-else-ends-eq0 c =
    omega (
      arith,
      last_within c.self.inside.next.items c.self.inside.queues.items c.args.self.now c.args.queue c.index-ends.result.now c.self.view_is
          c.self.invariant c.requires.queue c.index-ends.ensures (omega arith),
    )

pub overflow_add-ends : goal.overflow_add-ends
overflow_add-ends c =
    let few : length (queue_at c.args.self.now c.args.queue) ≤ 64 =
    few_in c.self.inside.next.items c.self.inside.queues.items c.args.self.now c.args.queue c.self.view_is c.self.invariant in
    omega (
      arith,
      count_is c.self.inside.next.items c.self.inside.queues.items c.args.self.now c.args.queue c.index-ends.result.now c.self.view_is
          c.requires.queue c.index-ends.ensures,
    )

pub invariant_of-self-else-ends-eq0 : goal.invariant_of-self-else-ends-eq0
invariant_of-self-else-ends-eq0 c = rw c.from.ensures
    (pushed_more c.self.inside.next.items c.self.inside.queues.items c.args.self.now c.args.queue c.args.number c.index-ends.result.now c.self.view_is
    c.self.invariant c.requires.queue c.requires.number c.requires.free c.index-ends.ensures (omega arith)).linked

pub returns-then-ends-eq0 : goal.returns-then-ends-eq0
returns-then-ends-eq0 c =
    (pushed_first c.self.inside.next.items c.self.inside.queues.items c.args.self.now c.args.queue c.args.number c.index-ends.result.now c.self.view_is
    c.self.invariant c.requires.queue c.requires.number c.requires.free c.index-ends.ensures c.if-ends-eq0.true).view

pub returns-else-ends-eq0 : goal.returns-else-ends-eq0
returns-else-ends-eq0 c = rw c.from.ensures
    (pushed_more c.self.inside.next.items c.self.inside.queues.items c.args.self.now c.args.queue c.args.number c.index-ends.result.now c.self.view_is
    c.self.invariant c.requires.queue c.requires.number c.requires.free c.index-ends.ensures (omega arith)).view
