use Rattle.std.proofs.Common.{◌≡◌, Some, sym, arith}
use Rattle.std.specs.Prelude.{slice_get}
use Rattle.combining_switch.specs.Links.{queue_at}
use Rattle.combining_switch.proofs.Lists.{nothing_taken}
use Rattle.combining_switch.proofs.Linking.{count_is, front_none, front_some, popped, row_within}
use Rattle.combining_switch.proofs.links.Links.pop.Goals as goal

pub returns-then-ends-eq0-clause-first : goal.returns-then-ends-eq0-clause-first
returns-then-ends-eq0-clause-first c = front_none (queue_at c.args.self.now c.args.queue) c.index-ends.result.now.count
    (count_is c.self.inside.next.items c.self.inside.queues.items c.args.self.now c.args.queue c.index-ends.result.now c.self.view_is c.requires
    c.index-ends.ensures)
    c.if-ends-eq0.true

pub returns-then-ends-eq0-clause-after : goal.returns-then-ends-eq0-clause-after
returns-then-ends-eq0-clause-after c = nothing_taken c.args.self.now c.args.queue c.index-ends.result.now.count
    (count_is c.self.inside.next.items c.self.inside.queues.items c.args.self.now c.args.queue c.index-ends.result.now c.self.view_is c.requires
    c.index-ends.ensures)
    c.if-ends-eq0.true

pub index-requires : goal.index-requires
index-requires c =
    let first : slice_get (queue_at c.args.self.now c.args.queue) 0 ≡ Some c.index-ends.result.now.first =
    front_some c.self.inside.next.items c.self.inside.queues.items c.args.self.now c.args.queue c.index-ends.result.now c.self.view_is c.requires
    c.index-ends.ensures (omega arith) in
    omega (
      arith,
      row_within c.self.inside.next.items c.self.inside.queues.items c.args.self.now c.args.queue 0 c.index-ends.result.now.first c.self.view_is
          c.self.invariant first,
    )

pub invariant_of-self : goal.invariant_of-self
invariant_of-self c =
    (popped c.self.inside.next.items c.self.inside.queues.items c.args.self.now c.args.queue c.index-ends.result.now c.index.result.now c.self.view_is
    c.self.invariant c.requires c.index-ends.ensures (omega arith) (rw (← c.from.ensures) c.index.ensures)).linked

pub returns-clause-first : goal.returns-clause-first
returns-clause-first c = sym
    (front_some c.self.inside.next.items c.self.inside.queues.items c.args.self.now c.args.queue c.index-ends.result.now c.self.view_is c.requires
    c.index-ends.ensures (omega arith))

pub returns-clause-after : goal.returns-clause-after
returns-clause-after c =
    (popped c.self.inside.next.items c.self.inside.queues.items c.args.self.now c.args.queue c.index-ends.result.now c.index.result.now c.self.view_is
    c.self.invariant c.requires c.index-ends.ensures (omega arith) (rw (← c.from.ensures) c.index.ensures)).view
