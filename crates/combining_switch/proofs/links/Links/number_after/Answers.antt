use Rattle.std.proofs.Common.{◌≤◌, length, arith}
use Rattle.std.proofs.lemmas.Option.{slice_get_within}
use Rattle.combining_switch.specs.Links.{queue_at}
use Rattle.combining_switch.proofs.Linking.{number_after_none, number_after_some, count_is, few_in, row_within}
use Rattle.combining_switch.proofs.links.Links.number_after.Goals as goal

pub overflow_add-place : goal.overflow_add-place
overflow_add-place c =
    let few : length (queue_at c.args.self.now c.args.queue) ≤ 64 =
    few_in c.self.inside.next.items c.self.inside.queues.items c.args.self.now c.args.queue c.self.view_is c.self.invariant in
    omega (arith, slice_get_within (queue_at c.args.self.now c.args.queue) c.args.place c.args.number c.requires.there)

pub index-requires : goal.index-requires
index-requires c =
    omega (
      arith,
      row_within c.self.inside.next.items c.self.inside.queues.items c.args.self.now c.args.queue c.args.place c.args.number c.self.view_is
          c.self.invariant c.requires.there,
    )

pub returns-then-place-from : goal.returns-then-place-from
returns-then-place-from c =
    number_after_some c.self.inside.next.items c.self.inside.queues.items c.args.self.now c.args.queue c.index-ends.result.now c.args.place c.args.number
    c.index.result.now c.self.view_is c.requires.queue c.index-ends.ensures c.requires.there (omega arith)
    (row_within c.self.inside.next.items c.self.inside.queues.items c.args.self.now c.args.queue c.args.place c.args.number c.self.view_is c.self.invariant
    c.requires.there) (rw (← c.from-then-place-from.ensures) c.index.ensures)

pub returns-else-place-from : goal.returns-else-place-from
returns-else-place-from c = number_after_none (queue_at c.args.self.now c.args.queue) c.index-ends.result.now.count c.args.place
    (count_is c.self.inside.next.items c.self.inside.queues.items c.args.self.now c.args.queue c.index-ends.result.now c.self.view_is c.requires.queue
    c.index-ends.ensures) (omega arith)
