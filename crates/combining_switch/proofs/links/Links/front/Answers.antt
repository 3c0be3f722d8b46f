use Rattle.std.proofs.Common.{sym, arith}
use Rattle.combining_switch.specs.Links.{queue_at}
use Rattle.combining_switch.proofs.Linking.{count_is, front_none, front_some}
use Rattle.combining_switch.proofs.links.Links.front.Goals as goal

pub returns-then-ends-eq0 : goal.returns-then-ends-eq0
returns-then-ends-eq0 c = front_none (queue_at c.args.self.now c.args.queue) c.index-ends.result.now.count
    (count_is c.self.inside.next.items c.self.inside.queues.items c.args.self.now c.args.queue c.index-ends.result.now c.self.view_is c.requires
    c.index-ends.ensures)
    c.if-ends-eq0.true

pub returns-else-ends-eq0 : goal.returns-else-ends-eq0
returns-else-ends-eq0 c = sym
    (front_some c.self.inside.next.items c.self.inside.queues.items c.args.self.now c.args.queue c.index-ends.result.now c.self.view_is c.requires
    c.index-ends.ensures (omega arith))
