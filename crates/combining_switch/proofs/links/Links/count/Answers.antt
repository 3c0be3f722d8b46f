use Rattle.combining_switch.proofs.Linking.{count_is}
use Rattle.combining_switch.proofs.links.Links.count.Goals as goal

pub returns : goal.returns
returns c = count_is c.self.inside.next.items c.self.inside.queues.items c.args.self.now c.args.queue c.index.result.now c.self.view_is c.requires
    c.index.ensures
