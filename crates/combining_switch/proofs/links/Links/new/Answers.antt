use Rattle.std.proofs.Common.{refl}
use Rattle.combining_switch.specs.Walks.{no_ends}
use Rattle.combining_switch.proofs.Lists.{resized}
use Rattle.combining_switch.proofs.Linking.{new_links}
use Rattle.combining_switch.proofs.links.Links.new.Goals as goal

pub invariant_of-result : goal.invariant_of-result
invariant_of-result c =
    (new_links c.args.cells c.args.queues c.resize.new.self.items c.resize-2.new.self.items c.requires
    (resized c.args.cells c.from.result _ 0 _ _ c.in_ok-resize.ensures.items c.new-next.ensures.items c.new-next.ensures.len c.from.ensures)
    (resized c.args.queues c.args.queues _ no_ends _ _ c.in_ok-resize-2.ensures.items c.new-ends.ensures.items c.new-ends.ensures.len refl)).linked

pub returns : goal.returns
returns c =
    (new_links c.args.cells c.args.queues c.resize.new.self.items c.resize-2.new.self.items c.requires
    (resized c.args.cells c.from.result _ 0 _ _ c.in_ok-resize.ensures.items c.new-next.ensures.items c.new-next.ensures.len c.from.ensures)
    (resized c.args.queues c.args.queues _ no_ends _ _ c.in_ok-resize-2.ensures.items c.new-ends.ensures.items c.new-ends.ensures.len refl)).view
