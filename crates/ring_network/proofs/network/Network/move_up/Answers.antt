use Rattle.std.proofs.Common.{◌∙◌, rules}
use Rattle.ring_network.proofs.Moves.{up_ends}
use Rattle.ring_network.proofs.network.Network.move_up.Goals as goal

pub returns-in-Queued : goal.returns-in-Queued
returns-in-Queued c =
    let e = up_ends c.args.self.now c.args.wire c.self.view_is c.requires.stage c.requires.first
    c.wire_after-out.ensures.exact c.module_of.ensures.exact c.accept.ensures.answer c.accept.ensures.after c.in-Queued.is in
    record { outcome = e.0; after = c.take_request.ensures.taken ∙ e.1; sizes = search rules }

pub returns-in-Combined : goal.returns-in-Combined
returns-in-Combined c =
    let e = up_ends c.args.self.now c.args.wire c.self.view_is c.requires.stage c.requires.first
    c.wire_after-out.ensures.exact c.module_of.ensures.exact c.accept.ensures.answer c.accept.ensures.after c.in-Combined.is in
    record { outcome = e.0; after = c.take_request-in-Combined.ensures.taken ∙ e.1; sizes = search rules }

pub returns-in-Full : goal.returns-in-Full
returns-in-Full c =
    let e = up_ends c.args.self.now c.args.wire c.self.view_is c.requires.stage c.requires.first
    c.wire_after-out.ensures.exact c.module_of.ensures.exact c.accept.ensures.answer c.accept.ensures.after c.in-Full.is in
    record { outcome = e.0; after = e.1; sizes = search rules }
