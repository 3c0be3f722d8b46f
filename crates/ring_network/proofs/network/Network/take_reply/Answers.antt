use Rattle.std.proofs.Common.{◌≡◌, ◌∙◌, ap, sym}
use Rattle.ring_network.specs.Networks.{NetworkLists, net_of}
use Rattle.ring_network.specs.Offers.{first_reply_taken}
use Rattle.ring_network.proofs.Slots.{module_slot_taken}
use Rattle.ring_network.proofs.network.Network.take_reply.Goals as goal

pub returns-then-stage-self-clause-taken : goal.returns-then-stage-self-clause-taken
returns-then-stage-self-clause-taken c =
    let at_end : c.args.stage ≡ c.args.self.now.k = c.if-stage-self.true ∙ ap (λ (m : NetworkLists). m.k) c.self.view_is in
    c.put_module_slot.ensures.after ∙ module_slot_taken c.args.self.now c.args.wire
    ∙ ap (λ d. first_reply_taken (net_of c.args.self.now) d c.args.wire) (sym at_end)
