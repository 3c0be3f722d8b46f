use Rattle.std.proofs.Common.{◌∙◌, ap, sym}
use Rattle.ring_network.specs.Networks.{net_of}
use Rattle.ring_network.specs.Offers.{first_request_taken}
use Rattle.ring_network.proofs.Slots.{slot_taken}
use Rattle.ring_network.proofs.network.Network.take_request.Goals as goal

pub returns-then-stage-eq0-clause-taken : goal.returns-then-stage-eq0-clause-taken
returns-then-stage-eq0-clause-taken c =
    c.put_slot.ensures.after ∙ slot_taken c.args.self.now c.args.wire
    ∙ ap (λ d. first_request_taken (net_of c.args.self.now) d c.args.wire) (sym c.if-stage-eq0.true)
