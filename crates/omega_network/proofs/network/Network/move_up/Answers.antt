use Rattle.std.proofs.Common.{Option, sym, ap, subst, ◌∙◌, rules}
use Rattle.std.specs.Prelude.{IfSome}
use Rattle.messages.specs.declared.message.Request.{Request}
use Rattle.messages.specs.declared.moves.UpMove.{UpMove}
use Rattle.messages.specs.Network.{Net, Sizes}
use Rattle.messages.specs.Moves.{offered}
use Rattle.omega_network.specs.Networks.{MayLead, net_of}
use Rattle.omega_network.proofs.Moves.{up_stalled, up_went}
use Rattle.omega_network.proofs.network.Network.move_up.Goals as goal

pub returns-then-not-would_take : goal.returns-then-not-would_take
returns-then-not-would_take c =
    let e = up_stalled c.args.self.now c.args.wire c.self.view_is c.requires.stage c.requires.first
    c.wire_after-out.ensures.exact c.module_of.ensures.exact c.would_take.ensures c.if-not-would_take.true in
    record { outcome = sym (ap (λ (r : UpMove × Net). r.0) e); after = sym (ap (λ (r : UpMove × Net). r.1) e); sizes = search rules }

pub offer-requires-clause-leader : goal.offer-requires-clause-leader
offer-requires-clause-leader c =
    subst (λ (o : Option Request). IfSome o (λ y. MayLead c.take_request.new.self y.leader)) (c.take_request.ensures.first ∙ c.requires.first)
    c.take_request.ensures.unnamed

pub returns : goal.returns
returns c =
    let net : Net = net_of c.take_request.new.self in
    let e = ap (λ (z : Sizes). offered z net net c.args.stage c.wire_after-out.result c.args.request) c.take_request.ensures.sizes
    ∙ sym (up_went c.args.self.now c.args.wire c.self.view_is c.requires.stage c.requires.first c.wire_after-out.ensures.exact
    c.module_of.ensures.exact c.would_take.ensures c.if-not-would_take.false c.take_request.ensures.taken) in
    record {
      outcome = c.offer.ensures.outcome ∙ ap (λ (r : UpMove × Net). r.0) e;
      after = c.offer.ensures.after ∙ ap (λ (r : UpMove × Net). r.1) e;
      sizes = search rules;
    }
