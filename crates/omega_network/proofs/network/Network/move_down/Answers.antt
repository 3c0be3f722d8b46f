use Rattle.std.proofs.Common.{◌≡◌, ◌+◌, suc, drop, Option, sym, ap, subst, ◌∙◌, arith, rules}
use Rattle.std.specs.Prelude.{IfSome, slice_get}
use Rattle.messages.specs.declared.message.Reply.{Reply}
use Rattle.messages.specs.declared.moves.DownMove.{DownMove}
use Rattle.messages.specs.Network.{Net, Sizes, put_replies}
use Rattle.messages.specs.Moves.{answer}
use Rattle.messages.specs.Queues.{records_of}
use Rattle.omega_network.specs.Networks.{MayLead, net_of}
use Rattle.omega_network.proofs.Moves.{down_stalled, down_went}
use Rattle.omega_network.proofs.network.Network.move_down.Goals as goal

pub returns-then-not-would_answer : goal.returns-then-not-would_answer
returns-then-not-would_answer c =
    let e = down_stalled c.args.self.now c.args.wire c.requires.stage c.requires.first c.would_answer.ensures c.if-not-would_answer.true in
    record { outcome = sym (ap (λ (r : DownMove × Net). r.0) e); after = sym (ap (λ (r : DownMove × Net). r.1) e); sizes = search rules }

pub answer-requires-clause-leader : goal.answer-requires-clause-leader
answer-requires-clause-leader c =
    let next : c.args.stage + 1 ≡ suc c.args.stage = omega arith in
    subst (λ (o : Option Reply). IfSome o (λ y. MayLead c.take_reply.new.self y.leader))
    (c.take_reply.ensures.first ∙ ap (λ d. slice_get ((net_of c.args.self.now).replies d c.args.wire) 0) next ∙ c.requires.first)
    c.take_reply.ensures.unnamed

pub returns : goal.returns
returns c =
    let next : c.args.stage + 1 ≡ suc c.args.stage = omega arith in
    let net : Net = net_of c.take_reply.new.self in
    let e = ap (λ (z : Sizes). answer z net net c.args.stage c.args.wire c.args.reply (records_of c.args.reply.leader (net.records c.args.stage c.args.wire)))
    c.take_reply.ensures.sizes
    ∙ sym (down_went c.args.self.now c.args.wire c.requires.stage c.requires.first c.would_answer.ensures c.if-not-would_answer.false
    (c.take_reply.ensures.taken ∙ ap (λ d. put_replies (net_of c.args.self.now) d c.args.wire (drop 1 ((net_of c.args.self.now).replies d c.args.wire)))
    next)) in
    record {
      outcome = c.answer.ensures.outcome ∙ ap (λ (r : DownMove × Net). r.0) e;
      after = c.answer.ensures.after ∙ ap (λ (r : DownMove × Net). r.1) e;
      sizes = search rules;
    }
