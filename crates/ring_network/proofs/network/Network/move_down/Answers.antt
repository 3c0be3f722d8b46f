use Rattle.std.proofs.Common.{◌≡◌, ◌∙◌, ◌+◌, suc, ap, arith, rules}
use Rattle.ring_network.specs.Networks.{net_of}
use Rattle.ring_network.specs.Offers.{first_reply_taken}
use Rattle.ring_network.proofs.Moves.{down_ends}
use Rattle.ring_network.proofs.network.Network.move_down.Goals as goal

pub returns-in-One : goal.returns-in-One
returns-in-One c =
    let next : c.args.stage + 1 ≡ suc c.args.stage = omega arith in
    let e = down_ends c.args.self.now c.args.wire c.requires.stage c.requires.first c.answer.ensures.answer c.answer.ensures.after c.in-One.is in
    record {
      outcome = e.0;
      after = c.take_reply.ensures.taken ∙ ap (λ d. first_reply_taken (net_of c.answer.new.self) d c.args.wire) next ∙ e.1;
      sizes = search rules;
    }

pub returns-in-Many : goal.returns-in-Many
returns-in-Many c =
    let next : c.args.stage + 1 ≡ suc c.args.stage = omega arith in
    let e = down_ends c.args.self.now c.args.wire c.requires.stage c.requires.first c.answer.ensures.answer c.answer.ensures.after c.in-Many.is in
    record {
      outcome = e.0;
      after = c.take_reply-in-Many.ensures.taken ∙ ap (λ d. first_reply_taken (net_of c.answer.new.self) d c.args.wire) next ∙ e.1;
      sizes = search rules;
    }

pub returns-in-NoRoom : goal.returns-in-NoRoom
returns-in-NoRoom c =
    let e = down_ends c.args.self.now c.args.wire c.requires.stage c.requires.first c.answer.ensures.answer c.answer.ensures.after c.in-NoRoom.is in
    record { outcome = e.0; after = e.1; sizes = search rules }
