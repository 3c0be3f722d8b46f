use Rattle.std.proofs.Common.{◌<◌, refl, sym, ap, ◌∙◌, subst, length, slice_index_or}
use Rattle.omega_wires.specs.Wires.{bit}
use Rattle.messages.specs.declared.message.Reply.{Reply}
use Rattle.ring_network.specs.Switches.{SwitchLists, put_replies, put_reply, replies_at, with_inputs}
use Rattle.ring_network.proofs.Rooms.{next_fits, put_more}
use Rattle.ring_network.proofs.switch.Switch.put_all.Goals as goal

abbrev blank : Reply
blank = record { leader = 0; value = 0 }

pub loop-reply-init : goal.loop-reply-init
unfolding put_replies
loop-reply-init c = refl

pub put-requires : goal.put-requires
put-requires c =
    let y : Reply = slice_index_or c.args.replies.now c.loop-reply.reply-index blank in
    let s : SwitchLists = c.args.self.now in
    subst (λ (t : SwitchLists). length (replies_at t.inputs (bit t.its_bit y.leader)) < t.c) (sym c.loop-reply.invariant)
    (next_fits s.c s.its_bit s.inputs c.args.replies.now c.loop-reply.reply-index blank c.requires.two c.requires.room c.loop-reply-test.true)

pub loop-reply-preserved : goal.loop-reply-preserved
loop-reply-preserved c =
    let y : Reply = slice_index_or c.args.replies.now c.loop-reply.reply-index blank in
    let s : SwitchLists = c.args.self.now in
    c.put.ensures ∙ ap (λ (t : SwitchLists). with_inputs t (put_reply t.its_bit t.inputs y)) c.loop-reply.invariant
    ∙ ap (with_inputs s) (sym (put_more s.its_bit c.args.replies.now c.loop-reply.reply-index blank s.inputs c.loop-reply-test.true))
