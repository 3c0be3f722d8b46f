use Rattle.std.proofs.Common.{◌≡◌, ℕ, Bool, true, false, List, sym, ap, ◌∙◌}
use Rattle.std.specs.Prelude.{if◌then◌else◌}
use Rattle.messages.specs.declared.message.Reply.{Reply}
use Rattle.messages.specs.Queues.{answers, records_but, records_of}
use Rattle.combining_switch.specs.declared.answers.Answered.TheVariants.{NoRoom}
use Rattle.combining_switch.specs.Switches.{answered_for}
use Rattle.ring_network.specs.Switches.{SwitchLists, answered, has_room, put_replies, records_at, with_inputs, with_records}
use Rattle.ring_network.proofs.switch.Switch.answer.Goals as goal

-- The answer depends on the test of room for the replies themselves.
by_room : (s : SwitchLists) (out : ℕ) (x : Reply) (ys : List Reply) (b : Bool) → ys ≡ answers (records_of x.leader (records_at s out)) x
    → has_room s.c s.its_bit (put_replies s.its_bit ys s.inputs) ys ≡ b
    → answered s out x ≡ (if b
    then (
      answered_for (records_of x.leader (records_at s out)),
      with_inputs (with_records s out (records_but x.leader (records_at s out))) (put_replies s.its_bit ys s.inputs),
    )
    else (NoRoom, s))
unfolding answered
by_room s out x ys b same room =
    ap (λ (zs : List Reply). if has_room s.c s.its_bit (put_replies s.its_bit zs s.inputs) zs
    then (
      answered_for (records_of x.leader (records_at s out)),
      with_inputs (with_records s out (records_but x.leader (records_at s out))) (put_replies s.its_bit zs s.inputs),
    )
    else (NoRoom, s)) (sym same)
    ∙ ap (λ v. if v
    then (
      answered_for (records_of x.leader (records_at s out)),
      with_inputs (with_records s out (records_but x.leader (records_at s out))) (put_replies s.its_bit ys s.inputs),
    )
    else (NoRoom, s)) room

pub returns-then-not-has_room-clause-answer : goal.returns-then-not-has_room-clause-answer
returns-then-not-has_room-clause-answer c =
    sym (ap (λ r. r.0) (by_room c.args.self.now c.args.out c.args.reply c.as_slice-replies.result.now false
    (c.as_slice-replies.ensures.value ∙ c.answers-answers.ensures) (sym c.has_room.ensures.room ∙ c.if-not-has_room.true)))

pub returns-then-not-has_room-clause-after : goal.returns-then-not-has_room-clause-after
returns-then-not-has_room-clause-after c =
    sym (ap (λ r. r.1) (by_room c.args.self.now c.args.out c.args.reply c.as_slice-replies.result.now false
    (c.as_slice-replies.ensures.value ∙ c.answers-answers.ensures) (sym c.has_room.ensures.room ∙ c.if-not-has_room.true)))

pub returns-clause-answer : goal.returns-clause-answer
returns-clause-answer c =
    let s : SwitchLists = c.args.self.now in
    c.outcome.ensures c.args.reply (records_of c.args.reply.leader (records_at s c.args.out)) (c.as_slice-replies.ensures.value ∙ c.answers-answers.ensures)
    ∙ sym (ap (λ r. r.0) (by_room s c.args.out c.args.reply c.as_slice-replies.result.now true (c.as_slice-replies.ensures.value ∙ c.answers-answers.ensures)
    (sym c.has_room.ensures.room ∙ c.if-not-has_room.false)))

pub returns-clause-after : goal.returns-clause-after
returns-clause-after c =
    let s : SwitchLists = c.args.self.now in
    c.forget.ensures ∙ ap (λ (t : SwitchLists). with_records t c.args.out (records_but c.args.reply.leader (records_at t c.args.out))) c.put_all.ensures
    ∙ sym (ap (λ r. r.1) (by_room s c.args.out c.args.reply c.as_slice-replies.result.now true (c.as_slice-replies.ensures.value ∙ c.answers-answers.ensures)
    (sym c.has_room.ensures.room ∙ c.if-not-has_room.false)))
