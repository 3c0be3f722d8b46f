use Rattle.std.proofs.Common.{◌≡◌, ℕ, Bool, true, false, List, refl, sym, ap, ◌∙◌}
use Rattle.messages.specs.declared.message.Record.{Record}
use Rattle.messages.specs.declared.message.Reply.{Reply}
use Rattle.messages.specs.Queues.{answers, records_of}
use Rattle.combining_switch.specs.Pools.{PoolLists}
use Rattle.combining_switch.specs.declared.answers.Answered.{Answered}
use Rattle.combining_switch.specs.Switches.{SwitchState, answered, answered_for, has_room, put_replies, records_at}
use Rattle.combining_switch.proofs.Answering.{answered_by, by_room}
use Rattle.combining_switch.proofs.switch.Switch.answer.Goals as goal

-- The answer depends on whether there is room for the replies that these records give.
by_records : (s : SwitchState) (pool : PoolLists) (out : ℕ) (x : Reply) (es : List Record) (b : Bool) → es ≡ records_at s out
    → b ≡ has_room s.c s.its_bit s.inputs (put_replies s.its_bit s.inputs (answers (records_of x.leader es) x) pool) (answers (records_of x.leader es) x)
    → (came : Bool) → b ≡ came → answered_by s pool out x (answers (records_of x.leader es) x) came ≡ answered s pool out x
by_records s pool out x es b same room came is =
    sym (by_room s pool out x (answers (records_of x.leader es) x) came
    (ap (λ (rs : List Record). answers (records_of x.leader rs) x) same) (sym room ∙ is))

pub returns-then-not-has_room-clause-answer : goal.returns-then-not-has_room-clause-answer
returns-then-not-has_room-clause-answer c =
    ap (λ (r : Answered × SwitchState × PoolLists). r.0)
    (by_records c.args.self.now c.args.pool.now c.args.out c.args.reply c.records-records.result.now c.has_room.result
    c.records-records.ensures.records (c.has_room.ensures c.args.reply refl) false c.if-not-has_room.true)

pub returns-then-not-has_room-clause-records : goal.returns-then-not-has_room-clause-records
returns-then-not-has_room-clause-records c =
    ap (λ (r : Answered × SwitchState × PoolLists). r.1)
    (by_records c.args.self.now c.args.pool.now c.args.out c.args.reply c.records-records.result.now c.has_room.result
    c.records-records.ensures.records (c.has_room.ensures c.args.reply refl) false c.if-not-has_room.true)

pub returns-then-not-has_room-clause-replies : goal.returns-then-not-has_room-clause-replies
returns-then-not-has_room-clause-replies c =
    ap (λ (r : Answered × SwitchState × PoolLists). r.2)
    (by_records c.args.self.now c.args.pool.now c.args.out c.args.reply c.records-records.result.now c.has_room.result
    c.records-records.ensures.records (c.has_room.ensures c.args.reply refl) false c.if-not-has_room.true)

pub returns-clause-answer : goal.returns-clause-answer
returns-clause-answer c =
    c.put_all-answered.ensures.answer
    ∙ ap (λ (es : List Record). answered_for (records_of c.args.reply.leader es)) c.records-records.ensures.records
    ∙ ap (λ (r : Answered × SwitchState × PoolLists). r.0)
    (by_records c.args.self.now c.args.pool.now c.args.out c.args.reply c.records-records.result.now c.has_room.result
    c.records-records.ensures.records (c.has_room.ensures c.args.reply refl) true c.if-not-has_room.false)

pub returns-clause-records : goal.returns-clause-records
returns-clause-records c =
    c.forget.ensures
    ∙ ap (λ (r : Answered × SwitchState × PoolLists). r.1)
    (by_records c.args.self.now c.args.pool.now c.args.out c.args.reply c.records-records.result.now c.has_room.result
    c.records-records.ensures.records (c.has_room.ensures c.args.reply refl) true c.if-not-has_room.false)

pub returns-clause-replies : goal.returns-clause-replies
returns-clause-replies c =
    c.put_all-answered.ensures.replies
    ∙ ap (λ (r : Answered × SwitchState × PoolLists). r.2)
    (by_records c.args.self.now c.args.pool.now c.args.out c.args.reply c.records-records.result.now c.has_room.result
    c.records-records.ensures.records (c.has_room.ensures c.args.reply refl) true c.if-not-has_room.false)
