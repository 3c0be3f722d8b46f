use Rattle.std.proofs.Common.{◌≡◌, List, sym, ap, refl}
use Rattle.messages.specs.declared.message.Record.{Record}
use Rattle.messages.specs.declared.message.Reply.{Reply}
use Rattle.messages.specs.Queues.{answers, records_of}
use Rattle.combining_switch.specs.Switches.{records_at}
use Rattle.combining_switch.proofs.Answering.{room_holds}
use Rattle.combining_switch.proofs.switch.Switch.would_answer.Goals as goal

pub returns : goal.returns
returns c =
    let x : Reply = c.args.reply.now in
    let same : answers (records_of x.leader c.records-records.result.now) x ≡ answers (records_of x.leader (records_at c.args.self.now c.args.out)) x =
    ap (λ (es : List Record). answers (records_of x.leader es) x) c.records-records.ensures.records in
    room_holds c.args.self.now c.args.pool.now c.args.out x (answers (records_of x.leader c.records-records.result.now) x) c.has_room.result
    same (sym (c.has_room.ensures x refl))
