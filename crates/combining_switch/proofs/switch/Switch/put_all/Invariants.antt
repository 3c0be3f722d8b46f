use Rattle.std.proofs.Common.{◌≡◌, drop, map, take}
use Rattle.messages.specs.Queues.{records_of, reply_of}
use Rattle.combining_switch.specs.Switches.{CanBeQueued, StandsIn, answered_for, put_replies}
use Rattle.combining_switch.proofs.switch.Switch.put_all.Given as goal

-- The replies of the seconds so far are put, and those of the others can be.
abbrev pub invariant-loop-record : goal.invariant-loop-record
invariant-loop-record l = record {
  so_far : l.pool ≡ put_replies l.self.its_bit l.self.inputs
      (map (reply_of l.reply.value) (records_of l.reply.leader (take l.record-index l.records))) l.initial.pool;
  fact : l.answered ≡ answered_for (records_of l.reply.leader (take l.record-index l.records));
  others : CanBeQueued l.pool (map (reply_of l.reply.value) (records_of l.reply.leader (drop l.record-index l.records)));
  stands : StandsIn l.self l.pool;
}
