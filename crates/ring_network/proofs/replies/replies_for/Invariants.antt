use Rattle.std.proofs.Common.{◌≡◌, ◌≤◌, ◌+◌, length, take}
use Rattle.messages.specs.Queues.{answers, records_of}
use Rattle.ring_network.proofs.replies.replies_for.Given as goal

-- The replies so far are those of the records so far.
abbrev pub invariant-loop-record : goal.invariant-loop-record
invariant-loop-record l = record {
  room : length l.replies.items ≤ l.record-index + 1;
  so_far : l.replies.items ≡ answers (records_of l.reply.leader (take l.record-index l.records)) l.reply;
}
