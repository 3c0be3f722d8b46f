use Rattle.std.proofs.Common.{◌≡◌, take}
use Rattle.ring_network.specs.Switches.{put_replies, with_inputs}
use Rattle.ring_network.proofs.switch.Switch.put_all.Given as goal

-- The replies so far are put.
abbrev pub invariant-loop-reply : goal.invariant-loop-reply
invariant-loop-reply l = l.self ≡ with_inputs l.initial.self (put_replies l.initial.self.its_bit (take l.reply-index l.replies) l.initial.self.inputs)
