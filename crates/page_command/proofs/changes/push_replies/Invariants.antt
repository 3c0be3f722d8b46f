use Rattle.std.proofs.Common.{◌-◌, length}
use Rattle.std.specs.Prelude.{string_bytes}
use Rattle.omega_network.specs.Networks.{net_of}
use Rattle.page_command.specs.Changes.{reply_item}
use Rattle.page_command.proofs.Items.{HasItems}
use Rattle.page_command.proofs.changes.push_replies.Given as goal

abbrev pub invariant-loop-reply : goal.invariant-loop-reply
invariant-loop-reply l =
    HasItems reply_item ((net_of l.network).replies l.depth l.wire) l.place (string_bytes l.initial.text) (string_bytes l.text)

abbrev pub decreases-loop-reply : goal.decreases-loop-reply
decreases-loop-reply l = length ((net_of l.network).replies l.depth l.wire) - l.place
