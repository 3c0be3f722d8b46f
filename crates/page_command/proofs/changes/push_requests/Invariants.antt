use Rattle.std.proofs.Common.{◌-◌, length}
use Rattle.std.specs.Prelude.{string_bytes}
use Rattle.omega_network.specs.Networks.{net_of}
use Rattle.page_command.specs.Changes.{request_item}
use Rattle.page_command.proofs.Items.{HasItems}
use Rattle.page_command.proofs.changes.push_requests.Given as goal

abbrev pub invariant-loop-request : goal.invariant-loop-request
invariant-loop-request l =
    HasItems request_item ((net_of l.network).requests l.depth l.wire) l.place (string_bytes l.initial.text) (string_bytes l.text)

abbrev pub decreases-loop-request : goal.decreases-loop-request
decreases-loop-request l = length ((net_of l.network).requests l.depth l.wire) - l.place
