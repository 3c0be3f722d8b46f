use Rattle.std.proofs.Common.{◌≡◌, ◌++◌}
use Rattle.std.specs.Prelude.{string_bytes}
use Rattle.omega_network.specs.Networks.{net_of}
use Rattle.page_command.specs.Openings.{places_at}
use Rattle.page_command.specs.Views.{view_at}
use Rattle.page_command.proofs.Lists.{text_to}
use Rattle.page_command.proofs.opening.push_places_at.Given as goal

abbrev pub invariant-loop-wire : goal.invariant-loop-wire
invariant-loop-wire l = string_bytes l.text ≡ string_bytes l.initial.text
    ++ text_to (view_at l.machine) (places_at (net_of l.machine.network) l.depth l.wire)
