use Rattle.std.proofs.Common.{◌≡◌, ◌++◌, ◌^◌}
use Rattle.std.specs.Prelude.{string_bytes}
use Rattle.omega_network.specs.Networks.{net_of}
use Rattle.page_command.specs.Openings.{places_set}
use Rattle.page_command.specs.Views.{view_at}
use Rattle.page_command.proofs.Lists.{text_to}
use Rattle.page_command.proofs.opening.push_places.Given as goal

abbrev pub invariant-loop-depth : goal.invariant-loop-depth
invariant-loop-depth l = string_bytes l.text ≡ string_bytes l.initial.text
    ++ text_to (view_at l.machine) (places_set (net_of l.machine.network) (2 ^ l.machine.config.k) l.depth)
