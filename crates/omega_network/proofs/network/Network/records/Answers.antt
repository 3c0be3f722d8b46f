use Rattle.std.proofs.Common.{◌%◌, sym, ap, ◌∙◌}
use Rattle.combining_switch.specs.Switches.{SwitchState, records_at}
use Rattle.omega_network.specs.Networks.{NetworkLists, records_after}
use Rattle.omega_network.proofs.Changes.{at_output}
use Rattle.omega_network.proofs.Offering.{found_is}
use Rattle.omega_network.proofs.network.Network.records.Goals as goal

pub returns : goal.returns
returns c =
    let found = found_is c.self.view_is c.self.invariant c.requires.stage c.requires.wire c.switch_after.ensures.exact c.index.ensures in
    c.records.ensures.records
    ∙ ap (λ (u : SwitchState). records_at u (c.args.wire % 2)) found.found
    ∙ sym (at_output _ c.args.stage c.args.wire found.wire)
    ∙ ap (λ (l : NetworkLists). records_after l c.args.stage c.args.wire) c.self.view_is
