use Rattle.omega_network.specs.Networks.{net_of}
use Rattle.machine_steps.proofs.Draining.{first_is_least}
use Rattle.machine_steps.proofs.searching.first_request.Goals as goal

pub returns : goal.returns
returns c =
    first_is_least c.args.network.now.k ((net_of c.args.network.now).requests c.args.stage) c.request_wires.result c.first_from.result
    c.request_wires.ensures.stages c.request_wires.ensures.exact c.request_wires.ensures.few
    c.first_from.ensures.first c.first_from.ensures.none
