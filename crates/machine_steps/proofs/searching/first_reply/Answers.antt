use Rattle.omega_network.specs.Networks.{net_of}
use Rattle.machine_steps.proofs.Draining.{first_is_least}
use Rattle.machine_steps.proofs.searching.first_reply.Goals as goal

pub returns : goal.returns
returns c =
    first_is_least c.args.network.now.k ((net_of c.args.network.now).replies c.args.stage) c.reply_wires.result c.first_from.result
    c.reply_wires.ensures.stages c.reply_wires.ensures.exact c.reply_wires.ensures.few
    c.first_from.ensures.first c.first_from.ensures.none
