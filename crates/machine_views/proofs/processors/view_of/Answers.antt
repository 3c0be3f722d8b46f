use Rattle.std.proofs.Common.{ap, ◌∙◌}
use Rattle.messages.specs.Network.{Sizes}
use Rattle.machine_views.proofs.Viewed.{viewed}
use Rattle.machine_views.proofs.processors.view_of.Goals as goal

pub returns : goal.returns
returns c =
    viewed c.args.machine.now c.as_network.result.now c.args.steps c.config.result c.in_ok-processors.processors c.in_ok-places.places
    c.config.ensures.config c.in_ok-processors.ensures (c.as_network.ensures ∙ c.network.ensures) c.in_ok-places.ensures
    (ap (λ (z : Sizes). z.k) c.machine_is_well_formed.ensures.sizes)
