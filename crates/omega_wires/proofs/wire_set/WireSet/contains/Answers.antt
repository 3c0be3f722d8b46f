use Rattle.std.proofs.Common.{◌∙◌, ap}
use Rattle.omega_wires.specs.Members.{members}
use Rattle.omega_wires.proofs.Changes.{bit_is_member}
use Rattle.omega_wires.proofs.wire_set.WireSet.contains.Goals as goal

pub returns : goal.returns
returns c = bit_is_member c.self.inside.bits c.args.wire ∙ ap (λ s. members s c.args.wire) c.self.view_is
