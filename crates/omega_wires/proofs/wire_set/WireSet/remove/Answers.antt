use Rattle.std.proofs.Common.{◌∙◌, ap, false}
use Rattle.std.specs.Prelude.{◌==◌, if◌then◌else◌}
use Rattle.omega_wires.specs.Members.{members}
use Rattle.omega_wires.proofs.Changes.{member_went}
use Rattle.omega_wires.proofs.wire_set.WireSet.remove.Goals as goal

pub returns : goal.returns
returns c w =
    member_went c.self.inside.bits c.args.wire c.requires c.self.invariant w ∙ ap (λ s. if w == c.args.wire then false else members s w) c.self.view_is
