use Rattle.std.proofs.Common.{◌∙◌, ◌*◌, ◌%◌, ◌^◌, ap, true, arith}
use Rattle.std.specs.Prelude.{◌==◌, if◌then◌else◌}
use Rattle.std.proofs.lemmas.Nat.{or_lt}
use Rattle.omega_wires.specs.Members.{members}
use Rattle.omega_wires.proofs.Changes.{member_came}
use Rattle.omega_wires.proofs.wire_set.WireSet.insert.Goals as goal

pub invariant_of-self : goal.invariant_of-self
invariant_of-self c = or_lt 64 c.self.inside.bits (1 * 2 ^ c.args.wire % 2 ^ 64) c.self.invariant (omega arith)

pub returns : goal.returns
returns c w = member_came c.self.inside.bits c.args.wire c.requires w ∙ ap (λ s. if w == c.args.wire then true else members s w) c.self.view_is
