use Rattle.std.proofs.Common.{◌-◌, bit_and, ap, ◌∙◌}
use Rattle.std.proofs.lemmas.Nat.{and_mask, one_shl}
use Rattle.omega_wires.proofs.wires.low_bits.Goals as goal

pub returns : goal.returns
returns c = ap (λ n. bit_and c.args.number (n - 1)) (one_shl c.args.bits 8 c.requires) ∙ and_mask c.args.number c.args.bits
