use Rattle.std.proofs.Common.{◌-◌, bit_and, ap, ◌∙◌, arith}
use Rattle.std.proofs.lemmas.Nat.{and_mask, one_shl}
use Rattle.omega_wires.proofs.wires.module_of.Goals as goal

pub returns-clause-exact : goal.returns-clause-exact
returns-clause-exact c = ap (λ n. bit_and c.args.word (n - 1)) (one_shl c.args.k 32 (omega (arith, c.requires))) ∙ and_mask c.args.word c.args.k
