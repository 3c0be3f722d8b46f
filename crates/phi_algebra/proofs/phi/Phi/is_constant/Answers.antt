use Rattle.std.proofs.Common.{rules}
use Rattle.std.proofs.lemmas.Bool.Decides.{Decides-eqb}
use Rattle.phi_algebra.proofs.Special.{bits_clear, constant_back, constant_by, sum_varies}
use Rattle.phi_algebra.proofs.phi.Phi.is_constant.Goals as goal

pub returns-in-Add-clause-exact : goal.returns-in-Add-clause-exact
returns-in-Add-clause-exact c = constant_by c.args.self.now _ (rw c.in-Add.is (λ h. absurd (sum_varies c.in-Add.field-0 h))) (search rules)

pub returns-in-Bits-clause-exact : goal.returns-in-Bits-clause-exact
returns-in-Bits-clause-exact c =
    constant_by c.args.self.now _ (rw c.in-Bits.is (λ h. (Decides-eqb c.in-Bits.and 0).1 (bits_clear c.in-Bits.and c.in-Bits.xor (search rules) h)))
    (search rules)

pub returns-in-Clamp-clause-exact : goal.returns-in-Clamp-clause-exact
returns-in-Clamp-clause-exact c = constant_by c.args.self.now _ (constant_back _ (rw c.in-Clamp.is (search rules))) (search rules)

pub returns-in-ClampU-clause-exact : goal.returns-in-ClampU-clause-exact
returns-in-ClampU-clause-exact c = constant_by c.args.self.now _ (constant_back _ (rw c.in-ClampU.is (search rules))) (search rules)
