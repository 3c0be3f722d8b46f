use Rattle.std.proofs.Common.{rules}
use Rattle.phi_algebra.proofs.Special.{identity_by}
use Rattle.phi_algebra.proofs.phi.Phi.is_identity.Goals as goal

pub returns-in-Add-clause-exact : goal.returns-in-Add-clause-exact
returns-in-Add-clause-exact c = identity_by c.args.self.now _ (rw c.in-Add.is (search rules)) (search rules)

pub returns-then-and-clause-exact : goal.returns-then-and-clause-exact
returns-then-and-clause-exact c = identity_by c.args.self.now _ (rw c.in-Bits.is (search rules)) (search rules)

pub returns-else-and-clause-exact : goal.returns-else-and-clause-exact
returns-else-and-clause-exact c = identity_by c.args.self.now _ (rw c.in-Bits.is (search rules)) (search rules)

pub returns-in-Clamp-clause-exact : goal.returns-in-Clamp-clause-exact
returns-in-Clamp-clause-exact c = identity_by c.args.self.now _ (rw c.in-Clamp.is (search rules)) (search rules)

pub returns-in-ClampU-clause-exact : goal.returns-in-ClampU-clause-exact
returns-in-ClampU-clause-exact c = identity_by c.args.self.now _ (rw c.in-ClampU.is (search rules)) (search rules)
