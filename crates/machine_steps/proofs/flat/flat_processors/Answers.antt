use Rattle.std.proofs.Common.{arith}
use Rattle.std.proofs.Math.Nat.{pow-le-pow_right}
use Rattle.machine_steps.proofs.flat.flat_processors.Goals as goal

pub returns-clause-few : goal.returns-clause-few
returns-clause-few c =
    let few = pow-le-pow_right {n = 2} (omega arith) c.config.ensures.limits.stages in
    let count = c.processors.ensures in
    let same = c.from.ensures in
    omega (arith, few, count, same)
