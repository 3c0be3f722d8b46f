use Rattle.std.proofs.Common.{◌≤◌, ◌+◌, ◌*◌, sym, subst, arith}
use Rattle.std.specs.Prelude.{◌%◌}
use Rattle.std.proofs.Math.Pow.{pow_mono}
use Rattle.std.proofs.lemmas.Nat.{one_shl}
use Rattle.random_schedules.proofs.epoch.turns_each.Goals as goal

pub returns-clause-few : goal.returns-clause-few
returns-clause-few c =
    let few : 4 + 2 * (c.args.number % 4) ≤ 10 = omega arith in
    subst (λ n. n ≤ 1024) (sym (one_shl (4 + 2 * (c.args.number % 4)) 32 (omega (arith, few)))) (pow_mono {i = 4 + 2 * (c.args.number % 4)} {j = 10} few)
