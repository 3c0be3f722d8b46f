use Rattle.std.proofs.Common.{◌≡◌, length, refl, arith}
use Rattle.exploration.proofs.Sameness.{same_lists}
use Rattle.exploration.proofs.outcome.are_same.Goals as goal

pub returns : goal.returns
returns c =
    let as_long : length c.args.some.now ≡ length c.args.others.now = omega arith in
    (λ t. same_lists c.args.some.now c.args.others.now as_long (λ i l. c.loop-p.invariant i (omega (arith, l))), λ same. refl)
