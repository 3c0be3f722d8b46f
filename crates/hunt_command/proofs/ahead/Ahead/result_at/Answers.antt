use Rattle.std.proofs.lemmas.Result.{IfOk-weaker}
use Rattle.hunt_command.proofs.ahead.Ahead.result_at.Goals as goal

pub returns-in-Some-clause-ahead : goal.returns-in-Some-clause-ahead
returns-in-Some-clause-ahead g c = (c.in-Some.ensures c.args.hunt c.args.config c.args.image.now c.in_ok-reach.ensures).0

pub returns-in-Some-clause-result : goal.returns-in-Some-clause-result
returns-in-Some-clause-result g c = (c.in-Some.ensures c.args.hunt c.args.config c.args.image.now c.in_ok-reach.ensures).1

pub returns-in-None-clause-ahead : goal.returns-in-None-clause-ahead
returns-in-None-clause-ahead g c =
    let kept = (c.in-None.ensures c.args.hunt c.args.config c.args.image.now c.in_ok-reach.ensures).0 in
    IfOk-weaker c.result_of.result _ _ (λ result is. kept) c.result_of.ensures.result
