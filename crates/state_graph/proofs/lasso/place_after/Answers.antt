use Rattle.std.proofs.Common.{◌∙◌, arith}
use Rattle.state_graph.specs.Fairness.{target_in}
use Rattle.state_graph.specs.Lassos.{place_after}
use Rattle.state_graph.proofs.Walking.{place_last, place_more}
use Rattle.state_graph.proofs.lasso.place_after.Goals as goal

pub loop-k-preserved : goal.loop-k-preserved
loop-k-preserved c =
    let movers = c.args.movers.now in
    place_more c.args.targets.now movers c.loop-k.k-index 0 c.loop-k.at c.target_in-at.result (place_after c.args.targets.now c.args.place movers)
    (omega arith) (c.target_in-at.ensures.is ∙ (λ j. target_in (c.of.ensures j) (c.from.ensures j))) c.loop-k.invariant

pub returns : goal.returns
returns c =
    place_last c.args.targets.now c.args.movers.now c.loop-k.k-index c.loop-k.at (place_after c.args.targets.now c.args.place c.args.movers.now)
    c.loop-k-test.false c.loop-k.invariant
