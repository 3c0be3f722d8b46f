use Rattle.std.proofs.Common.{arith}
use Rattle.state_graph.proofs.Ranking.{none_ranked}
use Rattle.state_graph.proofs.ranks.ranks_of.Goals as goal

pub loop-rule-init : goal.loop-rule-init
loop-rule-init c =
    none_ranked c.args.rule c.args.moves.now c.requires.few c.in_ok-ranks.ranks.items (omega (arith, c.in_ok-ranks.ensures.all))
    c.in_ok-ranks.ensures.none
