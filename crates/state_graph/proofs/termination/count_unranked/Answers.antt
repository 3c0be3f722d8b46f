use Rattle.std.proofs.Common.{rules, arith, ◌≡◌, ◌∙◌}
use Rattle.std.specs.Prelude.{◌==◌, count_by}
use Rattle.state_graph.specs.Ranks.{no_rank}
use Rattle.state_graph.proofs.Ranking.{unranked_counted}
use Rattle.state_graph.proofs.termination.count_unranked.Goals as goal

pub returns : goal.returns
returns c =
    let counted : c.count.result ≡ count_by (λ r. r == no_rank) c.args.ranks.now = search rules in
    counted ∙ unranked_counted c.args.ranks.now (λ i. omega (arith, c.type_inv.ranks i))
