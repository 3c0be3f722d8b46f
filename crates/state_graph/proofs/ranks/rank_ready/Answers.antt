use Rattle.std.proofs.Common.{◌≡◌, ◌+◌, ◌-◌, ◌<◌, ◌≤◌, length, subst, arith, rules}
use Rattle.state_graph.specs.Ranks.{no_rank, rank_at, IsReadyAt, IsPassed}
use Rattle.state_graph.proofs.Ranking.{next_real, ranked_on, found_one}
use Rattle.state_graph.proofs.ranks.rank_ready.Goals as goal

pub overflow_add-next : goal.overflow_add-next
overflow_add-next c =
    let there : c.loop-at.at - 1 < length c.args.moves.now = omega (arith, c.loop-at.invariant.within) in
    let none : no_rank ≤ rank_at c.loop-at.ranks.items (c.loop-at.at - 1) = search rules in
    let ready : IsReadyAt c.args.rule c.args.moves.now c.loop-at.ranks.items (c.loop-at.at - 1) no_rank = search rules in
    let real : c.loop-at.next < no_rank =
    next_real c.args.rule c.args.moves.now c.requires.few c.loop-at.ranks.items c.loop-at.next (c.loop-at.at - 1)
    c.loop-at.invariant.so_far there none ready in
    omega (arith, real)

pub loop-at-preserved-then-is_ready : goal.loop-at-preserved-then-is_ready
loop-at-preserved-then-is_ready c =
    let there : c.loop-at.at - 1 < length c.args.moves.now = omega (arith, c.loop-at.invariant.within) in
    let none : no_rank ≤ rank_at c.loop-at.ranks.items (c.loop-at.at - 1) = search rules in
    let ready : IsReadyAt c.args.rule c.args.moves.now c.loop-at.ranks.items (c.loop-at.at - 1) no_rank = search rules in
    let behind : c.loop-at.at ≡ c.loop-at.at - 1 + 1 = omega arith in
    let passed = subst (λ n. IsPassed c.args.rule c.args.moves.now c.args.ranks.now.items c.loop-at.ranks.items n c.loop-at.is_found)
    behind c.loop-at.invariant.passed in
    record {
      within = omega (arith, there);
      so_far = ranked_on c.args.rule c.args.moves.now c.requires.few c.loop-at.ranks.items c.loop-at.next (c.loop-at.at - 1)
          c.loop-at.invariant.so_far there none ready;
      passed = found_one c.args.rule c.args.moves.now c.requires.few c.args.ranks.now.items c.loop-at.ranks.items (c.loop-at.at - 1)
          c.loop-at.is_found passed c.loop-at.next c.loop-at.invariant.so_far there none ready;
    }
