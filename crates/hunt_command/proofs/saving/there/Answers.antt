use Rattle.std.proofs.Common.{subst, arith}
use Rattle.hunt_command.specs.Findings.{firsts}
use Rattle.hunt_command.proofs.Noting.{firsts_length}
use Rattle.hunt_command.proofs.Writing.{free_more, free_whole}
use Rattle.hunt_command.proofs.saving.there.Goals as goal

pub loop-place-preserved : goal.loop-place-preserved
loop-place-preserved g c =
    free_more g.T.Traces.finds c.args.traces.now (firsts c.args.findings.now.found) c.loop-place.place c.first_at-number.result
    c.first_at-number.ensures c.loop-place.invariant
    (subst (g.T.Traces.finds c.args.traces.now c.first_at-number.result) c.if-branch.false c.in_ok-is_there.ensures)

pub returns : goal.returns
returns g c =
    let all = firsts_length c.args.findings.now.found in
    let past = c.loop-place-test.false in
    let end = c.count-place-end.ensures in
    free_whole g.T.Traces.finds c.args.traces.now (firsts c.args.findings.now.found) c.loop-place.place (omega (arith, all, past, end))
    c.loop-place.invariant
