use Rattle.std.proofs.Common.{◌∙◌, ◌-◌, ap, arith}
use Rattle.omega_network.specs.Networks.{net_of, sizes_of}
use Rattle.machine_theory.specs.serialization.Draining.{greatest}
use Rattle.machine_steps.proofs.Draining.{up_at, up_found, up_more, up_none}
use Rattle.machine_steps.proofs.searching.next_up.Goals as goal

pub loop-passed-init : goal.loop-passed-init
loop-passed-init c = ap (greatest (up_at (sizes_of c.args.network.now) (net_of c.args.network.now))) (omega (arith, c.stages-k.ensures))

pub returns-in-Some : goal.returns-in-Some
returns-in-Some c =
    up_found (sizes_of c.args.network.now) (net_of c.args.network.now) (c.stages-k.result - 1 - c.loop-passed.passed)
    (c.stages-k.result - c.loop-passed.passed) c.in-Some.wire c.first_request.result c.loop-passed.invariant
    (omega (arith, c.loop-passed-test.true)) c.first_request.ensures c.in-Some.is

pub loop-passed-preserved : goal.loop-passed-preserved
loop-passed-preserved c =
    let next = up_more (sizes_of c.args.network.now) (net_of c.args.network.now) (c.stages-k.result - 1 - c.loop-passed.passed)
    (c.stages-k.result - c.loop-passed.passed) c.first_request.result c.loop-passed.invariant
    (omega (arith, c.loop-passed-test.true)) c.first_request.ensures c.in_default.is in
    next ∙ ap (greatest (up_at (sizes_of c.args.network.now) (net_of c.args.network.now))) (omega arith)

pub returns : goal.returns
returns c = up_none (sizes_of c.args.network.now) (net_of c.args.network.now) (c.stages-k.result - c.loop-passed.passed) c.loop-passed.invariant
    (omega (arith, c.loop-passed-test.false))
