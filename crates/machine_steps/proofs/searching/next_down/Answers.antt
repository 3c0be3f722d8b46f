use Rattle.std.proofs.Common.{◌+◌, refl, arith}
use Rattle.omega_network.specs.Networks.{net_of, sizes_of}
use Rattle.machine_theory.specs.serialization.Draining.{least}
use Rattle.machine_steps.proofs.Draining.{down_found, down_more, down_none}
use Rattle.machine_steps.proofs.searching.next_down.Goals as goal

pub loop-stage-init : goal.loop-stage-init
unfolding least
loop-stage-init c = refl

pub returns-in-Some : goal.returns-in-Some
returns-in-Some c =
    down_found (sizes_of c.args.network.now) (net_of c.args.network.now) c.loop-stage.stage
    (c.loop-stage.stage + 1) c.in-Some.wire c.first_reply.result c.loop-stage.invariant c.first_reply.ensures refl c.in-Some.is
    (omega (arith, c.loop-stage-test.true, c.stages-stage-end.ensures))

pub loop-stage-preserved : goal.loop-stage-preserved
loop-stage-preserved c = down_more (sizes_of c.args.network.now) (net_of c.args.network.now) c.loop-stage.stage
    (c.loop-stage.stage + 1) c.first_reply.result c.loop-stage.invariant c.first_reply.ensures refl c.in_default.is

pub returns : goal.returns
returns c = down_none (sizes_of c.args.network.now) (net_of c.args.network.now) c.loop-stage.stage c.loop-stage.invariant
    (omega (arith, c.loop-stage-test.false, c.loop-stage.auto.stage-end, c.stages-stage-end.ensures))
