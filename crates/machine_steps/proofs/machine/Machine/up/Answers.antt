use Rattle.std.proofs.Common.{arith}
use Rattle.machine_steps.proofs.Handling.{same_by, step_by, up_no_stage, on_a_wire, up_no_wire, up_done}
use Rattle.machine_steps.proofs.machine.Machine.up.Goals as goal

pub returns-then-stage-stages : goal.returns-then-stage-stages
returns-then-stage-stages c =
    same_by c.self.view_is (up_no_stage _ c.self.invariant c.args.stage c.args.wire (omega (arith, c.if-stage-stages.true, c.stages.ensures)))

pub returns-then-place-len : goal.returns-then-place-len
returns-then-place-len c =
    same_by c.self.view_is (up_no_wire _ c.self.invariant c.args.stage c.args.wire (omega (arith, c.if-place-len.true, c.from-place.ensures, c.len.ensures)))

pub up-requires-clause-wire : goal.up-requires-clause-wire
up-requires-clause-wire c = on_a_wire _ c.self.invariant c.args.wire (omega (arith, c.if-place-len.false, c.from-place.ensures, c.len.ensures))

pub invariant_of-self : goal.invariant_of-self
invariant_of-self c =
    let up = c.up.ensures in
    (up_done _ c.self.invariant c.args.stage c.args.wire c.up.result c.up.new.self
    (on_a_wire _ c.self.invariant c.args.wire (omega (arith, c.if-place-len.false, c.from-place.ensures, c.len.ensures))) up.outcome up.after up.sizes).1

pub returns : goal.returns
returns c =
    let up = c.up.ensures in
    step_by c.self.view_is c.up_outcome.ensures (up_done _ c.self.invariant c.args.stage c.args.wire c.up.result c.up.new.self
    (on_a_wire _ c.self.invariant c.args.wire (omega (arith, c.if-place-len.false, c.from-place.ensures, c.len.ensures))) up.outcome up.after up.sizes).0
