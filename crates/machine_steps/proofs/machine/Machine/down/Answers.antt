use Rattle.std.proofs.Common.{arith}
use Rattle.machine_steps.proofs.Handling.{same_by, step_by, down_no_stage, on_a_wire, down_no_wire, down_done}
use Rattle.machine_steps.proofs.machine.Machine.down.Goals as goal

pub returns-then-stage-stages : goal.returns-then-stage-stages
returns-then-stage-stages c =
    same_by c.self.view_is (down_no_stage _ c.self.invariant c.args.stage c.args.wire (omega (arith, c.if-stage-stages.true, c.stages.ensures)))

pub returns-then-place-len : goal.returns-then-place-len
returns-then-place-len c =
    same_by c.self.view_is (down_no_wire _ c.self.invariant c.args.stage c.args.wire (omega (arith, c.if-place-len.true, c.from-place.ensures, c.len.ensures)))

pub down-requires-clause-wire : goal.down-requires-clause-wire
down-requires-clause-wire c = on_a_wire _ c.self.invariant c.args.wire (omega (arith, c.if-place-len.false, c.from-place.ensures, c.len.ensures))

pub invariant_of-self : goal.invariant_of-self
invariant_of-self c =
    let down = c.down.ensures in
    (down_done _ c.self.invariant c.args.stage c.args.wire c.down.result c.down.new.self
    (on_a_wire _ c.self.invariant c.args.wire (omega (arith, c.if-place-len.false, c.from-place.ensures, c.len.ensures))) down.outcome down.after
    down.sizes).1

pub returns : goal.returns
returns c =
    let down = c.down.ensures in
    step_by c.self.view_is c.down_outcome.ensures
    (down_done _ c.self.invariant c.args.stage c.args.wire c.down.result c.down.new.self
    (on_a_wire _ c.self.invariant c.args.wire (omega (arith, c.if-place-len.false, c.from-place.ensures, c.len.ensures))) down.outcome down.after
    down.sizes).0
