use Rattle.std.proofs.Common.{◌∙◌, ◌<◌, length, sym, ap, arith}
use Rattle.flat_machine.specs.State.{is_running}
use Rattle.machine_ports.specs.Ports.{PortState}
use Rattle.machine_theory.specs.Processors.{no_port}
use Rattle.machine_steps.proofs.Handling.{same_by, found, turn_unnamed, turn_rests}
use Rattle.machine_steps.proofs.machine.Machine.turn.Goals as goal

pub returns-then-place-len : goal.returns-then-place-len
returns-then-place-len c =
    same_by c.self.view_is (turn_unnamed _ c.self.invariant c.args.p (omega (arith, c.if-place-len.true, c.from-place.ensures, c.len.ensures)))

pub returns-then-not-is_running : goal.returns-then-not-is_running
returns-then-not-is_running c =
    let within : c.args.p < length c.self.inside.ports.items = omega (arith, c.if-place-len.false, c.from-place.ensures, c.len.ensures) in
    let closed = found c.self.inside.ports.items c.args.p c.from-place.result no_port c.index.result.now c.from-place.ensures within c.index.ensures in
    let rests = found c.self.inside.ports.items c.args.p c.from-place.result no_port c.index-2.result.now c.from-place.ensures within c.index-2.ensures in
    same_by c.self.view_is (turn_rests _ c.self.invariant c.args.p within
    (ap (λ (q : PortState). q.is_open) (sym closed) ∙ sym c.is_open.ensures ∙ c.if-is_open.false)
    (ap (λ (q : PortState). is_running q.core.state.status) (sym rests) ∙ sym c.is_running.ensures ∙ c.if-not-is_running.true))
