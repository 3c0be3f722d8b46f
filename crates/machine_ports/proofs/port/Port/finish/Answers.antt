use Rattle.std.proofs.Common.{sym, subst}
use Rattle.flat_machine.specs.Turns.{turn_of}
use Rattle.hart.specs.Deciding.{IsReference}
use Rattle.machine_ports.specs.Ports.{PortState, seen_core, turn}
use Rattle.machine_ports.proofs.Away.{no_reference}
use Rattle.machine_ports.proofs.port.Port.finish.Goals as goal

pub unreachable-requires : goal.unreachable-requires
unreachable-requires c =
    let code = c.args.code.now in
    let setting = c.self.inside.setting in
    let refers = subst (λ (p : PortState). IsReference (turn p code)) (sym c.self.view_is) c.requires in
    no_reference setting code (subst (λ core. IsReference (turn_of (seen_core setting core).setting code (seen_core setting core).state))
    c.in_default.is refers)
