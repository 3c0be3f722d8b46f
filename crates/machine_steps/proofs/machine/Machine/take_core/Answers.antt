use Rattle.std.proofs.Common.{◌∙◌, ◌<◌, ◌^◌, length, sym, ap, arith}
use Rattle.machine_ports.specs.Ports.{PortState}
use Rattle.machine_theory.specs.Processors.{no_port}
use Rattle.machine_theory.specs.Cores.{without}
use Rattle.machine_steps.specs.Machines.{MachineLists, machine_of}
use Rattle.machine_steps.proofs.Handling.{found}
use Rattle.machine_steps.proofs.Lending.{taken_keeps, taken_there}
use Rattle.machine_steps.proofs.machine.Machine.take_core.Goals as goal

pub invariant_of-self : goal.invariant_of-self
invariant_of-self c =
    let all = c.self.invariant.ports.all in
    let within : c.args.processor < 2 ^ c.self.inside.config.k = omega (arith, all, c.if-place-len.false, c.from-place.ensures, c.len.ensures) in
    let there : c.args.processor < length c.self.inside.ports.items = omega (arith, c.if-place-len.false, c.from-place.ensures, c.len.ensures) in
    let ports = c.self.inside.ports.items in
    let asked = found ports c.args.processor c.from-place.result no_port c.index.result.now c.from-place.ensures there c.index.ensures in
    let taken = found ports c.args.processor c.from-place.result no_port c.index_mut.result.now c.from-place.ensures there c.index_mut.ensures.value in
    taken_keeps _ c.self.invariant c.args.processor c.from-place.result c.from-place.ensures within c.index_mut.result.now c.index_mut.ensures.value
    c.take_core.new.self c.take_core.ensures.away
    (ap (λ (q : PortState). q.is_open) (taken ∙ sym asked) ∙ sym c.is_open.ensures ∙ c.if-is_open.false)

pub returns-clause-machine : goal.returns-clause-machine
returns-clause-machine c free shown =
    let all = c.self.invariant.ports.all in
    let within : c.args.processor < 2 ^ c.self.inside.config.k = omega (arith, all, c.if-place-len.false, c.from-place.ensures, c.len.ensures) in
    taken_there _ c.self.invariant c.args.processor c.from-place.result c.from-place.ensures within c.index_mut.result.now c.index_mut.ensures.value
    c.take_core.new.self c.take_core.ensures.away shown
    ∙ ap (λ (m : MachineLists). without (machine_of m shown) c.args.processor) c.self.view_is
