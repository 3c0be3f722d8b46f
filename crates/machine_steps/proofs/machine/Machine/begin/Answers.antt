use Rattle.std.proofs.Common.{◌≡◌, ◌<◌, ◌^◌, true, false, refl, sym, subst}
use Rattle.machine_theory.specs.Processors.{port_at}
use Rattle.flat_machine.specs.State.{is_running}
use Rattle.machine_steps.specs.Machines.{MachineLists}
use Rattle.machine_steps.proofs.Handling.{step_by, turn_slot_free, begin_there}
use Rattle.machine_steps.proofs.Naming.{not_named}
use Rattle.machine_steps.proofs.machine.Machine.begin.Goals as goal

pub begin-requires-clause-free : goal.begin-requires-clause-free
begin-requires-clause-free c = turn_slot_free _ c.self.invariant c.args.p
    (subst (λ (m : MachineLists). (port_at m.ports c.args.p).is_open ≡ false) (sym c.self.view_is) c.requires.closed)

pub begin-requires-clause-unnamed : goal.begin-requires-clause-unnamed
begin-requires-clause-unnamed c = not_named _ c.self.invariant c.args.p
    (subst (λ (m : MachineLists). (port_at m.ports c.args.p).is_open ≡ false) (sym c.self.view_is) c.requires.closed)

pub invariant_of-self : goal.invariant_of-self
invariant_of-self c = (begin_there _ c.self.invariant c.args.p c.from-place.result c.from-place.ensures
    (subst (λ (m : MachineLists). c.args.p < 2 ^ m.config.k) (sym c.self.view_is) c.requires.there) c.index_mut.result.now c.index_mut.ensures.value
    c.deref-code.result.now c.deref-code.ensures
    c.begin.new.port c.begin.result c.begin.new.network
    (subst (λ (m : MachineLists). (port_at m.ports c.args.p).is_open ≡ false) (sym c.self.view_is) c.requires.closed)
    (subst (λ (m : MachineLists). is_running (port_at m.ports c.args.p).core.state.status ≡ true) (sym c.self.view_is) c.requires.running) c.begin.ensures.port
    c.begin.ensures.begun c.begin.ensures.sizes).1

pub returns : goal.returns
returns c = step_by c.self.view_is refl (begin_there _ c.self.invariant c.args.p c.from-place.result c.from-place.ensures
    (subst (λ (m : MachineLists). c.args.p < 2 ^ m.config.k) (sym c.self.view_is) c.requires.there) c.index_mut.result.now c.index_mut.ensures.value
    c.deref-code.result.now c.deref-code.ensures
    c.begin.new.port c.begin.result c.begin.new.network
    (subst (λ (m : MachineLists). (port_at m.ports c.args.p).is_open ≡ false) (sym c.self.view_is) c.requires.closed)
    (subst (λ (m : MachineLists). is_running (port_at m.ports c.args.p).core.state.status ≡ true) (sym c.self.view_is) c.requires.running) c.begin.ensures.port
    c.begin.ensures.begun c.begin.ensures.sizes).0
