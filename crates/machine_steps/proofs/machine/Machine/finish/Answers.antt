use Rattle.std.proofs.Common.{◌≡◌, ◌<◌, ◌^◌, true, refl, sym, subst}
use Rattle.machine_theory.specs.Processors.{port_at}
use Rattle.machine_steps.specs.Machines.{MachineLists}
use Rattle.machine_steps.proofs.Handling.{step_by, port_refers, finish_there}
use Rattle.machine_steps.proofs.machine.Machine.finish.Goals as goal

pub finish-requires-clause-reference : goal.finish-requires-clause-reference
finish-requires-clause-reference c = port_refers _ c.self.invariant c.args.p c.from-place.result c.from-place.ensures
    (subst (λ (m : MachineLists). c.args.p < 2 ^ m.config.k) (sym c.self.view_is) c.requires.there) c.index_mut.result.now c.index_mut.ensures.value
    c.deref-code.result.now c.deref-code.ensures
    (subst (λ (m : MachineLists). (port_at m.ports c.args.p).is_open ≡ true) (sym c.self.view_is) c.requires.opened)

pub invariant_of-self : goal.invariant_of-self
invariant_of-self c = (finish_there _ c.self.invariant c.args.p c.from-place.result c.from-place.ensures
    (subst (λ (m : MachineLists). c.args.p < 2 ^ m.config.k) (sym c.self.view_is) c.requires.there) c.index_mut.result.now c.index_mut.ensures.value
    c.deref-code.result.now c.deref-code.ensures
    c.finish.new.port c.finish.result c.finish.new.network
    (subst (λ (m : MachineLists). (port_at m.ports c.args.p).is_open ≡ true) (sym c.self.view_is) c.requires.opened) c.finish.ensures.finished
    c.finish.ensures.sizes).1

pub returns : goal.returns
returns c = step_by c.self.view_is refl (finish_there _ c.self.invariant c.args.p c.from-place.result c.from-place.ensures
    (subst (λ (m : MachineLists). c.args.p < 2 ^ m.config.k) (sym c.self.view_is) c.requires.there) c.index_mut.result.now c.index_mut.ensures.value
    c.deref-code.result.now c.deref-code.ensures
    c.finish.new.port c.finish.result c.finish.new.network
    (subst (λ (m : MachineLists). (port_at m.ports c.args.p).is_open ≡ true) (sym c.self.view_is) c.requires.opened) c.finish.ensures.finished
    c.finish.ensures.sizes).0
