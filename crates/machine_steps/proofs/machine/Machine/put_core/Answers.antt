use Rattle.std.proofs.Common.{◌≡◌, ◌∙◌, ◌<◌, ◌^◌, true, sym, ap, subst}
use Rattle.machine_theory.specs.Processors.{setting_of}
use Rattle.machine_theory.specs.Cores.{with_core}
use Rattle.machine_steps.specs.Machines.{MachineLists, away_at, machine_of}
use Rattle.machine_steps.proofs.Lending.{put_keeps, put_there}
use Rattle.machine_steps.proofs.machine.Machine.put_core.Goals as goal

pub invariant_of-self : goal.invariant_of-self
invariant_of-self c =
    put_keeps _ c.self.invariant c.args.processor c.from.result c.from.ensures
    (subst (λ (m : MachineLists). c.args.processor < 2 ^ m.config.k) (sym c.self.view_is) c.requires.there) c.index_mut.result.now c.index_mut.ensures.value
    c.put_core.new.self c.args.core c.put_core.ensures
    (subst (λ (m : MachineLists). away_at m c.args.processor ≡ true) (sym c.self.view_is) c.requires.away)
    (c.requires.setting ∙ ap (λ (m : MachineLists). setting_of m.config c.args.processor) (sym c.self.view_is)) c.requires.words c.core_has_registers.ensures

pub returns-clause-machine : goal.returns-clause-machine
returns-clause-machine c shown =
    put_there _ c.self.invariant c.args.processor c.from.result c.from.ensures
    (subst (λ (m : MachineLists). c.args.processor < 2 ^ m.config.k) (sym c.self.view_is) c.requires.there) c.index_mut.result.now c.index_mut.ensures.value
    c.put_core.new.self c.args.core c.put_core.ensures shown
    ∙ ap (λ (m : MachineLists). with_core (machine_of m shown) c.args.processor (record { state = c.args.core.state; events = shown c.args.processor }))
    c.self.view_is
