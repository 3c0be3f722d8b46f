use Rattle.std.proofs.Common.{◌∙◌, sym, ap, Some, None, nat_lt, lt-ltb}
use Rattle.std.specs.Prelude.{if◌then◌else◌}
use Rattle.machine_theory.specs.Processors.{word_at}
use Rattle.machine_steps.specs.Machines.{MachineLists}
use Rattle.machine_steps.proofs.Handling.{word_there_is}
use Rattle.machine_steps.proofs.machine.Machine.word.Goals as goal

pub returns : goal.returns
returns c =
    c.word.ensures
    ∙ word_there_is _ c.self.invariant c.module_of.result c.from-place.result c.from-place.ensures c.module_of.ensures.small c.index.result.now c.index.ensures
    c.args.number c.if-number-self.false c.module_of.ensures.exact
    ∙ sym (ap (λ b. if b then Some (word_at c.self.inside.config.k c.self.inside.modules.items c.args.number)
    else None) (lt-ltb c.args.number c.self.inside.config.shared_words c.if-number-self.false))
    ∙ ap (λ (m : MachineLists). if nat_lt c.args.number m.config.shared_words then Some (word_at m.config.k m.modules c.args.number) else None) c.self.view_is
