use Rattle.std.proofs.Common.{refl, sym, subst}
use Rattle.trace_commands.specs.Taking.{HasTaken}
use Rattle.trace_commands.proofs.Answering.{one_taken, poke_taken}
use Rattle.trace_commands.proofs.entries.execute.Goals as goal

pub returns-in-Processor : goal.returns-in-Processor
returns-in-Processor c =
    subst (λ e. HasTaken c.args.machine.now e c.one.result c.one.new.self) (sym c.in-Processor.is)
    (one_taken c.args.machine.now c.in-Processor.p c.one.result c.one.new.self c.requires.home (c.one.ensures.whole c.requires.idle))

pub returns-in-Poke : goal.returns-in-Poke
returns-in-Poke c =
    subst (λ e. HasTaken c.args.machine.now e c.apply.result c.apply.new.self) (sym c.in-Poke.is)
    (poke_taken c.args.machine.now c.in-Poke.poke c.apply.result c.apply.new.self c.lawful_alike.ensures c.requires.home c.apply.ensures.step
    (c.apply.ensures.poked c.requires.idle c.requires.home c.in-Poke.poke refl))
