use Rattle.std.proofs.Common.{ap, sym, ◌∙◌}
use Rattle.std.specs.Prelude.{slice_get}
use Rattle.machine_steps.specs.Runs.{flat_state}
use Rattle.trace_commands.proofs.Words.{read_word}
use Rattle.trace_commands.proofs.lines.word_of_turn.Goals as goal

pub returns-in-Some : goal.returns-in-Some
returns-in-Some c =
    let m = flat_state c.args.before.now in
    let laws = c.turns_have_words.ensures in
    read_word m c.args.p laws.retired laws.stopped c.flat_shared_words.result c.in-Some.registers.now (slice_get m.processors c.from.result)
    c.in-Retired.retired c.word_of_instruction.result (ap (slice_get m.processors) (sym c.from.ensures)) c.in-Some.ensures
    c.flat_shared_words.ensures.count (sym c.in-Retired.is ∙ c.requires.fault) c.word_of_instruction.ensures
