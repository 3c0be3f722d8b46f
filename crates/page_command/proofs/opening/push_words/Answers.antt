use Rattle.std.specs.Prelude.{string_bytes}
use Rattle.machine_steps.specs.machine_theory.Processors.{word_at}
use Rattle.page_command.specs.Views.{view_at}
use Rattle.page_command.proofs.Registers.{no_word_yet, word_set_next}
use Rattle.page_command.proofs.opening.push_words.Goals as goal

pub loop-number-init : goal.loop-number-init
loop-number-init c =
    no_word_yet (view_at c.args.machine.now) (word_at c.args.machine.now.config.k c.args.machine.now.modules) (string_bytes c.args.text.now)

pub loop-number-preserved : goal.loop-number-preserved
loop-number-preserved c =
    word_set_next (view_at c.args.machine.now) (word_at c.args.machine.now.config.k c.args.machine.now.modules) c.loop-number.number
    (string_bytes c.args.text.now) (string_bytes c.loop-number.text) (string_bytes c.push_set_word.new.text) c.loop-number.invariant
    c.in_ok-push_set_word.ensures
