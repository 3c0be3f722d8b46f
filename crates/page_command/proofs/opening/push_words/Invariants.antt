use Rattle.std.proofs.Common.{◌≡◌, ◌++◌}
use Rattle.std.specs.Prelude.{string_bytes}
use Rattle.machine_steps.specs.machine_theory.Processors.{word_at}
use Rattle.page_command.specs.Openings.{words_set}
use Rattle.page_command.specs.Views.{view_at}
use Rattle.page_command.proofs.Lists.{text_to}
use Rattle.page_command.proofs.opening.push_words.Given as goal

abbrev pub invariant-loop-number : goal.invariant-loop-number
invariant-loop-number l = string_bytes l.text ≡ string_bytes l.initial.text
    ++ text_to (view_at l.machine) (words_set (word_at l.machine.config.k l.machine.modules) l.number)
