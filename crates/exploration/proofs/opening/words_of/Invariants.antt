use Rattle.std.proofs.Common.{◌≡◌, map}
use Rattle.std.specs.List.{range_with_len}
use Rattle.machine_steps.specs.machine_theory.Processors.{word_at}
use Rattle.exploration.proofs.opening.words_of.Given as goal

abbrev pub invariant-loop-number : goal.invariant-loop-number
invariant-loop-number l = l.words ≡ map (word_at l.machine.config.k l.machine.modules) (range_with_len 0 l.number)
