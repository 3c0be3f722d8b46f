use Rattle.std.proofs.Common.{◌≡◌, take}
use Rattle.machine_views.specs.Cells.{words_of}
use Rattle.machine_views.proofs.module_words.words_of.Given as goal

abbrev pub invariant-loop-processor : goal.invariant-loop-processor
invariant-loop-processor l =
    l.words.items ≡ words_of l.wires l.number (take l.processor-index l.processors)
