use Rattle.std.proofs.Common.{◌≡◌, map, length}
use Rattle.asm_lines.specs.Names.{directive_name, directives}
use Rattle.word_faults.specs.FirstWords.{nearest_of}
use Rattle.word_faults.specs.Views.{near_view}
use Rattle.word_faults.proofs.words.near_directive.Given as goal

abbrev pub invariant-loop-rest : goal.invariant-loop-rest
invariant-loop-rest l = nearest_of l.word (near_view l.nearest) (map directive_name l.rest)
    ≡ nearest_of l.word (near_view l.fn.before) (map directive_name directives)

abbrev pub decreases-loop-rest : goal.decreases-loop-rest
decreases-loop-rest l = length l.rest
