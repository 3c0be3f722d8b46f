use Rattle.std.proofs.Common.{◌≡◌, map, length}
use Rattle.asm_lines.specs.Statements.{val_of}
use Rattle.assembler.specs.Meaning.{words_bytes}
use Rattle.line_faults.specs.Faults.{fault_in}
use Rattle.line_faults.specs.Places.{label_values}
use Rattle.line_faults.proofs.values.words_fault.Given as goal

abbrev pub invariant-loop-rest : goal.invariant-loop-rest
invariant-loop-rest l =
    fault_in (words_bytes (label_values l.labels) (map val_of l.rest)) ≡ fault_in (words_bytes (label_values l.labels) (map val_of l.values))

abbrev pub decreases-loop-rest : goal.decreases-loop-rest
decreases-loop-rest l = length l.rest
