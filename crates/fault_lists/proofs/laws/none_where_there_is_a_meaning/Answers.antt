use Rattle.std.proofs.Common.{refl}
use Rattle.std.specs.Prelude.{codes}
use Rattle.asm_lines.specs.declared.statement.Section.TheVariants.{Code, Local, Shared}
use Rattle.assembler.specs.Meaning.{lines_of, pieces_of, section_bytes, labels_of, entry_of}
use Rattle.fault_lists.proofs.Present.{none_listed, all_ok}
use Rattle.fault_lists.proofs.laws.none_where_there_is_a_meaning.Goals as goal

pub returns-clause-none : goal.returns-clause-none
returns-clause-none c = λ text layout meant. none_listed 1 (pieces_of (lines_of text)) meant.faultless

pub returns-clause-meaning : goal.returns-clause-meaning
returns-clause-meaning c = λ text none. (
  record {
    entry = entry_of (labels_of (lines_of text) (codes "start"));
    code = section_bytes Code (pieces_of (lines_of text));
    local = section_bytes Local (pieces_of (lines_of text));
    shared = section_bytes Shared (pieces_of (lines_of text));
  },
  record { faultless = all_ok 1 (pieces_of (lines_of text)) none; code = refl; local = refl; shared = refl; entry = refl },
)
