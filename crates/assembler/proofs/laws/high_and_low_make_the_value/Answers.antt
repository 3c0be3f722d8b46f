use Rattle.assembler.specs.Meaning.{labels_of, lines_of}
use Rattle.assembler.proofs.Parts.{parts_make_value}
use Rattle.assembler.proofs.SmallLabels.{labels_are_words}
use Rattle.assembler.proofs.laws.high_and_low_make_the_value.Goals as goal

pub returns-clause-value : goal.returns-clause-value
returns-clause-value c = parts_make_value

pub returns-clause-text : goal.returns-clause-text
returns-clause-text c = λ text layout name symbol meant is.
    parts_make_value (labels_of (lines_of text)) name symbol is (labels_are_words text layout meant name symbol is)
