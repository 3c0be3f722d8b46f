use Rattle.line_formats.specs.Instructions.{instruction_text}
use Rattle.line_formats.proofs.instructions.push_instruction.Goals as goal

pub returns : goal.returns
unfolding instruction_text
returns g c = rw (c.origin_of-origin.ensures, c.first_of.ensures) at c.push_words.ensures
