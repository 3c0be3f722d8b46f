use Rattle.std.proofs.Common.{◌≡◌, ◌++◌, take, map}
use Rattle.asm_lines.specs.Text.{trimmed}
use Rattle.course_text.specs.Views.{nows}
use Rattle.course_text.proofs.parts.push_operands.Given as goal

abbrev pub invariant-loop-part : goal.invariant-loop-part
invariant-loop-part l = nows l.words.items ≡ nows l.initial.words.items ++ map trimmed (nows (take l.part-index l.part-items))
