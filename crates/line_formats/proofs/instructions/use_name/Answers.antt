use Rattle.std.proofs.Common.{[], arith, sym}
use Rattle.std.proofs.lemmas.List.{get_or_past}
use Rattle.asm_lines.specs.Names.{use_names}
use Rattle.line_formats.proofs.instructions.use_name.Goals as goal

pub returns-in_default : goal.returns-in_default
returns-in_default c = sym (get_or_past use_names c.args.number [] (omega arith))
