use Rattle.std.proofs.Common.{[], arith, sym}
use Rattle.std.proofs.lemmas.List.{get_or_past}
use Rattle.asm_lines.specs.Names.{x_names}
use Rattle.asm_lines.proofs.register.name_by_number.Goals as goal

pub returns-in_default-clause-name : goal.returns-in_default-clause-name
returns-in_default-clause-name c = sym (get_or_past x_names c.args.number [] (omega arith))
