use Rattle.std.proofs.Common.{sym, ◌∙◌}
use Rattle.symbol_table.proofs.Ascii.{name_is_text}
use Rattle.symbol_table.proofs.row.name_of.Goals as goal

pub returns-in-Err : goal.returns-in-Err
returns-in-Err c = absurd (c.in-Err.ensures.cases.0 (name_is_text c.args.bytes.now (sym c.is_name.ensures ∙ c.if-not-is_name.false)))
