use Rattle.std.proofs.Common.{◌++◌, ap, sym, ◌∙◌}
use Rattle.std.specs.Prelude.{string_bytes}
use Rattle.std.specs.Option.{option_copied}
use Rattle.machine_views.specs.Names.{rows_in}
use Rattle.page_command.specs.Pages.{symbol_lines}
use Rattle.page_command.proofs.SymbolLines.{lines_of_rows, no_lines}
use Rattle.page_command.proofs.head.push_symbols.Goals as goal

pub returns-in_ok-push_each_symbol : goal.returns-in_ok-push_each_symbol
returns-in_ok-push_each_symbol c =
    c.in_ok-push_each_symbol.ensures ∙ ap (λ lines. string_bytes c.args.text.now ++ lines)
    (lines_of_rows c.symbols.result.now ∙ ap symbol_lines c.symbols.ensures)
    ∙ ap (λ symbols. string_bytes c.args.text.now ++ symbol_lines (rows_in (option_copied symbols))) (sym c.in-Some.is)

pub returns-in_default : goal.returns-in_default
returns-in_default c =
    no_lines (string_bytes c.args.text.now)
    ∙ ap (λ symbols. string_bytes c.args.text.now ++ symbol_lines (rows_in (option_copied symbols))) (sym c.in_default.is)
