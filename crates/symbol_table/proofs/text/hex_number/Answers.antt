use Rattle.std.proofs.Common.{ap, sym, ◌∙◌}
use Rattle.symbol_table.specs.Text.{hex_number, is_hex}
use Rattle.symbol_table.proofs.Ascii.{hex_is_text, hex_parsed}
use Rattle.symbol_table.proofs.text.hex_number.Goals as goal

pub returns-in-Ok : goal.returns-in-Ok
returns-in-Ok c =
    let same = c.in-Ok.ensures.cases.0 in
    c.ok.ensures.value
    ∙ hex_parsed c.in-Ok.text.now c.from_str_radix.result (ap is_hex same ∙ sym c.is_hex.ensures ∙ c.if-not-is_hex.false) c.from_str_radix.ensures.value
    ∙ ap hex_number same

pub returns-in-Err : goal.returns-in-Err
returns-in-Err c = absurd (c.in-Err.ensures.cases.0 (hex_is_text c.args.digits.now (sym c.is_hex.ensures ∙ c.if-not-is_hex.false)))
