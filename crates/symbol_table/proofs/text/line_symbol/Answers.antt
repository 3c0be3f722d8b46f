use Rattle.std.proofs.Common.{◌≡◌, ℕ, List, ◌∷◌, Option, ap, sym, ◌∙◌}
use Rattle.symbol_table.specs.Parts.{parts_at}
use Rattle.symbol_table.specs.Text.{hex_number, line_row, row_of_parts, row_with}
use Rattle.symbol_table.proofs.Fields.{row_of_four}
use Rattle.symbol_table.proofs.text.line_symbol.Goals as goal

pub returns-in-Some : goal.returns-in-Some
unfolding line_row
returns-in-Some c =
    let address = c.in_ok-address.address.now in
    let second = c.in_ok-second.second.now in
    let letter = c.in-Some.letter.now in
    let name = c.in-Some.name.now in
    let parts : parts_at 32 c.args.line.now ≡ address ∷ second ∷ letter ∷ parts_at 32 name =
    c.in_ok-address.ensures.parts
    ∙ ap (λ (ps : List (List ℕ)). address ∷ ps)
    (c.in_ok-second.ensures.parts ∙ ap (λ (ps : List (List ℕ)). second ∷ ps) c.in-Some.ensures.parts) in
    c.symbol_with-in-Some.ensures
    ∙ ap (λ (o : Option ℕ). row_with o c.hex_number-in-Some-2.result letter name) c.hex_number-in-Some.ensures
    ∙ ap (λ (o : Option ℕ). row_with (hex_number address) o letter name) c.hex_number-in-Some-2.ensures
    ∙ sym (row_of_four address second letter name) ∙ ap row_of_parts (sym parts)
