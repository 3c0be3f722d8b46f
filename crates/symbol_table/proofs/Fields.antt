-- The row of a line with three blanks or more.
use Rattle.std.proofs.Common.{◌≡◌, ℕ, ◌+◌, ◌<◌, List, [], ◌∷◌, length, take, drop, Option, Some, None, if◌then◌else◌, option_and_then}
use Rattle.std.proofs.Common.{position, refl, sym, ap, ◌∙◌, arith, eqb}
use Rattle.std.proofs.lemmas.List.Splits.{length-slice_split}
use Rattle.symbol_table.specs.Names.{name_of}
use Rattle.symbol_table.specs.Parts.{parts_at}
use Rattle.symbol_table.specs.Rows.{SymbolRow}
use Rattle.symbol_table.specs.Text.{hex_number, is_letter, row_of_parts, row_with}
use Rattle.symbol_table.proofs.Ascii.{blank_no_name}
use Rattle.symbol_table.proofs.Cuts.{inside, parts-cut, parts-uncut}

without_name : (address size : Option ℕ) (letter name : List ℕ) → name_of name ≡ None → row_with address size letter name ≡ None
without_name address size letter name none =
    let rest : List ℕ → Option SymbolRow =
    λ text. option_and_then
    (λ (start : ℕ). option_and_then (λ (count : ℕ). if is_letter letter then Some (record { address = start; size = count; name = text }) else None) size)
    address in
    ap (option_and_then rest) none

five_parts : (a b c d : List ℕ) (parts : List (List ℕ)) → 0 < length parts → row_of_parts (a ∷ b ∷ c ∷ d ∷ parts) ≡ None
five_parts a b c d [] some = absurd (omega arith)
five_parts a b c d (e ∷ parts) some = refl

-- The row of a line whose first three parts are these, and then this rest: a rest with a blank is no name.
pub row_of_four : (a b c rest : List ℕ) → row_of_parts (a ∷ b ∷ c ∷ parts_at 32 rest) ≡ row_with (hex_number a) (hex_number b) c rest
row_of_four a b c rest = go (position (λ x. eqb x 32) rest) refl
  where
    go : (found : Option ℕ) → position (λ x. eqb x 32) rest ≡ found →
        row_of_parts (a ∷ b ∷ c ∷ parts_at 32 rest) ≡ row_with (hex_number a) (hex_number b) c rest
    go None e = ap (λ (parts : List (List ℕ)). row_of_parts (a ∷ b ∷ c ∷ parts)) (parts-uncut (λ x. eqb x 32) rest e)
    go (Some at) e =
        let front = take at rest in
        let back = drop (at + 1) rest in
        ap (λ (parts : List (List ℕ)). row_of_parts (a ∷ b ∷ c ∷ parts)) (parts-cut (λ x. eqb x 32) rest at e front back refl refl)
        ∙ five_parts a b c front (parts_at 32 back) (omega (arith, length-slice_split (λ x. eqb x 32) back))
        ∙ sym (without_name (hex_number a) (hex_number b) c rest (blank_no_name rest (inside (λ x. eqb x 32) rest at e)))
