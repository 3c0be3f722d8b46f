-- The first symbol with a name.
use Rattle.std.proofs.Common.{◌≡◌, ℕ, Bool, true, false, cond, List, [], ◌∷◌, Option, Some, None, map, refl, sym, ap, ◌∙◌}
use Rattle.std.specs.Prelude.{bytes_eq, find, option_map}
use Rattle.symbol_table.specs.declared.row.Symbol.{Symbol}
use Rattle.symbol_table.specs.Rows.{SymbolRow, address_of, has_name, row_of}

choice_of_row : (b : Bool) (s : Symbol) (o : Option Symbol) →
    cond b (Some (row_of s)) (option_map row_of o) ≡ option_map row_of (cond b (Some s) o)
choice_of_row true s o = refl
choice_of_row false s o = refl

-- The first row with a name is that of the first symbol with it.
first_row : (name : List ℕ) (symbols : List Symbol) →
    find (has_name name) (map row_of symbols) ≡ option_map row_of (find (λ (s : Symbol). bytes_eq s.name.now name) symbols)
first_row name [] = refl
first_row name (s ∷ symbols) =
    ap (λ (o : Option SymbolRow). cond (bytes_eq s.name.now name) (Some (row_of s)) o) (first_row name symbols)
    ∙ choice_of_row (bytes_eq s.name.now name) s (find (λ (x : Symbol). bytes_eq x.name.now name) symbols)

address_of_row : (o : Option Symbol) → option_map (λ (s : Symbol). s.address) o ≡ option_map (λ (row : SymbolRow). row.address) (option_map row_of o)
address_of_row None = refl
address_of_row (Some s) = refl

-- So the address of a name is that of the first symbol with it.
pub address_found : (name : List ℕ) (symbols : List Symbol) →
    option_map (λ (s : Symbol). s.address) (find (λ (s : Symbol). bytes_eq s.name.now name) symbols) ≡ address_of (map row_of symbols) name
address_found name symbols =
    address_of_row (find (λ (s : Symbol). bytes_eq s.name.now name) symbols)
    ∙ ap (option_map (λ (row : SymbolRow). row.address)) (sym (first_row name symbols))
