use Rattle.std.proofs.Common.{◌≡◌, Option, Some, None, List, ℕ, map, option_map, ap, ◌∙◌}
use Rattle.std.specs.Prelude.{bytes_eq, find}
use Rattle.symbol_table.specs.declared.row.Symbol.{Symbol}
use Rattle.symbol_table.specs.Rows.{SymbolRow, address_of, row_of}
use Rattle.symbol_table.proofs.Named.{address_found}
use Rattle.symbol_table.proofs.table.SymbolTable.address.Goals as goal

address_is : (name : List ℕ) (symbols kept : List Symbol) (rows : List SymbolRow) (found : Option Symbol) →
    found ≡ find (λ (s : Symbol). bytes_eq s.name.now name) symbols → symbols ≡ kept → map row_of kept ≡ rows →
    option_map (λ (s : Symbol). s.address) found ≡ address_of rows name
address_is name symbols kept rows found is same view =
    ap (option_map (λ (s : Symbol). s.address)) is
    ∙ (address_found name symbols
    ∙ (ap (λ (xs : List Symbol). address_of (map row_of xs) name) same ∙ ap (λ (xs : List SymbolRow). address_of xs name) view))

pub returns-in_err-symbol : goal.returns-in_err-symbol
returns-in_err-symbol c =
    c.from_residual.ensures
    ∙ address_is c.args.name.now c.as_slice.result.now c.self.inside.symbols.items c.args.self.now None c.in_err-symbol.ensures c.as_slice.ensures.value
    c.self.view_is

pub returns : goal.returns
returns c =
    address_is c.args.name.now c.as_slice.result.now c.self.inside.symbols.items c.args.self.now (Some c.in_ok-symbol.symbol.now) c.in_ok-symbol.ensures
    c.as_slice.ensures.value c.self.view_is
