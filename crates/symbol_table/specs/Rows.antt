-- Symbols as rows of a table, the place of an address among them, and the address of a name.
use Rattle.std.specs.Prelude.{ℕ, ◌-◌, ◌==◌, ◌||◌, nat_le, nat_lt, Bool, List, [], ◌∷◌, filter, Option, Some, None}
use Rattle.std.specs.Prelude.{bytes_eq, find, option_and_then, option_map, if◌then◌else◌}
use Rattle.std.specs.List.{last_or}
use Rattle.std.specs.List.Sorted.{IsNonDecreasingBy}
use Rattle.symbol_table.specs.declared.row.Place.{Place}
use Rattle.symbol_table.specs.declared.row.Symbol.{Symbol}

-- a symbol: its address, its size in bytes, which is 0 if it is not known, and its name
pub record SymbolRow : Type 0 where
  pub address : ℕ
  pub size : ℕ
  pub name : List ℕ

abbrev pub row_of : Symbol → SymbolRow
row_of symbol = record { address = symbol.address; size = symbol.size; name = symbol.name.now }

-- ---- the order of a table

-- a row before the first of these rows whose address is not below its own
abbrev pub with_row : SymbolRow → List SymbolRow → List SymbolRow
with_row row [] = row ∷ []
with_row row (first ∷ rest) =
    if nat_le row.address first.address then row ∷ (first ∷ rest) else first ∷ with_row row rest

-- rows by address; those at one address stay in their order
abbrev pub by_address : List SymbolRow → List SymbolRow
by_address [] = []
by_address (row ∷ rows) = with_row row (by_address rows)

-- the rows at an address
abbrev pub rows_at : (address : ℕ) → List SymbolRow → List SymbolRow
rows_at address rows = filter (λ row. address == row.address) rows

-- The addresses of symbols do not fall.
abbrev pub AreByAddress : List Symbol → Type 0
AreByAddress symbols = IsNonDecreasingBy (λ (symbol : Symbol). symbol.address) symbols

-- ---- places

-- the name of a symbol, and how far an address is from the symbol's
pub record NamedPlace : Type 0 where
  pub name : List ℕ
  pub offset : ℕ

abbrev pub named_place : Place → NamedPlace
named_place place = record { name = place.name.now; offset = place.offset }

-- the last row at or below an address
abbrev pub nearest : List SymbolRow → (address : ℕ) → Option SymbolRow
nearest rows address = last_or None (filter (λ row. nat_le row.address address) rows)

-- the place of an address that is not below the row's: none if the row has a size and the address is at or past its end
abbrev pub place_at : (address : ℕ) → SymbolRow → Option NamedPlace
place_at address row =
    let offset = address - row.address in
    if row.size == 0 || nat_lt offset row.size then Some (record { name = row.name; offset = offset }) else None

-- the place of an address among the rows of a table
abbrev pub place_in : List SymbolRow → (address : ℕ) → Option NamedPlace
place_in rows address = option_and_then (place_at address) (nearest rows address)

-- ---- addresses

-- whether a row has the name
abbrev pub has_name : (name : List ℕ) → SymbolRow → Bool
has_name name row = bytes_eq row.name name

-- the address of the first row with the name
abbrev pub address_of : List SymbolRow → (name : List ℕ) → Option ℕ
address_of rows name = option_map (λ row. row.address) (find (has_name name) rows)
