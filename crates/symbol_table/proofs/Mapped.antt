-- Rows of symbols that pass a test of their address.
use Rattle.std.proofs.Common.{◌≡◌, ℕ, Bool, true, false, cond, List, [], ◌∷◌, map, refl, sym, ap, ◌∙◌}
use Rattle.std.specs.List.{filter}
use Rattle.symbol_table.specs.declared.row.Symbol.{Symbol}
use Rattle.symbol_table.specs.Rows.{SymbolRow, row_of}

map_if : (b : Bool) (s : Symbol) (symbols : List Symbol) →
    map row_of (cond b (s ∷ symbols) symbols) ≡ cond b (row_of s ∷ map row_of symbols) (map row_of symbols)
map_if true s symbols = refl
map_if false s symbols = refl

-- The rows that pass a test of their address are those of the symbols that pass it.
pub filter_rows : (q : ℕ → Bool) (symbols : List Symbol) →
    filter (λ (row : SymbolRow). q row.address) (map row_of symbols) ≡ map row_of (filter (λ (s : Symbol). q s.address) symbols)
filter_rows q [] = refl
filter_rows q (s ∷ symbols) =
    ap (λ (us : List SymbolRow). cond (q s.address) (row_of s ∷ us) us) (filter_rows q symbols)
    ∙ sym (map_if (q s.address) s (filter (λ (s : Symbol). q s.address) symbols))
