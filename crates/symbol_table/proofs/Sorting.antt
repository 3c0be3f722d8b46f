-- A stable sort by address gives the rows by address.
use Rattle.std.proofs.Common.{◌≡◌, ℕ, zero, suc, ◌<◌, ◌≤◌, Bool, true, false, cond, not, ◌&&◌, eqb, leb, List, [], ◌∷◌, length, get_or, map}
use Rattle.std.proofs.Common.{nat_cmp, is_lt, refl, sym, ap, ◌∙◌, arith}
use Rattle.std.specs.List.Sorted.{IsNonDecreasingBy, IsStableByKey}
use Rattle.std.proofs.lemmas.Bool.{cond-false, cond-true, cond_both, eq-eqb, eqb-true, leb-false, leb-true}
use Rattle.std.proofs.lemmas.Bool.Decides.{nat_tests}
use Rattle.std.proofs.lemmas.List.Elements.{filter_agree}
use Rattle.symbol_table.specs.declared.row.Symbol.{Symbol}
use Rattle.symbol_table.specs.Rows.{AreByAddress, SymbolRow, by_address, row_of, rows_at, with_row}
use Rattle.symbol_table.specs.Symbols.{rows_of, symbols_of}
use Rattle.symbol_table.proofs.Mapped.{filter_rows}

-- Addresses do not fall, from `low` on.
abbrev Rises : ℕ → List SymbolRow → Type 0
Rises low [] = Unit {0}
Rises low (row ∷ rows) = (low ≤ row.address) × Rises row.address rows

-- ---- lists that rise and have the same rows at each address are the same

at_head : (row : SymbolRow) (rows : List SymbolRow) → rows_at row.address (row ∷ rows) ≡ row ∷ rows_at row.address rows
at_head row rows = cond-true (eqb row.address row.address) _ _ (eq-eqb row.address row.address refl)

least : (low a : ℕ) (xs : List SymbolRow) (y : SymbolRow) (ys : List SymbolRow) → Rises low xs → rows_at a xs ≡ y ∷ ys → low ≤ a
least low a [] y ys up e = cc
least low a (x ∷ xs) y ys up e = go (eqb a x.address) refl (least x.address a xs y ys up.1)
  where
    go : (b : Bool) → eqb a x.address ≡ b → (rows_at a xs ≡ y ∷ ys → x.address ≤ a) → low ≤ a
    go true t later = let same = eqb-true a x.address t in omega arith
    go false t later = let le = later (sym (cond-false (eqb a x.address) (x ∷ rows_at a xs) (rows_at a xs) t) ∙ e) in omega arith

uncons : (b : Bool) (x y : SymbolRow) (xs ys : List SymbolRow) → cond b (x ∷ xs) xs ≡ cond b (y ∷ ys) ys → xs ≡ ys
uncons true x y xs ys e = cc
uncons false x y xs ys e = e

only : (low low' : ℕ) (xs ys : List SymbolRow) → Rises low xs → Rises low' ys → ((a : ℕ) → rows_at a xs ≡ rows_at a ys) → xs ≡ ys
only low low' [] [] up up' same = refl
only low low' [] (y ∷ ys) up up' same = let e = same y.address ∙ at_head y ys in cc
only low low' (x ∷ xs) [] up up' same = let e = sym (at_head x xs) ∙ same x.address in cc
only low low' (x ∷ xs) (y ∷ ys) up up' same =
    let below = least y.address x.address (y ∷ ys) x (rows_at x.address xs) (omega arith, up'.1) (sym (same x.address) ∙ at_head x xs) in
    let above = least x.address y.address (x ∷ xs) y (rows_at y.address ys) (omega arith, up.1) (same y.address ∙ at_head y ys) in
    let key : x.address ≡ y.address = omega arith in
    let both = sym (at_head x xs) ∙ same x.address
    ∙ cond-true (eqb x.address y.address) (y ∷ rows_at x.address ys) (rows_at x.address ys) (eq-eqb x.address y.address key) in
    let rest = only x.address y.address xs ys up.1 up'.1
    (λ a. uncons (eqb a x.address) x y (rows_at a xs) (rows_at a ys) (same a ∙ ap (λ (k : ℕ). cond (eqb a k) (y ∷ rows_at a ys) (rows_at a ys)) (sym key))) in
    cc

-- ---- rows by address rise, and have the same rows at each address

rises_with : (low : ℕ) (row : SymbolRow) (rows : List SymbolRow) → low ≤ row.address → Rises low rows → Rises low (with_row row rows)
rises_with low row [] h up = (h, tt)
rises_with low row (first ∷ rest) h up =
    cond_both (leb row.address first.address) (row ∷ first ∷ rest) (first ∷ with_row row rest) (Rises low)
    (λ t. (h, (leb-true row.address first.address t, up.1)))
    (λ t. let le = leb-false row.address first.address t in (up.0, rises_with first.address row rest (omega arith) up.1))

rises_sorted : (rows : List SymbolRow) → Rises 0 (by_address rows)
rises_sorted [] = tt
rises_sorted (row ∷ rows) = rises_with 0 row (by_address rows) (omega arith) (rises_sorted rows)

swapped : (b c : Bool) → (b ≡ true → c ≡ true → ⊥) → (x y : SymbolRow) (us : List SymbolRow) →
    cond b (x ∷ cond c (y ∷ us) us) (cond c (y ∷ us) us) ≡ cond c (y ∷ cond b (x ∷ us) us) (cond b (x ∷ us) us)
swapped true true apart x y us = absurd (apart refl refl)
swapped true false apart x y us = refl
swapped false c apart x y us = refl

at_with : (a : ℕ) (row : SymbolRow) (rows : List SymbolRow) → rows_at a (with_row row rows) ≡ rows_at a (row ∷ rows)
at_with a row [] = refl
at_with a row (first ∷ rest) = go (leb row.address first.address) refl (at_with a row rest)
  where
    go : (b : Bool) → leb row.address first.address ≡ b → rows_at a (with_row row rest) ≡ rows_at a (row ∷ rest) →
        rows_at a (with_row row (first ∷ rest)) ≡ rows_at a (row ∷ first ∷ rest)
    go true t later = ap (rows_at a) (cond-true (leb row.address first.address) (row ∷ first ∷ rest) (first ∷ with_row row rest) t)
    go false t later =
        let above = leb-false row.address first.address t in
        ap (rows_at a) (cond-false (leb row.address first.address) (row ∷ first ∷ rest) (first ∷ with_row row rest) t)
        ∙ ap (λ (us : List SymbolRow). cond (eqb a first.address) (first ∷ us) us) later
        ∙ swapped (eqb a first.address) (eqb a row.address)
        (λ p q. let one = eqb-true a first.address p in let other = eqb-true a row.address q in omega arith) first row (rows_at a rest)

at_sorted : (a : ℕ) (rows : List SymbolRow) → rows_at a (by_address rows) ≡ rows_at a rows
at_sorted a [] = refl
at_sorted a (row ∷ rows) =
    at_with a row (by_address rows) ∙ ap (λ (us : List SymbolRow). cond (eqb a row.address) (row ∷ us) us) (at_sorted a rows)

rises_above : (low : ℕ) (rows : List SymbolRow) (k : ℕ) (d : SymbolRow) → Rises low rows → k < length rows → low ≤ (get_or rows k d).address
rises_above low [] k d up lt = absurd (omega arith)
rises_above low (row ∷ rows) zero d up lt = up.0
rises_above low (row ∷ rows) (suc k) d up lt = let later = rises_above row.address rows k d up.1 (omega arith) in omega arith

rises_order : (low : ℕ) (rows : List SymbolRow) → Rises low rows → IsNonDecreasingBy (λ (row : SymbolRow). row.address) rows
rises_order low [] up i j d le lt = absurd (omega arith)
rises_order low (row ∷ rows) up zero zero d le lt = omega arith
rises_order low (row ∷ rows) up zero (suc j) d le lt = rises_above row.address rows j d up.1 (omega arith)
rises_order low (row ∷ rows) up (suc i) zero d le lt = absurd (omega arith)
rises_order low (row ∷ rows) up (suc i) (suc j) d le lt = rises_order row.address rows up.1 i j d (omega arith) (omega arith)

-- ---- of a file

-- The symbols of a file are by address.
pub symbols_rise : (bytes : List ℕ) → IsNonDecreasingBy (λ (row : SymbolRow). row.address) (symbols_of bytes)
unfolding symbols_of
symbols_rise bytes = rises_order 0 (by_address (rows_of bytes)) (rises_sorted (rows_of bytes))

-- At each address they are those that the file has there, in its order.
pub symbols_at : (bytes : List ℕ) (address : ℕ) → rows_at address (symbols_of bytes) ≡ rows_at address (rows_of bytes)
unfolding symbols_of
symbols_at bytes address = at_sorted address (rows_of bytes)

-- ---- a stable sort of symbols

rises_map : (low : ℕ) (symbols : List Symbol) → ((d : Symbol) → 0 < length symbols → low ≤ (get_or symbols 0 d).address) →
    AreByAddress symbols → Rises low (map row_of symbols)
rises_map low [] h up = tt
rises_map low (s ∷ symbols) h up = (
  h s (omega arith),
  rises_map s.address symbols (λ d lt. up zero (suc zero) d (omega arith) (omega arith))
      (λ i j d le lt. up (suc i) (suc j) d (omega arith) (omega arith)),
)

tie_is : (a b : ℕ) → (not (is_lt (nat_cmp a b)) && not (is_lt (nat_cmp b a))) ≡ eqb a b
tie_is a b = grind (arith, nat_tests)

-- some symbol at an address
abbrev keyed : ℕ → Symbol
keyed a = record { address = a; size = 0; name = record { ref_ptr = (0, 0); now = [] } }

-- Symbols that a stable sort by address gives are those that it was given, by address.
pub sorted_rows : (old new : List Symbol) → AreByAddress new → IsStableByKey (λ (s : Symbol). s.address) nat_cmp old new →
    map row_of new ≡ by_address (map row_of old)
sorted_rows old new up stable =
    only 0 0 (map row_of new) (by_address (map row_of old)) (rises_map 0 new (λ d lt. omega arith) up) (rises_sorted (map row_of old))
    (λ a. filter_rows (eqb a) new
    ∙ ap (map row_of) (filter_agree (λ (s : Symbol). eqb a s.address)
    (λ (s : Symbol). not (is_lt (nat_cmp a s.address)) && not (is_lt (nat_cmp s.address a))) (λ s. sym (tie_is a s.address)) new
    ∙ stable (keyed a)
    ∙ filter_agree (λ (s : Symbol). not (is_lt (nat_cmp a s.address)) && not (is_lt (nat_cmp s.address a))) (λ (s : Symbol). eqb a s.address)
    (λ s. tie_is a s.address) old)
    ∙ sym (filter_rows (eqb a) old) ∙ sym (at_sorted a (map row_of old)))
