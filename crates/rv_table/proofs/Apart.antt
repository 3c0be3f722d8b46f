-- A word fits at most one row of the table, which one computed test of all pairs of rows shows.
use Rattle.std.proofs.Common.{◌≡◌, ℕ, Bool, true, false, List, [], ◌∷◌, refl, sym, ap, ◌∙◌}
use Rattle.std.specs.Prelude.{◌==◌, ◌&&◌, not, bit_and}
use Rattle.std.specs.List.{list_all}
use Rattle.std.proofs.lemmas.Bool.{eqb-true, eq-eqb}
use Rattle.std.proofs.lemmas.Nat.{and_assoc, and_comm}
use Rattle.rv_table.specs.declared.insn.Insn.{Insn}
use Rattle.rv_table.specs.declared.table.Row.{Row}
use Rattle.rv_table.specs.Rows.{rows, row_of, mask_of, match_of}

-- whether the word fits the instruction's row
abbrev pub fits : ℕ → Insn → Bool
fits w i = bit_and w (mask_of i) == match_of i

-- whether the matches of the two rows differ under their common mask, so that no word fits both
abbrev pub apart : Row → Row → Bool
apart a b = not (bit_and a.match_ b.mask == bit_and b.match_ a.mask)

abbrev pub all_apart : List Row → Bool
all_apart [] = true
all_apart (a ∷ rest) = list_all (apart a) rest && all_apart rest

-- Any two rows of the table are apart.
pub rows_are_apart : all_apart rows ≡ true
unfolding rows
rows_are_apart = refl

-- If a word fits a row, its bits under both this mask and another are those of the row's match under the other.
common : (w mask other match : ℕ) → bit_and w mask ≡ match → bit_and match other ≡ bit_and w (bit_and mask other)
common w mask other match e = ap (λ m. bit_and m other) (sym e) ∙ and_assoc other w mask

-- If one word fits the rows of two instructions, the rows are not apart.
pub fits_both : (w : ℕ) (i j : Insn) → fits w i ≡ true → fits w j ≡ true → apart (row_of i) (row_of j) ≡ false
fits_both w i j fits_i fits_j =
    let a = common w (mask_of i) (mask_of j) (match_of i) (eqb-true _ _ fits_i) in
    let b = common w (mask_of j) (mask_of i) (match_of j) (eqb-true _ _ fits_j) in
    let swap = ap (bit_and w) (and_comm (mask_of i) (mask_of j)) in
    ap not (eq-eqb _ _ (a ∙ swap ∙ sym b))
