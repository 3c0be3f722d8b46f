-- A word that fits a row spells an instruction of that row, and its operands are the fields of the row's format.
use Rattle.std.proofs.Common.{◌≡◌, ℕ, ◌<◌, zero, suc, List, [], ◌∷◌, length, ap, sym, subst, ◌∙◌, arith}
use Rattle.std.specs.Prelude.{bit_and, map, slice_index_or, Contains, ◌↔◌}
use Rattle.rv_table.specs.declared.insn.Insn.{Insn}
use Rattle.rv_table.specs.declared.insn.Insn.TheVariants.{Upper, Jal, Ecall, Ebreak, Amo}
use Rattle.rv_table.specs.declared.table.Row.{Row}
use Rattle.rv_table.specs.Rows.{rows, row_of, mask_of, match_of, format_of, candidates, HasOperands, Spells}
use Rattle.rv_table.specs.Formats.{fields_of, operands_of}
use Rattle.rv_table.proofs.Candidates.{with_fields, has_fields, candidates_have_fields, candidates_have_rows}

-- Among candidates of a word, the one at the place of a row has that row, and the fields of the word as operands.
of_row : (w k : ℕ) (r : Row) (is : List Insn) → map (with_fields w) is ≡ is → k < length (map row_of is) → slice_index_or (map row_of is) k r ≡ r →
    (i : Insn) × (row_of i ≡ r) × (with_fields w i ≡ i)
of_row w k r [] same inside at = absurd (omega arith)
of_row w zero r (i ∷ is) same inside at = let first : with_fields w i ≡ i = cc in (i, at, first)
of_row w (suc k) r (i ∷ is) same inside at = let rest : map (with_fields w) is ≡ is = cc in of_row w k r is rest (omega arith) at

-- A word that fits a row of the table spells an instruction of that row.
pub row_spells : (w : ℕ) (r : Row) → Contains rows r → bit_and w r.mask ≡ r.match_ → (i : Insn) × (row_of i ≡ r) × Spells w i
row_spells w r place fit =
    let among : Contains (map row_of (candidates w)) r = subst (λ rs. Contains rs r) (sym (candidates_have_rows w)) place in
    let found = of_row w among.0 r (candidates w) (candidates_have_fields w) among.1 among.2 in
    let i = found.0 in
    let there : bit_and w (mask_of i) ≡ match_of i = ap (λ (x : Row). bit_and w x.mask) found.1 ∙ fit ∙ sym (ap (λ (x : Row). x.match_) found.1) in
    (i, found.1, record { row = there; operands = subst (HasOperands w) found.2 (has_fields w i) })

-- The operands of an instruction are those of a word exactly if they are the word's fields in the instruction's format.
pub operands_are_fields : (w : ℕ) (i : Insn) → HasOperands w i ↔ (operands_of i ≡ fields_of (format_of i) w)
operands_are_fields w Ecall = (λ h. cc, λ e. tt)
operands_are_fields w Ebreak = (λ h. cc, λ e. tt)
operands_are_fields w (Upper op rd upper) = (λ h. cc (h.0, h.1), λ e. (cc, cc))
operands_are_fields w (Jal rd offset) = (λ h. cc (h.0, h.1), λ e. (cc, cc))
operands_are_fields w (Amo op rd rs1 rs2 aq rl) = (λ h. cc (h.0, h.1, h.2, h.3, h.4), λ e. (cc, cc, cc, cc, cc))
operands_are_fields w _ = (λ h. cc (h.0, h.1, h.2), λ e. (cc, cc, cc))
