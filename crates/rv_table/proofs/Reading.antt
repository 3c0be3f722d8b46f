-- The table reads a word as the instruction that it spells.
use Rattle.std.proofs.Common.{◌≡◌, ℕ, ◌<◌, zero, suc, true, false, List, [], ◌∷◌, length, Some, inl, inr, ap, ◌∙◌, subst, arith}
use Rattle.std.specs.Prelude.{map, find, slice_index_or, Contains}
use Rattle.std.specs.List.{list_all}
use Rattle.std.proofs.lemmas.Bool.{cases_Bool, and_parts, both_ways, eqb-true, eq-eqb}
use Rattle.std.proofs.lemmas.List.Folds.{list_all-map, list_all_at}
use Rattle.rv_table.specs.declared.insn.Insn.{Insn}
use Rattle.rv_table.specs.declared.insn.Insn.TheVariants.{Op, OpImm, Shift, Load, Store, Branch, Upper, Jal, Jalr, Fence, Ecall, Ebreak, Amo}
use Rattle.rv_table.specs.Rows.{row_of, candidates, insn_of, HasOperands, InRange, Spells}
use Rattle.rv_table.proofs.Apart.{fits, apart, all_apart, rows_are_apart, fits_both}
use Rattle.rv_table.proofs.Candidates.{with_fields, has_fields, same_from_operands, candidates_have_fields, candidates_have_rows, listed}

-- Among instructions whose rows are apart, the search finds the one that the word fits.
found : (w : ℕ) (i : Insn) (k : ℕ) (is : List Insn) → all_apart (map row_of is) ≡ true → fits w i ≡ true → k < length is → slice_index_or is k i ≡ i →
    find (fits w) is ≡ Some i
found w i k [] apart_all fit inside at_k = absurd (omega arith)
found w i zero (j ∷ is) apart_all fit inside at_k =
    let same : j ≡ i = at_k in
    rw (same, fit)
found w i (suc k) (j ∷ is) apart_all fit inside at_k =
    let parts = and_parts (list_all (apart (row_of j)) (map row_of is)) (all_apart (map row_of is)) apart_all in
    let rest = found w i k is parts.1 fit (omega arith) at_k in
    elim (cases_Bool (fits w j)) [
      | inl fits_j ↦
          let close : apart (row_of j) (row_of (slice_index_or is k i)) ≡ false = rw at_k (fits_both w j i fits_j fit) in
          let some_close = list_all-map (apart (row_of j)) row_of is ∙ list_all_at (λ x. apart (row_of j) (row_of x)) is k i (omega arith) close in
          absurd (both_ways _ some_close parts.0)
      | inr differs ↦ rw differs rest
    ]

-- The instruction that the search finds fits the word, and its operands are the fields of the word.
from_found : (w : ℕ) (i : Insn) (is : List Insn) → map (with_fields w) is ≡ is → find (fits w) is ≡ Some i → (fits w i ≡ true) × (with_fields w i ≡ i)
from_found w i [] same e = absurd (cc)
from_found w i (j ∷ is) same e =
    let first : with_fields w j ≡ j = cc in
    let rest : map (with_fields w) is ≡ is = cc in
    elim (cases_Bool (fits w j)) [
      | inl fits_j ↦
          let is_j : j ≡ i = let e' : Some j ≡ Some i = rw fits_j at e in cc in
          rw (← is_j) (fits_j, first)
      | inr differs ↦ from_found w i is rest (rw differs at e)
    ]

fits_from_row : (w : ℕ) (i : Insn) → Spells w i → fits w i ≡ true
fits_from_row w i s = eq-eqb _ _ s.row

-- If a word spells an instruction, the table reads the word as that instruction.
pub read : (w : ℕ) (i : Insn) → Spells w i → insn_of w ≡ Some i
unfolding insn_of
read w i s =
    let same : with_fields w i ≡ i = same_from_operands w i s.operands in
    let place : Contains (candidates w) i = subst (Contains (candidates w)) same (listed w i) in
    found w i place.0 (candidates w) (ap all_apart (candidates_have_rows w) ∙ rows_are_apart) (fits_from_row w i s) place.1 place.2

-- If the table reads a word as an instruction, the word spells it.
pub spelled : (w : ℕ) (i : Insn) → insn_of w ≡ Some i → Spells w i
unfolding insn_of
spelled w i e =
    let f = from_found w i (candidates w) (candidates_have_fields w) e in
    record { row = eqb-true _ _ f.0; operands = subst (HasOperands w) f.1 (has_fields w i) }

-- ---- widths

-- If the operands of an instruction are fields of a word, they have the widths of these fields.
fields_fit : (w : ℕ) (i : Insn) → HasOperands w i → InRange i
fields_fit w (Op op rd rs1 rs2) h = (omega arith, omega arith, omega arith)
fields_fit w (OpImm op rd rs1 imm) h = (omega arith, omega arith, omega arith)
fields_fit w (Shift op rd rs1 amount) h = (omega arith, omega arith, omega arith)
fields_fit w (Load op rd rs1 imm) h = (omega arith, omega arith, omega arith)
fields_fit w (Store op rs1 rs2 imm) h = (omega arith, omega arith, omega arith)
fields_fit w (Branch op rs1 rs2 offset) h = (omega arith, omega arith, omega arith)
fields_fit w (Upper op rd upper) h = (omega arith, omega arith)
fields_fit w (Jal rd offset) h = (omega arith, omega arith)
fields_fit w (Jalr rd rs1 imm) h = (omega arith, omega arith, omega arith)
fields_fit w (Fence rd rs1 ordering) h = (omega arith, omega arith, omega arith)
fields_fit w Ecall h = tt
fields_fit w Ebreak h = tt
fields_fit w (Amo op rd rs1 rs2 aq rl) h = (omega arith, omega arith, omega arith)

-- If a word spells an instruction, the operands of the instruction have the widths of their fields.
pub operands_fit : (w : ℕ) (i : Insn) → Spells w i → InRange i
operands_fit w i s = fields_fit w i s.operands

-- The operands of an instruction that the table reads have the widths of their fields.
pub read_fits : (w : ℕ) (i : Insn) → insn_of w ≡ Some i → InRange i
read_fits w i e = operands_fit w i (spelled w i e)
