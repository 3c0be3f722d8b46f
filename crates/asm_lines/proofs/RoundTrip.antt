-- The text of an instruction is read back as the instruction.
use Rattle.std.proofs.Common.{◌≡◌, ℕ, ◌*◌, ◌^◌, ◌<◌, Bool, true, false, not, eqb, List, [], ◌∷◌, ◌++◌, length, Option, Some, None, Ok, refl, ap, arith}
use Rattle.std.specs.Prelude.{is_some, unwrap_or, ◌==◌, ◌&&◌, codes, nat_lt, ℤ, pos, negsuc, unsigned_abs, int_le}
use Rattle.std.specs.List.{list_all}
use Rattle.std.specs.Fmt.{decimal, signed_decimal}
use Rattle.std.proofs.lemmas.Bool.{agree_below_at, and_parts, and_left, ne_eqb, eqb-true, ltb-true, le-leb, not-true}
use Rattle.std.proofs.lemmas.List.{length-append}
use Rattle.rv_table.specs.declared.insn.Insn.{Insn}
use Rattle.rv_table.specs.declared.insn.Insn.TheVariants as insns
use Rattle.rv_table.specs.declared.operation.RegisterOp.TheVariants as reg
use Rattle.rv_table.specs.declared.operation.ImmediateOp.TheVariants.{Addi, Slti, Sltiu, Xori, Ori, Andi}
use Rattle.rv_table.specs.declared.operation.ShiftOp.TheVariants.{Slli, Srli, Srai}
use Rattle.rv_table.specs.declared.operation.LoadOp.TheVariants.{Lb, Lh, Lw, Lbu, Lhu}
use Rattle.rv_table.specs.declared.operation.StoreOp.TheVariants.{Sb, Sh, Sw}
use Rattle.rv_table.specs.declared.operation.BranchOp.TheVariants.{Beq, Bne, Blt, Bge, Bltu, Bgeu}
use Rattle.rv_table.specs.declared.operation.UpperOp.TheVariants.{Lui, Auipc}
use Rattle.rv_table.specs.declared.operation.AmoOp.{AmoOp}
use Rattle.rv_table.specs.declared.operation.AmoOp.TheVariants as amo
use Rattle.rv_table.specs.Rows.{InRange}
use Rattle.asm_lines.specs.declared.mnemonic.Mnemonic.{Mnemonic}
use Rattle.asm_lines.specs.declared.mnemonic.Mnemonic.TheVariants.{Op, OpImm, Shift, Load, Store, Branch, Upper, Jal, Jalr, Fence, Ecall, Ebreak, Amo}
use Rattle.asm_lines.specs.declared.mnemonic.Order.{Order}
use Rattle.asm_lines.specs.Text.{is_blank, cut_at, cut_last_at, parts_at, operands_of}
use Rattle.asm_lines.specs.Names.{written, unordered, plain_mnemonic, mnemonic_of, directive_of, x_name, register_of}
use Rattle.asm_lines.specs.Statements.{Instr, number, instruction, whole, op_imm, load, store, branch, upper}
use Rattle.asm_lines.specs.Statements.{jal, jalr, is_letter, is_name, register_in, value_in, bracket_parts, part_in}
use Rattle.asm_lines.specs.Statements.{upper_in, lower_in, base_in, nothing_in, op_in, op_imm_in, shift_in}
use Rattle.asm_lines.specs.Statements.{addressed_in, branch_in, upper_insn_in, jal_in, fence_in, amo_in}
use Rattle.asm_lines.specs.Statements.{instruction_in, statement_in, rest_of_line, label_in, said_in, line_of}
use Rattle.asm_lines.specs.Written.{signed, offset, in_brackets, after_commas, with_operands, text_of, as_said}
use Rattle.asm_lines.proofs.PlainWords.{joined_all, is_plain, Word, Words, none, more, no_blank, no_comment}
use Rattle.asm_lines.proofs.PlainWords.{no_colon, no_line_feed, one_part, word_trimmed, trimmed_nothing}
use Rattle.asm_lines.proofs.PlainWords.{cut_at_none, cut_at_mid, operands_again, no_operands_again, text_quiet}
use Rattle.asm_lines.proofs.PlainWords.{text_trimmed, bracketed_none, bracketed_again}
use Rattle.asm_lines.proofs.Numerals.{signed_pass, within_again, natural_again, signed_word, decimal_word}
use Rattle.asm_lines.proofs.Fields.{signed_small, signed_low, signed_high, offset_high}

-- ---- a line from its words

module _ (name : List ℕ) (m : Mnemonic) (order : Order) (i : Instr) (wn : Word name) (none_such : directive_of name ≡ None) (is_m : mnemonic_of name
    ≡ Some (m, order)) where
  statement_again : (rest : List ℕ) (ops : List (List ℕ)) → operands_of rest ≡ ops → instruction_in m order ops ≡ Ok i →
      statement_in name rest ≡ Ok (instruction i)
  unfolding statement_in
  statement_again rest ops split read = rw (none_such, is_m, split, read) refl

  pub line_again : (op : List ℕ) (ops : List (List ℕ)) → Word op → Words ops → instruction_in m order (op ∷ ops) ≡ Ok i →
      line_of (name ++ 32 ∷ (op ++ after_commas ops)) ≡ Ok (record { name = None; statement = Some (instruction i) })
  unfolding line_of said_in label_in rest_of_line
  line_again op ops w ws read =
      let text = name ++ 32 ∷ (op ++ after_commas ops) in
      let comment : cut_at (λ b. eqb b 35) (name ++ 32 ∷ (op ++ after_commas ops)) ≡ None =
      cut_at_none (λ b. eqb b 35) (name ++ 32 ∷ (op ++ after_commas ops)) (text_quiet name op ops wn w ws (λ b. not (eqb b 35)) refl refl no_comment) in
      let colon : cut_at (λ b. eqb b 58) (name ++ 32 ∷ (op ++ after_commas ops)) ≡ None =
      cut_at_none (λ b. eqb b 58) (name ++ 32 ∷ (op ++ after_commas ops)) (text_quiet name op ops wn w ws (λ b. not (eqb b 58)) refl refl no_colon) in
      let word : cut_at is_blank (name ++ 32 ∷ (op ++ after_commas ops)) ≡ Some (name, op ++ after_commas ops) =
      cut_at_mid is_blank name 32 (op ++ after_commas ops) (no_blank name wn) refl in
      let some : eqb (length (name ++ 32 ∷ (op ++ after_commas ops))) 0 ≡ false =
      ne_eqb _ _ (λ e. absurd (omega (arith, e, length-append name (32 ∷ (op ++ after_commas ops))))) in
      rw (comment, colon, text_trimmed name op ops wn w ws, some, word, statement_again (op ++ after_commas ops) (op ∷ ops) (operands_again op ops w ws) read)
      refl

  pub bare_line_again : instruction_in m order ([] ∷ []) ≡ Ok i → line_of name ≡ Ok (record { name = None; statement = Some (instruction i) })
  unfolding line_of said_in label_in rest_of_line
  bare_line_again read =
      let comment : cut_at (λ b. eqb b 35) name ≡ None = cut_at_none (λ b. eqb b 35) name (no_comment name wn) in
      let colon : cut_at (λ b. eqb b 58) name ≡ None = cut_at_none (λ b. eqb b 58) name (no_colon name wn) in
      let word : cut_at is_blank name ≡ None = cut_at_none is_blank name (no_blank name wn) in
      let some : eqb (length name) 0 ≡ false = ne_eqb _ _ (λ e. absurd (omega (arith, e, wn.nonempty))) in
      rw (comment, colon, word_trimmed name wn, some, word, statement_again [] ([] ∷ []) no_operands_again read) refl

-- ---- mnemonics

-- The text of a mnemonic is a word, is not a directive, and is read back as the mnemonic.
record IsReadAgain (m : Mnemonic) (order : Order) : Type 0 where
  word : Word (written m order)
  none_such : directive_of (written m order) ≡ None
  is_m : mnemonic_of (written m order) ≡ Some (m, order)

read_again : (m : Mnemonic) (order : Order) → list_all is_plain (written m order) ≡ true → nat_lt 0 (length (written m order)) ≡ true →
    directive_of (written m order) ≡ None → mnemonic_of (written m order) ≡ Some (m, order) → IsReadAgain m order
read_again m order plain some none_such is_m = record { word = record { plain = plain; nonempty = ltb-true _ _ some }; none_such = none_such; is_m = is_m }

mnemonic_again : (m : Mnemonic) → IsReadAgain m unordered
unfolding directive_of mnemonic_of plain_mnemonic
mnemonic_again (Upper Lui) = read_again (Upper Lui) unordered refl refl refl refl
mnemonic_again (Upper Auipc) = read_again (Upper Auipc) unordered refl refl refl refl
mnemonic_again Jal = read_again Jal unordered refl refl refl refl
mnemonic_again Jalr = read_again Jalr unordered refl refl refl refl
mnemonic_again (Branch Beq) = read_again (Branch Beq) unordered refl refl refl refl
mnemonic_again (Branch Bne) = read_again (Branch Bne) unordered refl refl refl refl
mnemonic_again (Branch Blt) = read_again (Branch Blt) unordered refl refl refl refl
mnemonic_again (Branch Bge) = read_again (Branch Bge) unordered refl refl refl refl
mnemonic_again (Branch Bltu) = read_again (Branch Bltu) unordered refl refl refl refl
mnemonic_again (Branch Bgeu) = read_again (Branch Bgeu) unordered refl refl refl refl
mnemonic_again (Load Lb) = read_again (Load Lb) unordered refl refl refl refl
mnemonic_again (Load Lh) = read_again (Load Lh) unordered refl refl refl refl
mnemonic_again (Load Lw) = read_again (Load Lw) unordered refl refl refl refl
mnemonic_again (Load Lbu) = read_again (Load Lbu) unordered refl refl refl refl
mnemonic_again (Load Lhu) = read_again (Load Lhu) unordered refl refl refl refl
mnemonic_again (Store Sb) = read_again (Store Sb) unordered refl refl refl refl
mnemonic_again (Store Sh) = read_again (Store Sh) unordered refl refl refl refl
mnemonic_again (Store Sw) = read_again (Store Sw) unordered refl refl refl refl
mnemonic_again (OpImm Addi) = read_again (OpImm Addi) unordered refl refl refl refl
mnemonic_again (OpImm Slti) = read_again (OpImm Slti) unordered refl refl refl refl
mnemonic_again (OpImm Sltiu) = read_again (OpImm Sltiu) unordered refl refl refl refl
mnemonic_again (OpImm Xori) = read_again (OpImm Xori) unordered refl refl refl refl
mnemonic_again (OpImm Ori) = read_again (OpImm Ori) unordered refl refl refl refl
mnemonic_again (OpImm Andi) = read_again (OpImm Andi) unordered refl refl refl refl
mnemonic_again (Shift Slli) = read_again (Shift Slli) unordered refl refl refl refl
mnemonic_again (Shift Srli) = read_again (Shift Srli) unordered refl refl refl refl
mnemonic_again (Shift Srai) = read_again (Shift Srai) unordered refl refl refl refl
mnemonic_again (Op reg.Add) = read_again (Op reg.Add) unordered refl refl refl refl
mnemonic_again (Op reg.Sub) = read_again (Op reg.Sub) unordered refl refl refl refl
mnemonic_again (Op reg.Sll) = read_again (Op reg.Sll) unordered refl refl refl refl
mnemonic_again (Op reg.Slt) = read_again (Op reg.Slt) unordered refl refl refl refl
mnemonic_again (Op reg.Sltu) = read_again (Op reg.Sltu) unordered refl refl refl refl
mnemonic_again (Op reg.Xor) = read_again (Op reg.Xor) unordered refl refl refl refl
mnemonic_again (Op reg.Srl) = read_again (Op reg.Srl) unordered refl refl refl refl
mnemonic_again (Op reg.Sra) = read_again (Op reg.Sra) unordered refl refl refl refl
mnemonic_again (Op reg.Or) = read_again (Op reg.Or) unordered refl refl refl refl
mnemonic_again (Op reg.And) = read_again (Op reg.And) unordered refl refl refl refl
mnemonic_again (Op reg.Mul) = read_again (Op reg.Mul) unordered refl refl refl refl
mnemonic_again (Op reg.Mulh) = read_again (Op reg.Mulh) unordered refl refl refl refl
mnemonic_again (Op reg.Mulhsu) = read_again (Op reg.Mulhsu) unordered refl refl refl refl
mnemonic_again (Op reg.Mulhu) = read_again (Op reg.Mulhu) unordered refl refl refl refl
mnemonic_again (Op reg.Div) = read_again (Op reg.Div) unordered refl refl refl refl
mnemonic_again (Op reg.Divu) = read_again (Op reg.Divu) unordered refl refl refl refl
mnemonic_again (Op reg.Rem) = read_again (Op reg.Rem) unordered refl refl refl refl
mnemonic_again (Op reg.Remu) = read_again (Op reg.Remu) unordered refl refl refl refl
mnemonic_again Fence = read_again Fence unordered refl refl refl refl
mnemonic_again Ecall = read_again Ecall unordered refl refl refl refl
mnemonic_again Ebreak = read_again Ebreak unordered refl refl refl refl
mnemonic_again (Amo amo.Add) = read_again (Amo amo.Add) unordered refl refl refl refl
mnemonic_again (Amo amo.Swap) = read_again (Amo amo.Swap) unordered refl refl refl refl
mnemonic_again (Amo amo.Xor) = read_again (Amo amo.Xor) unordered refl refl refl refl
mnemonic_again (Amo amo.Or) = read_again (Amo amo.Or) unordered refl refl refl refl
mnemonic_again (Amo amo.And) = read_again (Amo amo.And) unordered refl refl refl refl
mnemonic_again (Amo amo.Min) = read_again (Amo amo.Min) unordered refl refl refl refl
mnemonic_again (Amo amo.Max) = read_again (Amo amo.Max) unordered refl refl refl refl
mnemonic_again (Amo amo.Minu) = read_again (Amo amo.Minu) unordered refl refl refl refl
mnemonic_again (Amo amo.Maxu) = read_again (Amo amo.Maxu) unordered refl refl refl refl

amo_again : (op : AmoOp) (aq rl : Bool) → IsReadAgain (Amo op) (record { aq = aq; rl = rl })
unfolding directive_of mnemonic_of plain_mnemonic cut_last_at
amo_again amo.Add false false = read_again (Amo amo.Add) (record { aq = false; rl = false }) refl refl refl refl
amo_again amo.Add false true = read_again (Amo amo.Add) (record { aq = false; rl = true }) refl refl refl refl
amo_again amo.Add true false = read_again (Amo amo.Add) (record { aq = true; rl = false }) refl refl refl refl
amo_again amo.Add true true = read_again (Amo amo.Add) (record { aq = true; rl = true }) refl refl refl refl
amo_again amo.Swap false false = read_again (Amo amo.Swap) (record { aq = false; rl = false }) refl refl refl refl
amo_again amo.Swap false true = read_again (Amo amo.Swap) (record { aq = false; rl = true }) refl refl refl refl
amo_again amo.Swap true false = read_again (Amo amo.Swap) (record { aq = true; rl = false }) refl refl refl refl
amo_again amo.Swap true true = read_again (Amo amo.Swap) (record { aq = true; rl = true }) refl refl refl refl
amo_again amo.Xor false false = read_again (Amo amo.Xor) (record { aq = false; rl = false }) refl refl refl refl
amo_again amo.Xor false true = read_again (Amo amo.Xor) (record { aq = false; rl = true }) refl refl refl refl
amo_again amo.Xor true false = read_again (Amo amo.Xor) (record { aq = true; rl = false }) refl refl refl refl
amo_again amo.Xor true true = read_again (Amo amo.Xor) (record { aq = true; rl = true }) refl refl refl refl
amo_again amo.Or false false = read_again (Amo amo.Or) (record { aq = false; rl = false }) refl refl refl refl
amo_again amo.Or false true = read_again (Amo amo.Or) (record { aq = false; rl = true }) refl refl refl refl
amo_again amo.Or true false = read_again (Amo amo.Or) (record { aq = true; rl = false }) refl refl refl refl
amo_again amo.Or true true = read_again (Amo amo.Or) (record { aq = true; rl = true }) refl refl refl refl
amo_again amo.And false false = read_again (Amo amo.And) (record { aq = false; rl = false }) refl refl refl refl
amo_again amo.And false true = read_again (Amo amo.And) (record { aq = false; rl = true }) refl refl refl refl
amo_again amo.And true false = read_again (Amo amo.And) (record { aq = true; rl = false }) refl refl refl refl
amo_again amo.And true true = read_again (Amo amo.And) (record { aq = true; rl = true }) refl refl refl refl
amo_again amo.Min false false = read_again (Amo amo.Min) (record { aq = false; rl = false }) refl refl refl refl
amo_again amo.Min false true = read_again (Amo amo.Min) (record { aq = false; rl = true }) refl refl refl refl
amo_again amo.Min true false = read_again (Amo amo.Min) (record { aq = true; rl = false }) refl refl refl refl
amo_again amo.Min true true = read_again (Amo amo.Min) (record { aq = true; rl = true }) refl refl refl refl
amo_again amo.Max false false = read_again (Amo amo.Max) (record { aq = false; rl = false }) refl refl refl refl
amo_again amo.Max false true = read_again (Amo amo.Max) (record { aq = false; rl = true }) refl refl refl refl
amo_again amo.Max true false = read_again (Amo amo.Max) (record { aq = true; rl = false }) refl refl refl refl
amo_again amo.Max true true = read_again (Amo amo.Max) (record { aq = true; rl = true }) refl refl refl refl
amo_again amo.Minu false false = read_again (Amo amo.Minu) (record { aq = false; rl = false }) refl refl refl refl
amo_again amo.Minu false true = read_again (Amo amo.Minu) (record { aq = false; rl = true }) refl refl refl refl
amo_again amo.Minu true false = read_again (Amo amo.Minu) (record { aq = true; rl = false }) refl refl refl refl
amo_again amo.Minu true true = read_again (Amo amo.Minu) (record { aq = true; rl = true }) refl refl refl refl
amo_again amo.Maxu false false = read_again (Amo amo.Maxu) (record { aq = false; rl = false }) refl refl refl refl
amo_again amo.Maxu false true = read_again (Amo amo.Maxu) (record { aq = false; rl = true }) refl refl refl refl
amo_again amo.Maxu true false = read_again (Amo amo.Maxu) (record { aq = true; rl = false }) refl refl refl refl
amo_again amo.Maxu true true = read_again (Amo amo.Maxu) (record { aq = true; rl = true }) refl refl refl refl

-- ---- registers

abbrev reads_back : ℕ → Bool
reads_back r = is_some (register_of (x_name r)) && (unwrap_or (register_of (x_name r)) 99 == r) && list_all is_plain (x_name r) && list_all
    (λ b. not (eqb b 40)) (x_name r) && nat_lt 0 (length (x_name r))

from_option : (o : Option ℕ) (r : ℕ) → is_some o ≡ true → unwrap_or o 99 ≡ r → o ≡ Some r
from_option None r h e = absurd cc
from_option (Some x) r h e = ap (λ (y : ℕ). Some y) e

record IsRegister (r : ℕ) : Type 0 where
  word : Word (x_name r)
  read : register_in (x_name r) ≡ Ok r
  no_bracket : list_all (λ b. not (eqb b 40)) (x_name r) ≡ true

register_again : (r : ℕ) → r < 2 ^ 5 → IsRegister r
unfolding register_in register_of
register_again r lt =
    let all : reads_back r ≡ true = agree_below_at reads_back (λ _. true) 32 r refl lt in
    let a = and_parts (is_some (register_of (x_name r)) && (unwrap_or (register_of (x_name r)) 99 == r) && list_all is_plain (x_name r) && list_all
    (λ b. not (eqb b 40)) (x_name r)) (nat_lt 0 (length (x_name r))) all in
    let b = and_parts (is_some (register_of (x_name r)) && (unwrap_or (register_of (x_name r)) 99 == r) && list_all is_plain (x_name r))
    (list_all (λ b. not (eqb b 40)) (x_name r)) a.0 in
    let c = and_parts (is_some (register_of (x_name r)) && (unwrap_or (register_of (x_name r)) 99 == r)) (list_all is_plain (x_name r)) b.0 in
    let d = and_parts (is_some (register_of (x_name r))) (unwrap_or (register_of (x_name r)) 99 == r) c.0 in
    record {
      word = record { plain = c.1; nonempty = ltb-true _ _ a.1 };
      read = rw (from_option (register_of (x_name r)) r d.0 (eqb-true _ _ d.1)) refl;
      no_bracket = b.1;
    }

-- ---- operands

no_part : (modifier w : List ℕ) → bracket_parts w ≡ None → part_in modifier w ≡ None
unfolding part_in
no_part modifier w h = rw h refl

signed_no_brackets : (z : ℤ) → unsigned_abs z < 2 ^ 32 → bracket_parts (signed_decimal z) ≡ None
signed_no_brackets z small = bracketed_none (signed_decimal z) (signed_word z small).nonempty (signed_pass (λ b. not (eqb b 41)) refl refl z small)

lower_again : (f : ℕ) → f < 2 ^ 12 → lower_in (signed_decimal (signed (2 ^ 11) f)) ≡ Ok (number (signed (2 ^ 11) f))
unfolding lower_in
lower_again f lt =
    let small = signed_small (2 ^ 11) f lt (omega arith) in
    rw (
      no_part (codes "%lo") (signed_decimal (signed (2 ^ 11) f)) (signed_no_brackets (signed (2 ^ 11) f) small),
      within_again (negsuc 2047) (pos 2047) (signed (2 ^ 11) f) small (signed_low (2 ^ 11) f lt (omega arith) 2047 (omega arith))
          (signed_high (2 ^ 11) f lt (omega arith) 2047 (omega arith)),
    ) refl

upper_again : (f : ℕ) → f < 2 ^ 20 → upper_in (decimal f) ≡ Ok (number (pos f))
unfolding upper_in
upper_again f lt = rw (
  no_part (codes "%hi") (decimal f) (signed_no_brackets (pos f) (omega arith)),
  within_again (pos 0) (pos 1048575) (pos f) (omega arith) (le-leb 0 f (omega arith)) (le-leb f 1048575 (omega arith)),
) refl

no_letter : (bs : List ℕ) → list_all (λ b. not (is_letter b)) bs ≡ true → is_name bs ≡ false
unfolding is_name
no_letter [] h = refl
no_letter (b ∷ bs) h = and_left (is_letter b) _ (not-true _ (and_parts (not (is_letter b)) (list_all (λ c. not (is_letter c)) bs) h).0)

no_name : (z : ℤ) → unsigned_abs z < 2 ^ 32 → is_name (signed_decimal z) ≡ false
no_name z small = no_letter (signed_decimal z) (signed_pass (λ b. not (is_letter b)) refl refl z small)

offset_again : (least most : ℤ) (z : ℤ) → unsigned_abs z < 2 ^ 32 → int_le least z ≡ true → int_le z most ≡ true →
    value_in least most (signed_decimal z) ≡ Ok (number z)
unfolding value_in
offset_again least most z small low high = rw (no_name z small, within_again least most z small low high) refl

brackets_word : (front inside : List ℕ) → list_all is_plain front ≡ true → Word inside → Word (in_brackets front inside)
brackets_word front inside plain w = record {
  plain = joined_all is_plain front (40 ∷ (inside ++ 41 ∷ [])) plain (joined_all is_plain inside (41 ∷ []) w.plain refl);
  nonempty = simp length-append (omega arith);
}

-- i(rs1)
module _ (rs1 f : ℕ) (base : IsRegister rs1) (lt : f < 2 ^ 12) where
  address_word : Word (in_brackets (signed_decimal (signed (2 ^ 11) f)) (x_name rs1))
  address_word = brackets_word _ (x_name rs1) (signed_word (signed (2 ^ 11) f) (signed_small (2 ^ 11) f lt (omega arith))).plain base.word

  address_again : bracket_parts (in_brackets (signed_decimal (signed (2 ^ 11) f)) (x_name rs1)) ≡ Some (signed_decimal (signed (2 ^ 11) f), x_name rs1)
  address_again = bracketed_again (signed_decimal (signed (2 ^ 11) f)) (x_name rs1)
      (word_trimmed _ (signed_word (signed (2 ^ 11) f) (signed_small (2 ^ 11) f lt (omega arith)))) (word_trimmed (x_name rs1) base.word) base.no_bracket

-- (rs1)
base_word : (rs1 : ℕ) → IsRegister rs1 → Word (in_brackets [] (x_name rs1))
base_word rs1 base = brackets_word [] (x_name rs1) refl base.word

base_again : (rs1 : ℕ) → IsRegister rs1 → base_in (in_brackets [] (x_name rs1)) ≡ Ok rs1
unfolding base_in
base_again rs1 base = rw (bracketed_again [] (x_name rs1) trimmed_nothing (word_trimmed (x_name rs1) base.word) base.no_bracket, base.read) refl

-- ---- each format

two : {a b : List ℕ} → Word a → Word b → Words (a ∷ b ∷ [])
two v w = more v (more w none)

-- The text is one line, which says the instruction.
pub record IsLineOf (text : List ℕ) (i : Instr) : Type 0 where
  -- the text is read as the instruction, with no label
  pub read : line_of text ≡ Ok (record { name = None; statement = Some (instruction i) })
  -- it has no line feed
  pub one_line : parts_at 10 text ≡ text ∷ []

-- If an instruction is read from operands that are words, it is read from its text with these operands.
from_operands : (m : Mnemonic) (order : Order) (i : Instr) (op : List ℕ) (ops : List (List ℕ)) → IsReadAgain m order → Word op → Words ops →
    instruction_in m order (op ∷ ops) ≡ Ok i → IsLineOf (with_operands (written m order) (op ∷ ops)) i
from_operands m order i op ops again w ws read = record {
  read = line_again (written m order) m order i again.word again.none_such again.is_m op ops w ws read;
  one_line = one_part 10 (with_operands (written m order) (op ∷ ops))
      (text_quiet (written m order) op ops again.word w ws (λ b. not (eqb b 10)) refl refl no_line_feed);
}

bare : (m : Mnemonic) (order : Order) (i : Instr) → IsReadAgain m order → instruction_in m order ([] ∷ []) ≡ Ok i → IsLineOf (written m order) i
bare m order i again read = record {
  read = bare_line_again (written m order) m order i again.word again.none_such again.is_m read;
  one_line = one_part 10 (written m order) (no_line_feed (written m order) again.word);
}

-- The text of an instruction in range is one line, which says that instruction.
pub written_read : (i : Insn) → InRange i → IsLineOf (text_of i) (as_said i)
unfolding text_of op_in op_imm_in shift_in addressed_in branch_in upper_insn_in jal_in fence_in amo_in nothing_in
written_read (insns.Op op rd rs1 rs2) r =
    let a = register_again rd r.0 in
    let b = register_again rs1 r.1 in
    let c = register_again rs2 r.2 in
    from_operands (Op op) unordered (whole (insns.Op op rd rs1 rs2)) (x_name rd) (x_name rs1 ∷ x_name rs2 ∷ []) (mnemonic_again (Op op)) a.word
    (two b.word c.word) (rw (a.read, b.read, c.read) refl)
written_read (insns.OpImm op rd rs1 imm) r =
    let a = register_again rd r.0 in
    let b = register_again rs1 r.1 in
    let z = signed (2 ^ 11) imm in
    from_operands (OpImm op) unordered (op_imm op rd rs1 (number z)) (x_name rd) (x_name rs1 ∷ signed_decimal z ∷ []) (mnemonic_again (OpImm op)) a.word
    (two b.word (signed_word z (signed_small (2 ^ 11) imm r.2 (omega arith)))) (rw (a.read, b.read, lower_again imm r.2) refl)
written_read (insns.Shift op rd rs1 amount) r =
    let a = register_again rd r.0 in
    let b = register_again rs1 r.1 in
    from_operands (Shift op) unordered (whole (insns.Shift op rd rs1 amount)) (x_name rd) (x_name rs1 ∷ decimal amount ∷ []) (mnemonic_again (Shift op)) a.word
    (two b.word (decimal_word amount (omega (arith, r.2)))) (rw (a.read, b.read, natural_again 31 amount (omega (arith, r.2)) (omega arith)) refl)
written_read (insns.Load op rd rs1 imm) r =
    let a = register_again rd r.0 in
    let b = register_again rs1 r.1 in
    let z = signed (2 ^ 11) imm in
    from_operands (Load op) unordered (load op rd rs1 (number z)) (x_name rd) (in_brackets (signed_decimal z) (x_name rs1) ∷ [])
    (mnemonic_again (Load op)) a.word (more (address_word rs1 imm b r.2) none) (rw (a.read, address_again rs1 imm b r.2, lower_again imm r.2, b.read) refl)
written_read (insns.Store op rs1 rs2 imm) r =
    let a = register_again rs2 r.1 in
    let b = register_again rs1 r.0 in
    let z = signed (2 ^ 11) imm in
    from_operands (Store op) unordered (store op rs1 rs2 (number z)) (x_name rs2) (in_brackets (signed_decimal z) (x_name rs1) ∷ [])
    (mnemonic_again (Store op)) a.word (more (address_word rs1 imm b r.2) none)
    (rw (a.read, address_again rs1 imm b r.2, lower_again imm r.2, b.read) refl)
written_read (insns.Branch op rs1 rs2 field) r =
    let a = register_again rs1 r.0 in
    let b = register_again rs2 r.1 in
    let z = offset (2 ^ 11) field in
    let small : unsigned_abs (offset (2 ^ 11) field) < 2 ^ 32 = signed_small (2 ^ 12) (2 * field) (omega (arith, r.2)) (omega arith) in
    let low : int_le (negsuc 4095) (offset (2 ^ 11) field) ≡ true = signed_low (2 ^ 12) (2 * field) (omega (arith, r.2)) (omega arith) 4095 (omega arith) in
    let high : int_le (offset (2 ^ 11) field) (pos 4094) ≡ true = offset_high (2 ^ 11) field 4094 r.2 (omega arith) in
    from_operands (Branch op) unordered (branch op rs1 rs2 (number z)) (x_name rs1) (x_name rs2 ∷ signed_decimal z ∷ []) (mnemonic_again (Branch op)) a.word
    (two b.word (signed_word z small)) (rw (a.read, b.read, offset_again (negsuc 4095) (pos 4094) z small low high) refl)
written_read (insns.Upper op rd v) r =
    let a = register_again rd r.0 in
    from_operands (Upper op) unordered (upper op rd (number (pos v))) (x_name rd) (decimal v ∷ []) (mnemonic_again (Upper op)) a.word
    (more (decimal_word v (omega (arith, r.1))) none) (rw (a.read, upper_again v r.1) refl)
written_read (insns.Jal rd field) r =
    let a = register_again rd r.0 in
    let z = offset (2 ^ 19) field in
    let small : unsigned_abs (offset (2 ^ 19) field) < 2 ^ 32 = signed_small (2 ^ 20) (2 * field) (omega (arith, r.1)) (omega arith) in
    let low : int_le (negsuc 1048575) (offset (2 ^ 19) field) ≡ true =
    signed_low (2 ^ 20) (2 * field) (omega (arith, r.1)) (omega arith) 1048575 (omega arith) in
    let high : int_le (offset (2 ^ 19) field) (pos 1048574) ≡ true = offset_high (2 ^ 19) field 1048574 r.1 (omega arith) in
    from_operands Jal unordered (jal rd (number z)) (x_name rd) (signed_decimal z ∷ []) (mnemonic_again Jal) a.word (more (signed_word z small) none)
    (rw (a.read, offset_again (negsuc 1048575) (pos 1048574) z small low high) refl)
written_read (insns.Jalr rd rs1 imm) r =
    let a = register_again rd r.0 in
    let b = register_again rs1 r.1 in
    let z = signed (2 ^ 11) imm in
    from_operands Jalr unordered (jalr rd rs1 (number z)) (x_name rd) (in_brackets (signed_decimal z) (x_name rs1) ∷ []) (mnemonic_again Jalr) a.word
    (more (address_word rs1 imm b r.2) none) (rw (a.read, address_again rs1 imm b r.2, lower_again imm r.2, b.read) refl)
written_read (insns.Fence rd rs1 ordering) r =
    let a = register_again rd r.0 in
    let b = register_again rs1 r.1 in
    from_operands Fence unordered (whole (insns.Fence rd rs1 ordering)) (x_name rd) (x_name rs1 ∷ decimal ordering ∷ []) (mnemonic_again Fence) a.word
    (two b.word (decimal_word ordering (omega (arith, r.2)))) (rw (a.read, b.read, natural_again 4095 ordering (omega (arith, r.2)) (omega arith)) refl)
written_read insns.Ecall r = bare Ecall unordered (whole insns.Ecall) (mnemonic_again Ecall) refl
written_read insns.Ebreak r = bare Ebreak unordered (whole insns.Ebreak) (mnemonic_again Ebreak) refl
written_read (insns.Amo op rd rs1 rs2 aq rl) r =
    let a = register_again rd r.0 in
    let b = register_again rs2 r.2 in
    let c = register_again rs1 r.1 in
    from_operands (Amo op) (record { aq = aq; rl = rl }) (whole (insns.Amo op rd rs1 rs2 aq rl)) (x_name rd) (x_name rs2 ∷ in_brackets [] (x_name rs1) ∷ [])
    (amo_again op aq rl) a.word (two b.word (base_word rs1 c)) (rw (a.read, b.read, base_again rs1 c) refl)
