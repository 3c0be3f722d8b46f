-- The text of an instruction means the instruction's word.
use Rattle.std.proofs.Common.{◌≡◌, ℕ, ◌/◌, ◌^◌, ◌<◌, List, [], ◌∷◌, Some, None, Result, Ok, refl, sym, ap, ◌∙◌, arith}
use Rattle.std.specs.Prelude.{ℤ, pos, negsuc, codes, All, IsOk}
use Rattle.std.proofs.lemmas.List.Elements.{All-push}
use Rattle.rv_table.specs.declared.insn.Insn.{Insn}
use Rattle.rv_table.specs.declared.insn.Insn.TheVariants.{Op, OpImm, Shift, Load, Store, Branch, Upper, Jal, Jalr, Fence, Ecall, Ebreak, Amo}
use Rattle.rv_table.specs.Rows.{InRange}
use Rattle.decode.specs.Words.{word_of}
use Rattle.asm_lines.specs.declared.statement.Section.TheVariants.{Code, Local, Shared}
use Rattle.asm_lines.specs.Text.{parts_at}
use Rattle.asm_lines.specs.Number.{low_bits}
use Rattle.asm_lines.specs.Statements.{Instr, number, instruction, line_of}
use Rattle.asm_lines.specs.Written.{signed, offset, IsEvenWithin, as_said}
use Rattle.assembler.specs.declared.fault.AsmFault.{AsmFault}
use Rattle.assembler.specs.Meaning.{Labels, Piece, start, after_said, after_read, place_said, line_piece}
use Rattle.assembler.specs.Meaning.{piece_of, pieces_of, labels_of, lines_of, offset_of, insn_at}
use Rattle.assembler.specs.Meaning.{section_bytes, entry_of, word_bytes, IsMeaning}

-- What is written of a field is read as the field.
pub record AreRead : Type 0 where
  -- The low 12 bits of the signed number of a 12-bit field are the field.
  pub lower : (f : ℕ) → f < 2 ^ 12 → low_bits (2 ^ 12) (signed (2 ^ 11) f) ≡ f
  -- The low 20 bits of a 20-bit field are the field.
  pub upper : (f : ℕ) → f < 2 ^ 20 → low_bits (2 ^ 20) (pos f) ≡ f
  -- The low 13 bits of the offset of a branch's field, halved, are the field.
  pub branch : (f : ℕ) → f < 2 ^ 12 → low_bits (2 ^ 13) (offset (2 ^ 11) f) / 2 ≡ f
  -- The offset of a branch's field is even, and within the range of a branch.
  pub branch_in_range : (f : ℕ) → f < 2 ^ 12 → IsEvenWithin (negsuc 4095) (pos 4094) (offset (2 ^ 11) f)
  -- The low 21 bits of the offset of a jump's field, halved, are the field.
  pub jump : (f : ℕ) → f < 2 ^ 20 → low_bits (2 ^ 21) (offset (2 ^ 19) f) / 2 ≡ f
  -- The offset of a jump's field is even, and within the range of a jump.
  pub jump_in_range : (f : ℕ) → f < 2 ^ 20 → IsEvenWithin (negsuc 1048575) (pos 1048574) (offset (2 ^ 19) f)

in_range : (least most : ℤ) (labels : Labels) (at : ℕ) (z : ℤ) → IsEvenWithin least most z → offset_of least most labels at (number z) ≡ Ok z
unfolding offset_of
in_range least most labels at z h = rw (h.0, h.1, h.2) refl

module _ (known : AreRead) (labels : Labels) (at : ℕ) where
  -- An instruction read from the numbers written of it is the same instruction.
  pub insn_again : (i : Insn) → InRange i → insn_at labels at (as_said i) ≡ Ok i
  insn_again (OpImm op rd rs1 imm) r = ap (λ f. Ok (OpImm op rd rs1 f)) (known.lower imm r.2)
  insn_again (Load op rd rs1 imm) r = ap (λ f. Ok (Load op rd rs1 f)) (known.lower imm r.2)
  insn_again (Store op rs1 rs2 imm) r = ap (λ f. Ok (Store op rs1 rs2 f)) (known.lower imm r.2)
  insn_again (Branch op rs1 rs2 field) r = rw (in_range (negsuc 4095) (pos 4094) labels at (offset (2 ^ 11) field) (known.branch_in_range field r.2))
      (ap (λ f. Ok (Branch op rs1 rs2 f)) (known.branch field r.2))
  insn_again (Upper op rd v) r = ap (λ f. Ok (Upper op rd f)) (known.upper v r.1)
  insn_again (Jal rd field) r = rw (in_range (negsuc 1048575) (pos 1048574) labels at (offset (2 ^ 19) field) (known.jump_in_range field r.1))
      (ap (λ f. Ok (Jal rd f)) (known.jump field r.1))
  insn_again (Jalr rd rs1 imm) r = ap (λ f. Ok (Jalr rd rs1 f)) (known.lower imm r.2)
  insn_again (Op op rd rs1 rs2) r = refl
  insn_again (Shift op rd rs1 amount) r = refl
  insn_again (Fence rd rs1 ordering) r = refl
  insn_again Ecall r = refl
  insn_again Ebreak r = refl
  insn_again (Amo op rd rs1 rs2 aq rl) r = refl

one_ok : (piece : Piece) → All (λ (r : Result Piece AsmFault). IsOk r) (Ok piece ∷ [])
one_ok piece = All-push (λ (r : Result Piece AsmFault). IsOk r) [] (Ok piece) (λ k d lt. absurd (omega arith)) refl

module _ (text : List ℕ) (said : Instr) (i : Insn) (one_line : parts_at 10 text ≡ text ∷ []) (read : line_of text
    ≡ Ok (record { name = None; statement = Some (instruction said) })) (same : (labels : Labels) (at : ℕ) → insn_at labels at said ≡ Ok i) where
  one_piece : (labels : Labels) → line_piece labels start text ≡ Ok (Code, word_bytes (word_of i))
  unfolding place_said piece_of
  one_piece labels = rw (read, same labels 65536) refl

  pieces_again : pieces_of (lines_of text) ≡ Ok (Code, word_bytes (word_of i)) ∷ []
  unfolding pieces_of
  pieces_again = rw (one_line, one_piece (labels_of (text ∷ []))) refl

  no_labels : labels_of (lines_of text) (codes "start") ≡ None
  unfolding after_said
  no_labels = ap (λ ls. labels_of ls (codes "start")) one_line ∙ ap (λ r. (after_read start r).labels (codes "start")) read

  -- A text of one line that is read as an instruction means just the bytes of its word, in code.
  pub means_its_word : IsMeaning text (record { entry = 0x0001_0000; code = word_bytes (word_of i); local = []; shared = [] })
  means_its_word = record {
    faultless = rw pieces_again (one_ok (Code, word_bytes (word_of i)));
    code = sym (ap (section_bytes Code) pieces_again);
    local = sym (ap (section_bytes Local) pieces_again);
    shared = sym (ap (section_bytes Shared) pieces_again);
    entry = sym (ap entry_of no_labels);
  }
