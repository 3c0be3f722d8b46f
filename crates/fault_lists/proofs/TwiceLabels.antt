-- If a line's fault is that its label is there twice, the label is at fault, and a line before has it.
use Rattle.std.proofs.Common.{◌≡◌, ℕ, ℤ, ◌+◌, ◌%◌, Bool, true, false, List, [], ◌∷◌, Option, Some, None, Result, Ok, Err}
use Rattle.std.proofs.Common.{refl, sym, ap, subst, ◌∙◌}
use Rattle.std.specs.Prelude.{IsSome, is_some, ok_or, unwrap_or, nat_le, if◌then◌else◌, ◌==◌, pos, negsuc, int_le, ◌&&◌}
use Rattle.std.specs.Option.{option_map}
use Rattle.std.proofs.lemmas.Option.{same_Some}
use Rattle.asm_lines.specs.declared.fault.LineFault.{LineFault}
use Rattle.asm_lines.specs.declared.fault.LineFault.TheVariants as line_faults
use Rattle.asm_lines.specs.declared.statement.Section.{Section}
use Rattle.asm_lines.specs.declared.statement.Section.TheVariants.{Code, Local, Shared}
use Rattle.asm_lines.specs.Number.{low_bits}
use Rattle.asm_lines.specs.Statements.{Val, number, label, Instr, whole, op_imm, load, store, branch, upper, jal}
use Rattle.asm_lines.specs.Statements.{jalr, Stmt, section, words, bytes, zeros, instruction, Said, is_name, line_of, said_in, label_in}
use Rattle.asm_lines.specs.Statements.{before_comment, label_parts, rest_of_line}
use Rattle.asm_lines.specs.Steps as steps
use Rattle.asm_lines.specs.Text.{trimmed, cut_at}
use Rattle.assembler.specs.declared.fault.AsmFault.{AsmFault}
use Rattle.assembler.specs.declared.fault.AsmFault.TheVariants.{LabelTwice, LabelMissing, Range, SectionFull}
use Rattle.assembler.specs.declared.fault.AsmError.{AsmError}
use Rattle.assembler.specs.declared.symbol.Symbol.{Symbol}
use Rattle.assembler.specs.Faults.{◌>>=◌, lifted}
use Rattle.assembler.specs.Meaning.{Labels, Place, Piece, Placed, address, place_said, place_statement, misplacement, fit_or_fault}
use Rattle.assembler.specs.Meaning.{count_of, size_of, room_of, unaligned, placed_at, is_taken}
use Rattle.assembler.specs.Meaning.{part_of, offset_of, offset_from, low_part, high_part, lower_field, upper_field, branch_field, jump_field}
use Rattle.assembler.specs.Meaning.{insn_at, words_bytes, statement_bytes, option_bytes, piece_of, line_piece}
use Rattle.line_faults.specs.Faults.{fault_in}
use Rattle.line_faults.specs.Places.{FirstLines}
use Rattle.line_faults.specs.WordAtFault.{word_at_fault}
use Rattle.line_faults.specs.word_faults.Spans.{Span, span, cut_span, trimmed_span, round_byte}
use Rattle.line_faults.specs.word_faults.WrongOperands.{spans_of_line, label_spans, text_span, before_mark}
use Rattle.fault_lists.specs.declared.text_fault.TextFault.{TextFault}
use Rattle.fault_lists.specs.Faults.{error_of, error_at, IsNamed, said_label, label_of}

-- ---- faults of a statement

-- The result is not that a label is there twice.
abbrev NotTwice : {A : Type 0} → Result A AsmFault → Type 0
NotTwice r = fault_in r ≡ Some LabelTwice → ⊥

then_not : {A B : Type 0} (r : Result A AsmFault) (f : A → Result B AsmFault) → NotTwice r → ((x : A) → NotTwice (f x)) → NotTwice (r >>= f)
then_not (Ok x) f first rest = rest x
then_not (Err e) f first rest = first

part_not : (part : ℕ → ℤ) (labels : Labels) (v : Val) → NotTwice (part_of part labels v)
part_not part labels (number z) = λ is. cc
part_not part labels (label name) = go (labels name)
  where
    go : (o : Option Symbol) → NotTwice (ok_or o LabelMissing >>= λ symbol. Ok (part symbol.address))
    go None = λ is. cc
    go (Some symbol) = λ is. cc

offset_not : (least most : ℤ) (labels : Labels) (at : ℕ) (v : Val) → NotTwice (offset_of least most labels at v)
unfolding offset_of
offset_not least most labels at v = then_not _ _ (part_not (offset_from at) labels v) (λ z. go z (int_le least z && int_le z most && (low_bits 2 z == 0)))
  where
    go : (z : ℤ) (b : Bool) → NotTwice (if b then Ok z else Err Range)
    go z true = λ is. cc
    go z false = λ is. cc

lower_not : (labels : Labels) (v : Val) → NotTwice (lower_field labels v)
lower_not labels v = then_not _ _ (part_not low_part labels v) (λ z is. cc)

upper_not : (labels : Labels) (v : Val) → NotTwice (upper_field labels v)
upper_not labels v = then_not _ _ (part_not high_part labels v) (λ z is. cc)

branch_not : (labels : Labels) (at : ℕ) (v : Val) → NotTwice (branch_field labels at v)
branch_not labels at v = then_not _ _ (offset_not (negsuc 4095) (pos 4094) labels at v) (λ z is. cc)

jump_not : (labels : Labels) (at : ℕ) (v : Val) → NotTwice (jump_field labels at v)
jump_not labels at v = then_not _ _ (offset_not (negsuc 1048575) (pos 1048574) labels at v) (λ z is. cc)

insn_not : (labels : Labels) (at : ℕ) (i : Instr) → NotTwice (insn_at labels at i)
insn_not labels at (whole i) = λ is. cc
insn_not labels at (op_imm op rd rs1 v) = then_not _ _ (lower_not labels v) (λ f is. cc)
insn_not labels at (load op rd rs1 v) = then_not _ _ (lower_not labels v) (λ f is. cc)
insn_not labels at (store op rs1 rs2 v) = then_not _ _ (lower_not labels v) (λ f is. cc)
insn_not labels at (branch op rs1 rs2 v) = then_not _ _ (branch_not labels at v) (λ f is. cc)
insn_not labels at (upper op rd v) = then_not _ _ (upper_not labels v) (λ f is. cc)
insn_not labels at (jal rd v) = then_not _ _ (jump_not labels at v) (λ f is. cc)
insn_not labels at (jalr rd rs1 v) = then_not _ _ (lower_not labels v) (λ f is. cc)

words_not : (labels : Labels) (vs : List Val) → NotTwice (words_bytes labels vs)
unfolding words_bytes
words_not labels [] = λ is. cc
words_not labels (v ∷ vs) = then_not _ _ (part_not pos labels v) (λ z. then_not _ _ (words_not labels vs) (λ bs is. cc))

statement_not : (labels : Labels) (at : ℕ) (s : Stmt) → NotTwice (statement_bytes labels at s)
statement_not labels at (section s) = λ is. cc
statement_not labels at (words vs) = words_not labels vs
statement_not labels at (bytes bs) = λ is. cc
statement_not labels at (zeros n) = λ is. cc
statement_not labels at (instruction i) = then_not _ _ (insn_not labels at i) (λ insn is. cc)

option_not : (labels : Labels) (at : ℕ) (s : Option Stmt) → NotTwice (option_bytes labels at s)
option_not labels at None = λ is. cc
option_not labels at (Some s) = statement_not labels at s

piece_not : (labels : Labels) (p : Placed) → NotTwice (piece_of labels p)
unfolding piece_of
piece_not labels p = then_not _ _ (option_not labels p.address p.statement) (λ bs is. cc)

-- ---- faults of a place

unaligned_not : (n : ℕ) → unaligned n ≡ Some LabelTwice → ⊥
unaligned_not n = go (n % 4 == 0)
  where
    go : (b : Bool) → (if b then None else Some Range) ≡ Some LabelTwice → ⊥
    go true = λ is. cc
    go false = λ is. cc

misplaced_not : (s : Section) (n : ℕ) (statement : Stmt) → misplacement s n statement ≡ Some LabelTwice → ⊥
misplaced_not Code n (section t) = λ is. cc
misplaced_not Code n (words vs) = unaligned_not n
misplaced_not Code n (bytes bs) = λ is. cc
misplaced_not Code n (zeros m) = λ is. cc
misplaced_not Code n (instruction i) = unaligned_not n
misplaced_not Local n (section t) = λ is. cc
misplaced_not Local n (words vs) = unaligned_not n
misplaced_not Local n (bytes bs) = λ is. cc
misplaced_not Local n (zeros m) = λ is. cc
misplaced_not Local n (instruction i) = λ is. cc
misplaced_not Shared n (section t) = λ is. cc
misplaced_not Shared n (words vs) = unaligned_not n
misplaced_not Shared n (bytes bs) = λ is. cc
misplaced_not Shared n (zeros m) = λ is. cc
misplaced_not Shared n (instruction i) = λ is. cc

fit_not : (at : Place) (s : Stmt) (o : Option AsmFault) → (o ≡ Some LabelTwice → ⊥) → NotTwice (fit_or_fault o at s)
fit_not at s (Some f) other = other
fit_not at s None other = go (nat_le (count_of at.section at + size_of s) (room_of at.section))
  where
    go : (b : Bool) → NotTwice (if b then Ok (placed_at at (Some s)) else Err SectionFull)
    go true = λ is. cc
    go false = λ is. cc

place_not : (at : Place) (s : Option Stmt) → NotTwice (place_statement at s)
place_not at None = λ is. cc
place_not at (Some s) = fit_not at s (misplacement at.section (address at) s) (misplaced_not at.section (address at) s)

-- ---- the label of a line

-- A line before has the label.
record IsTaken (at : Place) (label : Option (List ℕ)) : Type 0 where
  name : List ℕ
  is : label ≡ Some name
  taken : IsSome (at.labels name)

said_taken : (labels : Labels) (at : Place) (label : Option (List ℕ)) (s : Option Stmt)
    → fault_in ((if is_taken at label then Err LabelTwice else place_statement at s) >>= piece_of labels) ≡ Some LabelTwice → IsTaken at label
said_taken labels at None s is = absurd (then_not _ _ (place_not at s) (piece_not labels) is)
said_taken labels at (Some name) s is = record { name = name; is = refl; taken = go (is_some (at.labels name)) is }
  where
    go : (b : Bool) → fault_in ((if b then Err LabelTwice else place_statement at s) >>= piece_of labels) ≡ Some LabelTwice → b ≡ true
    go true is = refl
    go false is = absurd (then_not _ _ (place_not at s) (piece_not labels) is)

read_taken : (labels : Labels) (at : Place) (read : Result Said LineFault)
    → fault_in ((lifted read >>= place_said at) >>= piece_of labels) ≡ Some LabelTwice → IsTaken at (said_label read)
unfolding place_said
read_taken labels at (Ok said) is = said_taken labels at said.name said.statement is
read_taken labels at (Err line_faults.Unknown) is = cc
read_taken labels at (Err line_faults.Form) is = cc
read_taken labels at (Err line_faults.Range) is = cc

-- The label that is found in a line is the label that the line has.
label_bytes : (text : Span) → option_map (λ (s : Span). s.bytes) (label_spans text (cut_span (λ b. b == 58) text)).0
    ≡ (label_parts text.bytes (cut_at (λ b. b == 58) text.bytes)).0
label_bytes text = go (cut_at (λ b. b == 58) text.bytes)
  where
    named : (parts : List ℕ × List ℕ) (b : Bool)
        → let spans : Option Span × Span = if b then (Some (trimmed_span (span text.start parts.0)), (round_byte text.start parts).1) else (None, text) in
        let read : Option (List ℕ) × List ℕ = if b then (Some (trimmed parts.0), parts.1) else (None, text.bytes) in
        option_map (λ (s : Span). s.bytes) spans.0 ≡ read.0
    named parts true = refl
    named parts false = refl

    go : (o : Option (List ℕ × List ℕ)) → option_map (λ (s : Span). s.bytes) (label_spans text (option_map (round_byte text.start) o)).0
        ≡ (label_parts text.bytes o).0
    go None = refl
    go (Some parts) = named parts (is_name (trimmed parts.0))

text_bytes : (line : List ℕ) → (text_span line).bytes ≡ before_comment line (cut_at (λ b. b == 35) line)
text_bytes line = go (cut_at (λ b. b == 35) line)
  where
    go : (o : Option (List ℕ × List ℕ)) → (before_mark (span 0 line) (option_map (round_byte 0) o)).bytes ≡ before_comment line o
    go None = refl
    go (Some parts) = refl

read_label : (line : List ℕ) (name : List ℕ) → label_of line ≡ Some name
    → option_map (λ (s : Span). s.bytes) (spans_of_line line).label ≡ Some name
unfolding spans_of_line line_of said_in label_in
read_label line name is =
    let text = before_comment line (cut_at (λ b. b == 35) line) in
    label_bytes (text_span line) ∙ ap (λ (bs : List ℕ). (label_parts bs (cut_at (λ b. b == 58) bs)).0) (text_bytes line)
    ∙ go (label_in text).0 (rest_of_line (label_in text).1) is
  where
    go : (read : Option (List ℕ)) (rest : Result (Option Stmt) LineFault)
        → said_label (steps.◌>>=◌ rest (λ s. Ok (record { name = read; statement = s }))) ≡ Some name → read ≡ Some name
    go read (Ok s) is = is
    go read (Err f) is = cc

-- If the fault of a line is that its label is there twice, the label is the word at fault.
word_is_label : (labels : Labels) (address : ℕ) (line name : List ℕ) → label_of line ≡ Some name
    → (word_at_fault labels address line LabelTwice).bytes ≡ name
unfolding word_at_fault
word_is_label labels address line name is = go (spans_of_line line).label (read_label line name is)
  where
    go : (o : Option Span) → option_map (λ (s : Span). s.bytes) o ≡ Some name → (unwrap_or o (spans_of_line line).word).bytes ≡ name
    go None is = cc
    go (Some s) is = cc

-- A label that is there twice has a first line if all labels of the lines before have one.
pub twice_known : (labels : Labels) (firsts : FirstLines) (at : Place) (line : List ℕ) (n : ℕ) (t : TextFault)
    → ((name : List ℕ) → IsSome (at.labels name) → IsSome (firsts name))
    → Some (error_of t) ≡ error_at n (line_piece labels at line) → IsNamed labels firsts at line t → t.fault ≡ LabelTwice
    → IsSome (firsts t.word.now)
twice_known labels firsts at line n t known error named twice =
    let read = read_taken labels at (line_of line) (go (line_piece labels at line) error) in
    let word : t.word.now ≡ read.name = named.word ∙ ap (λ f. (word_at_fault labels (address at) line f).bytes) twice
    ∙ word_is_label labels (address at) line read.name read.is in
    subst (λ name. IsSome (firsts name)) (sym word) (known read.name read.taken)
  where
    go : (piece : Result Piece AsmFault) → Some (error_of t) ≡ error_at n piece → fault_in piece ≡ Some LabelTwice
    go (Ok x) same = cc
    go (Err f) same =
        let found : error_of t ≡ record { line = n; fault = f } = same_Some _ _ same in
        ap (λ (e : AsmError). let fault : Option AsmFault = Some e.fault in fault) (sym found) ∙ ap Some twice
