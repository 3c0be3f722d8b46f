-- Unknown first words, and what is advised.
--
-- Source of the instructions: the RISC-V manual, Volume I, "RISC-V Assembly Programmer's Handbook", table of
-- pseudoinstructions. Operands are a, b, c in their order, n a number.
use Rattle.std.specs.Prelude.{ℕ, ◌+◌, ◌-◌, Bool, List, [], ◌∷◌, ◌++◌, length, map, find, nat_eq, nat_lt, nat_le}
use Rattle.std.specs.Prelude.{◌==◌, ◌&&◌, ◌||◌, if◌then◌else◌, codes}
use Rattle.std.specs.Prelude.{Option, Some, None}
use Rattle.std.specs.Char.{to_ascii_lowercase}
use Rattle.std.specs.List.{list_any}
use Rattle.std.specs.Option.{option_map}
use Rattle.std.specs.Str.{bytes_eq}
use Rattle.strsim.specs.Edits.{levenshtein_row}
use Rattle.asm_lines.specs.Names.{mnemonics, name_of, directives, directive_name}
use Rattle.asm_lines.specs.Statements.{is_name}
use Rattle.word_faults.specs.declared.foreign.Foreign.{Foreign}
use Rattle.word_faults.specs.Advice.{Advice, not_a_label, in_place, not_needed, near, colon, nothing_like_it}
use Rattle.word_faults.specs.Spans.{trimmed_span}
use Rattle.word_faults.specs.WrongOperands.{LineSpans, spans_of_line}
use Rattle.word_faults.specs.declared.foreign.Foreign.TheVariants.{Nop, Mv, Li, La, Not, Neg, Subi, Seqz, Snez, Sltz}
use Rattle.word_faults.specs.declared.foreign.Foreign.TheVariants.{Sgtz, Sgt, Sgtu, J, Jr, Call, Tail, Ret, Beqz}
use Rattle.word_faults.specs.declared.foreign.Foreign.TheVariants.{Bnez, Blez, Bgez, Bltz, Bgtz, Bgt, Ble, Bgtu}
use Rattle.word_faults.specs.declared.foreign.Foreign.TheVariants.{Bleu, DotText, DotData, DotBss, DotSection}
use Rattle.word_faults.specs.declared.foreign.Foreign.TheVariants.{DotSpace, DotSkip, DotAscii, DotGlobl, DotGlobal}
use Rattle.word_faults.specs.declared.foreign.Foreign.TheVariants.{DotAlign, DotOption, DotType, DotSize}

-- ---- words of other assemblers

abbrev pub foreign_name : Foreign → List ℕ
foreign_name Nop = codes "nop"
foreign_name Mv = codes "mv"
foreign_name Li = codes "li"
foreign_name La = codes "la"
foreign_name Not = codes "not"
foreign_name Neg = codes "neg"
foreign_name Subi = codes "subi"
foreign_name Seqz = codes "seqz"
foreign_name Snez = codes "snez"
foreign_name Sltz = codes "sltz"
foreign_name Sgtz = codes "sgtz"
foreign_name Sgt = codes "sgt"
foreign_name Sgtu = codes "sgtu"
foreign_name J = codes "j"
foreign_name Jr = codes "jr"
foreign_name Call = codes "call"
foreign_name Tail = codes "tail"
foreign_name Ret = codes "ret"
foreign_name Beqz = codes "beqz"
foreign_name Bnez = codes "bnez"
foreign_name Blez = codes "blez"
foreign_name Bgez = codes "bgez"
foreign_name Bltz = codes "bltz"
foreign_name Bgtz = codes "bgtz"
foreign_name Bgt = codes "bgt"
foreign_name Ble = codes "ble"
foreign_name Bgtu = codes "bgtu"
foreign_name Bleu = codes "bleu"
foreign_name DotText = codes ".text"
foreign_name DotData = codes ".data"
foreign_name DotBss = codes ".bss"
foreign_name DotSection = codes ".section"
foreign_name DotSpace = codes ".space"
foreign_name DotSkip = codes ".skip"
foreign_name DotAscii = codes ".ascii"
foreign_name DotGlobl = codes ".globl"
foreign_name DotGlobal = codes ".global"
foreign_name DotAlign = codes ".align"
foreign_name DotOption = codes ".option"
foreign_name DotType = codes ".type"
foreign_name DotSize = codes ".size"

-- what does the same here, or why nothing is needed
abbrev pub foreign_advice : Foreign → Advice
foreign_advice Nop = in_place (codes "addi x0, x0, 0")
foreign_advice Mv = in_place (codes "addi a, b, 0")
foreign_advice Li = in_place (codes "addi a, x0, n, or lui and addi,")
foreign_advice La = in_place (codes "lui a, %hi(label) and addi a, a, %lo(label)")
foreign_advice Not = in_place (codes "xori a, b, -1")
foreign_advice Neg = in_place (codes "sub a, x0, b")
foreign_advice Subi = in_place (codes "addi a, b, -n")
foreign_advice Seqz = in_place (codes "sltiu a, b, 1")
foreign_advice Snez = in_place (codes "sltu a, x0, b")
foreign_advice Sltz = in_place (codes "slt a, b, x0")
foreign_advice Sgtz = in_place (codes "slt a, x0, b")
foreign_advice Sgt = in_place (codes "slt a, c, b")
foreign_advice Sgtu = in_place (codes "sltu a, c, b")
foreign_advice J = in_place (codes "jal x0, label")
foreign_advice Jr = in_place (codes "jalr x0, 0(a)")
foreign_advice Call = in_place (codes "jal ra, label")
foreign_advice Tail = in_place (codes "jal x0, label")
foreign_advice Ret = in_place (codes "jalr x0, 0(ra)")
foreign_advice Beqz = in_place (codes "beq a, x0, label")
foreign_advice Bnez = in_place (codes "bne a, x0, label")
foreign_advice Blez = in_place (codes "bge x0, a, label")
foreign_advice Bgez = in_place (codes "bge a, x0, label")
foreign_advice Bltz = in_place (codes "blt a, x0, label")
foreign_advice Bgtz = in_place (codes "blt x0, a, label")
foreign_advice Bgt = in_place (codes "blt b, a, label")
foreign_advice Ble = in_place (codes "bge b, a, label")
foreign_advice Bgtu = in_place (codes "bltu b, a, label")
foreign_advice Bleu = in_place (codes "bgeu b, a, label")
foreign_advice DotText = in_place (codes ".code")
foreign_advice DotData = in_place (codes ".local or .shared")
foreign_advice DotBss = in_place (codes ".local or .shared")
foreign_advice DotSection = in_place (codes ".code, .local or .shared")
foreign_advice DotSpace = in_place (codes ".zero n")
foreign_advice DotSkip = in_place (codes ".zero n")
foreign_advice DotAscii = in_place (codes ".byte with a number for each letter")
foreign_advice DotGlobl = not_needed (codes "all names are the text's own")
foreign_advice DotGlobal = not_needed (codes "all names are the text's own")
foreign_advice DotAlign = not_needed (codes "data go on where they ended")
foreign_advice DotOption = not_needed (codes "each line has the instruction that it names")
foreign_advice DotType = not_needed (codes "a label names only a place")
foreign_advice DotSize = not_needed (codes "a label names only a place")

abbrev pub foreigners : List Foreign
foreigners =
    Nop ∷ Mv ∷ Li ∷ La ∷ Not ∷ Neg ∷ Subi ∷ Seqz ∷ Snez ∷ Sltz ∷ Sgtz ∷ Sgt ∷ Sgtu ∷ J ∷ Jr ∷ Call ∷ Tail ∷ Ret ∷
    Beqz ∷ Bnez ∷ Blez ∷ Bgez ∷ Bltz ∷ Bgtz ∷ Bgt ∷ Ble ∷ Bgtu ∷ Bleu ∷ DotText ∷ DotData ∷ DotBss ∷ DotSection ∷
    DotSpace ∷ DotSkip ∷ DotAscii ∷ DotGlobl ∷ DotGlobal ∷ DotAlign ∷ DotOption ∷ DotType ∷ DotSize ∷ []

-- the word of other assemblers that is written as the word
unfoldable pub foreign_of : List ℕ → Option Foreign
foreign_of word = find (λ f. bytes_eq (foreign_name f) word) foreigners

-- ---- words that are written almost the same

-- the most edits by which a word of this many bytes may differ from the name that was meant
abbrev pub most_edits : ℕ → ℕ
most_edits count = if nat_lt count 2 then 0 else (if nat_lt count 6 then 1 else 2)

-- how far apart two numbers are
abbrev pub apart : ℕ → ℕ → ℕ
apart a b = (a - b) + (b - a)

-- the number of edits from a word to a name, if they are few; names of over 32 bytes are near to none
abbrev pub few_edits : (word name : List ℕ) → Option ℕ
few_edits word name =
    if nat_lt 32 (length name) || nat_lt (most_edits (length word)) (apart (length word) (length name)) then None
    else (if nat_le (levenshtein_row nat_eq word name (length name)) (most_edits (length word))
    then Some (levenshtein_row nat_eq word name (length name)) else None)

-- the nearer of a name, which is this many edits away, and the nearest one before it
abbrev pub nearer : Option ℕ → (name : List ℕ) → Option (ℕ × List ℕ) → Option (ℕ × List ℕ)
nearer None name before = before
nearer (Some edits) name None = Some (edits, name)
nearer (Some edits) name (Some before) = if nat_lt edits before.0 then Some (edits, name) else Some before

-- the nearest of these names if few edits lead to it, the first of equals, or the one before if that is as near
abbrev pub nearest_of : (word : List ℕ) → Option (ℕ × List ℕ) → List (List ℕ) → Option (ℕ × List ℕ)
nearest_of word before [] = before
nearest_of word before (name ∷ names) = nearest_of word (nearer (few_edits word name) name before) names

-- the first words of the language
abbrev pub first_words : List (List ℕ)
first_words = map name_of mnemonics ++ map directive_name directives

-- the instruction or directive that is nearest to a word, in letters of either case
unfoldable pub nearest_word : List ℕ → Option (List ℕ)
nearest_word word =
    if nat_lt 16 (length word) then None
    else option_map (λ (p : ℕ × List ℕ). p.1) (nearest_of (map to_ascii_lowercase word) None first_words)

-- ---- what is advised

abbrev pub advice_by : Option Foreign → Option (List ℕ) → (is_label : Bool) → Advice
advice_by (Some foreign) nearest is_label = foreign_advice foreign
advice_by None (Some name) is_label = near name
advice_by None None is_label = if is_label then colon else nothing_like_it

-- the advice for an unknown first word with these bytes after it: for one with a colon, how a label's name is written;
-- for one of other assemblers, what does the same; else a word that is written almost the same; else a colon, if only a
-- name is there
unfoldable pub advice_on : (word rest : List ℕ) → Advice
advice_on word rest =
    if list_any (λ b. b == 58) word then not_a_label
    else advice_by (foreign_of word) (nearest_word word) ((length rest == 0) && is_name word)

-- the advice for a line's first word
abbrev pub word_advice_in : LineSpans → Advice
word_advice_in parts = advice_on parts.word.bytes (trimmed_span parts.rest).bytes

unfoldable pub advice_on_line : List ℕ → Advice
advice_on_line line = word_advice_in (spans_of_line line)
