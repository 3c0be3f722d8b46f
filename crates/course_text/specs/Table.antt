-- The words of course texts, and the plain line of each.
--
-- Source: the RISC-V manual, Volume I, "RISC-V Assembly Programmer's Handbook", table of pseudoinstructions. `la` and
-- loads and stores at a label have its address itself, and not its distance from `pc`; code is so small that `call` and
-- `tail` need one `jal`.
use Rattle.std.specs.Prelude.{ℕ, List, [], ◌∷◌, ◌++◌, codes, find, Option}
use Rattle.std.specs.Str.{bytes_eq}
use Rattle.course_text.specs.declared.table.Row.{Row}
use Rattle.course_text.specs.declared.table.Row.TheVariants.{Nop, Mv, La, Not, Neg, Seqz, Snez, Sltz, Sgtz, Beqz, Bnez}
use Rattle.course_text.specs.declared.table.Row.TheVariants.{Blez, Bgez, Bltz, Bgtz, Bgt, Ble, Bgtu, Bleu, J, Jr, Ret}
use Rattle.course_text.specs.declared.table.Row.TheVariants.{Call, Tail, DotText, DotData, DotBss, DotSpace, DotSkip}
use Rattle.course_text.specs.declared.table.Silent.{Silent}
use Rattle.course_text.specs.declared.table.Silent.TheVariants.{DotGlobl, DotGlobal, DotType, DotSize, DotOption}
use Rattle.course_text.specs.declared.table.Silent.TheVariants.{DotFile, DotAttribute}
use Rattle.course_text.specs.declared.table.Word.{Word}
use Rattle.course_text.specs.declared.table.Word.TheVariants as words

abbrev pub row_name : Row → List ℕ
row_name Nop = codes "nop"
row_name Mv = codes "mv"
row_name La = codes "la"
row_name Not = codes "not"
row_name Neg = codes "neg"
row_name Seqz = codes "seqz"
row_name Snez = codes "snez"
row_name Sltz = codes "sltz"
row_name Sgtz = codes "sgtz"
row_name Beqz = codes "beqz"
row_name Bnez = codes "bnez"
row_name Blez = codes "blez"
row_name Bgez = codes "bgez"
row_name Bltz = codes "bltz"
row_name Bgtz = codes "bgtz"
row_name Bgt = codes "bgt"
row_name Ble = codes "ble"
row_name Bgtu = codes "bgtu"
row_name Bleu = codes "bleu"
row_name J = codes "j"
row_name Jr = codes "jr"
row_name Ret = codes "ret"
row_name Call = codes "call"
row_name Tail = codes "tail"
row_name DotText = codes ".text"
row_name DotData = codes ".data"
row_name DotBss = codes ".bss"
row_name DotSpace = codes ".space"
row_name DotSkip = codes ".skip"

-- the plain line, or two with LF (10) between them; A, B and C are the operands
abbrev pub row_template : Row → List ℕ
row_template Nop = codes "addi x0, x0, 0"
row_template Mv = codes "addi A, B, 0"
row_template La = codes "lui A, %hi(B)" ++ (10 ∷ codes "addi A, A, %lo(B)")
row_template Not = codes "xori A, B, -1"
row_template Neg = codes "sub A, x0, B"
row_template Seqz = codes "sltiu A, B, 1"
row_template Snez = codes "sltu A, x0, B"
row_template Sltz = codes "slt A, B, x0"
row_template Sgtz = codes "slt A, x0, B"
row_template Beqz = codes "beq A, x0, B"
row_template Bnez = codes "bne A, x0, B"
row_template Blez = codes "bge x0, A, B"
row_template Bgez = codes "bge A, x0, B"
row_template Bltz = codes "blt A, x0, B"
row_template Bgtz = codes "blt x0, A, B"
row_template Bgt = codes "blt B, A, C"
row_template Ble = codes "bge B, A, C"
row_template Bgtu = codes "bltu B, A, C"
row_template Bleu = codes "bgeu B, A, C"
row_template J = codes "jal x0, A"
row_template Jr = codes "jalr x0, 0(A)"
row_template Ret = codes "jalr x0, 0(ra)"
row_template Call = codes "jal ra, A"
row_template Tail = codes "jal x0, A"
row_template DotText = codes ".code"
row_template DotData = codes ".shared"
row_template DotBss = codes ".shared"
row_template DotSpace = codes ".zero A"
row_template DotSkip = codes ".zero A"

-- how many operands it takes
abbrev pub operand_count : Row → ℕ
operand_count Nop = 0
operand_count Ret = 0
operand_count DotText = 0
operand_count DotData = 0
operand_count DotBss = 0
operand_count J = 1
operand_count Jr = 1
operand_count Call = 1
operand_count Tail = 1
operand_count DotSpace = 1
operand_count DotSkip = 1
operand_count Bgt = 3
operand_count Ble = 3
operand_count Bgtu = 3
operand_count Bleu = 3
operand_count _ = 2

-- directives that say nothing here
abbrev pub silent_name : Silent → List ℕ
silent_name DotGlobl = codes ".globl"
silent_name DotGlobal = codes ".global"
silent_name DotType = codes ".type"
silent_name DotSize = codes ".size"
silent_name DotOption = codes ".option"
silent_name DotFile = codes ".file"
silent_name DotAttribute = codes ".attribute"

abbrev pub word_name : Word → List ℕ
word_name (words.Row row) = row_name row
word_name (words.Silent silent) = silent_name silent
word_name words.Li = codes "li"
word_name words.DotEqu = codes ".equ"
word_name words.DotSet = codes ".set"
word_name words.DotAlign = codes ".align"
word_name words.DotP2align = codes ".p2align"
word_name words.DotBalign = codes ".balign"
word_name words.DotSection = codes ".section"

abbrev pub course_words : List Word
course_words =
    words.Row Nop ∷ words.Row Mv ∷ words.Row La ∷ words.Row Not ∷ words.Row Neg ∷ words.Row Seqz ∷ words.Row Snez ∷
    words.Row Sltz ∷ words.Row Sgtz ∷ words.Row Beqz ∷ words.Row Bnez ∷ words.Row Blez ∷ words.Row Bgez ∷
    words.Row Bltz ∷ words.Row Bgtz ∷ words.Row Bgt ∷ words.Row Ble ∷ words.Row Bgtu ∷ words.Row Bleu ∷ words.Row J ∷
    words.Row Jr ∷ words.Row Ret ∷ words.Row Call ∷ words.Row Tail ∷ words.Row DotText ∷ words.Row DotData ∷
    words.Row DotBss ∷ words.Row DotSpace ∷ words.Row DotSkip ∷ words.Silent DotGlobl ∷ words.Silent DotGlobal ∷
    words.Silent DotType ∷ words.Silent DotSize ∷ words.Silent DotOption ∷ words.Silent DotFile ∷
    words.Silent DotAttribute ∷ words.Li ∷ words.DotEqu ∷ words.DotSet ∷ words.DotAlign ∷ words.DotP2align ∷
    words.DotBalign ∷ words.DotSection ∷ []

-- the word of course texts that is written as the word
unfoldable pub course_word : List ℕ → Option Word
course_word word = find (λ w. bytes_eq (word_name w) word) course_words
