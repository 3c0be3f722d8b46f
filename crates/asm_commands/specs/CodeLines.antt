-- The lines of `ultra dis`: the words of code, and the instructions that they spell.
use Rattle.std.specs.Prelude.{◌≡◌, ◌≢◌, ◌≤◌, ◌<◌, ◌+◌, ◌-◌, ◌*◌, ◌^◌, ◌==◌, ℕ, zero, suc, Bool, true, false, List, []}
use Rattle.std.specs.Prelude.{◌∷◌, ◌++◌, bit_and, codes, if◌then◌else◌}
use Rattle.std.specs.Option.{option_map_or}
use Rattle.command_io.specs.Digits.{hex_of_word}
use Rattle.flat_machine.specs.rv_table.Rows.{insn_of}
use Rattle.asm_lines.specs.Written.{text_of}
use Rattle.flat_machine.specs.Memory.{number_at}

-- the word of code with this index, as a processor fetches it
abbrev pub word_at : (code : List ℕ) → (index : ℕ) → ℕ
word_at code index = number_at code (4 * index) 4

-- the text of the instruction that a word spells, or `-`
abbrev pub text_of_word : ℕ → List ℕ
text_of_word word = option_map_or text_of (insn_of word) (codes "-")

-- Whether the word is `lr.w` or `sc.w`, which are no instructions of this machine. Source: the RISC-V Unprivileged ISA
-- manual, "Zalrsc" (masks, matches).
abbrev pub is_load_reserved : ℕ → Bool
is_load_reserved word = bit_and word 0xF9F0707F == 0x1000202F

abbrev pub is_store_conditional : ℕ → Bool
is_store_conditional word = bit_and word 0xF800707F == 0x1800202F

-- the comment on a word: which of these two it is
abbrev pub comment_on : ℕ → List ℕ
comment_on word = if is_load_reserved word then codes " # lr.w"
    else (if is_store_conditional word then codes " # sc.w" else [])

-- the comment, if comments are wanted
abbrev pub comment_if : (wanted : Bool) → ℕ → List ℕ
comment_if true word = comment_on word
comment_if false word = []

-- `AAAAAAAA WWWWWWWW text`, and perhaps a comment
abbrev pub line_of : (comments : Bool) → (address word : ℕ) → List ℕ
line_of comments address word = hex_of_word address ++ codes " " ++ hex_of_word word ++ codes " " ++ text_of_word word
    ++ comment_if comments word ++ 10 ∷ []

-- the lines of this many words of code, the first of which is at 0x00010000
abbrev pub lines_of : (comments : Bool) → (code : List ℕ) → (count : ℕ) → List ℕ
lines_of comments code zero = []
lines_of comments code (suc index) =
    lines_of comments code index ++ line_of comments (0x0001_0000 + 4 * index) (word_at code index)

-- The text has a line for each word of code up to the last that is not zero.
pub record IsListing (comments : Bool) (code text : List ℕ) : Type 0 where
  pub count : ℕ
  pub within : count ≤ 2 ^ 14
  pub after : (index : ℕ) → count ≤ index → index < 2 ^ 14 → word_at code index ≡ 0
  pub last : 0 < count → word_at code (count - 1) ≢ 0
  pub lines : text ≡ lines_of comments code count
