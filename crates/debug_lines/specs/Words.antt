-- The first words of commands.
use Rattle.std.specs.Prelude.{ℕ, List, [], ◌∷◌, Option, codes, find}
use Rattle.std.specs.Str.{bytes_eq}
use Rattle.debug_lines.specs.declared.word.Word.{Word}
use Rattle.debug_lines.specs.declared.word.Word.TheVariants.{State, Regs, Reg, Set, Mem, Write, Break, Clear, Step}
use Rattle.debug_lines.specs.declared.word.Word.TheVariants.{Cont, Quit}

-- the spelling of a word
abbrev pub name_of : Word → List ℕ
name_of State = codes "state"
name_of Regs = codes "regs"
name_of Reg = codes "reg"
name_of Set = codes "set"
name_of Mem = codes "mem"
name_of Write = codes "write"
name_of Break = codes "break"
name_of Clear = codes "clear"
name_of Step = codes "step"
name_of Cont = codes "cont"
name_of Quit = codes "quit"

abbrev pub words : List Word
words = State ∷ Regs ∷ Reg ∷ Set ∷ Mem ∷ Write ∷ Break ∷ Clear ∷ Step ∷ Cont ∷ Quit ∷ []

-- the word with this spelling, if there is one
unfoldable pub word_of : List ℕ → Option Word
word_of bytes = find (λ w. bytes_eq (name_of w) bytes) words
