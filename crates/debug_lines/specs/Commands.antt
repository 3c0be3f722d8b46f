-- The command of a line, as a function. `Spelling.antt` says the same as a relation.
use Rattle.std.specs.Prelude.{ℕ, List, length, Option, Some, None, nat_le, ◌&&◌, if◌then◌else◌, unwrap_or}
use Rattle.std.specs.Prelude.{option_and_then}
use Rattle.std.specs.Option.{option_map}
use Rattle.debug_lines.specs.declared.word.Word.{Word}
use Rattle.debug_lines.specs.declared.word.Word.TheVariants as word
use Rattle.debug_lines.specs.declared.command.Command.{Command}
use Rattle.debug_lines.specs.declared.command.Command.TheVariants.{State, Registers, Register, Set, Memory, Write}
use Rattle.debug_lines.specs.declared.command.Command.TheVariants.{Break, Clear, Step, Continue, Quit, Malformed}
use Rattle.debug_lines.specs.Numbers.{number_of, operand_of, cut_at_space, bytes_of}
use Rattle.debug_lines.specs.Words.{word_of}

-- ---- operands

unfoldable pub register_of : List ℕ → Option Command
register_of rest = option_and_then (λ p. option_map (λ r. Register p.0 r) (number_of p.1)) (operand_of rest)

unfoldable pub set_of : List ℕ → Option Command
set_of rest =
    option_and_then (λ p. option_and_then (λ r. option_map (λ v. Set p.0 r.0 v) (number_of r.1)) (operand_of p.1))
    (operand_of rest)

-- the command that shows this many bytes, if they are 1 to 512
abbrev pub shown : (p address length : ℕ) → Option Command
shown p address length = if nat_le 1 length && nat_le length 512 then Some (Memory p address length) else None

unfoldable pub memory_of : List ℕ → Option Command
memory_of rest =
    option_and_then (λ p. option_and_then (λ a. option_and_then (λ n. shown p.0 a.0 n) (number_of a.1))
    (operand_of p.1)) (operand_of rest)

unfoldable pub write_of : List ℕ → Option Command
write_of rest =
    option_and_then (λ p. option_and_then (λ a. option_map (λ bytes. Write p.0 a.0 bytes) (bytes_of a.1))
    (operand_of p.1)) (operand_of rest)

-- ---- lines

-- the command of a word and what follows its space, if there is one
abbrev pub with_operands : Word → List ℕ → Option Command
with_operands word.State rest = option_map State (number_of rest)
with_operands word.Regs rest = option_map Registers (number_of rest)
with_operands word.Reg rest = register_of rest
with_operands word.Set rest = set_of rest
with_operands word.Mem rest = memory_of rest
with_operands word.Write rest = write_of rest
with_operands word.Break rest = option_map Break (number_of rest)
with_operands word.Clear rest = option_map Clear (number_of rest)
with_operands word.Step rest = option_map Step (number_of rest)
with_operands word.Cont rest = None
with_operands word.Quit rest = None

-- the command of a word alone, if there is one
abbrev pub alone_of : Word → Option Command
alone_of word.State = None
alone_of word.Regs = None
alone_of word.Reg = None
alone_of word.Set = None
alone_of word.Mem = None
alone_of word.Write = None
alone_of word.Break = None
alone_of word.Clear = None
alone_of word.Step = None
alone_of word.Cont = Some Continue
alone_of word.Quit = Some Quit

abbrev pub of_parts : Word → Option (List ℕ) → Option Command
of_parts w None = alone_of w
of_parts w (Some rest) = with_operands w rest

-- the command of a line, if it is one
unfoldable pub listed_of : List ℕ → Option Command
listed_of line = option_and_then (λ w. of_parts w (cut_at_space line).1) (word_of (cut_at_space line).0)

-- the command of a line: Malformed if it is none, or has over 1,024 bytes
unfoldable pub command_of : List ℕ → Command
command_of line = if nat_le (length line) 1024 then unwrap_or (listed_of line) Malformed else Malformed
