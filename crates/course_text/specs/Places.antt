-- How many bytes each section has, for alignments. They are counted modulo 2^32, which every alignment divides.
use Rattle.std.specs.Prelude.{ℕ, ◌+◌, ◌%◌, ◌^◌, List, fold, Option, Some, None, Result, Ok, Err}
use Rattle.asm_lines.specs.declared.statement.Section.{Section}
use Rattle.asm_lines.specs.declared.statement.Section.TheVariants.{Code, Local, Shared}
use Rattle.asm_lines.specs.Statements.{Stmt, section, Said, line_of}
use Rattle.asm_lines.specs.Text.{parts_at}
use Rattle.assembler.specs.Meaning.{size_of}
use Rattle.course_text.specs.declared.place.Place.{Place}

-- the place of the first line
abbrev pub start : Place
start = record { section = Code; code = 0; local = 0; shared = 0 }

-- the bytes of the section of the next line
abbrev pub count : Place → ℕ
count at = by_section at.section
  where
    by_section : Section → ℕ
    by_section Code = at.code
    by_section Local = at.local
    by_section Shared = at.shared

-- with this many more bytes in a section
abbrev pub grown : Section → (bytes : ℕ) → Place → Place
grown Code bytes at = record at { code = (at.code + bytes) % 2 ^ 32 }
grown Local bytes at = record at { local = (at.local + bytes) % 2 ^ 32 }
grown Shared bytes at = record at { shared = (at.shared + bytes) % 2 ^ 32 }

abbrev pub after_statement : Place → Option Stmt → Place
after_statement at None = at
after_statement at (Some (section s)) = record at { section = s }
after_statement at (Some s) = grown at.section (size_of s) at

-- the place after a plain line; one that cannot be read has no bytes
abbrev pub after_read : {E : Type 0} → Place → Result Said E → Place
after_read at (Ok said) = after_statement at said.statement
after_read at (Err e) = at

unfoldable pub after : Place → (line : List ℕ) → Place
after at line = after_read at (line_of line)

-- the place after the plain lines of a text
abbrev pub after_text : Place → (text : List ℕ) → Place
after_text at text = fold after at (parts_at 10 text)
