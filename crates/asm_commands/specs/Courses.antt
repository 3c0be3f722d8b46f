-- What `ultra asm --course` and `ultra check --course` do: what `asm` and `check` do with the plain text of a course
-- text, with faults on the lines of the course text.
use Rattle.std.specs.Prelude.{◌≡◌, ◌≢◌, ◌⊎◌, ◌==◌, ℕ, ◌-◌, List, [], ◌∷◌, map, Option, slice_index, slice_index_or}
use Rattle.std.specs.Prelude.{if◌then◌else◌}
use Rattle.std.specs.Str.{IsUtf8, bytes_eq}
use Rattle.elf_image.specs.declared.error.ImageError.TheVariants as of_image
use Rattle.elf_image.specs.declared.layout.Layout.{Layout}
use Rattle.elf_image.specs.Spellings.{spelling}
use Rattle.asm_lines.specs.Text.{parts_at}
use Rattle.assembler.specs.declared.fault.AsmError.{AsmError}
use Rattle.assembler.specs.declared.fault.AsmFault.{AsmFault}
use Rattle.assembler.specs.declared.fault.AsmFault.TheVariants as line_fault
use Rattle.assembler.specs.Meaning.{IsMeaning, IsPresent}
use Rattle.line_faults.specs.word_faults.declared.hint.Hint.{Hint}
use Rattle.line_faults.specs.word_faults.declared.hint.Hint.TheVariants.{StandsOn}
use Rattle.course_text.specs.Parts.{parts_of, first_column}
use Rattle.course_text.specs.Course.{plain_text, origin, origins}
use Rattle.command_io.specs.declared.fault.Fault.{Fault}
use Rattle.command_io.specs.declared.fault.Fault.TheVariants as fault
use Rattle.command_io.specs.Faults.{fault_of_text}
use Rattle.command_io.specs.Files.{IsWhole}
use Rattle.command_io.specs.Printing.{PrintsPrefix}
use Rattle.fault_lists.specs.declared.text_fault.TextFault.{TextFault}
use Rattle.asm_commands.specs.Checking.{status_of}
use Rattle.fault_lists.specs.Faults.{AreTheFaults}
use Rattle.fault_lists.specs.Lines.{IsList}

-- ---- asm

-- The bytes are the image of what the file's course text means, in the image's one spelling.
pub record IsCourseAssembly (known : Option (List ℕ)) (bytes : List ℕ) : Type 0 where
  pub text : List ℕ
  pub whole : IsWhole known text
  pub layout : Layout
  pub meant : IsMeaning (plain_text text) layout
  pub spelled : bytes ≡ spelling layout

-- The plain text is not UTF-8, or a line of it has the fault that is named on the course text's line.
abbrev pub IsCourseRefusal : (text : List ℕ) → Fault → Type 0
IsCourseRefusal text (fault.Text e) = (plain : AsmError) × IsPresent (plain_text text) plain
    × (plain.fault ≢ line_fault.Memory)
    × (e ≡ record { line = origin text plain.line; fault = plain.fault })
IsCourseRefusal text fault.NotUtf8 = ¬ (IsUtf8 (plain_text text))
IsCourseRefusal text fault.Memory = Unit {0}
IsCourseRefusal text other = ⊥

-- No image is written, or not all of it, because of this fault. A failed read and out of memory say nothing.
abbrev pub CourseAssemblyFails : (known old new : Option (List ℕ)) → Fault → Type 0
CourseAssemblyFails known old new (fault.Text e) =
    (text : List ℕ) × IsWhole known text × IsCourseRefusal text (fault.Text e)
CourseAssemblyFails known old new fault.NotUtf8 =
    (text : List ℕ) × IsWhole known text × IsCourseRefusal text fault.NotUtf8
CourseAssemblyFails known old new fault.Link = Unit {0}
CourseAssemblyFails known old new (fault.Image e) =
    (e ≡ of_image.Link) × PrintsPrefix (IsCourseAssembly known) old new
CourseAssemblyFails known old new fault.Memory = Unit {0}
CourseAssemblyFails known old new other = ⊥

-- ---- check

-- a listed fault without the places of its texts in memory
pub record FaultView : Type 0 where
  pub line : ℕ
  pub column : ℕ
  pub word : List ℕ
  pub fault : AsmFault
  pub hint : Hint

abbrev pub view_of : TextFault → FaultView
view_of t = record { line = t.line; column = t.column; word = t.word.now; fault = t.fault; hint = t.hint }

-- the line with this number, counted from 1
abbrev pub line_at : (lines : List (List ℕ)) → (number : ℕ) → List ℕ
line_at lines number = slice_index_or lines (number - 1) []

-- the lines of a course text and of its plain text, and the course line of each plain line, counted from 1
pub record Lines : Type 0 where
  pub course : List (List ℕ)
  pub plain : List (List ℕ)
  pub origins : List ℕ

abbrev pub lines_of : (text : List ℕ) → Lines
lines_of text = record {
  course = parts_at 10 text;
  plain = parts_at 10 (plain_text text);
  origins = origins text;
}

-- the course line of a plain line
abbrev pub origin_in : (origins : List ℕ) → (line : ℕ) → ℕ
origin_in origins line = slice_index origins (line - 1)

-- the advice for a plain line, with the course line of the plain line that it names
abbrev pub course_hint : (origins : List ℕ) → Hint → Hint
course_hint origins (StandsOn line) = StandsOn (origin_in origins line)
course_hint origins hint = hint

-- a fault of a plain line at this word, as that of a line of the course text
abbrev pub at_word : (origins : List ℕ) → (column : ℕ) → (word : List ℕ) → TextFault → FaultView
at_word origins column word t = record {
  line = origin_in origins t.line;
  column = column;
  word = word;
  fault = t.fault;
  hint = course_hint origins t.hint;
}

-- The word of an unchanged line stays; that of a line that was rewritten is its first word.
abbrev pub course_fault : Lines → TextFault → FaultView
course_fault ls t =
    let line = line_at ls.course (origin_in ls.origins t.line) in
    if bytes_eq (line_at ls.plain t.line) line then at_word ls.origins t.column t.word.now t
    else at_word ls.origins (first_column line) (parts_of line).word t

-- the faults of plain lines, the first of each line of the course text, after a fault on the line `last`
abbrev pub course_faults : Lines → (last : ℕ) → List TextFault → List FaultView
course_faults ls last [] = []
course_faults ls last (t ∷ ts) =
    if origin_in ls.origins t.line == last then course_faults ls last ts
    else course_fault ls t ∷ course_faults ls (origin_in ls.origins t.line) ts

-- The printed bytes list the faults of a course text, and the status says whether there is one.
pub record IsCourseCheckOf (text : List ℕ) (status : ℕ) (printed : List ℕ) : Type 0 where
  pub faults : List TextFault
  pub all : AreTheFaults (plain_text text) faults
  pub listed : List TextFault
  pub views : map view_of listed ≡ course_faults (lines_of text) 0 faults
  pub list : IsList listed printed
  pub fact : status ≡ status_of listed

-- The same, of the text that a file has.
pub record IsCourseCheck (known : Option (List ℕ)) (status : ℕ) (printed : List ℕ) : Type 0 where
  pub text : List ℕ
  pub whole : IsWhole known text
  pub check : IsCourseCheckOf text status printed

-- The printed bytes list the faults of the course text.
pub record IsSomeCourseCheckOf (text printed : List ℕ) : Type 0 where
  pub status : ℕ
  pub check : IsCourseCheckOf text status printed

-- The faults of a course text are not printed, or not all of them, because the list cannot be written, or the plain
-- text is not UTF-8. Out of memory says nothing.
abbrev pub CourseCheckOfTextFails : (text : List ℕ) → (old new : Option (List ℕ)) → Fault → Type 0
CourseCheckOfTextFails text old new fault.Link = PrintsPrefix (IsSomeCourseCheckOf text) old new
CourseCheckOfTextFails text old new fault.NotUtf8 = ¬ (IsUtf8 (plain_text text))
CourseCheckOfTextFails text old new fault.Memory = Unit {0}
CourseCheckOfTextFails text old new other = ⊥

-- The same, of a file, which may also fail to be read.
abbrev pub CourseCheckFails : (known old new : Option (List ℕ)) → Fault → Type 0
CourseCheckFails known old new fault.Link = (new ≡ old)
    ⊎ ((text : List ℕ) × IsWhole known text × CourseCheckOfTextFails text old new fault.Link)
CourseCheckFails known old new fault.NotUtf8 =
    (text : List ℕ) × IsWhole known text × CourseCheckOfTextFails text old new fault.NotUtf8
CourseCheckFails known old new fault.Memory = Unit {0}
CourseCheckFails known old new other = ⊥

-- why a course text is refused for this fault of its plain text
abbrev pub fault_on : (origins : List ℕ) → AsmError → Fault
fault_on origins e = fault_of_text (record { line = origin_in origins e.line; fault = e.fault })
