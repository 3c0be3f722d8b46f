-- What `ultra page` prints.
use Rattle.std.specs.Prelude.{◌≡◌, ℕ, ◌==◌, ◌||◌, Bool, false, List, [], ◌++◌, codes, length, if◌then◌else◌}
use Rattle.std.specs.Char.{encode_utf8}
use Rattle.std.specs.Fmt.{decimal}
use Rattle.std.specs.List.{flat_map}
use Rattle.std.specs.Str.{chars}
use Rattle.flat_machine.specs.declared.config.Config.{Config}
use Rattle.elf_image.specs.Images.{ImageContents}
use Rattle.symbol_table.specs.Rows.{SymbolRow, row_of}
use Rattle.symbol_table.specs.declared.row.Symbol.{Symbol}
use Rattle.steps.specs.declared.step.Step.{Step}
use Rattle.machine_steps.specs.Machines.{MachineLists, machine_of}
use Rattle.machine_steps.specs.Runs.{IsOpening, IsRun}
use Rattle.command_io.specs.Digits.{hex_of_word}
use Rattle.trace_lines.specs.StoryLines.{story_of}
use Rattle.trace_commands.specs.Explained.{IsDrainedWithSteps}
use Rattle.trace_commands.specs.Orders.{AreOrderLines}
use Rattle.trace_commands.specs.SizeLines.{size_line}
use Rattle.trace_commands.specs.Stories.{story_steps_of}
use Rattle.trace_commands.specs.TraceReports.{ReportRelation}
use Rattle.page_command.specs.Changes.{Change, changes_text}
use Rattle.page_command.specs.declared.head.Counts.{Counts}
use Rattle.page_command.specs.declared.window.Window.{Window}
use Rattle.page_command.specs.Openings.{opening_changes}
use Rattle.page_command.specs.Steps.{changes_from}
use Rattle.page_command.specs.Windows.{entry_choice, steps_before, steps_within, story_choice}

-- ---- the data

-- `words W steps N from F of A symbols S`
unfoldable pub counts_line : Counts → List ℕ
counts_line n = codes "words " ++ decimal n.words ++ codes " steps " ++ decimal n.steps ++ codes " from " ++ decimal n.before
    ++ codes " of " ++ decimal n.all ++ codes " symbols " ++ decimal n.symbols ++ codes "\n"

-- `ultra page 1`, the line of the size, and that of the counts
unfoldable pub head_lines : Config → Counts → List ℕ
head_lines c n = codes "ultra page 1\n" ++ size_line c ++ counts_line n

-- `ADDRESS SIZE NAME`
unfoldable pub symbol_line : SymbolRow → List ℕ
symbol_line row = hex_of_word row.address ++ codes " " ++ hex_of_word row.size ++ codes " " ++ row.name ++ codes "\n"

abbrev pub line_of : Symbol → List ℕ
line_of symbol = symbol_line (row_of symbol)

-- a line for each symbol
unfoldable pub symbol_lines : List SymbolRow → List ℕ
symbol_lines rows = flat_map symbol_line rows

-- changes on a line of their own
abbrev pub changes_line : List Change → List ℕ
changes_line changes = changes_text changes ++ codes "\n"

-- a line of changes for each step
unfoldable pub change_lines : List (List Change) → List ℕ
change_lines all = flat_map changes_line all

-- the counts of these steps and symbols
abbrev pub counts_of : Config → Window → List SymbolRow → List Step → Counts
counts_of c w rows all = record {
  words = c.shared_words;
  steps = length (steps_within w all);
  before = length (steps_before w all);
  all = length all;
  symbols = length rows;
}

-- the view of a machine, and the changes of the steps that it takes next
unfoldable pub view_lines : MachineLists → List Step → List ℕ
view_lines m steps = changes_line (opening_changes m)
    ++ change_lines (changes_from m.config m.code (machine_of m (λ p. [])) steps)

-- the lines of a window's steps in the story of all steps
abbrev pub window_story : Window → (opening : MachineLists) → List Step → List ℕ
window_story w opening all = story_of (story_choice w) (story_steps_of false opening all)

-- The data of a page of a window: the symbols; the view of the machine after the steps before the window, and the
-- changes of each step in it; the story of these steps; and their entries in the serial order.
abbrev pub data_text : Config → Window → List SymbolRow → (opening first : MachineLists) → List Step →
    (order : List ℕ) → List ℕ
data_text c w rows opening first all order =
    head_lines c (counts_of c w rows all) ++ symbol_lines rows
    ++ view_lines first (steps_within w all) ++ window_story w opening all ++ order

-- This is the data of a window of the steps of a trace and those of a drain, with the lines of their entries in the
-- serial order that explains all these steps. The exit status says whether a fault has stopped a processor.
pub record AreDataOf (w : Window) (rows : List SymbolRow) (c : Config) (image : ImageContents) (steps : List Step)
    (text : List ℕ) (status : ℕ) : Type 0 where
  pub all : List Step
  pub home : IsDrainedWithSteps c image steps all
  pub opening : MachineLists
  pub opens : IsOpening c image opening
  pub first : MachineLists
  pub reached : IsRun opening (steps_before w all) first
  pub order : List ℕ
  pub ordered : AreOrderLines (entry_choice w opening all) c image steps order status
  pub are : text ≡ data_text c w rows opening first all order

-- ---- the page

-- whether a character is escaped: a per cent sign, or the sign that begins a tag
abbrev pub is_special : ℕ → Bool
is_special c = (c == 37) || (c == 60)

-- `%25` for a per cent sign, `%3c` for the sign that begins a tag, and any other character as it is
abbrev pub escaped_char : ℕ → List ℕ
escaped_char c = if c == 37 then codes "%25" else if c == 60 then codes "%3c" else encode_utf8 c

unfoldable pub escaped : List ℕ → List ℕ
escaped text = flat_map escaped_char (chars text)

-- the page around data: what stands before it, the data, in which no tag begins, and what stands after it
pub record Frame : Type 0 where
  pub front : List ℕ
  pub back : List ℕ

abbrev pub frame_of : (front back : List ℕ) → Frame
frame_of front back = record { front = front; back = back }

-- This is the page of a window of the steps.
pub record IsPageOf (frame : Frame) (w : Window) (rows : List SymbolRow) (c : Config) (image : ImageContents)
    (steps : List Step) (text : List ℕ) (status : ℕ) : Type 0 where
  pub shown : List ℕ
  pub of : AreDataOf w rows c image steps shown status
  pub page : text ≡ frame.front ++ escaped shown ++ frame.back

-- what `ultra page` prints for steps
abbrev pub prints_page : Frame → Window → List SymbolRow → ReportRelation
prints_page frame w rows c image steps text status = IsPageOf frame w rows c image steps text status
