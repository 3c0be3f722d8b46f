-- What a picture says in each cell: of a processor, of an output of a switch, or of a module.
use Rattle.std.specs.Prelude.{ℕ, zero, suc, ◌+◌, ◌%◌, ◌^◌, ◌==◌, ◌&&◌, min, Bool, not, List, [], ◌∷◌, ◌++◌, map, codes}
use Rattle.std.specs.Prelude.{Option, Some, None, nat_le, slice_get, if◌then◌else◌}
use Rattle.std.specs.Fmt.{decimal}
use Rattle.std.specs.List.{fold, list_any}
use Rattle.std.specs.Option.{option_and_then}
use Rattle.messages.specs.declared.message.Record.{Record}
use Rattle.omega_wires.specs.Wires.{rotated_right}
use Rattle.machine_views.specs.Names.{Naming}
use Rattle.machine_views.specs.Places.{each_below, place_at}
use Rattle.machine_views.specs.Texts.{processor_text, record_text, reply_text, request_text, word_text}
use Rattle.machine_views.specs.declared.cell.Cell.{Cell}
use Rattle.machine_views.specs.declared.cell.Kind.TheVariants as kind
use Rattle.machine_views.specs.declared.cell.Line.{Line}
use Rattle.machine_views.specs.declared.cell.Cells.{Cells}
use Rattle.machine_views.specs.declared.view.MachineView.{MachineView}
use Rattle.machine_views.specs.declared.view.PlaceView.{PlaceView}
use Rattle.machine_views.specs.declared.view.ProcessorView.{ProcessorView}
use Rattle.machine_views.specs.declared.view.ReplyView.{ReplyView}
use Rattle.machine_views.specs.declared.view.RequestView.{RequestView}
use Rattle.machine_views.specs.declared.view.SharedWord.{SharedWord}

-- ---- lines

abbrev pub request_line : Naming → RequestView → Line
request_line n x = record { kind = kind.Request; text = request_text n x }

abbrev pub record_line : Record → Line
record_line e = record { kind = kind.Record; text = record_text e }

abbrev pub reply_line : ReplyView → Line
reply_line y = record { kind = kind.Reply; text = reply_text y }

abbrev pub word_line : Naming → SharedWord → Line
word_line n w = record { kind = kind.Word; text = word_text n w }

-- the requests of a place, the first to go on first
abbrev pub request_lines : Naming → Option PlaceView → List Line
request_lines n None = []
request_lines n (Some place) = map (request_line n) place.requests

-- the wait buffer before a place, the oldest record first
abbrev pub record_lines : Option PlaceView → List Line
record_lines None = []
record_lines (Some place) = map record_line place.records

-- the replies of a place, the first to go on first
abbrev pub reply_lines : Option PlaceView → List Line
reply_lines None = []
reply_lines (Some place) = map reply_line place.replies

-- ---- the words of a module

-- whether one of these words has this number
abbrev pub has_number : List SharedWord → (number : ℕ) → Bool
has_number words n = list_any (λ (w : SharedWord). w.number == n) words

-- whether a word is none of these
abbrev pub is_new : List SharedWord → SharedWord → Bool
is_new words w = not (has_number words w.number)

-- these words, and one more if this module has it and it is new
abbrev pub with_word : (wires number : ℕ) → List SharedWord → Option SharedWord → List SharedWord
with_word wires m words None = words
with_word wires m words (Some w) =
    if (w.number % wires == m) && is_new words w then words ++ w ∷ [] else words

-- the words of a module to which processors have open references, each once, in the order of the processors
abbrev pub words_of : (wires number : ℕ) → List ProcessorView → List SharedWord
words_of wires m processors =
    fold (λ words (p : ProcessorView). with_word wires m words p.word) [] processors

-- ---- cells

-- the number of stages that are drawn: no machine has more
abbrev pub stages_of : MachineView → ℕ
stages_of v = min v.config.k 6

-- the number of wires, of processors and of modules
abbrev pub wires_of : MachineView → ℕ
wires_of v = 2 ^ stages_of v

-- the title of a processor's cell
abbrev pub processor_title : Naming → (processor : ℕ) → Option ProcessorView → List ℕ
processor_title n p None = decimal p
processor_title n p (Some v) = processor_text n p v

-- a processor, with the request in its slot
abbrev pub processor_cell : Naming → MachineView → (processor : ℕ) → Cell
processor_cell n v p = record {
  title = processor_title n p (slice_get v.processors p);
  lines = request_lines n (place_at v.places 0 p);
}

-- the replies at an input of a switch, and the wait buffer and the requests of the output beside it
abbrev pub switch_lines : Naming → MachineView → (stage wire : ℕ) → List Line
switch_lines n v s w =
    reply_lines (place_at v.places s (rotated_right (stages_of v) w)) ++ record_lines (place_at v.places (suc s) w)
    ++ request_lines n (place_at v.places (suc s) w)

-- the output of a switch to a wire, and the input beside it
abbrev pub switch_cell : Naming → MachineView → (stage wire : ℕ) → Cell
switch_cell n v s w = record { title = codes "wire " ++ decimal w; lines = switch_lines n v s w }

-- the words of a module, and the reply in its slot
abbrev pub module_lines : Naming → MachineView → (number : ℕ) → List Line
module_lines n v m =
    map (word_line n) (words_of (wires_of v) m v.processors) ++ reply_lines (place_at v.places (stages_of v) m)

abbrev pub module_cell : Naming → MachineView → (number : ℕ) → Cell
module_cell n v m = record { title = codes "module " ++ decimal m; lines = module_lines n v m }

-- the cell of a column and a row: column 0 has the processors, the next ones have the stages, the last has the modules
abbrev pub cell_of : Naming → MachineView → (column row : ℕ) → Cell
cell_of n v zero row = processor_cell n v row
cell_of n v (suc s) row = if nat_le (suc s) (stages_of v) then switch_cell n v s row else module_cell n v row

-- ---- the cells

-- the cells of a column, from the top
abbrev pub column_of : Naming → MachineView → (column : ℕ) → List Cell
column_of n v column = each_below (cell_of n v column) (wires_of v)

-- all cells, column by column, with these names
unfoldable pub cells_of : Naming → MachineView → Cells
cells_of n v = record { stages = stages_of v; columns = each_below (column_of n v) (stages_of v + 2) }

-- the cell of a column and a row, if there is such a cell
abbrev pub cell_at : Cells → (column row : ℕ) → Option Cell
cell_at cells column row = option_and_then (λ (rows : List Cell). slice_get rows row) (slice_get cells.columns column)
