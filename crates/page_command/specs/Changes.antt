-- Changes of a view, and their texts.
use Rattle.std.specs.Prelude.{ℕ, Bool, false, ◌==◌, ◌&&◌, List, [], ◌∷◌, ◌++◌, Option, Some, None, codes, map}
use Rattle.std.specs.Prelude.{if◌then◌else◌}
use Rattle.std.specs.Fmt.{decimal}
use Rattle.std.specs.List.{flat_map}
use Rattle.command_io.specs.Digits.{hex_of_word, status_text}
use Rattle.flat_machine.specs.declared.event.Status.{Status}
use Rattle.flat_machine.specs.declared.event.Status.TheVariants.{Running, Halted, Faulted}
use Rattle.messages.specs.declared.message.Request.{Request}
use Rattle.messages.specs.declared.message.Record.{Record}
use Rattle.messages.specs.declared.message.Reply.{Reply}
use Rattle.trace_lines.specs.Functions.{function_text}
use Rattle.page_command.specs.Views.{Content, Core, Messages, Part, Place, Register, Stands, Value, View, Word}

-- A part, and what it holds from now on.
pub record Change : Type 0 where
  pub part : Part
  pub content : Content

-- ---- changes put on a view

abbrev pub is_same : Part → Part → Bool
is_same (Core p) (Core q) = p == q
is_same (Register p r) (Register q s) = (p == q) && (r == s)
is_same (Place d w) (Place e v) = (d == e) && (w == v)
is_same (Word i) (Word j) = i == j
is_same _ _ = false

-- the view with one change
abbrev pub with_change : View → Change → View
with_change view change part = if is_same part change.part then change.content else view part

-- the view with changes, one after another
unfoldable pub with_changes : View → List Change → View
with_changes view [] = view
with_changes view (change ∷ changes) = with_changes (with_change view change) changes

-- the change that makes a part hold what it holds in a view
abbrev pub change_to : View → Part → Change
change_to view part = record { part = part; content = view part }

-- those of these parts
abbrev pub changes_to : View → List Part → List Change
changes_to view parts = map (change_to view) parts

-- ---- texts

-- `P`, `PxR`, `D.W` or `wI`
abbrev pub part_text : Part → List ℕ
part_text (Core p) = decimal p
part_text (Register p r) = decimal p ++ codes "x" ++ decimal r
part_text (Place d w) = decimal d ++ codes "." ++ decimal w
part_text (Word i) = codes "w" ++ decimal i

-- `?FUNCTION@WORD:LEADER`
abbrev pub request_item : Request → List ℕ
request_item x =
    codes "?" ++ function_text x.phi ++ codes "@" ++ decimal x.word ++ codes ":" ++ decimal x.leader

-- `&SECOND,LEADER:FUNCTION`
abbrev pub record_item : Record → List ℕ
record_item e =
    codes "&" ++ decimal e.second ++ codes "," ++ decimal e.leader ++ codes ":" ++ function_text e.phi

-- `!VALUE:LEADER`
abbrev pub reply_item : Reply → List ℕ
reply_item y = codes "!" ++ hex_of_word y.value ++ codes ":" ++ decimal y.leader

-- ` WORD`
abbrev pub word_suffix : Option ℕ → List ℕ
word_suffix None = []
word_suffix (Some word) = codes " " ++ decimal word

-- ` STATUS`, and nothing for a processor that runs
abbrev pub status_suffix : Status → List ℕ
status_suffix Running = []
status_suffix (Halted byte) = codes " " ++ status_text (Halted byte)
status_suffix (Faulted fault) = codes " " ++ status_text (Faulted fault)

-- `PC`, a status other than `run`, and the word of an open reference; the messages of a place, requests first, and then
-- records; a value
abbrev pub content_text : Content → List ℕ
content_text (Stands pc status word) = hex_of_word pc ++ status_suffix status ++ word_suffix word
content_text (Messages requests records replies) =
    flat_map request_item requests ++ flat_map record_item records ++ flat_map reply_item replies
content_text (Value value) = hex_of_word value

-- the part and what it holds, ended by a tab
abbrev pub change_text : Change → List ℕ
change_text change = part_text change.part ++ codes "=" ++ content_text change.content ++ codes "\t"

-- changes, one after another
unfoldable pub changes_text : List Change → List ℕ
changes_text changes = flat_map change_text changes
