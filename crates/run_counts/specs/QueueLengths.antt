-- The lengths of queues at the ends of rounds, as lines.
use Rattle.std.specs.Prelude.{ℕ, ◌+◌, ◌==◌, List, [], ◌∷◌, ◌++◌, codes, flat_map, if◌then◌else◌}
use Rattle.std.specs.Fmt.{decimal}
use Rattle.run_counts.specs.Lines.{first_lines, line_feed}
use Rattle.run_counts.specs.declared.longest.Held.{Held}
use Rattle.run_counts.specs.declared.longest.Held.TheVariants.{Requests, Records, Replies}
use Rattle.run_counts.specs.declared.queue_lengths.LengthsFormat.{LengthsFormat}
use Rattle.run_counts.specs.declared.queue_lengths.LengthsFormat.TheVariants as format
use Rattle.run_counts.specs.declared.queue_lengths.StageLengths.{StageLengths}

-- ` requests N records N replies N`, to the end of the line
unfoldable pub numbers_text : (requests records replies : ℕ) → List ℕ
numbers_text requests records replies =
    codes " requests " ++ decimal requests ++ codes " records " ++ decimal records ++ codes " replies "
    ++ decimal replies ++ line_feed

-- ---- a line for each stage and round

-- `round R stage S requests N records N replies N`; in CSV the numbers alone, with commas between them
unfoldable pub lengths_line : LengthsFormat → StageLengths → List ℕ
lengths_line format.Lines l =
    codes "round " ++ decimal l.round ++ codes " stage " ++ decimal l.stage
    ++ numbers_text l.requests l.records l.replies
lengths_line format.Csv l =
    decimal l.round ++ codes "," ++ decimal l.stage ++ codes "," ++ decimal l.requests ++ codes ","
    ++ decimal l.records ++ codes "," ++ decimal l.replies ++ line_feed

-- the lines of all of them
abbrev pub lengths_lines : LengthsFormat → List StageLengths → List ℕ
lengths_lines f lengths = flat_map (lengths_line f) lengths

-- ---- how long messages waited

-- how many of one kind there are
abbrev pub number_of : Held → StageLengths → ℕ
number_of Requests l = l.requests
number_of Records l = l.records
number_of Replies l = l.replies

-- how many of one kind there are at a stage: none if these are the lengths of another stage
abbrev pub number_at : Held → (stage : ℕ) → StageLengths → ℕ
number_at held s l = if l.stage == s then number_of held l else 0

-- The rounds that all of one kind waited at a stage: each waits one round where it stands at the end of a round.
unfoldable pub rounds_waited : Held → (stage : ℕ) → List StageLengths → ℕ
rounds_waited held s [] = 0
rounds_waited held s (l ∷ lengths) = number_at held s l + rounds_waited held s lengths

-- `waited stage S requests N records N replies N`
unfoldable pub waited_text : (stage requests records replies : ℕ) → List ℕ
waited_text s requests records replies =
    codes "waited stage " ++ decimal s ++ numbers_text requests records replies

-- the line of a stage
abbrev pub waited_line : List StageLengths → (stage : ℕ) → List ℕ
waited_line lengths s =
    waited_text s (rounds_waited Requests s lengths) (rounds_waited Records s lengths) (rounds_waited Replies s lengths)

-- ---- all lines

-- the lines of all lengths, and then a line for each stage; in CSV the names of the columns, and then a row for each
-- length
unfoldable pub lengths_text : LengthsFormat → (stages : ℕ) → List StageLengths → List ℕ
lengths_text format.Lines stages lengths =
    lengths_lines format.Lines lengths ++ first_lines (waited_line lengths) stages
lengths_text format.Csv stages lengths =
    codes "round,stage,requests,records,replies" ++ line_feed ++ lengths_lines format.Csv lengths
