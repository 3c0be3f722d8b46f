-- The columns of a study, and what stands in them.
use Rattle.std.specs.Prelude.{ℕ, ◌/◌, ◌%◌, List, [], ◌∷◌, ◌++◌, codes}
use Rattle.std.specs.Fmt.{decimal}
use Rattle.study_rows.specs.declared.column.Column.{Column}
use Rattle.study_rows.specs.declared.column.Column.TheVariants as column
use Rattle.study_rows.specs.declared.column.Content.{Content}
use Rattle.study_rows.specs.declared.column.Content.TheVariants as content
use Rattle.study_rows.specs.declared.row.Row.{Row}
use Rattle.study_rows.specs.declared.row.RunEnd.{RunEnd}
use Rattle.study_rows.specs.declared.row.RunEnd.TheVariants as end

-- the columns after the first, which is k
abbrev pub other_columns : List Column
other_columns =
    column.B ∷ column.R ∷ column.Processors ∷ column.End ∷ column.Steps ∷ column.Rounds ∷ column.References
    ∷ column.Serve ∷ column.Combined ∷ column.Requests ∷ column.Records ∷ column.Replies ∷ column.Mean ∷ []

-- the names of the columns: those that `ultra stats` has for the same numbers
abbrev pub name_of : Column → List ℕ
name_of column.K = codes "k"
name_of column.B = codes "b"
name_of column.R = codes "r"
name_of column.Processors = codes "processors"
name_of column.End = codes "end"
name_of column.Steps = codes "steps"
name_of column.Rounds = codes "rounds"
name_of column.References = codes "references"
name_of column.Serve = codes "serve"
name_of column.Combined = codes "combined"
name_of column.Requests = codes "requests"
name_of column.Records = codes "records"
name_of column.Replies = codes "replies"
name_of column.Mean = codes "mean"

-- how wide a column of a table is
abbrev pub width_of : Column → ℕ
width_of column.K = 1
width_of column.B = 2
width_of column.R = 1
width_of column.Processors = 10
width_of column.End = 6
width_of column.Steps = 7
width_of column.Rounds = 7
width_of column.References = 10
width_of column.Serve = 7
width_of column.Combined = 8
width_of column.Requests = 8
width_of column.Records = 7
width_of column.Replies = 7
width_of column.Mean = 8

-- what stands in a column
abbrev pub content_of : Column → Content
content_of column.K = content.Count
content_of column.B = content.Count
content_of column.R = content.Count
content_of column.Processors = content.Count
content_of column.End = content.End
content_of column.Steps = content.Count
content_of column.Rounds = content.Count
content_of column.References = content.Count
content_of column.Serve = content.Count
content_of column.Combined = content.Count
content_of column.Requests = content.Count
content_of column.Records = content.Count
content_of column.Replies = content.Count
content_of column.Mean = content.Hundredths

-- the number of a row in a column, of the mean in hundredths; 0 for how the run ended
abbrev pub value_of : Row → Column → ℕ
value_of row column.K = row.size.k
value_of row column.B = row.size.b
value_of row column.R = row.size.r
value_of row column.Processors = row.processors
value_of row column.End = 0
value_of row column.Steps = row.figures.steps
value_of row column.Rounds = row.figures.rounds
value_of row column.References = row.figures.references
value_of row column.Serve = row.figures.serve
value_of row column.Combined = row.figures.combined
value_of row column.Requests = row.figures.requests
value_of row column.Records = row.figures.records
value_of row column.Replies = row.figures.replies
value_of row column.Mean = row.figures.mean

-- what a column shows, as the heading of its plot
abbrev pub title_of : Column → List ℕ
title_of column.K = codes "k: stages of the network"
title_of column.B = codes "b: records that an output of a switch holds"
title_of column.R = codes "r: times that a request in a queue is combined"
title_of column.Processors = codes "processors"
title_of column.End = codes "end"
title_of column.Steps = codes "steps"
title_of column.Rounds = codes "rounds of the sweep"
title_of column.References = codes "references"
title_of column.Serve = codes "services of the modules"
title_of column.Combined = codes "combined requests"
title_of column.Requests = codes "longest queue of requests"
title_of column.Records = codes "longest wait buffer: records"
title_of column.Replies = codes "longest queue of replies"
title_of column.Mean = codes "mean latency of references, in rounds"

-- ---- texts

-- the word for how a run ended
abbrev pub end_text : RunEnd → List ℕ
end_text end.Over = codes "over"
end_text end.Fault = codes "fault"
end_text end.Budget = codes "budget"

-- a number of hundredths, as `N.NN`
unfoldable pub hundredths_text : (number : ℕ) → List ℕ
hundredths_text n = decimal (n / 100) ++ codes "." ++ decimal ((n / 10) % 10) ++ decimal (n % 10)

-- a number in a column with this content
abbrev pub number_text : Content → (number : ℕ) → List ℕ
number_text content.Count n = decimal n
number_text content.Hundredths n = hundredths_text n
number_text content.End n = []

-- what a row has in a column with this content
abbrev pub text_as : Content → RunEnd → (number : ℕ) → List ℕ
text_as content.Count e n = decimal n
text_as content.Hundredths e n = hundredths_text n
text_as content.End e n = end_text e

-- what a row has in a column
abbrev pub cell_text : Row → Column → List ℕ
cell_text row c = text_as (content_of c) row.end (value_of row c)
