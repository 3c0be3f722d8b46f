-- The numbers of lines as rows of comma-separated values.
use Rattle.std.specs.Prelude.{ℕ, ◌||◌, Bool, List, [], ◌∷◌, ◌++◌, Option, Some, None, bytes_eq, codes}
use Rattle.std.specs.Prelude.{flat_map, if◌then◌else◌}
use Rattle.std.specs.Option.{option_map_or}
use Rattle.line_shapes.specs.Cuts.{after, upto, words_of}
use Rattle.line_shapes.specs.Parts.{cuts_of, shape_of}
use Rattle.line_shapes.specs.declared.shape.Kind.{Kind}
use Rattle.line_shapes.specs.declared.shape.Kind.TheVariants as kinds
use Rattle.line_shapes.specs.declared.shape.Part.{Part}
use Rattle.line_shapes.specs.declared.shape.Part.TheVariants as part
use Rattle.line_shapes.specs.declared.shape.Shape.{Shape}

-- the names of the columns, which go out with the line of kind `machine`, the first
abbrev pub header_before : (kind : List ℕ) → List ℕ
header_before kind = if bytes_eq kind (codes "machine") then codes "subject,number,count,value" ++ 10 ∷ [] else []

-- What a row is about: a name and a number, which may be empty.
abbrev pub Subject : Type 0
Subject = List ℕ × List ℕ

-- a row up to its count
abbrev pub row_beginning : Subject → (count : List ℕ) → List ℕ
row_beginning subject count = subject.0 ++ codes "," ++ subject.1 ++ codes "," ++ count

abbrev pub row : Subject → (count value : List ℕ) → List ℕ
row subject count value = row_beginning subject count ++ codes "," ++ value ++ 10 ∷ []

-- the row of an item `AxB` in the list of this name: its count is `NAME of A`, its value B
abbrev pub group_row : Subject → (name word : List ℕ) → List ℕ
group_row subject name word =
    option_map_or
    (λ x. option_map_or (row subject (name ++ codes " of " ++ x.0)) (after (codes "x") x.1) [])
    (upto (codes "x") word)
    []

-- the rows of a field: one of a number, one for each item of a list, and none of others
abbrev pub field_rows : Subject → (name : List ℕ) → Kind → (text : List ℕ) → List ℕ
field_rows subject name kinds.Number text = row subject name text
field_rows subject name kinds.List text = flat_map (group_row subject name) (words_of text)
field_rows subject name other text = []

abbrev pub part_rows : Subject → Part → (text : List ℕ) → List ℕ
part_rows subject (part.Literal word) text = []
part_rows subject (part.Field word name kind) text = field_rows subject name.now kind text

abbrev pub rows_about : Subject → List (Part × List ℕ) → List ℕ
rows_about subject cuts = flat_map (λ c. part_rows subject c.0 c.1) cuts

-- whether a line that begins with a field of this name is about what the field names
abbrev pub is_subject : (name : List ℕ) → Bool
is_subject name = bytes_eq name (codes "stage") || bytes_eq name (codes "module") || bytes_eq name (codes "processor")
    || bytes_eq name (codes "word")

-- what a line is about that begins with this part, if the part says so
abbrev pub subject_of : Part → (text : List ℕ) → Option Subject
subject_of (part.Literal word) text = None
subject_of (part.Field word name kind) text = if is_subject name.now then Some (name.now, text) else None

-- The rows of a line of this kind. It is about what its first field names, or else about its kind.
abbrev pub line_rows : (kind : List ℕ) → List (Part × List ℕ) → List ℕ
line_rows kind [] = []
line_rows kind (c ∷ cuts) =
    option_map_or (λ subject. rows_about subject cuts) (subject_of c.0 c.1) (rows_about (kind, []) (c ∷ cuts))

-- What is printed for a line, by the first of these shapes that it has. A line that has none has no rows.
unfoldable pub csv_text : List Shape → (line : List ℕ) → List ℕ
csv_text shapes line =
    option_map_or (λ s. header_before s.0.now ++ line_rows s.0.now (cuts_of s.1.now line)) (shape_of shapes line) []
