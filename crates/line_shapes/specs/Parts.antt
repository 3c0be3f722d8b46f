-- A line that is cut into the parts of its shape.
use Rattle.std.specs.Prelude.{ℕ, Bool, List, [], ◌∷◌, Option, Some, find, is_some}
use Rattle.std.specs.Option.{option_map_or}
use Rattle.line_shapes.specs.Cuts.{after}
use Rattle.line_shapes.specs.Shapes.{field_in, members_of, text_of}
use Rattle.line_shapes.specs.declared.shape.Part.{Part}
use Rattle.line_shapes.specs.declared.shape.Part.TheVariants as part
use Rattle.line_shapes.specs.declared.shape.Shape.{Shape}

-- whether the line has this shape
abbrev pub has_shape : (line : List ℕ) → Shape → Bool
has_shape line s = is_some (members_of s.1.now line)

-- the first of these shapes that the line has
abbrev pub shape_of : List Shape → (line : List ℕ) → Option Shape
shape_of shapes line = find (has_shape line) shapes

-- the text of a part's field, which is empty for a literal, and what follows it
abbrev pub field_of : Part → (next : List Part) → (text : List ℕ) → Option (List ℕ × List ℕ)
field_of (part.Literal word) next text = Some ([], text)
field_of (part.Field word name kind) next text = field_in next text

-- The parts of a text, as far as it has them, each with the text of its field.
unfoldable pub cuts_of : List Part → (text : List ℕ) → List (Part × List ℕ)
cuts_of [] text = []
cuts_of (p ∷ parts) text =
    option_map_or
    (λ rest. option_map_or (λ x. (p, x.0) ∷ cuts_of parts x.1) (field_of p parts rest) [])
    (after (text_of p) text)
    []
