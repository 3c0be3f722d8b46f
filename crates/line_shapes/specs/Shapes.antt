-- The object of a line: that of the first shape which the line has.
use Rattle.std.specs.Prelude.{ℕ, List, [], ◌∷◌, Option, Some, None, codes, if◌then◌else◌, option_and_then, option_map}
use Rattle.std.specs.Prelude.{unwrap_or}
use Rattle.json.specs.Json.{Json, Members, member, no_members, object, string}
use Rattle.json.specs.Print.{print}
use Rattle.json.specs.Tree.{json_tokens}
use Rattle.line_shapes.specs.Cuts.{after, upto}
use Rattle.line_shapes.specs.Fields.{is_empty, value_of}
use Rattle.line_shapes.specs.declared.shape.Part.{Part}
use Rattle.line_shapes.specs.declared.shape.Part.TheVariants as part
use Rattle.line_shapes.specs.declared.shape.Shape.{Shape}

-- the text with which a part begins
abbrev pub text_of : Part → List ℕ
text_of (part.Literal text) = text.now
text_of (part.Field text name kind) = text.now

-- the text of a field, and what follows it: the field ends where the next part first stands, or with the line
abbrev pub field_in : (next : List Part) → (text : List ℕ) → Option (List ℕ × List ℕ)
field_in [] text = Some (text, [])
field_in (p ∷ parts) text = upto (text_of p) text

-- one member more, before these
abbrev pub with_member : (name : List ℕ) → Option Json → Option Members → Option Members
with_member name None members = None
with_member name (Some j) members = option_map (member name j) members

-- The members of a text that has these parts; none, if it has not.
unfoldable pub members_of : List Part → (text : List ℕ) → Option Members
members_of [] text = if is_empty text then Some no_members else None
members_of (part.Literal word ∷ parts) text = option_and_then (members_of parts) (after word.now text)
members_of (part.Field word name kind ∷ parts) text =
    option_and_then (λ rest. option_and_then
    (λ x. with_member name.now (value_of kind x.0) (members_of parts x.1)) (field_in parts rest)) (after word.now text)

-- an object's first member: the kind of its line
abbrev pub object_with : (kind : List ℕ) → Members → Json
object_with kind members = object (member (codes "kind") (string kind) members)

-- the object of a line that has none of the shapes
abbrev pub text_object : (line : List ℕ) → Json
text_object line = object_with (codes "text") (member (codes "text") (string line) no_members)

-- the object of a line that has this shape; none, if it has not
abbrev pub object_in : Shape → (line : List ℕ) → Option Json
object_in s line = option_map (object_with s.0.now) (members_of s.1.now line)

-- The object of a line, by these shapes.
unfoldable pub object_of : List Shape → (line : List ℕ) → Json
object_of [] line = text_object line
object_of (s ∷ shapes) line = unwrap_or (object_in s line) (object_of shapes line)

-- the text of a line's object, without blanks between tokens
unfoldable pub object_text : List Shape → (line : List ℕ) → List ℕ
object_text shapes line = print (json_tokens (object_of shapes line))
