-- The SVG elements of a picture.
use Rattle.std.specs.Prelude.{ℕ, ◌==◌, List, ◌++◌, codes, if◌then◌else◌}
use Rattle.std.specs.Char.{encode_utf8}
use Rattle.std.specs.Fmt.{decimal}
use Rattle.std.specs.List.{flat_map}
use Rattle.std.specs.Str.{chars}
use Rattle.machine_views.specs.command_io.Digits.{line_feed}
use Rattle.machine_views.specs.declared.cell.Kind.{Kind}
use Rattle.machine_views.specs.declared.cell.Kind.TheVariants as kind

-- ---- texts

-- A character of a text as XML spells it (XML 1.0, 2.4 and 4.6): `&`, `<`, `>` and `"` by their entities.
abbrev pub escaped_char : ℕ → List ℕ
escaped_char c =
    if c == 38 then codes "&amp;" else
    if c == 60 then codes "&lt;" else
    if c == 62 then codes "&gt;" else
    if c == 34 then codes "&quot;" else encode_utf8 c

-- a text as XML spells it
unfoldable pub escaped : List ℕ → List ℕ
escaped text = flat_map escaped_char (chars text)

-- ---- attributes

-- ` NAME='V'`
unfoldable pub attribute : (name : List ℕ) → (value : ℕ) → List ℕ
attribute name value = codes " " ++ name ++ codes "='" ++ decimal value ++ codes "'"

-- ` class='CLASS'`
unfoldable pub class_text : List ℕ → List ℕ
class_text class = codes " class='" ++ class ++ codes "'"

-- a corner
unfoldable pub corner_text : (x y : ℕ) → List ℕ
corner_text x y = attribute (codes "x") x ++ attribute (codes "y") y

-- a size
unfoldable pub size_text : (width height : ℕ) → List ℕ
size_text width height = attribute (codes "width") width ++ attribute (codes "height") height

-- ---- elements

-- a box of this class with this upper left corner
unfoldable pub box_text : (x y width height : ℕ) → (class : List ℕ) → List ℕ
box_text x y width height class =
    codes "<rect" ++ corner_text x y ++ size_text width height ++ class_text class ++ codes "/>" ++ line_feed

-- the ends of a line
unfoldable pub ends_text : (x y x' y' : ℕ) → List ℕ
ends_text x y x' y' =
    attribute (codes "x1") x ++ attribute (codes "y1") y ++ attribute (codes "x2") x' ++ attribute (codes "y2") y'

-- a line between two points
unfoldable pub wire_text : (x y x' y' : ℕ) → List ℕ
wire_text x y x' y' = codes "<line" ++ ends_text x y x' y' ++ codes "/>" ++ line_feed

-- a text of this class that begins at this point
unfoldable pub label_text : (x y : ℕ) → (class text : List ℕ) → List ℕ
label_text x y class text =
    codes "<text" ++ corner_text x y ++ class_text class ++ codes ">" ++ escaped text ++ codes "</text>"
    ++ line_feed

-- a part of a text of several lines, at this distance below the part before it
unfoldable pub span_text : (x down : ℕ) → (class text : List ℕ) → List ℕ
span_text x down class text =
    codes "<tspan" ++ attribute (codes "x") x ++ attribute (codes "dy") down ++ class_text class ++ codes ">"
    ++ escaped text ++ codes "</tspan>"

-- the class of a line
abbrev pub class_of : Kind → List ℕ
class_of kind.Request = codes "request"
class_of kind.Record = codes "record"
class_of kind.Reply = codes "reply"
class_of kind.Word = codes "word"
