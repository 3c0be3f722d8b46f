-- What all pictures have: a white page with a heading and a legend.
use Rattle.std.specs.Prelude.{ℕ, zero, suc, Bool, ◌&&◌, List, [], ◌++◌, codes, nat_le, nat_lt, if◌then◌else◌}
use Rattle.std.specs.Fmt.{decimal}
use Rattle.machine_views.specs.command_io.Digits.{line_feed}
use Rattle.machine_picture.specs.Elements.{attribute, box_text, label_text, size_text, span_text}
use Rattle.machine_views.specs.declared.view.MachineView.{MachineView}

-- the texts of the numbers below a count, one after the other
abbrev pub texts_below : (text_at : ℕ → List ℕ) → (count : ℕ) → List ℕ
texts_below text_at zero = []
texts_below text_at (suc n) = texts_below text_at n ++ text_at n

-- ---- the page

unfoldable pub boxes_style : List ℕ
boxes_style = codes "text{font:11px monospace}rect{fill:#fff;stroke:#444}line{stroke:#999}.page{stroke:none}"

unfoldable pub colours_style : List ℕ
colours_style = codes ".request{fill:#1f4e9c}.record{fill:#207020}.reply{fill:#a02020}"

unfoldable pub sides_style : List ℕ
sides_style = codes ".cell .request{text-anchor:end}.cell .record{text-anchor:middle}.heading,.column{font-weight:bold}"

unfoldable pub shades_style : List ℕ
shades_style = codes ".held1{fill:#ddd}.held2{fill:#bbb}.held3{fill:#999}.held4{fill:#888}"

-- the style of the elements
unfoldable pub style : List ℕ
style =
    codes "<style>" ++ boxes_style ++ colours_style ++ sides_style ++ shades_style ++ codes "</style>" ++ line_feed

-- `machine k K c C b B r R`
unfoldable pub sizes_text : (k c b r : ℕ) → List ℕ
sizes_text k c b r =
    codes "machine k " ++ decimal k ++ codes " c " ++ decimal c ++ codes " b " ++ decimal b ++ codes " r " ++ decimal r

-- the machine's sizes, and how many steps it has taken
unfoldable pub heading : MachineView → List ℕ
heading v =
    sizes_text v.config.k v.config.c v.config.b v.config.r ++ codes " after " ++ decimal v.steps ++ codes " steps"

unfoldable pub namespace : List ℕ
namespace = codes "<svg xmlns='http://www.w3.org/2000/svg'"

unfoldable pub view_start : List ℕ
view_start = codes " viewBox='0 0 "

-- what part of a picture is shown: all of it
unfoldable pub view_box : (width height : ℕ) → List ℕ
view_box width height = view_start ++ decimal width ++ codes " " ++ decimal height ++ codes "'"

-- the beginning of a picture of this size
unfoldable pub svg_text : (width height : ℕ) → List ℕ
svg_text width height = namespace ++ size_text width height ++ view_box width height ++ codes ">" ++ line_feed

-- a white page with a heading
unfoldable pub page_text : MachineView → (width height : ℕ) → List ℕ
page_text v width height =
    svg_text width height ++ style ++ box_text 0 0 width height (codes "page")
    ++ label_text 10 18 (codes "heading") (heading v)

unfoldable pub legend_line : List ℕ → List ℕ
legend_line text = span_text 10 14 (codes "legend") text

unfoldable pub legend_of_sides : List ℕ
legend_of_sides =
    legend_line (codes "Requests go right, replies go left; of those at one place, the first to go on is on top.")

unfoldable pub legend_of_wires : List ℕ
legend_of_wires =
    legend_line (codes "wire W: an output, with its wait buffer and requests, and the input beside it, with replies")

unfoldable pub legend_of_groups : List ℕ
legend_of_groups =
    legend_line (codes "{P Q ..}: the processors for which a message stands, in the order in which they are served")

unfoldable pub legend_of_records : List ℕ
legend_of_records =
    legend_line (codes "Q waits for P: add V: Q will find what this function makes of the value that P finds")

-- how the parts of a picture are to be read
unfoldable pub legend : List ℕ
legend = legend_of_sides ++ legend_of_wires ++ legend_of_groups ++ legend_of_records

unfoldable pub closing : List ℕ
closing = codes "</svg>" ++ line_feed

-- the end of a picture, with the legend below this height
unfoldable pub end_text : (y : ℕ) → List ℕ
end_text y = codes "<text" ++ attribute (codes "y") y ++ codes ">" ++ legend ++ codes "</text>" ++ line_feed ++ closing

-- ---- columns

-- whether a column has a stage
abbrev pub is_stage : (k column : ℕ) → Bool
is_stage k column = nat_lt 0 column && nat_le column k

-- `processors`, `stage S` or `modules`
unfoldable pub column_name : (k column : ℕ) → List ℕ
column_name k zero = codes "processors"
column_name k (suc s) = if nat_le (suc s) k then codes "stage " ++ decimal s else codes "modules"
