-- The page of a plot: its elements, in SVG.
use Rattle.std.specs.Prelude.{ℕ, ◌-◌, ◌*◌, ◌^◌, List, ◌++◌, codes}
use Rattle.std.specs.Fmt.{decimal}
use Rattle.study_rows.specs.Columns.{number_text, title_of}
use Rattle.study_rows.specs.Scales.{x_of}
use Rattle.study_rows.specs.declared.column.Column.{Column}
use Rattle.study_rows.specs.declared.column.Content.{Content}

-- ---- the page

unfoldable pub svg_start : List ℕ
svg_start = codes "<svg xmlns='http://www.w3.org/2000/svg' width='1000' height='"

unfoldable pub view_start : List ℕ
view_start = codes "' viewBox='0 0 1000 "

unfoldable pub svg_end : List ℕ
svg_end = codes "'>\n"

-- the beginning of a picture of this height
unfoldable pub svg_text : (height : ℕ) → List ℕ
svg_text height = svg_start ++ decimal height ++ view_start ++ decimal height ++ svg_end

-- the style of texts and boxes
unfoldable pub text_style : List ℕ
text_style = codes "text{font:24px sans-serif;fill:#111}rect{fill:#fff}.title{font-weight:bold}.small{font-size:18px}"

-- where texts are aligned, and the axes
unfoldable pub axis_style : List ℕ
axis_style = codes ".right{text-anchor:end}.middle{text-anchor:middle}.grid{stroke:#ccc}.axis{stroke:#111}"

-- how thick lines are, and the marks of runs that are not over
unfoldable pub mark_style : List ℕ
mark_style = codes "polyline,.key{fill:none;stroke-width:5}circle{fill:#fff;stroke-width:4}.budget{fill:#999}.fault{fill:#111}"

-- the colours of lines
unfoldable pub colour_style : List ℕ
colour_style = codes ".s0{stroke:#0050a0}.s1{stroke:#c04000}.s2{stroke:#007040}.s3{stroke:#a0208c}"

unfoldable pub more_colours : List ℕ
more_colours = codes ".s4{stroke:#111}.s5{stroke:#b08000}.s6{stroke:#3090d0}.s7{stroke:#702020}"

-- the dashes of lines past the eighth
unfoldable pub dash_style : List ℕ
dash_style = codes ".d1{stroke-dasharray:16 8}.d2{stroke-dasharray:6 6}.d3{stroke-dasharray:20 6 4 6}"

unfoldable pub more_dashes : List ℕ
more_dashes = codes ".d4{stroke-dasharray:30 10}.d5{stroke-dasharray:2 6}.d6{stroke-dasharray:20 5 4 5 4 5}"

unfoldable pub style : List ℕ
style = codes "<style>" ++ text_style ++ axis_style ++ mark_style ++ colour_style ++ more_colours ++ dash_style
    ++ more_dashes ++ codes "</style>\n"

-- a white page
unfoldable pub paper : (height : ℕ) → List ℕ
paper height = codes "<rect width='1000' height='" ++ decimal height ++ codes "'/>\n"

unfoldable pub title_start : List ℕ
title_start = codes "<text class='title' x='160' y='38'>"

unfoldable pub text_end : List ℕ
text_end = codes "</text>\n"

-- the heading
unfoldable pub heading : Column → List ℕ
heading c = title_start ++ title_of c ++ text_end

-- ---- the axes

-- a line across the plot, at a number on the axis
unfoldable pub grid_text : (y : ℕ) → List ℕ
grid_text y =
    codes "<line class='grid' x1='160' y1='" ++ decimal y ++ codes "' x2='700' y2='" ++ decimal y ++ codes "'/>\n"

-- the number there
unfoldable pub label_text : Content → (y number : ℕ) → List ℕ
label_text content y number =
    codes "<text class='right' x='148' y='" ++ decimal y ++ codes "'>" ++ number_text content number
    ++ codes "</text>\n"

-- the place of a number of steps on the axis
abbrev pub tick_text : Content → (step steps : ℕ) → List ℕ
tick_text content step i = grid_text (460 - 100 * i) ++ label_text content (468 - 100 * i) (step * i)

-- a number of processors below the plot
unfoldable pub processors_text : (x number : ℕ) → List ℕ
processors_text x number =
    codes "<text class='middle' x='" ++ decimal x ++ codes "' y='492'>" ++ decimal number ++ codes "</text>\n"

abbrev pub processors_of : (k : ℕ) → List ℕ
processors_of k = processors_text (x_of k) (2 ^ k)

-- the axes themselves
unfoldable pub axes : List ℕ
axes = codes "<line class='axis' x1='160' y1='460' x2='700' y2='460'/>\n"
    ++ codes "<line class='axis' x1='160' y1='60' x2='160' y2='460'/>\n"

-- what is below the plot
unfoldable pub captions : List ℕ
captions = codes "<text class='middle' x='430' y='524'>processors</text>\n"
    ++ codes "<text class='small' x='160' y='550'>grey mark: the budget is used up; black: a fault</text>\n"

-- ---- lines

-- the class of a line with this number: its colour and its dashes
unfoldable pub line_class : (colour dashes : ℕ) → List ℕ
line_class colour dashes = codes "s" ++ decimal colour ++ codes " d" ++ decimal dashes

unfoldable pub polyline_start : List ℕ
polyline_start = codes "<polyline class='"

unfoldable pub points_start : List ℕ
points_start = codes "' points='"

-- the beginning of a line, up to its points
unfoldable pub line_start : (colour dashes : ℕ) → List ℕ
line_start colour dashes = polyline_start ++ line_class colour dashes ++ points_start

unfoldable pub line_end : List ℕ
line_end = codes "'/>\n"

unfoldable pub point_text : (x y : ℕ) → List ℕ
point_text x y = codes " " ++ decimal x ++ codes "," ++ decimal y

unfoldable pub circle_start : List ℕ
circle_start = codes "<circle class='s"

unfoldable pub class_end : (class : List ℕ) → List ℕ
class_end class = codes " " ++ class ++ codes "'"

unfoldable pub mark_start : (colour : ℕ) → (class : List ℕ) → List ℕ
mark_start colour class = circle_start ++ decimal colour ++ class_end class

unfoldable pub mark_place : (x y : ℕ) → List ℕ
mark_place x y = codes " cx='" ++ decimal x ++ codes "' cy='" ++ decimal y ++ codes "' r='8'/>\n"

-- the mark of a point, with this class
abbrev pub mark_text : (colour : ℕ) → (class : List ℕ) → (x y : ℕ) → List ℕ
mark_text colour class x y = mark_start colour class ++ mark_place x y

unfoldable pub key_start : List ℕ
key_start = codes "<line class='key "

unfoldable pub key_place : (y : ℕ) → List ℕ
key_place y = codes "' x1='730' y1='" ++ decimal y ++ codes "' x2='780' y2='" ++ decimal y ++ codes "'/>\n"

-- a piece of a line in the legend
unfoldable pub key_text : (colour dashes y : ℕ) → List ℕ
key_text colour dashes y = key_start ++ line_class colour dashes ++ key_place y

unfoldable pub sizes_start : (y : ℕ) → List ℕ
sizes_start y = codes "<text x='792' y='" ++ decimal y ++ codes "'>"

unfoldable pub sizes_pair : (b r : ℕ) → List ℕ
sizes_pair b r = codes "b " ++ decimal b ++ codes " r " ++ decimal r ++ codes "</text>\n"

-- and what it stands for
abbrev pub sizes_text : (y b r : ℕ) → List ℕ
sizes_text y b r = sizes_start y ++ sizes_pair b r

unfoldable pub closing : List ℕ
closing = codes "</svg>\n"
