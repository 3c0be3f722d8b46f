-- Topics, how a text asks for them, and the texts that are printed for them.
use Rattle.std.specs.Prelude.{ℕ, Bool, false, not, ◌&&◌, ◌||◌, ◌==◌, if◌then◌else◌, List, [], ◌∷◌, ◌++◌, length, take}
use Rattle.std.specs.Prelude.{drop, Option, Some, None, codes, find, unwrap_or}
use Rattle.std.specs.Char.{is_ascii_digit}
use Rattle.std.specs.List.{list_all}
use Rattle.std.specs.Option.{option_map_or, option_or}
use Rattle.std.specs.Str.{str_eq_ignore_ascii_case}
use Rattle.explain_command.specs.declared.topic.Topic.{Topic}
use Rattle.explain_command.specs.declared.topic.Topics.{Topics}

-- ---- how a text asks for a topic

-- what follows this beginning, in upper or lower case, if the text begins so
abbrev pub rest_after : (beginning text : List ℕ) → Option (List ℕ)
rest_after beginning text =
    if str_eq_ignore_ascii_case (take (length beginning) text) beginning
    then Some (drop (length beginning) text) else None

-- the text without this beginning, if it begins so
abbrev pub without : (beginning text : List ℕ) → List ℕ
without beginning text = unwrap_or (rest_after beginning text) text

-- whether it is a number in decimal digits
abbrev pub is_number : (text : List ℕ) → Bool
is_number text = not (length text == 0) && list_all is_ascii_digit text

-- whether the text is these words, in upper or lower case, and a number
abbrev pub is_numbered : (words text : List ℕ) → Bool
is_numbered words text = option_map_or is_number (rest_after words text) false

-- whether it is what is printed after a code: nothing, ` line N` or ` step N`
abbrev pub is_place : (text : List ℕ) → Bool
is_place text = (length text == 0) || (is_numbered (codes " line ") text || is_numbered (codes " step ") text)

-- whether the text is the name, in upper or lower case
abbrev pub is_named : (text name : List ℕ) → Bool
is_named text name = str_eq_ignore_ascii_case name text

-- whether the text is the name, in upper or lower case, and what is printed after a code
abbrev pub is_coded : (text name : List ℕ) → Bool
is_coded text name = option_map_or is_place (rest_after name text) false

-- The topic that a text asks for:
--
--     a code             `A3` as in `ultra: A3 line 2`, with or without what stands before it and after it
--     another end        `budget` as in `ultra: budget`, with or without what stands before it
--     a fault's number   `4` as in `fault 4`, with or without what stands before it
--     all others         the name
abbrev pub topic_asked : Topics → (text : List ℕ) → Option Topic
topic_asked topics text =
    option_or (find (λ t. is_coded (without (codes "ultra: ") text) t.name.now) topics.codes.now)
    (option_or (find (λ t. is_named (without (codes "ultra: ") text) t.name.now) topics.ends.now)
    (option_or (find (λ t. is_named (without (codes "fault ") text) t.name.now) topics.faults.now)
    (option_or (find (λ t. is_named text t.name.now) topics.replies.now)
    (find (λ t. is_named text t.name.now) topics.pages.now))))

-- ---- what is printed

-- `NAME: MEANING`
abbrev pub line_of : Topic → List ℕ
line_of t = t.name.now ++ codes ": " ++ t.meaning.now ++ 10 ∷ []

-- the line, an empty line, and the advice
abbrev pub text_of : Topic → List ℕ
text_of t = line_of t ++ 10 ∷ t.advice.now

abbrev pub lines_of : List Topic → List ℕ
lines_of [] = []
lines_of (t ∷ ts) = line_of t ++ lines_of ts

-- a line for each topic, below a heading for each kind
abbrev pub list_of : Topics → List ℕ
list_of topics =
    codes "Codes, which follow `ultra:` on standard error\n" ++ lines_of topics.codes.now ++ lines_of topics.ends.now
    ++ codes "\nNumbers of faults, as `fault 4` in a report\n" ++ lines_of topics.faults.now
    ++ codes "\nErrors of the debugger, which answer a line\n" ++ lines_of topics.replies.now
    ++ codes "\nPages\n" ++ lines_of topics.pages.now
