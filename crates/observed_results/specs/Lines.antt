-- The lines of final results.
use Rattle.std.specs.Prelude.{ℕ, zero, suc, ◌+◌, ◌==◌, nat_lt, Bool, false, List, [], ◌∷◌, ◌++◌, bytes_eq, codes, fold}
use Rattle.std.specs.Prelude.{Option, Some, None, length, slice_index, slice_index_or, if◌then◌else◌}
use Rattle.std.specs.List.{list_any}
use Rattle.std.specs.Fmt.{decimal}
use Rattle.exploration.specs.local_reduction.flat_machine.declared.event.Status.TheVariants.{Running}
use Rattle.command_io.specs.Digits.{hex_of_word, line_feed, status_text}
use Rattle.command_io.specs.Lines.{console_text, word_lines}
use Rattle.exploration.specs.local_reduction.Results.{ProcessorResult, FinalResult}
use Rattle.exploration.specs.state_graph.declared.termination.Termination.{Termination}
use Rattle.exploration.specs.state_graph.declared.termination.Termination.TheVariants as fact
use Rattle.observed_results.specs.Lists.{observes}

-- ---- a result

-- `processor P pc VVVVVVVV STATUS console HEX`
unfoldable pub processor_line : (number : ℕ) → ProcessorResult → List ℕ
processor_line number p =
    codes "processor " ++ decimal number ++ codes " pc " ++ hex_of_word p.pc ++ codes " " ++ status_text p.status
    ++ codes " console " ++ console_text p.console ++ line_feed

-- a default, never printed
abbrev pub no_processor : ProcessorResult
no_processor = record { pc = 0; status = Running; console = [] }

-- the lines of the first processors
abbrev pub processor_lines : List ProcessorResult → (count : ℕ) → List ℕ
processor_lines processors zero = []
processor_lines processors (suc p) = processor_lines processors p
    ++ processor_line p (slice_index_or processors p no_processor)

-- the lines of the first shared words, given those of a word
abbrev pub lines_by : (line : (place word : ℕ) → List ℕ) → List ℕ → (count : ℕ) → List ℕ
lines_by line words zero = []
lines_by line words (suc i) = lines_by line words i ++ line i (slice_index words i)

-- the lines of the first shared words; a word that is zero has none
abbrev pub shared_lines : List ℕ → (count : ℕ) → List ℕ
shared_lines words count = lines_by word_lines words count

-- `result N`, counted from 1
abbrev pub heading : (place : ℕ) → List ℕ
heading place = codes "result " ++ decimal (place + 1) ++ line_feed

-- `result N`, and the lines of its processors and words
abbrev pub result_lines : (place : ℕ) → FinalResult → List ℕ
result_lines place r =
    heading place ++ processor_lines r.processors (length r.processors) ++ shared_lines r.words (length r.words)

-- ---- an observed part

-- the line of a word; a word that is zero or is not observed has none
abbrev pub observed_line : (marks : List Bool) → (place word : ℕ) → List ℕ
observed_line marks place word = if observes marks place then word_lines place word else []

-- the observed part of a result: the lines of its processors and of its observed words
abbrev pub observed_of : (marks : List Bool) → FinalResult → List ℕ
observed_of marks r =
    processor_lines r.processors (length r.processors) ++ lines_by (observed_line marks) r.words (length r.words)

-- the texts after one more: it is appended unless it is one of them
abbrev pub with_text : List (List ℕ) → (text : List ℕ) → List (List ℕ)
with_text texts text = if list_any (bytes_eq text) texts then texts else texts ++ text ∷ []

-- the different observed parts of results, in the order of the first result that has each
abbrev pub observed_parts : (marks : List Bool) → List FinalResult → List (List ℕ)
observed_parts marks results = fold (λ texts r. with_text texts (observed_of marks r)) [] results

-- the lines of the first parts, numbered as results
abbrev pub first_parts : List (List ℕ) → (count : ℕ) → List ℕ
first_parts texts zero = []
first_parts texts (suc place) = first_parts texts place ++ heading place ++ slice_index_or texts place []

-- ---- all results

abbrev pub no_result : FinalResult
no_result = record { processors = []; words = [] }

-- the lines of the first results
abbrev pub first_lines : List FinalResult → (count : ℕ) → List ℕ
first_lines results zero = []
first_lines results (suc place) = first_lines results place
    ++ result_lines place (slice_index_or results place no_result)

-- `1 state`, `2 states`
abbrev pub counted : ℕ → (noun : List ℕ) → List ℕ
counted count noun = decimal count ++ codes " " ++ noun ++ (if count == 1 then [] else codes "s")

-- the text that says whether schedules end
abbrev pub schedules_text : Termination → List ℕ
schedules_text fact.Always = codes "every schedule ends"
schedules_text fact.Possible = codes "some schedule never ends; an end can always be reached"
schedules_text (fact.Deadlock states first) = codes "from " ++ counted states (codes "state")
    ++ codes " no end can be reached"

-- the text that says whether schedules end, or, if this is not known, that the search is incomplete
abbrev pub end_text : Option Termination → List ℕ
end_text None = codes "incomplete: there may be more results"
end_text (Some termination) = schedules_text termination

-- ---- processors that can be exchanged

-- the class of a processor; past the last processor, a class that none has
abbrev pub class_at : (classes : List ℕ) → (processor : ℕ) → ℕ
class_at classes p = slice_index_or classes p 64

-- a comma, except before the first processor of the class, whose number names the class
abbrev pub separator : (class processor : ℕ) → List ℕ
separator class p = if p == class then [] else codes ", "

module _ (classes : List ℕ) (class : ℕ) where
  abbrev pub is_of : (processor : ℕ) → Bool
  is_of p = class_at classes p == class

  -- the same, for the processor before this one
  abbrev pub is_of_before : (processor : ℕ) → Bool
  is_of_before zero = false
  is_of_before (suc p) = is_of p

  -- the text of a processor of the class: its number if it begins a range of consecutive processors of the class, ` to
  -- ` and its number if it ends a range of more than one
  abbrev pub member_text : (processor : ℕ) → List ℕ
  member_text p =
      if is_of p
      then (if is_of_before p
      then (if is_of (p + 1) then [] else codes " to " ++ decimal p)
      else separator class p ++ decimal p)
      else []

  -- the text of the first processors
  abbrev pub members_text : (count : ℕ) → List ℕ
  members_text zero = []
  members_text (suc p) = members_text p ++ member_text p

  -- how many of the first processors are of the class
  abbrev pub members_of : (count : ℕ) → ℕ
  members_of zero = 0
  members_of (suc p) = members_of p + (if is_of p then 1 else 0)

-- `processors 0, 2 to 5 can be exchanged`
abbrev pub class_text : (classes : List ℕ) → (class : ℕ) → List ℕ
class_text classes class =
    codes "processors " ++ members_text classes class (length classes) ++ codes " can be exchanged\n"

-- the same, if the class has two or more processors
abbrev pub class_line : (classes : List ℕ) → (class : ℕ) → List ℕ
class_line classes class =
    if nat_lt 1 (members_of classes class (length classes)) then class_text classes class else []

-- a line for each of the first classes
abbrev pub class_lines : (classes : List ℕ) → (count : ℕ) → List ℕ
class_lines classes zero = []
class_lines classes (suc class) = class_lines classes class ++ class_line classes class

-- ---- what is printed

-- these lines, and then those of the processors that can be exchanged, `N results, M states`, and whether schedules end
abbrev pub with_closing : (lines : List ℕ) → (results : ℕ) → (classes : List ℕ) → (states : ℕ) → Option Termination →
    List ℕ
with_closing lines results classes states termination =
    lines ++ class_lines classes (length classes)
    ++ (counted results (codes "result") ++ codes ", " ++ counted states (codes "state") ++ line_feed)
    ++ end_text termination ++ line_feed

-- the lines of all results, and those after them
abbrev pub results_lines : List FinalResult → (classes : List ℕ) → (states : ℕ) → Option Termination → List ℕ
results_lines results classes states termination =
    with_closing (first_lines results (length results)) (length results) classes states termination

-- the lines of observed parts, in place of results
abbrev pub parts_lines : (texts : List (List ℕ)) → (classes : List ℕ) → (states : ℕ) → Option Termination → List ℕ
parts_lines texts classes states termination =
    with_closing (first_parts texts (length texts)) (length texts) classes states termination
