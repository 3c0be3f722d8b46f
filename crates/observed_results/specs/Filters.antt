-- The lines of those results that satisfy a condition.
use Rattle.std.specs.Prelude.{ℕ, ◌==◌, Bool, List, ◌++◌, Option, Some, None, codes, filter, length, map, if◌then◌else◌}
use Rattle.std.specs.Fmt.{decimal}
use Rattle.command_io.specs.Digits.{line_feed}
use Rattle.exploration.specs.local_reduction.Results.{FinalResult}
use Rattle.exploration.specs.state_graph.declared.termination.Termination.{Termination}
use Rattle.state_conditions.specs.Results.{processor_state}
use Rattle.state_conditions.specs.declared.condition.Comparison.{Comparison}
use Rattle.state_conditions.specs.Conditions.{holds}
use Rattle.observed_results.specs.Lines.{counted, observed_of, observed_parts, parts_lines, with_closing, with_text}
use Rattle.observed_results.specs.Outcomes.{chosen_parts}

-- whether a result satisfies the condition, which sees all of its words
abbrev pub satisfies : (condition : List (List Comparison)) → FinalResult → Bool
satisfies condition r = holds condition (map processor_state r.processors) r.words

-- those of the results that satisfy it
abbrev pub satisfying : (condition : List (List Comparison)) → List FinalResult → List FinalResult
satisfying condition results = filter (satisfies condition) results

-- `1 of 2 results is printed`
abbrev pub filter_line : (printed all : ℕ) → List ℕ
filter_line printed all =
    decimal printed ++ codes " of " ++ counted all (codes "result")
    ++ (if printed == 1 then codes " is printed" else codes " are printed") ++ line_feed

-- the lines of those of all parts that the chosen results have, numbered among all, and how many they are
abbrev pub chosen_lines : (texts chosen : List (List ℕ)) → List ℕ
chosen_lines texts chosen = chosen_parts texts chosen (length texts) ++ filter_line (length chosen) (length texts)

-- these lines for the parts of the results that satisfy the condition, and then the lines after those of all parts
abbrev pub filtered_lines : (marks : List Bool) → (condition : List (List Comparison)) → List FinalResult →
    (classes : List ℕ) → (states : ℕ) → Option Termination → List ℕ
filtered_lines marks condition results classes states termination =
    with_closing (chosen_lines (observed_parts marks results) (observed_parts marks (satisfying condition results)))
    (length (observed_parts marks results)) classes states termination

-- the lines of the different observed parts of results: of all, or of those that satisfy a condition
abbrev pub observed_lines : (marks : List Bool) → (condition : Option (List (List Comparison))) → List FinalResult →
    (classes : List ℕ) → (states : ℕ) → Option Termination → List ℕ
observed_lines marks None results classes states termination =
    parts_lines (observed_parts marks results) classes states termination
observed_lines marks (Some condition) results classes states termination =
    filtered_lines marks condition results classes states termination

-- ---- how the code finds them

-- the texts after one more result: its part is added, if it satisfies the condition
abbrev pub with_satisfying : (marks : List Bool) → (condition : List (List Comparison)) → (texts : List (List ℕ)) →
    FinalResult → List (List ℕ)
with_satisfying marks condition texts r =
    if satisfies condition r then with_text texts (observed_of marks r) else texts
