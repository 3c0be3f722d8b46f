-- Outcomes, by which the results of two programs are compared, and the lines that say which of them one lacks.
use Rattle.std.specs.Prelude.{◌≡◌, ℕ, zero, suc, ◌==◌, Bool, not, List, [], ◌++◌, String, string_bytes, string_eq}
use Rattle.std.specs.Prelude.{Contains, bytes_eq, codes, filter, length, slice_index_or, if◌then◌else◌}
use Rattle.std.specs.Fmt.{decimal}
use Rattle.std.specs.Global.{Global}
use Rattle.std.specs.List.{list_any}
use Rattle.indexmap.specs.IndexSet.{IndexSet, contains}
use Rattle.command_io.specs.Digits.{line_feed, status_text}
use Rattle.command_io.specs.Lines.{console_text}
use Rattle.exploration.specs.local_reduction.Results.{ProcessorResult, FinalResult}
use Rattle.observed_results.specs.Lines.{counted, heading, lines_by, no_processor, observed_line, observed_of}
use Rattle.observed_results.specs.Lines.{observed_parts, with_text}

-- ---- an outcome

-- `processor P STATUS console HEX`: the line of a processor without its pc
unfoldable pub outcome_line : (number : ℕ) → ProcessorResult → List ℕ
outcome_line number p = codes "processor " ++ decimal number ++ codes " " ++ status_text p.status
    ++ codes " console " ++ console_text p.console ++ line_feed

-- these lines of the first processors
abbrev pub outcome_lines : List ProcessorResult → (count : ℕ) → List ℕ
outcome_lines processors zero = []
outcome_lines processors (suc p) = outcome_lines processors p
    ++ outcome_line p (slice_index_or processors p no_processor)

-- The outcome of a result: its observed part without each pc. Programs that do the same stop at different addresses.
abbrev pub outcome_of : (marks : List Bool) → FinalResult → List ℕ
outcome_of marks r =
    outcome_lines r.processors (length r.processors) ++ lines_by (observed_line marks) r.words (length r.words)

-- whether one of these results has the outcome
abbrev pub has_outcome : (marks : List Bool) → List FinalResult → (outcome : List ℕ) → Bool
has_outcome marks results outcome = list_any (λ r. bytes_eq (outcome_of marks r) outcome) results

-- The result has the outcome of one of these.
abbrev pub IsMatched : (marks : List Bool) → (others : List FinalResult) → FinalResult → Type 0
IsMatched marks others r = (q : FinalResult) × Contains others q × (outcome_of marks r ≡ outcome_of marks q)

-- ---- what the others lack

-- those of the results whose outcomes none of the others has
abbrev pub missing_in : (marks : List Bool) → (others results : List FinalResult) → List FinalResult
missing_in marks others results = filter (λ r. not (has_outcome marks others (outcome_of marks r))) results

-- the part at a place, numbered as a result; a part that is not chosen has no lines
abbrev pub chosen_part : (chosen : List (List ℕ)) → (place : ℕ) → (text : List ℕ) → List ℕ
chosen_part chosen place text = if list_any (bytes_eq text) chosen then heading place ++ text else []

-- the lines of those of the first parts that are chosen
abbrev pub chosen_parts : (texts chosen : List (List ℕ)) → (count : ℕ) → List ℕ
chosen_parts texts chosen zero = []
chosen_parts texts chosen (suc place) = chosen_parts texts chosen place
    ++ chosen_part chosen place (slice_index_or texts place [])

abbrev pub verb : (count : ℕ) → List ℕ
verb count = if count == 1 then codes " is" else codes " are"

-- `all 8 observed results are`, `3 of 8 observed results are not`
abbrev pub subject : (missing all : ℕ) → List ℕ
subject missing all =
    if missing == 0
    then codes "all " ++ counted all (codes "observed result") ++ verb all
    else decimal missing ++ codes " of " ++ counted all (codes "observed result") ++ verb missing ++ codes " not"

-- the same, and ` among the 12 of SPEC`
abbrev pub verdict_line : (missing all others : ℕ) → List ℕ
verdict_line missing all others =
    subject missing all ++ codes " among the " ++ decimal others ++ codes " of SPEC" ++ line_feed

-- the lines of the parts that are missing, numbered as in the list of all parts, and how many they are
abbrev pub missing_lines : (texts missing : List (List ℕ)) → (others : ℕ) → List ℕ
missing_lines texts missing others = chosen_parts texts missing (length texts)
    ++ verdict_line (length missing) (length texts) others

-- the lines for results that are compared with others: the parts of the results whose outcomes the others lack
abbrev pub comparison_lines : (marks : List Bool) → (others results : List FinalResult) → List ℕ
comparison_lines marks others results =
    missing_lines (observed_parts marks results) (observed_parts marks (missing_in marks others results))
    (length (observed_parts marks others))

-- ---- how the code keeps them

-- The set has the outcomes of these results, and no others.
abbrev pub HasOutcomes : {S : Type 0} → (marks : List Bool) → List FinalResult → IndexSet (String Global) S → Type 0
HasOutcomes marks results known =
    (key : String Global) → contains string_eq known key ≡ has_outcome marks results (string_bytes key)

-- the texts after one more result: its part is added, unless one of the others has its outcome
abbrev pub with_missing : (marks : List Bool) → (others : List FinalResult) → (texts : List (List ℕ)) → FinalResult →
    List (List ℕ)
with_missing marks others texts r =
    if has_outcome marks others (outcome_of marks r) then texts else with_text texts (observed_of marks r)
