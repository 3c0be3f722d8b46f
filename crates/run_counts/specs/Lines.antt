-- The lines of the counts.
use Rattle.std.specs.Prelude.{ℕ, zero, suc, ◌+◌, ◌*◌, ◌^◌, ◌==◌, List, [], ◌∷◌, ◌++◌, codes, slice_index, if◌then◌else◌}
use Rattle.std.specs.Fmt.{decimal}
use Rattle.run_counts.specs.Counts.{CountsState}
use Rattle.run_counts.specs.Longest.{at_stage}
use Rattle.run_counts.specs.declared.longest.Held.TheVariants.{Requests, Records, Replies}
use Rattle.run_counts.specs.declared.longest.Longest.{Longest}

-- the end of a line
abbrev pub line_feed : List ℕ
line_feed = 10 ∷ []

-- ` WORD N`
abbrev pub count_text : (word : List ℕ) → List ℕ → (place : ℕ) → List ℕ
count_text word counts place = word ++ decimal (slice_index counts place)

-- ` serve N down N poke N rounds N`
unfoldable pub rest_of_total : CountsState → (rounds : ℕ) → List ℕ
rest_of_total t rounds =
    count_text (codes " serve ") t.kinds 2 ++ count_text (codes " down ") t.kinds 3
    ++ count_text (codes " poke ") t.kinds 4
    ++ codes " rounds " ++ decimal rounds ++ line_feed

-- `steps N turns N up N serve N down N poke N rounds N`
unfoldable pub total_line : CountsState → (rounds : ℕ) → List ℕ
total_line t rounds =
    codes "steps " ++ decimal t.observed ++ count_text (codes " turns ") t.kinds 0
    ++ count_text (codes " up ") t.kinds 1 ++ rest_of_total t rounds

-- ` requests N records N replies N`: the most that one list of the stage held at once
unfoldable pub longest_text : Longest → (stage : ℕ) → List ℕ
longest_text t s =
    codes " requests " ++ decimal (at_stage t Requests s) ++ codes " records " ++ decimal (at_stage t Records s)
    ++ codes " replies " ++ decimal (at_stage t Replies s) ++ line_feed

-- `stage S up N combined N down N split N requests N records N replies N`
unfoldable pub stage_line : CountsState → Longest → (stage : ℕ) → List ℕ
stage_line t longest s =
    codes "stage " ++ decimal s ++ count_text (codes " up ") t.moved s ++ count_text (codes " combined ") t.combined s
    ++ count_text (codes " down ") t.returned s ++ count_text (codes " split ") t.split s ++ longest_text longest s

-- ` SIZExCOUNT` if groups of this size were served
abbrev pub size_text : (size count : ℕ) → List ℕ
size_text size count = if count == 0 then [] else codes " " ++ decimal size ++ codes "x" ++ decimal count

-- the groups of fewer than this many processors at a module, the smallest first
unfoldable pub sizes_text : List ℕ → (at_module sizes : ℕ) → List ℕ
sizes_text groups m zero = []
sizes_text groups m (suc size) = sizes_text groups m size ++ size_text size (slice_index groups (m * 65 + size))

-- all groups at a module
unfoldable pub module_sizes : List ℕ → (at_module : ℕ) → List ℕ
module_sizes groups m = sizes_text groups m 65

-- `module M serves N SIZExCOUNT ..`
unfoldable pub module_line : CountsState → (at_module : ℕ) → List ℕ
module_line t m = codes "module " ++ decimal m ++ count_text (codes " serves ") t.served m ++ module_sizes t.groups m
    ++ line_feed

-- `processor P turns N retired N`
unfoldable pub processor_line : CountsState → (processor : ℕ) → List ℕ
processor_line t p = codes "processor " ++ decimal p ++ count_text (codes " turns ") t.turns p
    ++ count_text (codes " retired ") t.retired p ++ line_feed

-- the lines of all numbers below a count
abbrev pub first_lines : (line : ℕ → List ℕ) → (count : ℕ) → List ℕ
first_lines line zero = []
first_lines line (suc n) = first_lines line n ++ line n

-- all lines for a machine of `2^k` processors
unfoldable pub lines_of : (k : ℕ) → CountsState → Longest → (rounds : ℕ) → List ℕ
lines_of k t longest rounds =
    total_line t rounds ++ first_lines (stage_line t longest) k ++ first_lines (module_line t) (2 ^ k)
    ++ first_lines (processor_line t) (2 ^ k)
