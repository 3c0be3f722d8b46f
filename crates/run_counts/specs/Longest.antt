-- The most messages that one list of a stage held at once.
use Rattle.std.specs.Prelude.{ℕ, List, replicate, slice_index, slice_set}
use Rattle.run_counts.specs.declared.longest.Held.{Held}
use Rattle.run_counts.specs.declared.longest.Held.TheVariants.{Requests, Records, Replies}
use Rattle.run_counts.specs.declared.longest.Longest.{Longest}

-- all numbers 0, as before the first step
abbrev pub no_longest : Longest
no_longest = record { requests = replicate 6 0; records = replicate 6 0; replies = replicate 6 0 }

-- the numbers for all stages
abbrev pub of_held : Longest → Held → List ℕ
of_held t Requests = t.requests
of_held t Records = t.records
of_held t Replies = t.replies

-- the number for one stage
abbrev pub at_stage : Longest → Held → (stage : ℕ) → ℕ
at_stage t held s = slice_index (of_held t held) s

-- the numbers with another one for one stage
abbrev pub with_longest : Longest → Held → (stage most : ℕ) → Longest
with_longest t Requests s n = record { requests = slice_set t.requests s n; records = t.records; replies = t.replies }
with_longest t Records s n = record { requests = t.requests; records = slice_set t.records s n; replies = t.replies }
with_longest t Replies s n = record { requests = t.requests; records = t.records; replies = slice_set t.replies s n }
