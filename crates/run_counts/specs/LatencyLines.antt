-- The lines of the latencies.
use Rattle.std.specs.Prelude.{ℕ, zero, suc, ◌+◌, ◌*◌, ◌/◌, ◌%◌, ◌^◌, ◌==◌, min, max, Bool, List, [], ◌++◌, codes}
use Rattle.std.specs.Prelude.{count_by, fold, length, slice_index, sum, if◌then◌else◌}
use Rattle.std.specs.Fmt.{decimal}
use Rattle.run_counts.specs.Latencies.{LatencyState, sample_at}
use Rattle.run_counts.specs.Lines.{first_lines, line_feed, size_text}

-- ---- numbers

-- the least of these numbers, of which there are some
unfoldable pub least : List ℕ → ℕ
least xs = fold (λ n x. min n x) (slice_index xs 0) xs

-- the greatest of them
unfoldable pub greatest : List ℕ → ℕ
greatest xs = fold (λ n x. max n x) 0 xs

-- the hundredths of the mean of this many numbers, rounded down, without its whole ones
abbrev pub hundredths : (total count : ℕ) → ℕ
hundredths total count = ((total % count) * 100) / count

-- the mean of these latencies in hundredths of a round, rounded down; 0 if there are none
unfoldable pub mean_of : List ℕ → ℕ
mean_of xs = if length xs == 0 then 0 else (sum xs / length xs) * 100 + hundredths (sum xs) (length xs)

-- whether a latency is at least this power of 2, and below the next
abbrev pub is_of_power : (power latency : ℕ) → Bool
is_of_power p x = (x / 2 ^ p) == 1

-- ---- one line

-- ` references N least N`
unfoldable pub least_text : (count low : ℕ) → List ℕ
least_text count low = codes " references " ++ decimal count ++ codes " least " ++ decimal low

-- ` mean N.NN`, rounded down
unfoldable pub mean_text : (total count : ℕ) → List ℕ
mean_text total count =
    codes " mean " ++ decimal (total / count) ++ codes "."
    ++ decimal (hundredths total count / 10) ++ decimal (hundredths total count % 10)

-- ` LOWxCOUNT` for each LOW of the first powers of 2, if there are latencies from LOW to below twice LOW
unfoldable pub powers_text : List ℕ → (powers : ℕ) → List ℕ
powers_text xs zero = []
powers_text xs (suc p) = powers_text xs p ++ size_text (2 ^ p) (count_by (is_of_power p) xs)

-- ` greatest N rounds LOWxCOUNT ..`
unfoldable pub histogram_text : List ℕ → List ℕ
histogram_text xs =
    codes " greatest " ++ decimal (greatest xs) ++ codes " rounds" ++ powers_text xs 64 ++ line_feed

-- ` references N least N mean N.NN greatest N rounds LOWxCOUNT ..`
unfoldable pub numbers_text : List ℕ → List ℕ
numbers_text xs = least_text (length xs) (least xs) ++ mean_text (sum xs) (length xs) ++ histogram_text xs

-- `latency SUBJECT N references N ..`
unfoldable pub latency_line : (subject : List ℕ) → (number : ℕ) → List ℕ → List ℕ
latency_line subject number xs = codes "latency " ++ subject ++ codes " " ++ decimal number ++ numbers_text xs

-- ---- all lines

-- `latency all references N ..`, if there are any latencies
abbrev pub all_line : List ℕ → List ℕ
all_line xs = if length xs == 0 then [] else codes "latency all" ++ numbers_text xs

-- the line of a subject, if it has latencies
abbrev pub subject_line : (subject : List ℕ) → (number : ℕ) → List ℕ → List ℕ
subject_line subject number xs = if length xs == 0 then [] else latency_line subject number xs

-- the line of the latencies at a place
abbrev pub sample_line : (subject : List ℕ) → List (List ℕ) → (number : ℕ) → List ℕ
sample_line subject samples number = subject_line subject number (sample_at samples number)

-- the lines of all places
abbrev pub sample_lines : (subject : List ℕ) → List (List ℕ) → List ℕ
sample_lines subject samples = first_lines (sample_line subject samples) (length samples)

-- the line of all references, those of each processor, and then those of each shared word
unfoldable pub latency_lines : LatencyState → List ℕ
latency_lines t = all_line t.all ++ sample_lines (codes "processor") t.processors ++ sample_lines (codes "word") t.words
