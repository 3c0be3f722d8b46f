-- What a text says: the sizes of a network in its first line with words, and a step in each other one.
use Rattle.std.specs.Prelude.{ℕ, ◌+◌, ◌&&◌, Bool, nat_le, nat_lt, List, [], ◌∷◌, ◌++◌, length, codes, Option}
use Rattle.std.specs.Prelude.{Some, None, ok_or, Result, Ok, Err, if◌then◌else◌}
use Rattle.std.specs.Str.{bytes_eq}
use Rattle.flat_machine.specs.declared.config.Config.{Config}
use Rattle.flat_machine.specs.declared.poke.Poke.TheVariants.{Register, Local, Shared}
use Rattle.steps.specs.declared.step.Step.{Step}
use Rattle.steps.specs.declared.step.Step.TheVariants as step
use Rattle.asm_lines.specs.Names.{register_of}
use Rattle.asm_lines.specs.Text.{parts_at}
use Rattle.trace_file.specs.Records.{has_record}
use Rattle.trace_file.specs.Traces.{TraceContents, trace_of}
use Rattle.trace_text.specs.declared.fault.TextFault.{TextFault}
use Rattle.trace_text.specs.declared.fault.TextFault.TheVariants as fault
use Rattle.trace_text.specs.declared.fault.Mistake.{Mistake}
use Rattle.trace_text.specs.Words.{words_of, number_in, hex_word_in, hex_byte_in, ◌>>=◌}

-- ---- a step

-- a register by its name, or `pc`, which has number 32
unfoldable pub register_in : List ℕ → Option ℕ
register_in word = if bytes_eq word (codes "pc") then Some 32 else register_of word

-- a byte at this address, or, if the place is no address, a register with its value
abbrev pub poke_at : (processor : ℕ) → (address : Option ℕ) → (place value : List ℕ) → Result Step TextFault
poke_at p (Some address) place value = ok_or (hex_byte_in value) fault.Form >>= λ byte.
    Ok (step.Poke (Local p address byte))
poke_at p None place value = ok_or (register_in place) fault.Form >>= λ register.
    ok_or (hex_word_in value) fault.Form >>= λ word.
    Ok (step.Poke (Register p register word))

-- `poke - AAAAAAAA BB`, `poke P AAAAAAAA BB`, `poke P xN VVVVVVVV` or `poke P pc VVVVVVVV`
unfoldable pub poke_of : (owner place value : List ℕ) → Result Step TextFault
poke_of owner place value =
    if bytes_eq owner (codes "-")
    then (ok_or (hex_word_in place) fault.Form >>= λ address.
    ok_or (hex_byte_in value) fault.Form >>= λ byte.
    Ok (step.Poke (Shared address byte)))
    else (number_in owner >>= λ p. poke_at p (hex_word_in place) place value)

-- `turn P` or `serve M`
unfoldable pub turn_or_service_of : (name number : List ℕ) → Result Step TextFault
turn_or_service_of name number =
    if bytes_eq name (codes "turn") then (number_in number >>= λ p. Ok (step.Turn p)) else
    if bytes_eq name (codes "serve") then (number_in number >>= λ m. Ok (step.Serve m)) else
    Err fault.Form

-- `up S W` or `down S W`
unfoldable pub move_of : (name stage wire : List ℕ) → Result Step TextFault
move_of name stage wire =
    if bytes_eq name (codes "up") then (number_in stage >>= λ s. number_in wire >>= λ w. Ok (step.Up s w)) else
    if bytes_eq name (codes "down") then (number_in stage >>= λ s. number_in wire >>= λ w. Ok (step.Down s w)) else
    Err fault.Form

-- the step that words say; the machine need not have its places
abbrev pub step_of : (words : List (List ℕ)) → Result Step TextFault
step_of (name ∷ number ∷ []) = turn_or_service_of name number
step_of (name ∷ stage ∷ wire ∷ []) = move_of name stage wire
step_of (name ∷ owner ∷ place ∷ value ∷ []) =
    if bytes_eq name (codes "poke") then poke_of owner place value else Err fault.Form
step_of other = Err fault.Form

-- ---- the sizes

-- whether the sizes of a network are in their limits
abbrev pub are_sizes : (k c b r : ℕ) → Bool
are_sizes k c b r = nat_le k 6 && nat_le 2 c && nat_le c 16 && nat_le b 16 && nat_le 1 r && nat_le r 3 && nat_lt r c

-- the smallest machine with a network of these sizes, if they are in their limits; a trace has no number of words
unfoldable pub config_in : (k c b r : ℕ) → Result Config TextFault
config_in k c b r =
    if are_sizes k c b r then Ok (record { k = k; c = c; b = b; r = r; shared_words = 1 }) else Err fault.Sizes

abbrev pub size_or_fault : Result ℕ TextFault → Result ℕ TextFault
size_or_fault (Ok n) = Ok n
size_or_fault (Err e) = Err fault.Sizes

-- the size that a word says after a name, which has to be this one
unfoldable pub size_in : (wanted name number : List ℕ) → Result ℕ TextFault
size_in wanted name number = if bytes_eq name wanted then size_or_fault (number_in number) else Err fault.Sizes

-- the sizes that words say after their names: k, c, b and r
unfoldable pub sizes_in : (k_name k c_name c b_name b r_name r : List ℕ) → Result Config TextFault
sizes_in k_name k c_name c b_name b r_name r =
    size_in (codes "k") k_name k >>= λ k. size_in (codes "c") c_name c >>= λ c. size_in (codes "b") b_name b >>= λ b.
    size_in (codes "r") r_name r >>= λ r.
    config_in k c b r

-- `machine k K c C b B r R`
abbrev pub sizes_of : (words : List (List ℕ)) → Result Config TextFault
sizes_of (machine ∷ k_name ∷ k ∷ c_name ∷ c ∷ b_name ∷ b ∷ r_name ∷ r ∷ []) =
    if bytes_eq machine (codes "machine") then sizes_in k_name k c_name c b_name b r_name r else Err fault.Sizes
sizes_of other = Err fault.Sizes

-- ---- lines

-- a trace with one more step
abbrev pub with_step : TraceContents → Step → TraceContents
with_step t s = record { k = t.k; c = t.c; b = t.b; r = t.r; steps = t.steps ++ s ∷ [] }

-- a trace with the step that words say, if the step has a record and the trace has room for it
abbrev pub with_step_of : TraceContents → Result Step TextFault → Result TraceContents TextFault
with_step_of t (Err e) = Err e
with_step_of t (Ok s) =
    if has_record t.k s
    then (if nat_lt (length t.steps) 4194304 then Ok (with_step t s) else Err fault.Full)
    else Err fault.Range

-- what is said after a line with these words, by what the lines before it say: nothing yet, or a trace
abbrev pub said_after : Option TraceContents → (words : List (List ℕ)) → Result (Option TraceContents) TextFault
said_after said [] = Ok said
said_after None (word ∷ words) = sizes_of (word ∷ words) >>= λ config. Ok (Some (trace_of config []))
said_after (Some t) (word ∷ words) = with_step_of t (step_of (word ∷ words)) >>= λ t. Ok (Some t)

-- ---- a text

abbrev pub mistake : (line : ℕ) → TextFault → Mistake
mistake line e = record { line = line; fault = e }

abbrev pub at_line : {A : Type 0} → (line : ℕ) → Result A TextFault → Result A Mistake
at_line line (Ok x) = Ok x
at_line line (Err e) = Err (mistake line e)

-- the trace that is said at the end of this many lines; the last of them is at fault if nothing is
abbrev pub trace_said : (count : ℕ) → Option TraceContents → Result TraceContents Mistake
trace_said count None = Err (mistake count fault.Sizes)
trace_said count (Some t) = Ok t

-- the trace that is said at the end of these lines, by what this many lines before them say, or the first mistake
abbrev pub said_from : (count : ℕ) → Option TraceContents → (lines : List (List ℕ)) → Result TraceContents Mistake
said_from count said [] = trace_said count said
said_from count said (line ∷ lines) =
    at_line (count + 1) (said_after said (words_of line)) >>= λ next. said_from (count + 1) next lines

-- the trace that a text says, or its first mistake
unfoldable pub trace_in : List ℕ → Result TraceContents Mistake
trace_in text = said_from 0 None (parts_at 10 text)
