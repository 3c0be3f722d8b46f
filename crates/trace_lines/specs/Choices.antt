-- Choices of lines: which lines they take, and chosen numbers that are out of range.
use Rattle.std.specs.Prelude.{ℕ, Bool, true, false, not, ◌==◌, ◌&&◌, Option, Some, None, nat_le, if◌then◌else◌}
use Rattle.std.specs.Option.{option_or}
use Rattle.trace_lines.specs.declared.choice.Choice.{Choice}
use Rattle.trace_lines.specs.declared.unknown.Unknown.{Unknown}
use Rattle.trace_lines.specs.declared.unknown.Unknown.TheVariants.{Processor, Word}

-- ---- lines that are taken

-- whether a line's number, if it has one, is the chosen one; true if none is chosen
abbrev pub is_chosen : (chosen there : Option ℕ) → Bool
is_chosen None there = true
is_chosen (Some n) None = false
is_chosen (Some n) (Some m) = n == m

-- whether a number is at least the first that is chosen
abbrev pub is_from : (first : Option ℕ) → (number : ℕ) → Bool
is_from None number = true
is_from (Some first) number = nat_le first number

-- whether it is at most the last
abbrev pub is_up_to : (last : Option ℕ) → (number : ℕ) → Bool
is_up_to None number = true
is_up_to (Some last) number = nat_le number last

-- whether a choice has the line of this number in its range, which includes both ends
abbrev pub is_in_range : Choice → (number : ℕ) → Bool
is_in_range choice number = is_from choice.from number && is_up_to choice.to number

-- whether a choice takes the line of an order with this number, of this processor, that is about this shared word; such
-- a line is not one of the network
unfoldable pub takes : Choice → (number : ℕ) → (processor word : Option ℕ) → Bool
takes choice number processor word = not choice.network
    && (is_in_range choice number && (is_chosen choice.processor processor && is_chosen choice.word word))

-- ---- numbers out of range

-- the chosen processor, if it is not among this many, numbered from 0
abbrev pub unknown_processor : Option ℕ → (processors : ℕ) → Option Unknown
unknown_processor None processors = None
unknown_processor (Some number) processors = if nat_le processors number then Some (Processor number processors)
    else None

abbrev pub unknown_word : Option ℕ → (words : ℕ) → Option Unknown
unknown_word None words = None
unknown_word (Some number) words = if nat_le words number then Some (Word number words) else None

-- the number in a choice that is out of range on a machine of this many processors and shared words; of two, the
-- processor's
abbrev pub unknown_of : Choice → (processors words : ℕ) → Option Unknown
unknown_of choice processors words =
    option_or (unknown_processor choice.processor processors) (unknown_word choice.word words)
