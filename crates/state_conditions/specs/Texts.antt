-- The texts of conditions: CONDITION is CONJUNCTION { "|" CONJUNCTION }, CONJUNCTION is PART { "&" PART }, and a part
-- is a list of words with blanks between them. The symbols of a file, if there is one, are names of addresses.
use Rattle.std.specs.Prelude.{ℕ, ◌+◌, ◌-◌, ◌/◌, ◌%◌, ◌^◌, ◌==◌, ◌&&◌, nat_le, nat_lt, not, Bool, List, [], ◌∷◌}
use Rattle.std.specs.Prelude.{Option, Some, None, bytes_eq, codes, filter, length, if◌then◌else◌, option_and_then}
use Rattle.std.specs.Prelude.{find, is_none, option_map}
use Rattle.std.specs.Char.{digit_value}
use Rattle.std.specs.Option.{option_or}
use Rattle.std.specs.List.{after_first, before_first, list_all, position_or_len, slice_split}
use Rattle.std.specs.Str.Parse.{digits_value, without_leading_plus}
use Rattle.symbol_table.specs.Rows.{SymbolRow, address_of}
use Rattle.state_conditions.specs.declared.condition.Comparison.{Comparison}
use Rattle.state_conditions.specs.declared.condition.Group.TheVariants as group
use Rattle.state_conditions.specs.declared.condition.Relation.{Relation}
use Rattle.state_conditions.specs.declared.condition.Relation.TheVariants as relation
use Rattle.state_conditions.specs.declared.condition.Subject.{Subject}
use Rattle.state_conditions.specs.declared.condition.Subject.TheVariants as subject

-- ---- words

-- the words of a text: what stands between blanks (32), unless it is empty
abbrev pub words_of : (text : List ℕ) → List (List ℕ)
words_of text = filter (λ word. not (length word == 0)) (slice_split (λ b. b == 32) text)

-- ---- numbers

-- whether a text has digits of the radix only, and one at least
abbrev pub is_numeral : (radix : ℕ) → (digits : List ℕ) → Bool
is_numeral radix digits = nat_lt 0 (length digits) && list_all (λ b. nat_lt (digit_value b) radix) digits

-- the number that digits spell, if it is below 2^32
abbrev pub value_of_digits : (radix : ℕ) → (digits : List ℕ) → Option ℕ
value_of_digits radix digits =
    if is_numeral radix digits && nat_lt (digits_value radix digits) (2 ^ 32) then Some (digits_value radix digits)
    else None

-- the same, with a plus before the digits or none, as in any other option
unfoldable pub numeral : (radix : ℕ) → (text : List ℕ) → Option ℕ
numeral radix text = value_of_digits radix (without_leading_plus text)

-- whether the text lacks the byte
abbrev pub lacks : (byte : ℕ) → (text : List ℕ) → Bool
lacks byte text = position_or_len (λ b. b == byte) text == length text

-- a number in decimal digits, or in hex digits after `0x` (120 is `x`)
abbrev pub number_in : (text : List ℕ) → Option ℕ
number_in text =
    if lacks 120 text then numeral 10 text
    else (if bytes_eq (before_first (λ b. b == 120) text) (codes "0")
    then numeral 16 (after_first (λ b. b == 120) text) else None)

-- the range from one number to another that is not less
abbrev pub range_of : (first last : Option ℕ) → Option (ℕ × ℕ)
range_of first last =
    option_and_then (λ a. option_and_then (λ b. if nat_le a b then Some (a, b) else None) last) first

-- ---- names

-- the address of a name among the symbols of a file, if there is one
abbrev pub address_in : (names : Option (List SymbolRow)) → (name : List ℕ) → Option ℕ
address_in None name = None
address_in (Some rows) name = address_of rows name

-- the sum of an address and a distance, if there are both, and it is below 2^32
abbrev pub sum_of : (address distance : Option ℕ) → Option ℕ
sum_of address distance =
    option_and_then (λ a. option_and_then (λ d.
    if nat_lt (a + d) (2 ^ 32) then Some (a + d) else None) distance) address

-- the address of a name, or of a name and a number of bytes after it, with a plus (43) between them
abbrev pub named_address : (names : Option (List SymbolRow)) → (text : List ℕ) → Option ℕ
named_address names text =
    if lacks 43 text then address_in names text
    else sum_of (address_in names (before_first (λ b. b == 43) text)) (number_in (after_first (λ b. b == 43) text))

-- an address: a number, or else that of a name
abbrev pub address_at : (names : Option (List SymbolRow)) → (text : List ℕ) → Option ℕ
address_at names text = option_or (number_in text) (named_address names text)

-- the shared word at an address: shared words begin at 2^31, and each has four bytes
abbrev pub shared_word_at : (address : ℕ) → Option ℕ
shared_word_at address =
    if nat_le (2 ^ 31) address && address % 4 == 0 then Some ((address - 2 ^ 31) / 4) else None

-- a shared word: its number, or else that of the word at the address of a name
abbrev pub word_number : (names : Option (List SymbolRow)) → (text : List ℕ) → Option ℕ
word_number names text = option_or (number_in text) (option_and_then shared_word_at (named_address names text))

-- a range: two addresses with a hyphen (45) between them, or one address
abbrev pub range_in : (names : Option (List SymbolRow)) → (text : List ℕ) → Option (ℕ × ℕ)
range_in names text =
    if lacks 45 text then option_map (λ n. (n, n)) (address_at names text)
    else range_of (address_at names (before_first (λ b. b == 45) text))
    (address_at names (after_first (λ b. b == 45) text))

-- ---- parts

abbrev pub relation_in : (text : List ℕ) → Option Relation
relation_in text =
    if bytes_eq text (codes "==") then Some relation.Equal
    else (if bytes_eq text (codes "!=") then Some relation.NotEqual
    else (if bytes_eq text (codes "<") then Some relation.Less
    else (if bytes_eq text (codes "<=") then Some relation.AtMost
    else (if bytes_eq text (codes ">") then Some relation.Greater
    else (if bytes_eq text (codes ">=") then Some relation.AtLeast else None)))))

abbrev pub status_subject : (text : List ℕ) → Option Subject
status_subject text =
    if bytes_eq text (codes "running") then Some (subject.Count group.Running)
    else (if bytes_eq text (codes "halted") then Some (subject.Count group.Halted)
    else (if bytes_eq text (codes "faulted") then Some (subject.Count group.Faulted) else None))

-- a shared word, of this many
abbrev pub word_subject : (names : Option (List SymbolRow)) → (shared_words : ℕ) → (text : List ℕ) → Option Subject
word_subject names shared_words text =
    option_and_then (λ n. if nat_lt n shared_words then Some (subject.Word n) else None) (word_number names text)

-- the processors at an address or in a range of addresses
abbrev pub place_subject : (names : Option (List SymbolRow)) → (text : List ℕ) → Option Subject
place_subject names text = option_map (λ range. subject.Count (group.At range.0 range.1)) (range_in names text)

abbrev pub subject_of : (names : Option (List SymbolRow)) → (shared_words : ℕ) → (kind object : List ℕ) → Option Subject
subject_of names shared_words kind object =
    if bytes_eq kind (codes "word") then word_subject names shared_words object
    else (if bytes_eq kind (codes "at") then place_subject names object else None)

abbrev pub comparison_with : Subject → Relation → (value : ℕ) → Comparison
comparison_with s r value = record { subject = s; relation = r; value = value }

-- a subject, the text of a relation, and that of a value
abbrev pub comparison_of : Option Subject → (sign value : List ℕ) → Option Comparison
comparison_of what sign value =
    option_and_then (λ s. option_and_then (λ r.
    option_map (λ n. comparison_with s r n) (number_in value)) (relation_in sign)) what

-- `any fault`: more than 0 processors were stopped by a fault
abbrev pub any_part : (first second : List ℕ) → Option Comparison
any_part first second =
    if bytes_eq first (codes "any") && bytes_eq second (codes "fault")
    then Some (comparison_with (subject.Count group.Faulted) relation.Greater 0)
    else None

-- a part: `any fault`; `running RELATION NUMBER`, or the same with `halted` or `faulted`; `word N RELATION NUMBER`; or
-- `at PLACE RELATION NUMBER`
abbrev pub part_in : (names : Option (List SymbolRow)) → (shared_words : ℕ) → (words : List (List ℕ)) →
    Option Comparison
part_in names shared_words (first ∷ second ∷ []) = any_part first second
part_in names shared_words (first ∷ second ∷ third ∷ []) = comparison_of (status_subject first) second third
part_in names shared_words (first ∷ second ∷ third ∷ fourth ∷ []) =
    comparison_of (subject_of names shared_words first second) third fourth
part_in names shared_words words = None

-- ---- conditions

-- what is read of each item of a list, if something is read of all
abbrev pub all_read : {X Y : Type 0} → (X → Option Y) → List X → Option (List Y)
all_read read [] = Some []
all_read read (x ∷ xs) = option_and_then (λ y. option_map (λ ys. y ∷ ys) (all_read read xs)) (read x)

-- parts with `&` (38) between them
abbrev pub conjunction_in : (names : Option (List SymbolRow)) → (shared_words : ℕ) → (text : List ℕ) →
    Option (List Comparison)
conjunction_in names shared_words text =
    all_read (λ part. part_in names shared_words (words_of part)) (slice_split (λ b. b == 38) text)

-- alternatives with `|` (124) between them
abbrev pub condition_in : (names : Option (List SymbolRow)) → (shared_words : ℕ) → (text : List ℕ) →
    Option (List (List Comparison))
condition_in names shared_words text =
    all_read (conjunction_in names shared_words) (slice_split (λ b. b == 124) text)

-- ---- texts that are no condition

-- whether a text is no part of a condition
abbrev pub is_wrong : (names : Option (List SymbolRow)) → (shared_words : ℕ) → (part : List ℕ) → Bool
is_wrong names shared_words part = is_none (part_in names shared_words (words_of part))

-- the first part of an alternative that is none of a condition
abbrev pub wrong_part_of : (names : Option (List SymbolRow)) → (shared_words : ℕ) → (alternative : List ℕ) →
    Option (List ℕ)
wrong_part_of names shared_words alternative =
    find (is_wrong names shared_words) (slice_split (λ b. b == 38) alternative)

-- the first such part of these alternatives
abbrev pub first_wrong_part : (names : Option (List SymbolRow)) → (shared_words : ℕ) → List (List ℕ) →
    Option (List ℕ)
first_wrong_part names shared_words [] = None
first_wrong_part names shared_words (x ∷ xs) =
    option_or (wrong_part_of names shared_words x) (first_wrong_part names shared_words xs)

-- the first such part of a text
abbrev pub wrong_part_in : (names : Option (List SymbolRow)) → (shared_words : ℕ) → (text : List ℕ) →
    Option (List ℕ)
wrong_part_in names shared_words text = first_wrong_part names shared_words (slice_split (λ b. b == 124) text)
