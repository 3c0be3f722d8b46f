-- What stands for the text of a field in JSON.
use Rattle.std.specs.Prelude.{ℕ, ◌+◌, ◌-◌, ◌*◌, ◌==◌, ◌&&◌, ◌||◌, nat_le, Bool, true, false, List, [], ◌∷◌, length}
use Rattle.std.specs.Prelude.{Option, Some, None, bytes_eq, codes, decimal, if◌then◌else◌, option_and_then, option_map}
use Rattle.std.specs.List.{list_all}
use Rattle.json.specs.Json.{Json, Items, array, item, no_items, null, number, string}
use Rattle.json.specs.Word.{after_number}
use Rattle.line_shapes.specs.Cuts.{after, upto, words_of}
use Rattle.line_shapes.specs.declared.shape.Kind.{Kind}
use Rattle.line_shapes.specs.declared.shape.Kind.TheVariants as kind

-- ---- numbers

abbrev pub is_empty : List ℕ → Bool
is_empty [] = true
is_empty (b ∷ text) = false

-- whether nothing follows
abbrev pub is_end : Option (List ℕ) → Bool
is_end None = false
is_end (Some text) = is_empty text

-- whether the text is a number of JSON
unfoldable pub is_number : List ℕ → Bool
is_number text = is_end (after_number text)

-- a number as it stands
abbrev pub number_of : List ℕ → Option Json
number_of text = if is_number text then Some (number text) else None

-- the same, or null for `-`
abbrev pub number_or_none : List ℕ → Option Json
number_or_none text = if bytes_eq text (codes "-") then Some null else number_of text

-- ---- hex digits

-- whether the byte is a lower-case hex digit
abbrev pub is_hex_digit : ℕ → Bool
is_hex_digit b = (nat_le 48 b && nat_le b 57) || (nat_le 97 b && nat_le b 102)

-- the value of a lower-case hex digit
abbrev pub hex_digit_value : ℕ → ℕ
hex_digit_value b = if nat_le b 57 then b - 48 else b - 87

-- the number whose digits are those of a number and then these
abbrev pub hex_value_after : ℕ → List ℕ → ℕ
hex_value_after n [] = n
hex_value_after n (b ∷ digits) = hex_value_after (n * 16 + hex_digit_value b) digits

-- the number that this many hex digits spell
abbrev pub hex_number : (digits : ℕ) → List ℕ → Option Json
hex_number digits text =
    if (length text == digits) && list_all is_hex_digit text
    then Some (number (decimal (hex_value_after 0 text)))
    else None

-- hex digits as they stand, or no digit for `-`
abbrev pub hex_string : List ℕ → Option Json
hex_string text =
    if bytes_eq text (codes "-") then Some (string [])
    else (if list_all is_hex_digit text then Some (string text) else None)

-- ---- a letter and a digit

abbrev pub is_code : List ℕ → Bool
is_code (letter ∷ digit ∷ []) = (nat_le 65 letter && nat_le letter 90) && (nat_le 48 digit && nat_le digit 57)
is_code other = false

-- ---- a number and a noun

-- the end of the noun after this number
abbrev pub plural : (digits : List ℕ) → List ℕ
plural digits = if bytes_eq digits (codes "1") then [] else codes "s"

-- the number, if what follows it is its noun
abbrev pub counted : (noun digits rest : List ℕ) → Option Json
counted noun digits rest =
    option_and_then (λ end. if bytes_eq end (plural digits) then number_of digits else None) (after noun rest)

-- the number before a noun
abbrev pub count_of : (noun text : List ℕ) → Option Json
count_of noun text = option_and_then (λ x. counted noun x.0 x.1) (upto noun text)

-- ---- lists

-- the array of two numbers
abbrev pub pair_of : (one other : List ℕ) → Option Json
pair_of one other =
    option_and_then (λ a. option_map (λ b. array (item a (item b no_items))) (number_of other)) (number_of one)

-- the item of a word: the array of A and B for `AxB`, and the number for any other
abbrev pub item_at : (word : List ℕ) → Option (List ℕ × List ℕ) → Option Json
item_at word None = number_of word
item_at word (Some x) = option_and_then (pair_of x.0) (after (codes "x") x.1)

abbrev pub item_of : (word : List ℕ) → Option Json
item_of word = item_at word (upto (codes "x") word)

abbrev pub items_of : (words : List (List ℕ)) → Option Items
items_of [] = Some no_items
items_of (word ∷ words) = option_and_then (λ j. option_map (item j) (items_of words)) (item_of word)

-- the array of the items of a text's words
abbrev pub list_of : List ℕ → Option Json
list_of text = option_map array (items_of (words_of text))

-- the numbers that words of eight hex digits spell
abbrev pub hex_items_of : (words : List (List ℕ)) → Option Items
hex_items_of [] = Some no_items
hex_items_of (word ∷ words) = option_and_then (λ j. option_map (item j) (hex_items_of words)) (hex_number 8 word)

-- the array of the numbers that a text's words spell
abbrev pub hex_list_of : List ℕ → Option Json
hex_list_of text = option_map array (hex_items_of (words_of text))

-- ---- a field

-- this value for no text
abbrev pub only_if_empty : Json → List ℕ → Option Json
only_if_empty j text = if is_empty text then Some j else None

-- What stands for the text of a field of this kind; none, if no field of this kind has the text.
unfoldable pub value_of : Kind → List ℕ → Option Json
value_of kind.Number text = number_of text
value_of kind.NumberOrNone text = number_or_none text
value_of kind.Word text = hex_number 8 text
value_of kind.Byte text = hex_number 2 text
value_of kind.Bytes text = hex_string text
value_of kind.Code text = if is_code text then Some (string text) else None
value_of kind.Text text = Some (string text)
value_of kind.Function text = Some (string text)
value_of (kind.Count noun) text = count_of noun.now text
value_of kind.List text = list_of text
value_of kind.Words text = hex_list_of text
value_of (kind.Is word) text = only_if_empty (string word.now) text
value_of kind.Zero text = only_if_empty (number (decimal 0)) text
