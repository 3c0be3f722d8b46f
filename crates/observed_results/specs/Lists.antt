-- Lists of shared words, such as `0-3,8`, and the sets that they name.
use Rattle.std.specs.Prelude.{ℕ, ◌<◌, ◌≤◌, ◌==◌, Bool, true, false, List, All, Contains, length, slice_index_or}
use Rattle.std.specs.List.{after_first, before_first, position_or_len, slice_split}
use Rattle.std.specs.Str.Parse.{IsNumeral, digits_value, without_leading_plus}

-- ---- a set of words

-- whether the set has the word, given a mark for each word up to some; it has no word after these
abbrev pub observes : (marks : List Bool) → (word : ℕ) → Bool
observes marks word = slice_index_or marks word false

-- ---- the text of a list

-- the number that the text spells, as for any other option: in decimal digits, with a plus before them or none
abbrev pub number_of : (text : List ℕ) → ℕ
number_of text = digits_value 10 (without_leading_plus text)

-- The text spells the number of one of this many shared words.
pub record IsWord (words : ℕ) (text : List ℕ) : Type 0 where
  pub numeral : IsNumeral 10 (without_leading_plus text)
  pub few : number_of text < words

-- the texts between the commas (44) of a list
abbrev pub items_of : (list : List ℕ) → List (List ℕ)
items_of list = slice_split (λ b. b == 44) list

-- the text before the first hyphen (45), or the whole text if it has none
abbrev pub front_of : (item : List ℕ) → List ℕ
front_of item = before_first (λ b. b == 45) item

-- the text after the first hyphen
abbrev pub back_of : (item : List ℕ) → List ℕ
back_of item = after_first (λ b. b == 45) item

-- whether the text has no hyphen
abbrev pub is_single : (item : List ℕ) → Bool
is_single item = position_or_len (λ b. b == 45) item == length item

-- The text is the number of one of this many words, or a range: the numbers of its first and its last word with a
-- hyphen between them.
abbrev pub IsItemAs : (words : ℕ) → (is_single : Bool) → (item : List ℕ) → Type 0
IsItemAs words true item = IsWord words item
IsItemAs words false item =
    IsWord words (front_of item) × IsWord words (back_of item)
    × (number_of (front_of item) ≤ number_of (back_of item))

abbrev pub IsItem : (words : ℕ) → (item : List ℕ) → Type 0
IsItem words item = IsItemAs words (is_single item) item

-- the first word of a range, and the last
abbrev pub first_as : (is_single : Bool) → (item : List ℕ) → ℕ
first_as true item = number_of item
first_as false item = number_of (front_of item)

abbrev pub last_as : (is_single : Bool) → (item : List ℕ) → ℕ
last_as true item = number_of item
last_as false item = number_of (back_of item)

-- The number or range names the word.
abbrev pub Names : (item : List ℕ) → (word : ℕ) → Type 0
Names item word = (first_as (is_single item) item ≤ word) × (word ≤ last_as (is_single item) item)

-- The text is a list of numbers and ranges of this many words, with commas between them.
abbrev pub IsWordList : (words : ℕ) → (list : List ℕ) → Type 0
IsWordList words list = All (IsItem words) (items_of list)

-- One of the items of the list names the word.
abbrev pub Lists : (list : List ℕ) → (word : ℕ) → Type 0
Lists list word = (item : List ℕ) × Contains (items_of list) item × Names item word
