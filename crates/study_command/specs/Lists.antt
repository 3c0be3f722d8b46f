-- Lists of numbers, such as `0..3,6`.
use Rattle.std.specs.Prelude.{◌≡◌, ℕ, ◌+◌, ◌-◌, ◌<◌, ◌≤◌, ◌==◌, Bool, true, false, List, [], All, flat_map, length, map}
use Rattle.std.specs.Prelude.{slice_index}
use Rattle.std.specs.List.{after_first, before_first, position_or_len, range_with_len, slice_split}
use Rattle.std.specs.Str.Parse.{IsNumeral, digits_value, without_leading_plus}

-- the number that the text spells, as for any other option: in decimal digits, with a plus before them or none
abbrev pub number_of : (text : List ℕ) → ℕ
number_of text = digits_value 10 (without_leading_plus text)

-- The text spells a number from `low` to `high`.
pub record IsNumber (low high : ℕ) (text : List ℕ) : Type 0 where
  pub numeral : IsNumeral 10 (without_leading_plus text)
  pub least : low ≤ number_of text
  pub most : number_of text ≤ high

-- the texts between the commas (44) of a list
abbrev pub items_of : (list : List ℕ) → List (List ℕ)
items_of list = slice_split (λ b. b == 44) list

-- the text before the first dot (46), or the whole text if it has none
abbrev pub front_of : (text : List ℕ) → List ℕ
front_of text = before_first (λ b. b == 46) text

-- the text after the first dot
abbrev pub back_of : (text : List ℕ) → List ℕ
back_of text = after_first (λ b. b == 46) text

-- whether the text has no dot
abbrev pub is_single : (item : List ℕ) → Bool
is_single item = position_or_len (λ b. b == 46) item == length item

-- The text before a dot, and the rest after it, are a range: a number, a second dot and a number not below the first.
pub record IsRange (low high : ℕ) (front rest : List ℕ) : Type 0 where
  pub first : IsNumber low high front
  pub dotted : position_or_len (λ b. b == 46) rest < length rest
  pub nothing_between : front_of rest ≡ []
  pub last : IsNumber low high (back_of rest)
  pub order : number_of front ≤ number_of (back_of rest)

-- The item is a number from `low` to `high`, or a range of them.
abbrev pub IsItemAs : (low high : ℕ) → (is_single : Bool) → (item : List ℕ) → Type 0
IsItemAs low high true item = IsNumber low high item
IsItemAs low high false item = IsRange low high (front_of item) (back_of item)

abbrev pub IsItem : (low high : ℕ) → (item : List ℕ) → Type 0
IsItem low high item = IsItemAs low high (is_single item) item

-- the first number of an item, and the last
abbrev pub first_as : (is_single : Bool) → (item : List ℕ) → ℕ
first_as true item = number_of item
first_as false item = number_of (front_of item)

abbrev pub last_as : (is_single : Bool) → (item : List ℕ) → ℕ
last_as true item = number_of item
last_as false item = number_of (back_of (back_of item))

-- the numbers from the first to the last
abbrev pub numbers_from : (first last : ℕ) → List ℕ
numbers_from first last = map (λ n. first + n) (range_with_len 0 (last + 1 - first))

-- the numbers that an item names, and those that a list names, in their order
abbrev pub numbers_of_item : (item : List ℕ) → List ℕ
numbers_of_item item = numbers_from (first_as (is_single item) item) (last_as (is_single item) item)

abbrev pub numbers_of : (list : List ℕ) → List ℕ
numbers_of list = flat_map numbers_of_item (items_of list)

-- Each number is less than the next.
abbrev pub Ascend : List ℕ → Type 0
Ascend numbers = (place : ℕ) → place + 1 < length numbers → slice_index numbers place < slice_index numbers (place + 1)

-- The text has numbers from `low` to `high` and ranges of them with commas between them. They name these numbers, in
-- this order, each greater than those before it.
pub record IsSizeList (low high : ℕ) (list numbers : List ℕ) : Type 0 where
  pub items : All (IsItem low high) (items_of list)
  pub all : numbers ≡ numbers_of list
  pub order : Ascend numbers
