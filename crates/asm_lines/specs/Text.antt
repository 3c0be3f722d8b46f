-- Blanks at the ends of a text, and the parts of a text around a byte.
use Rattle.std.specs.Prelude.{ℕ, ◌+◌, Bool, List, [], ◌∷◌, ◌==◌, ◌||◌, if◌then◌else◌, reverse, not}
use Rattle.std.specs.Prelude.{nat_lt, length, map, take, drop, position, Option, Some, None}
use Rattle.std.specs.List.{suffix_len, before_last, after_last, slice_split}
use Rattle.std.specs.Option.{option_map}

-- a space or a tab
abbrev pub is_blank : ℕ → Bool
is_blank b = (b == 32) || (b == 9)

-- the text without the blanks at its front
abbrev pub front_trimmed : List ℕ → List ℕ
front_trimmed [] = []
front_trimmed (b ∷ bs) = if is_blank b then front_trimmed bs else b ∷ bs

-- the text without the blanks at its ends
unfoldable pub trimmed : List ℕ → List ℕ
trimmed bs = reverse (front_trimmed (reverse (front_trimmed bs)))

-- the parts before and after the first byte that passes
unfoldable pub cut_at : (ℕ → Bool) → List ℕ → Option (List ℕ × List ℕ)
cut_at p bs = option_map (λ i. (take i bs, drop (i + 1) bs)) (position p bs)

-- the parts before and after the last byte `mark`
unfoldable pub cut_last_at : ℕ → List ℕ → Option (List ℕ × List ℕ)
cut_last_at mark bs =
    if nat_lt (suffix_len (λ b. not (b == mark)) bs) (length bs)
    then Some (before_last (λ b. b == mark) bs, after_last (λ b. b == mark) bs) else None

-- the parts between the bytes that equal `mark`
abbrev pub parts_at : ℕ → List ℕ → List (List ℕ)
parts_at mark bs = slice_split (λ b. b == mark) bs

-- the operands of a statement: the parts between the commas, without the blanks around them
unfoldable pub operands_of : List ℕ → List (List ℕ)
operands_of bs = map trimmed (parts_at 44 bs)
