-- The first item of a list and the items after it.
use Rattle.std.proofs.Common.{◌≡◌, ℕ, ◌<◌, ◌==◌, Bool, true, false, true≢false, List, [], ◌∷◌, ◌++◌, append_assoc, length, sym, ap, ap₂, ◌∙◌, subst}
use Rattle.std.specs.Prelude.{All, MatchBool, flat_map}
use Rattle.std.specs.List.{after_first, before_first, position_or_len}
use Rattle.std.proofs.lemmas.List.Elements.{All-cons, All-head, All-tail}
use Rattle.std.proofs.lemmas.List.Splits.{slice_split_first, slice_split_none}
use Rattle.std.proofs.lemmas.List.Sums.{fails_before_first}
use Rattle.study_command.specs.Lists.{IsItem, items_of, numbers_of, numbers_of_item}

-- A list is cut at its first comma.
pub cut_at_first : (list item after : List ℕ) → item ≡ before_first (λ b. b == 44) list → after ≡ after_first (λ b. b == 44) list →
    position_or_len (λ b. b == 44) list < length list → items_of list ≡ item ∷ items_of after
cut_at_first list item after front back within =
    slice_split_first (λ b. b == 44) list 0 within ∙ ap₂ (λ x y. x ∷ items_of y) (sym front) (sym back)

-- A list without a comma is one item.
pub one_item : (list : List ℕ) → position_or_len (λ b. b == 44) list ≡ length list → items_of list ≡ list ∷ []
one_item list none =
    slice_split_none (λ b. b == 44) list (λ k d within. fails_before_first (λ b. b == 44) list k d (subst (λ n. k < n) (sym none) within))

module _ (low high : ℕ) (list item : List ℕ) (others : List (List ℕ)) (cut : items_of list ≡ item ∷ others) where
  -- The first item of a list of numbers is one.
  pub first_is : All (IsItem low high) (items_of list) → IsItem low high item
  first_is all = All-head (IsItem low high) item others (subst (All (IsItem low high)) cut all)

  -- The others are, too.
  pub others_are : All (IsItem low high) (items_of list) → All (IsItem low high) others
  others_are all = All-tail (IsItem low high) item others (subst (All (IsItem low high)) cut all)

  -- If the first item and the others are items, all are.
  pub all_are : IsItem low high item → All (IsItem low high) others → All (IsItem low high) (items_of list)
  all_are one rest = subst (All (IsItem low high)) (sym cut) (All-cons (IsItem low high) item others one rest)

-- With the numbers of its first item taken, a list names those of the other items.
pub numbers_more : (list item : List ℕ) (others : List (List ℕ)) (old new : List ℕ) → items_of list ≡ item ∷ others →
    new ≡ old ++ numbers_of_item item → new ++ flat_map numbers_of_item others ≡ old ++ numbers_of list
numbers_more list item others old new cut is =
    ap (λ ns. ns ++ flat_map numbers_of_item others) is
    ∙ append_assoc old (numbers_of_item item) (flat_map numbers_of_item others)
    ∙ ap (λ (items : List (List ℕ)). old ++ flat_map numbers_of_item items) (sym cut)

-- What a call says if it returns true,
pub of_true : (A B : Type 0) (b : Bool) → b ≡ true → MatchBool b A B → A
of_true A B true e said = said
of_true A B false e said = absurd (true≢false (sym e))

-- and if it returns false.
pub of_false : (A B : Type 0) (b : Bool) → b ≡ false → MatchBool b A B → B
of_false A B true e said = absurd (true≢false e)
of_false A B false e said = said
