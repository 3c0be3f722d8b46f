-- The first item of a list and the items after it.
use Rattle.std.proofs.Common.{◌≡◌, ◌↔◌, ◌⊎◌, inl, inr, ℕ, ◌<◌, ◌==◌, List, [], ◌∷◌, length, sym, ap₂, ◌∙◌, subst, arith}
use Rattle.std.specs.Prelude.{All, Contains}
use Rattle.std.specs.List.{after_first, before_first, position_or_len}
use Rattle.std.proofs.lemmas.List.Elements.{All-cons, All-head, All-tail, Contains-append_cases, Contains-append_left}
use Rattle.std.proofs.lemmas.List.Elements.{Contains-append_right, Contains-push, Contains-push_cases}
use Rattle.std.proofs.lemmas.List.Splits.{slice_split_first, slice_split_none}
use Rattle.std.proofs.lemmas.List.Sums.{fails_before_first}
use Rattle.observed_results.specs.Lists.{IsItem, IsWordList, Lists, Names, items_of}

-- A list is cut at its first comma.
pub cut_at_first : (list item after : List ℕ) → item ≡ before_first (λ b. b == 44) list → after ≡ after_first (λ b. b == 44) list →
    position_or_len (λ b. b == 44) list < length list → items_of list ≡ item ∷ items_of after
cut_at_first list item after front back within =
    slice_split_first (λ b. b == 44) list 0 within ∙ ap₂ (λ x y. x ∷ items_of y) (sym front) (sym back)

-- A list without a comma is one item.
pub one_item : (list : List ℕ) → position_or_len (λ b. b == 44) list ≡ length list → items_of list ≡ list ∷ []
one_item list none =
    slice_split_none (λ b. b == 44) list (λ k d within. fails_before_first (λ b. b == 44) list k d (subst (λ n. k < n) (sym none) within))

module _ (list item : List ℕ) (others : List (List ℕ)) (cut : items_of list ≡ item ∷ others) where
  -- The first item of a list of words is one.
  pub first_is : (words : ℕ) → IsWordList words list → IsItem words item
  first_is words all = All-head (IsItem words) item others (subst (All (IsItem words)) cut all)

  -- The others are, too.
  pub others_are : (words : ℕ) → IsWordList words list → All (IsItem words) others
  others_are words all = All-tail (IsItem words) item others (subst (All (IsItem words)) cut all)

  -- If the first item and the others are items, they make a list of words.
  pub all_are : (words : ℕ) → IsItem words item → All (IsItem words) others → IsWordList words list
  all_are words one rest = subst (All (IsItem words)) (sym cut) (All-cons (IsItem words) item others one rest)

  named_first : (word : ℕ) → Names item word → Lists list word
  named_first word names =
      (item, subst (λ (xs : List (List ℕ)). Contains xs item) (sym cut) (Contains-append_left (item ∷ []) others item (Contains-push [] item)), names)

  named_after : (word : ℕ) (x : List ℕ) → Contains others x → Names x word → Lists list word
  named_after word x inside names =
      (x, subst (λ (xs : List (List ℕ)). Contains xs x) (sym cut) (Contains-append_right (item ∷ []) others x inside), names)

  -- The list names what its first item names, and what the others name.
  named_by : (word : ℕ) → Lists list word → Names item word ⊎ ((x : List ℕ) × Contains others x × Names x word)
  named_by word h = by (Contains-append_cases (item ∷ []) others h.0 (subst (λ (xs : List (List ℕ)). Contains xs h.0) cut h.1))
    where
      one : Contains [] h.0 ⊎ (item ≡ h.0) → Names item word
      one (inl none) = let l = none.1 in absurd (omega (arith, l))
      one (inr same) = subst (λ x. Names x word) (sym same) h.2

      by : Contains (item ∷ []) h.0 ⊎ Contains others h.0 → Names item word ⊎ ((x : List ℕ) × Contains others x × Names x word)
      by (inl first) = inl (one (Contains-push_cases [] item h.0 first))
      by (inr inside) = inr (h.0, inside, h.2)

  -- If the words marked and those named by a list are the whole, then after its first item is marked, the words marked
  -- and those named by the others are.
  module _ (word : ℕ) (old new whole : Type 0) (marked : new ↔ (old ⊎ Names item word)) (all : (old ⊎ Lists list word) ↔ whole) where
    -- The words marked after it, and those named by the others, are the whole.
    pub named_more : (new ⊎ ((x : List ℕ) × Contains others x × Names x word)) ↔ whole
    named_more = (λ h. to h, λ w. from (all.1 w))
      where
        at : old ⊎ Names item word → whole
        at (inl o) = all.0 (inl o)
        at (inr n) = all.0 (inr (named_first word n))

        to : new ⊎ ((x : List ℕ) × Contains others x × Names x word) → whole
        to (inl n) = at (marked.0 n)
        to (inr x) = all.0 (inr (named_after word x.0 x.1 x.2))

        named : Names item word ⊎ ((x : List ℕ) × Contains others x × Names x word) → new ⊎ ((x : List ℕ) × Contains others x × Names x word)
        named (inl n) = inl (marked.1 (inr n))
        named (inr x) = inr x

        from : old ⊎ Lists list word → new ⊎ ((x : List ℕ) × Contains others x × Names x word)
        from (inl o) = inl (marked.1 (inl o))
        from (inr l) = named (named_by word l)

-- The same, for the last item.
pub named_last : (list : List ℕ) → items_of list ≡ list ∷ [] → (word : ℕ) (old new whole : Type 0) → (new ↔ (old ⊎ Names list word)) →
    ((old ⊎ Lists list word) ↔ whole) → new ↔ whole
named_last list cut word old new whole marked all = (λ n. more.0 (inl n), λ w. by (more.1 w))
  where
    more : (new ⊎ ((x : List ℕ) × Contains [] x × Names x word)) ↔ whole
    more = named_more list list [] cut word old new whole marked all

    by : new ⊎ ((x : List ℕ) × Contains [] x × Names x word) → new
    by (inl n) = n
    by (inr x) = let l = x.1.1 in absurd (omega (arith, l))
