-- Texts that are read from their first part on.
use Rattle.std.proofs.Common.{◌≡◌, ℕ, ◌<◌, ◌==◌, true, false, not, cond, List, [], ◌∷◌, ◌++◌, length, Option, Some, None}
use Rattle.std.proofs.Common.{refl, sym, ap, ap₂, ◌∙◌, subst, append_assoc}
use Rattle.std.specs.Prelude.{filter, option_and_then, option_map}
use Rattle.std.specs.List.{after_first, before_first, position_or_len, slice_split}
use Rattle.std.proofs.lemmas.List.Splits.{slice_split_first, slice_split_none}
use Rattle.std.proofs.lemmas.List.Sums.{fails_before_first}
use Rattle.state_conditions.specs.Texts.{all_read, words_of}

-- ---- parts between marks

module _ (mark : ℕ) where
  -- A text with the mark is cut at the first one.
  pub cut_at_first : (text item after : List ℕ) → item ≡ before_first (λ b. b == mark) text → after ≡ after_first (λ b. b == mark) text →
      position_or_len (λ b. b == mark) text < length text → slice_split (λ b. b == mark) text ≡ item ∷ slice_split (λ b. b == mark) after
  cut_at_first text item after front rest within =
      slice_split_first (λ b. b == mark) text 0 within ∙ ap₂ (λ x y. x ∷ slice_split (λ b. b == mark) y) (sym front) (sym rest)

  -- A text without it is one part.
  pub one_item : (text : List ℕ) → position_or_len (λ b. b == mark) text ≡ length text → slice_split (λ b. b == mark) text ≡ text ∷ []
  one_item text none =
      slice_split_none (λ b. b == mark) text
      (λ k d within. fails_before_first (λ b. b == mark) text k d (subst (λ n. k < n) (sym none) within))

-- ---- words

module _ (text word : List ℕ) (rest : List (List ℕ)) (cut : slice_split (λ b. b == 32) text ≡ word ∷ rest) where
  abbrev kept_words : List (List ℕ)
  kept_words = filter (λ (w : List ℕ). not (length w == 0)) rest

  -- An empty part is no word.
  pub no_word : (length word == 0) ≡ true → words_of text ≡ kept_words
  no_word e = ap (filter (λ (w : List ℕ). not (length w == 0))) cut ∙ ap (λ b. cond (not b) (word ∷ kept_words) kept_words) e

  -- Any other is one.
  pub one_word : (length word == 0) ≡ false → words_of text ≡ word ∷ kept_words
  one_word e = ap (filter (λ (w : List ℕ). not (length w == 0))) cut ∙ ap (λ b. cond (not b) (word ∷ kept_words) kept_words) e

-- ---- items that are read one after another

appended : {Y : Type 0} (ys : List Y) (y : Y) (o : Option (List Y)) →
    option_map (λ more. ys ++ more) (option_map (λ more. y ∷ more) o) ≡ option_map (λ more. (ys ++ y ∷ []) ++ more) o
appended ys y None = refl
appended ys y (Some more) = ap Some (sym (append_assoc ys (y ∷ []) more))

module _ {X Y : Type 0} (read : X → Option Y) (whole : Option (List Y)) (x : X) (xs all : List X) (cut : all ≡ x ∷ xs) (ys : List Y)
    (so_far : whole ≡ option_map (λ more. ys ++ more) (all_read read all)) where
  at_first : whole ≡ option_map (λ more. ys ++ more) (option_and_then (λ y. option_map (λ more. y ∷ more) (all_read read xs)) (read x))
  at_first = so_far ∙ ap (λ zs. option_map (λ more. ys ++ more) (all_read read zs)) cut

  -- If one item is not read, nothing is.
  pub not_read : None ≡ read x → whole ≡ None
  not_read e =
      at_first ∙ ap (λ o. option_map (λ more. ys ++ more) (option_and_then (λ y. option_map (λ more. y ∷ more) (all_read read xs)) o)) (sym e)

  -- After one more item is read, those so far and those of the rest are still the whole.
  pub read_on : (y : Y) (new : List Y) → Some y ≡ read x → new ≡ ys ++ y ∷ [] → whole ≡ option_map (λ more. new ++ more) (all_read read xs)
  read_on y new e is =
      at_first
      ∙ (ap (λ o. option_map (λ more. ys ++ more) (option_and_then (λ y. option_map (λ more. y ∷ more) (all_read read xs)) o)) (sym e)
      ∙ (appended ys y (all_read read xs) ∙ ap (λ (zs : List Y). option_map (λ more. zs ++ more) (all_read read xs)) (sym is)))

-- After the last item is read, those so far are the whole.
pub read_last : {X Y : Type 0} (read : X → Option Y) (whole : Option (List Y)) (x : X) (all : List X) → all ≡ x ∷ [] → (ys : List Y) →
    whole ≡ option_map (λ more. ys ++ more) (all_read read all) → (y : Y) (new : List Y) → Some y ≡ read x → new ≡ ys ++ y ∷ [] →
    Some new ≡ whole
read_last read whole x all cut ys so_far y new e is =
    sym (at_first read whole x [] all cut ys so_far
    ∙ (ap (λ o. option_map (λ more. ys ++ more) (option_and_then (λ y. option_map (λ more. y ∷ more) (all_read read [])) o)) (sym e)
    ∙ ap Some (sym is)))
