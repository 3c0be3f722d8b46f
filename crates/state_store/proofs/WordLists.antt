-- The stored words of a list, and how editing them changes the list.
use Rattle.std.proofs.Common.{◌≡◌, ◌≢◌, ◌⊎◌, inl, inr, ℕ, ◌+◌, ◌<◌, ◌≤◌, zero, suc, false, cond, ◌==◌, ◌&&◌}
use Rattle.std.proofs.Common.{List, [], ◌∷◌, ◌++◌, length, map, take, drop, refl, sym, ap, subst, ◌∙◌, append_assoc, take_all, ◌-◌, arith}
use Rattle.std.specs.Prelude.{slice_index, slice_index_or, slice_set}
use Rattle.std.specs.List.{range_with_len}
use Rattle.std.specs.Bool.{Decides}
use Rattle.std.specs.List.Sorted.{IsNonDecreasingBy}
use Rattle.std.proofs.lemmas.Bool.{cases_eq, cases_lt, eq-eqb, ne_eqb}
use Rattle.std.proofs.lemmas.Bool.Decides.{Decides-and, Decides-eqb, Decides-like}
use Rattle.std.proofs.lemmas.List.{append-nil, take-append-drop}
use Rattle.std.proofs.lemmas.List.FromFn.{length-map-range_with_len, map-range_with_len_more}
use Rattle.state_store.specs.declared.sparse_words.NonzeroWord.{NonzeroWord}
use Rattle.state_store.specs.SparseWords.{AreWithin, IsCut, listed_words, nonzero_words, stored, stored_from, word_at}
use Rattle.state_store.proofs.Listed.{listed_at, listed_same, listed_set}

-- ---- ranges of places

-- The range of stored words ends no lower than it begins.
pub in_order : (from to : ℕ) (ws : List NonzeroWord) → AreWithin from to ws → from ≤ to
in_order from to [] h = h
in_order from to (w ∷ ws) h = let rest = in_order (w.place + 1) to ws h.2 in omega (arith, h.0, rest)

-- Words within a range are within every range that begins earlier.
pub from_before : (first from to : ℕ) (ws : List NonzeroWord) → first ≤ from → AreWithin from to ws → AreWithin first to ws
from_before first from to [] l h = omega (arith, l, h)
from_before first from to (w ∷ ws) l h = (omega (arith, l, h.0), h.1, h.2)

-- Words within a range are within every range that ends later.
pub to_after : (from to last : ℕ) (ws : List NonzeroWord) → to ≤ last → AreWithin from to ws → AreWithin from last ws
to_after from to last [] l h = omega (arith, l, h)
to_after from to last (w ∷ ws) l h = (h.0, h.1, to_after (w.place + 1) to last ws l h.2)

-- Words of two adjoining ranges, one after the other, are within both ranges together.
pub joined_within : (from mid to : ℕ) (xs ys : List NonzeroWord) → AreWithin from mid xs → AreWithin mid to ys → AreWithin from to (xs ++ ys)
joined_within from mid to [] ys h k = from_before from mid to ys h k
joined_within from mid to (w ∷ xs) ys h k = (h.0, h.1, joined_within (w.place + 1) mid to xs ys h.2 k)

-- What is stored of a word is within its place.
pub stored_within : (place value : ℕ) → AreWithin place (place + 1) (stored place value)
stored_within place zero = omega arith
stored_within place (suc less) = (omega arith, omega arith, omega arith)

-- ---- the word at a place

-- No word is stored at a place before the range.
pub none_before : (from to : ℕ) (ws : List NonzeroWord) (q : ℕ) → AreWithin from to ws → q < from → word_at ws q ≡ 0
none_before from to [] q h l = refl
none_before from to (w ∷ ws) q h l =
    let other : (w.place == q) ≡ false = ne_eqb w.place q (λ same. omega (arith, same, h.0, l)) in
    ap (λ b. cond b w.value (word_at ws q)) other ∙ none_before (w.place + 1) to ws q h.2 (omega (arith, h.0, l))

-- No word is stored at a place past the range.
pub none_past : (from to : ℕ) (ws : List NonzeroWord) (q : ℕ) → AreWithin from to ws → to ≤ q → word_at ws q ≡ 0
none_past from to [] q h l = refl
none_past from to (w ∷ ws) q h l =
    let rest = in_order (w.place + 1) to ws h.2 in
    let other : (w.place == q) ≡ false = ne_eqb w.place q (λ same. omega (arith, same, rest, l)) in
    ap (λ b. cond b w.value (word_at ws q)) other ∙ none_past (w.place + 1) to ws q h.2 l

-- If the second words store nothing at a place, both together store there what the first do.
pub at_first : (xs ys : List NonzeroWord) (q : ℕ) → word_at ys q ≡ 0 → word_at (xs ++ ys) q ≡ word_at xs q
at_first [] ys q none = none
at_first (w ∷ xs) ys q none = ap (cond (w.place == q) w.value) (at_first xs ys q none)

-- At a place past the range of the first words, both together store what the second do.
pub at_second : (from mid : ℕ) (xs ys : List NonzeroWord) (q : ℕ) → AreWithin from mid xs → mid ≤ q → word_at (xs ++ ys) q ≡ word_at ys q
at_second from mid [] ys q h l = refl
at_second from mid (w ∷ xs) ys q h l =
    let rest = in_order (w.place + 1) mid xs h.2 in
    let other : (w.place == q) ≡ false = ne_eqb w.place q (λ same. omega (arith, same, rest, l)) in
    ap (λ b. cond b w.value (word_at (xs ++ ys) q)) other ∙ at_second (w.place + 1) mid xs ys q h.2 l

pub at_stored : (place value : ℕ) → word_at (stored place value) place ≡ value
at_stored place zero = refl
at_stored place (suc less) = ap (λ b. cond b (suc less) 0) (eq-eqb place place refl)

-- The words before a place, the one at it, and those after it, all together.
module _ (place to value : ℕ) (before after : List NonzeroWord) (h : AreWithin 0 place before) (k : AreWithin (place + 1) to after) where
  abbrev all : List NonzeroWord
  all = before ++ stored place value ++ after

  left : AreWithin 0 (place + 1) (before ++ stored place value)
  left = joined_within 0 place (place + 1) before (stored place value) h (stored_within place value)

  -- They are all within the whole range.
  pub all_within : AreWithin 0 to (before ++ stored place value ++ after)
  all_within = joined_within 0 (place + 1) to (before ++ stored place value) after left k

  pub at_before : (q : ℕ) → q < place → word_at (before ++ stored place value ++ after) q ≡ word_at before q
  at_before q l =
      at_first (before ++ stored place value) after q (none_before (place + 1) to after q k (omega (arith, l)))
      ∙ at_first before (stored place value) q (none_before place (place + 1) (stored place value) q (stored_within place value) l)

  pub at_place : word_at (before ++ stored place value ++ after) place ≡ value
  at_place =
      at_first (before ++ stored place value) after place (none_before (place + 1) to after place k (omega arith))
      ∙ (at_second 0 place before (stored place value) place h (omega arith) ∙ at_stored place value)

  pub at_after : (q : ℕ) → place < q → word_at (before ++ stored place value ++ after) q ≡ word_at after q
  at_after q l = at_second 0 (place + 1) (before ++ stored place value) after q left (omega (arith, l))

-- ---- cutting

-- If the first `at` words come before a place, they are within the range up to it.
pub taken_within : (from to place at : ℕ) (ws : List NonzeroWord) → AreWithin from to ws → from ≤ place →
    ((k : ℕ) (d : NonzeroWord) → k < at → k < length ws → (slice_index_or ws k d).place < place) → AreWithin from place (take at ws)
taken_within from to place zero ws h l each = l
taken_within from to place (suc at) [] h l each = l
taken_within from to place (suc at) (w ∷ ws) h l each =
    let here = each 0 w (omega arith) (omega arith) in
    let rest = taken_within (w.place + 1) to place at ws h.2 (omega (arith, here))
    (λ k d low there. each (suc k) d (omega (arith, low)) (omega (arith, there))) in
    (h.0, h.1, rest)

-- If the words from `at` on do not come before a place, they are within the range from it on.
pub dropped_within : (from to place at : ℕ) (ws : List NonzeroWord) → AreWithin from to ws → place ≤ to →
    ((k : ℕ) (d : NonzeroWord) → at ≤ k → k < length ws → place ≤ (slice_index_or ws k d).place) → AreWithin place to (drop at ws)
dropped_within from to place zero [] h l each = l
dropped_within from to place (suc at) [] h l each = l
dropped_within from to place zero (w ∷ ws) h l each = (each 0 w (omega arith) (omega arith), h.1, h.2)
dropped_within from to place (suc at) (w ∷ ws) h l each =
    dropped_within (w.place + 1) to place at ws h.2 l (λ k d past there. each (suc k) d (omega (arith, past)) (omega (arith, there)))

-- Each of such words is at a place of the range or past it.
pub place_from : (from to : ℕ) (ws : List NonzeroWord) → AreWithin from to ws → (k : ℕ) (d : NonzeroWord) → k < length ws → from ≤ (slice_index_or ws k d).place
place_from from to [] h k d l = absurd (omega (arith, l))
place_from from to (w ∷ ws) h zero d l = h.0
place_from from to (w ∷ ws) h (suc k) d l =
    let rest = place_from (w.place + 1) to ws h.2 k d (omega (arith, l)) in omega (arith, rest, h.0)

-- The places of stored words increase.
pub places_rise : (from to : ℕ) (ws : List NonzeroWord) → AreWithin from to ws → IsNonDecreasingBy (λ (w : NonzeroWord). w.place) ws
places_rise from to [] h i j d le there = absurd (omega (arith, there))
places_rise from to (w ∷ ws) h zero zero d le there = omega arith
places_rise from to (w ∷ ws) h zero (suc j) d le there =
    let rest = place_from (w.place + 1) to ws h.2 j d (omega (arith, there)) in omega (arith, rest)
places_rise from to (w ∷ ws) h (suc i) zero d le there = absurd (omega (arith, le))
places_rise from to (w ∷ ws) h (suc i) (suc j) d le there = places_rise (w.place + 1) to ws h.2 i j d (omega (arith, le)) (omega (arith, there))

-- Of a word that is not zero, the word itself is stored.
stored_some : (place value : ℕ) (w : NonzeroWord) → w.place ≡ place → value ≡ w.value → 0 < w.value → stored place value ≡ w ∷ []
stored_some place zero w here is some = absurd (omega (arith, is, some))
stored_some place (suc less) w here is some = λ i. record { place = sym here i; value = is i } ∷ []

-- If the rest has no word at a place, the words before the place and the rest are cut at it.
pub cut_between : (place to : ℕ) (before rest : List NonzeroWord) → AreWithin 0 place before → AreWithin (place + 1) to rest →
    IsCut place to (before ++ rest) before rest
cut_between place to before rest h k = record {
  whole = ap (λ xs. xs ++ rest) (sym (append-nil before)) ∙ ap (λ v. (before ++ stored place v) ++ rest) (sym none);
  below = h;
  above = k;
}
  where
    none : word_at (before ++ rest) place ≡ 0
    none = at_second 0 place before rest place h (omega arith) ∙ none_before (place + 1) to rest place k (omega arith)

-- If the rest begins with a word at a place, the words before the place and those after that word are cut at it.
pub cut_around : (place to : ℕ) (before : List NonzeroWord) (w : NonzeroWord) (after : List NonzeroWord) → AreWithin 0 place before →
    AreWithin place to (w ∷ after) → w.place ≡ place → IsCut place to (before ++ (w ∷ after)) before after
cut_around place to before w after h k here = record {
  whole = sym (append_assoc before (w ∷ []) after)
      ∙ ap (λ xs. (before ++ xs) ++ after) (sym (stored_some place (word_at (before ++ (w ∷ after)) place) w here found k.1));
  below = h;
  above = subst (λ p. AreWithin (p + 1) to after) here k.2;
}
  where
    found : word_at (before ++ (w ∷ after)) place ≡ w.value
    found =
        at_second 0 place before (w ∷ after) place h (omega arith)
        ∙ ap (λ b. cond b w.value (word_at after place)) (eq-eqb w.place place here)

-- If the first word of the rest is at a place, it is the word there.
pub at_head : (place : ℕ) (rest : List NonzeroWord) (d : NonzeroWord) → 1 ≤ length rest → (slice_index_or rest 0 d).place ≡ place →
    word_at rest place ≡ (slice_index_or rest 0 d).value
at_head place [] d some here = absurd (omega (arith, some))
at_head place (w ∷ ws) d some here = ap (λ b. cond b w.value (word_at ws place)) (eq-eqb w.place place here)

-- If the first word of the rest is not at a place, the rest comes after the place.
pub comes_after : (place to : ℕ) (rest : List NonzeroWord) (d : NonzeroWord) → AreWithin place to rest → place < to →
    (1 ≤ length rest → (slice_index_or rest 0 d).place ≡ place → ⊥) → AreWithin (place + 1) to rest
comes_after place to [] d h l other = omega (arith, l)
comes_after place to (w ∷ ws) d h l other =
    let apart : w.place ≢ place = other (omega arith) in (omega (arith, apart, h.0), h.1, h.2)

-- If the rest begins with a word at a place, the words before the place and the others of the rest are cut at it.
pub cut_at_head : (place to : ℕ) (before rest : List NonzeroWord) (d : NonzeroWord) → AreWithin 0 place before → AreWithin place to rest →
    1 ≤ length rest → (slice_index_or rest 0 d).place ≡ place → IsCut place to (before ++ rest) before (take (length rest - 1) (drop 1 rest))
cut_at_head place to before [] d h k some here = absurd (omega (arith, some))
cut_at_head place to before (w ∷ after) d h k some here =
    subst (IsCut place to (before ++ (w ∷ after)) before) (sym (take_all (length (w ∷ after) - 1) after (omega arith)))
    (cut_around place to before w after h k here)

-- The word at a place is the one that the rest has there.
pub at_rest : (place at : ℕ) (ws rest : List NonzeroWord) → AreWithin 0 place (take at ws) → rest ≡ drop at ws → word_at ws place ≡ word_at rest place
at_rest place at ws rest h is =
    ap (λ xs. word_at xs place) (sym (take-append-drop at ws))
    ∙ (at_second 0 place (take at ws) (drop at ws) place h (omega arith) ∙ ap (λ xs. word_at xs place) (sym is))

-- the words before a place and the rest, as split off from the whole
module _ (place to at : ℕ) (ws before rest : List NonzeroWord) (d : NonzeroWord) (front : before ≡ take at ws) (back : rest ≡ drop at ws)
    (h : AreWithin 0 place (take at ws)) (k : AreWithin place to (drop at ws)) where
  whole : before ++ rest ≡ ws
  whole = (λ i. front i ++ back i) ∙ take-append-drop at ws

  front_within : AreWithin 0 place before
  front_within = subst (AreWithin 0 place) (sym front) h

  rest_within : AreWithin place to rest
  rest_within = subst (AreWithin place to) (sym back) k

  -- If the first word of the rest is at the place, the place cuts the whole around that word.
  pub cut_first : 1 ≤ length rest → (slice_index_or rest 0 d).place ≡ place → IsCut place to ws before (take (length rest - 1) (drop 1 rest))
  cut_first some here =
      subst (λ xs. IsCut place to xs before (take (length rest - 1) (drop 1 rest))) whole
      (cut_at_head place to before rest d front_within rest_within some here)

  -- If the first word of the rest is not at the place, the place cuts the whole before the rest.
  pub cut_none : place < to → (1 ≤ length rest → (slice_index_or rest 0 d).place ≡ place → ⊥) → IsCut place to ws before rest
  cut_none low other =
      subst (λ xs. IsCut place to xs before rest) whole
      (cut_between place to before rest front_within (comes_after place to rest d rest_within low other))

-- ---- lists

-- A read past the end of a list gives 0.
past_end : (xs : List ℕ) (i : ℕ) → length xs ≤ i → slice_index xs i ≡ 0
past_end [] i l = refl
past_end (x ∷ xs) zero l = absurd (omega (arith, l))
past_end (x ∷ xs) (suc i) l = past_end xs i (omega (arith, l))

-- The list of n words has n words.
pub listed_length : (n : ℕ) (ws : List NonzeroWord) → length (listed_words n ws) ≡ n
listed_length n ws = length-map-range_with_len (word_at ws) 0 n

-- At each place, the list has the word stored there, or 0.
pub listed_word : (n : ℕ) (ws : List NonzeroWord) (q : ℕ) → AreWithin 0 n ws → slice_index (listed_words n ws) q ≡ word_at ws q
listed_word n ws q h = by (cases_lt q n)
  where
    by : (q < n) ⊎ (n ≤ q) → slice_index (listed_words n ws) q ≡ word_at ws q
    by (inl low) = listed_at (word_at ws) n q 0 low
    by (inr past) =
        past_end (listed_words n ws) q (subst (λ m. m ≤ q) (sym (listed_length n ws)) past) ∙ sym (none_past 0 n ws q h past)

-- what is stored of a function's values from this place on
abbrev stored_by : (f : ℕ → ℕ) → (from n : ℕ) → List NonzeroWord
stored_by f from n = stored_from from (map f (range_with_len from n))

stored_first : (from n to : ℕ) (w : NonzeroWord) (ws : List NonzeroWord) (f : ℕ → ℕ) → AreWithin from to (w ∷ ws) →
    ((q : ℕ) → from ≤ q → f q ≡ word_at (w ∷ ws) q) →
    (AreWithin (from + 1) to ws → ((q : ℕ) → from + 1 ≤ q → f q ≡ word_at ws q) → stored_by f (from + 1) n ≡ ws) →
    (AreWithin (from + 1) to (w ∷ ws) → ((q : ℕ) → from + 1 ≤ q → f q ≡ word_at (w ∷ ws) q) → stored_by f (from + 1) n ≡ w ∷ ws) →
    (w.place ≡ from) ⊎ (w.place ≡ from → ⊥) → stored_by f from (suc n) ≡ w ∷ ws
stored_first from n to w ws f h same behind on (inl here) =
    let first : f from ≡ w.value = same from (omega arith) ∙ ap (λ b. cond b w.value (word_at ws from)) (eq-eqb w.place from here) in
    let rest : stored_by f (from + 1) n ≡ ws =
    behind (subst (λ p. AreWithin (p + 1) to ws) here h.2)
    (λ q l. same q (omega (arith, l)) ∙ ap (λ b. cond b w.value (word_at ws q)) (ne_eqb w.place q (λ is. omega (arith, is, here, l)))) in
    ap (λ xs. xs ++ stored_by f (from + 1) n) (stored_some from (f from) w here first h.1) ∙ ap (λ xs. w ∷ xs) rest
stored_first from n to w ws f h same behind on (inr other) =
    let within : AreWithin (from + 1) to (w ∷ ws) = (omega (arith, other, h.0), h.1, h.2) in
    let none : f from ≡ 0 = same from (omega arith) ∙ none_before (from + 1) to (w ∷ ws) from within (omega arith) in
    ap (λ v. stored from v ++ stored_by f (from + 1) n) none ∙ on within (λ q l. same q (omega (arith, l)))

-- The stored words are those of the list that are not zero.
stored_of : (from n to : ℕ) (ws : List NonzeroWord) (f : ℕ → ℕ) → to ≡ from + n → AreWithin from to ws →
    ((q : ℕ) → from ≤ q → f q ≡ word_at ws q) → stored_by f from n ≡ ws
stored_of from zero to [] f end h same = refl
stored_of from zero to (w ∷ ws) f end h same = let rest = in_order (w.place + 1) to ws h.2 in absurd (omega (arith, end, h.0, rest))
stored_of from (suc n) to [] f end h same =
    ap (λ v. stored from v ++ stored_by f (from + 1) n) (same from (omega arith))
    ∙ stored_of (from + 1) n to [] f (omega (arith, end)) (omega (arith, end)) (λ q l. same q (omega (arith, l)))
stored_of from (suc n) to (w ∷ ws) f end h same =
    stored_first from n to w ws f h same (stored_of (from + 1) n to ws f (omega (arith, end)))
    (stored_of (from + 1) n to (w ∷ ws) f (omega (arith, end))) (cases_eq w.place from)

-- The words of a list that are not zero are the stored ones.
pub nonzero_listed : (n : ℕ) (ws : List NonzeroWord) → AreWithin 0 n ws → nonzero_words (listed_words n ws) ≡ ws
nonzero_listed n ws h = stored_of 0 n n ws (word_at ws) (omega arith) h (λ q l. refl)

-- Equal lists have the same length and the same stored words.
pub same_listed : (n m : ℕ) (vs ws : List NonzeroWord) → AreWithin 0 n vs → AreWithin 0 m ws → listed_words n vs ≡ listed_words m ws → (n ≡ m) × (vs ≡ ws)
same_listed n m vs ws h k same = (
  sym (listed_length n vs) ∙ (ap length same ∙ listed_length m ws),
  sym (nonzero_listed n vs h) ∙ (ap nonzero_words same ∙ nonzero_listed m ws k),
)

-- ---- edits

-- Appending what is stored of a word appends the word to the list.
pub pushed : (n value : ℕ) (ws : List NonzeroWord) → AreWithin 0 n ws →
    listed_words (n + 1) (ws ++ stored n value) ≡ listed_words n ws ++ value ∷ []
pushed n value ws h =
    map-range_with_len_more (word_at (ws ++ stored n value)) 0 n n (omega arith)
    ∙ (λ i. before i ++ last i ∷ [])
  where
    last : word_at (ws ++ stored n value) n ≡ value
    last = at_second 0 n ws (stored n value) n h (omega arith) ∙ at_stored n value

    before : map (word_at (ws ++ stored n value)) (range_with_len 0 n) ≡ listed_words n ws
    before = listed_same (word_at ws) n (word_at (ws ++ stored n value))
        (λ q l. at_first ws (stored n value) q (none_before n (n + 1) (stored n value) q (stored_within n value) l))

-- If words are cut at a place and joined again with another word there, only that word of the list changes.
pub replaced : (n place value : ℕ) (read ws before after all : List NonzeroWord) → place < n → read ≡ ws → IsCut place n read before after →
    all ≡ before ++ stored place value ++ after → listed_words n all ≡ slice_set (listed_words n ws) place value
replaced n place value read ws before after all low same cut_read is =
    ap (listed_words n) is
    ∙ listed_set (word_at ws) n (word_at (before ++ stored place value ++ after)) place value low
    (at_place place n value before after cut_read.below cut_read.above) (λ q other l. by q (cases_lt q place) other)
  where
    cut : IsCut place n ws before after
    cut = subst (λ xs. IsCut place n xs before after) same cut_read

    by : (q : ℕ) → (q < place) ⊎ (place ≤ q) → q ≢ place → word_at (before ++ stored place value ++ after) q ≡ word_at ws q
    by q (inl less) other =
        at_before place n value before after cut.below cut.above q less
        ∙ (sym (at_before place n (word_at ws place) before after cut.below cut.above q less) ∙ ap (λ xs. word_at xs q) (sym cut.whole))
    by q (inr from) other =
        let more : place < q = omega (arith, from, other) in
        at_after place n value before after cut.below cut.above q more
        ∙ (sym (at_after place n (word_at ws place) before after cut.below cut.above q more) ∙ ap (λ xs. word_at xs q) (sym cut.whole))

-- ---- reading

-- The stored words of a list are split into those before a place and the rest.
module _ (n place at : ℕ) (list : List ℕ) (ws all rest : List NonzeroWord) (d : NonzeroWord) (view_is : listed_words n ws ≡ list)
    (h : AreWithin 0 n ws) (same : all ≡ ws) (back : rest ≡ drop at all)
    (front_within : (to : ℕ) → place ≤ to → AreWithin 0 to all → AreWithin 0 place (take at all)) where
  within : (to : ℕ) → n ≤ to → AreWithin 0 to all
  within to l = subst (AreWithin 0 to) (sym same) (to_after 0 n to ws l h)

  rest_is : slice_index list place ≡ word_at rest place
  rest_is =
      ap (λ l. slice_index l place) (sym view_is)
      ∙ (listed_word n ws place h
      ∙ (ap (λ xs. word_at xs place) (sym same)
      ∙ at_rest place at all rest (front_within (n + place) (omega arith) (within (n + place) (omega arith))) back))

  -- If the first word of the rest is at the place, it is the list's word there.
  pub read_head : 1 ≤ length rest → (slice_index_or rest 0 d).place ≡ place → (slice_index_or rest 0 d).value ≡ slice_index list place
  read_head some here = sym (rest_is ∙ at_head place rest d some here)

  -- If the first word of the rest is not at the place, the list has 0 there.
  pub read_none : ((to : ℕ) → place ≤ to → AreWithin 0 to all → AreWithin place to (drop at all)) →
      (1 ≤ length rest → (slice_index_or rest 0 d).place ≡ place → ⊥) → 0 ≡ slice_index list place
  read_none rest_within other =
      let to : ℕ = n + place + 1 in
      let after : AreWithin place to rest = subst (AreWithin place to) (sym back) (rest_within to (omega arith) (within to (omega arith))) in
      sym (rest_is ∙ none_before (place + 1) to rest place (comes_after place to rest d after (omega arith) other) (omega arith))

-- ---- comparing

-- Comparing place and value decides whether two stored words are equal.
pub words_decide : (a b : NonzeroWord) → Decides ((a.place == b.place) && (a.value == b.value)) (a ≡ b)
words_decide a b =
    Decides-like _ (λ (same : (a.place ≡ b.place) × (a.value ≡ b.value)). λ i. record { place = same.0 i; value = same.1 i })
    (λ e. (ap (λ (w : NonzeroWord). w.place) e, ap (λ (w : NonzeroWord). w.value) e))
    (Decides-and (a.place == b.place) (a.value == b.value) (Decides-eqb a.place b.place) (Decides-eqb a.value b.value))
