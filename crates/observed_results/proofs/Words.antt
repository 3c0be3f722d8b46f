-- The lines of a result's words that are not zero are the lines of all its words.
use Rattle.std.proofs.Common.{◌≡◌, ℕ, ◌+◌, ◌<◌, ◌≤◌, zero, suc, Bool, true, false, cond, List, [], ◌∷◌, ◌++◌, drop, length}
use Rattle.std.proofs.Common.{append_assoc, refl, sym, ap, ◌∙◌, arith}
use Rattle.std.specs.Prelude.{slice_index, slice_index_or}
use Rattle.std.proofs.lemmas.List.{append-nil, drop_more}
use Rattle.exploration.specs.state_store.declared.sparse_words.NonzeroWord.{NonzeroWord}
use Rattle.exploration.specs.state_store.SparseWords.{nonzero_words, stored, stored_from}
use Rattle.observed_results.specs.Lists.{observes}
use Rattle.observed_results.specs.Lines.{lines_by, observed_line}

-- the lines of words with their places, given those of a word
abbrev pub nonzero_lines : (line : (place word : ℕ) → List ℕ) → List NonzeroWord → List ℕ
nonzero_lines line [] = []
nonzero_lines line (word ∷ words) = line word.place word.value ++ nonzero_lines line words

-- A word that is zero has no line, whether it is observed or not.
pub unobserved : (marks : List Bool) (place : ℕ) → observed_line marks place 0 ≡ []
unobserved marks place = by (observes marks place) []
  where
    by : (b : Bool) (xs : List ℕ) → cond b xs xs ≡ xs
    by true xs = refl
    by false xs = refl

module _ (line : (place word : ℕ) → List ℕ) (none : (place : ℕ) → line place 0 ≡ []) where
  lines_of_stored : (place value : ℕ) (ws : List NonzeroWord) →
      nonzero_lines line (stored place value ++ ws) ≡ line place value ++ nonzero_lines line ws
  lines_of_stored place zero ws = ap (λ xs. xs ++ nonzero_lines line ws) (sym (none place))
  lines_of_stored place (suc less) ws = refl

  -- The lines of the words before a place, and then those of the nonzero words from it on, are the lines of all words.
  lines_from : (list : List ℕ) (from : ℕ) (ws : List ℕ) → ((i : ℕ) → slice_index list (from + i) ≡ slice_index ws i) →
      lines_by line list from ++ nonzero_lines line (stored_from from ws) ≡ lines_by line list (from + length ws)
  lines_from list from [] same =
      let end : from ≡ from + 0 = omega arith in append-nil (lines_by line list from) ∙ ap (lines_by line list) end
  lines_from list from (w ∷ ws) same =
      let next : suc from ≡ from + 1 = omega arith in
      let here : from + 0 ≡ from = omega arith in
      let end : from + 1 + length ws ≡ from + length (w ∷ ws) = omega arith in
      let word : w ≡ slice_index list from = sym (same 0) ∙ ap (slice_index list) here in
      ap (λ xs. lines_by line list from ++ xs) (lines_of_stored from w (stored_from (from + 1) ws))
      ∙ (sym (append_assoc (lines_by line list from) (line from w) (nonzero_lines line (stored_from (from + 1) ws)))
      ∙ (ap (λ v. (lines_by line list from ++ line from v) ++ nonzero_lines line (stored_from (from + 1) ws)) word
      ∙ (ap (λ k. lines_by line list k ++ nonzero_lines line (stored_from (from + 1) ws)) next
      ∙ (lines_from list (from + 1) ws (λ i. let on : from + 1 + i ≡ from + suc i = omega arith in ap (slice_index list) on ∙ same (suc i))
      ∙ ap (lines_by line list) end))))

  -- The lines of the words that are not zero are those of all words.
  pub lines_are : (words : List ℕ) → nonzero_lines line (nonzero_words words) ≡ lines_by line words (length words)
  lines_are words =
      let all : 0 + length words ≡ length words = omega arith in
      lines_from words 0 words (λ i. let on : 0 + i ≡ i = omega arith in ap (slice_index words) on) ∙ ap (lines_by line words) all

-- ---- a loop over the nonzero words

-- If the text and the lines from a word on make the whole, then after the line of the word is appended, the text and
-- the lines after it do.
pub lines_more : (line : (place word : ℕ) → List ℕ) (ws : List NonzeroWord) (i : ℕ) (d : NonzeroWord) (old new whole : List ℕ) → i < length ws →
    new ≡ old ++ line (slice_index_or ws i d).place (slice_index_or ws i d).value → old ++ nonzero_lines line (drop i ws) ≡ whole →
    new ++ nonzero_lines line (drop (i + 1) ws) ≡ whole
lines_more line ws i d old new whole l more before =
    ap (λ xs. xs ++ nonzero_lines line (drop (i + 1) ws)) more
    ∙ (append_assoc old (line (slice_index_or ws i d).place (slice_index_or ws i d).value) (nonzero_lines line (drop (i + 1) ws))
    ∙ (ap (λ xs. old ++ nonzero_lines line xs) (sym (drop_more ws i d l)) ∙ before))

none_left : (ws : List NonzeroWord) (i : ℕ) → length ws ≤ i → drop i ws ≡ []
none_left [] zero l = refl
none_left [] (suc i) l = refl
none_left (w ∷ ws) zero l = absurd (omega (arith, l))
none_left (w ∷ ws) (suc i) l = none_left ws i (omega (arith, l))

-- After the last word, the text is the whole.
pub no_lines : (line : (place word : ℕ) → List ℕ) (ws : List NonzeroWord) (i : ℕ) (text whole : List ℕ) → length ws ≤ i →
    text ++ nonzero_lines line (drop i ws) ≡ whole → text ≡ whole
no_lines line ws i text whole l h =
    sym (append-nil text) ∙ (ap (λ xs. text ++ nonzero_lines line xs) (sym (none_left ws i l)) ∙ h)
