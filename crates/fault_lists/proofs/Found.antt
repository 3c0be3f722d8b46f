-- The faults found line by line are those of all lines.
use Rattle.std.proofs.Common.{◌≡◌, ℕ, zero, suc, ◌+◌, ◌-◌, ◌<◌, ◌≤◌, List, [], ◌∷◌, ◌++◌, length, get_or}
use Rattle.std.proofs.Common.{take, drop, Option, Some, None, Result, Ok, Err, Bor, refl, sym, ap, subst}
use Rattle.std.proofs.Common.{◌∙◌, append_assoc, append-nil, arith, add-one, drop-cons}
use Rattle.std.specs.Prelude.{fold, map, All, IfSome, IsSome, option_to_list}
use Rattle.std.specs.Option.{option_map}
use Rattle.std.proofs.lemmas.List.{map-append, take_more, take_all, length-map, length-take-le}
use Rattle.std.proofs.lemmas.List.Sums.{fold-append}
use Rattle.std.proofs.lemmas.List.Elements.{All-nil, All-push}
use Rattle.std.proofs.Math.ListN.{drop_of_length-le}
use Rattle.std.proofs.lemmas.Option.{slice_get-map, slice_get-get_or}
use Rattle.assembler.specs.declared.fault.AsmFault.{AsmFault}
use Rattle.assembler.specs.Meaning.{Labels, Place, Piece, start, address, after, line_piece, pieces_from, pieces_of, lines_of, labels_of}
use Rattle.assembler.specs.Passes.{nows}
use Rattle.fault_lists.specs.declared.text_fault.TextFault.{TextFault}
use Rattle.line_faults.specs.declared.cursor.Cursor.{Cursor}
use Rattle.line_faults.specs.word_faults.declared.hint.Hint.{Hint}
use Rattle.line_faults.specs.word_faults.Advice.{advice_of}
use Rattle.line_faults.specs.AdviceAtFault.{IsAdvised}
use Rattle.line_faults.specs.Places.{FirstLines, first_lines, lines_after, place_of}
use Rattle.line_faults.specs.word_faults.Spans.{Span, StandsIn}
use Rattle.line_faults.specs.WordAtFault.{word_at_fault}
use Rattle.fault_lists.specs.Faults.{error_of, error_at, errors_from, IsAt, IsNamed, IsInPlace, place_after, AreFaultsOf, AreTheFaults}
use Rattle.fault_lists.specs.Faults.{first_line_with, label_of}
use Rattle.fault_lists.proofs.FirstLines.{first_more, same_labels}
use Rattle.fault_lists.proofs.TwiceLabels.{twice_known}

-- The lines from the ith on are that line and those after it.
pub at_item : (lines : List (Bor (List ℕ))) (i : ℕ) (d : Bor (List ℕ)) → i < length lines →
    nows (drop i lines) ≡ (get_or lines i d).now ∷ nows (drop (i + 1) lines)
at_item lines i d lt = rw (add-one, drop-cons lines i d lt) refl

-- The faults found so far and those of the lines that are left are all faults.
pub record FoundSoFar (ls : Labels) (lines : List (Bor (List ℕ))) (i : ℕ) (faults : List TextFault) (cursor : Cursor) : Type 0 where
  -- the faults found, followed by those of the lines that are left, are those of all lines
  pub errors :
      map error_of faults ++ errors_from (i + 1) (pieces_from ls (place_of cursor) (nows (drop i lines))) ≡ errors_from 1 (pieces_from ls start (nows lines))
  -- each fault found names its word at fault
  pub placed : All (IsInPlace ls (nows lines)) faults
  -- the cursor is at the place after the first i lines
  pub place : place_of cursor ≡ place_after (nows lines) i
  -- the cursor has the first lines of their labels
  pub firsts : first_lines cursor ≡ first_line_with (take i (nows lines))

-- Before the first line no fault is found.
pub found_none : (ls : Labels) (lines : List (Bor (List ℕ))) (faults : List TextFault) (cursor : Cursor) → faults ≡ [] → place_of cursor ≡ start
    → first_lines cursor ≡ (λ _. None) → FoundSoFar ls lines 0 faults cursor
found_none ls lines faults cursor none place firsts = record {
  errors =
      ap (λ xs. map error_of xs ++ errors_from 1 (pieces_from ls (place_of cursor) (nows lines))) none
      ∙ ap (λ at. errors_from 1 (pieces_from ls at (nows lines))) place;
  placed = subst (All (IsInPlace ls (nows lines))) (sym none) (All-nil (IsInPlace ls (nows lines)));
  place = place;
  firsts = firsts;
}

one_line : (n : ℕ) (p : Result Piece AsmFault) (ps : List (Result Piece AsmFault)) (found : Option TextFault) →
    option_map error_of found ≡ error_at n p → errors_from n (p ∷ ps) ≡ map error_of (option_to_list found) ++ errors_from (n + 1) ps
one_line n (Ok x) ps None same = refl
one_line n (Ok x) ps (Some t) same = cc
one_line n (Err f) ps None same = cc
one_line n (Err f) ps (Some t) same = cc

all_placed : (ls : Labels) (lines : List (Bor (List ℕ))) (i : ℕ) (d : Bor (List ℕ)) (faults : List TextFault) (at : Place) (firsts : FirstLines)
    (found : Option TextFault) → i < length lines → at ≡ place_after (nows lines) i → firsts ≡ first_line_with (take i (nows lines))
    → ((name : List ℕ) → IsSome (at.labels name) → IsSome (firsts name))
    → option_map error_of found ≡ error_at (i + 1) (line_piece ls at (get_or lines i d).now)
    → IfSome found (λ t. (t.line ≡ i + 1) × IsAt (get_or lines i d).now t.column t.word.now × IsNamed ls firsts at (get_or lines i d).now t)
    → All (IsInPlace ls (nows lines)) faults → All (IsInPlace ls (nows lines)) (faults ++ option_to_list found)
all_placed ls lines i d faults at firsts None lt place first known error is before = rw append-nil before
all_placed ls lines i d faults at firsts (Some t) lt place first known error is before =
    let same : t.line - 1 ≡ i = omega (arith, is.0) in
    let line = (get_or lines i d).now in
    let earlier = λ (count : ℕ). first_line_with (take count (nows lines)) in
    let first_there : firsts ≡ earlier (t.line - 1) = first ∙ ap earlier (sym same) in
    All-push (IsInPlace ls (nows lines)) faults t before (
    record {
      line = line;
      stands =
          rw same (slice_get-map (λ (part : Bor (List ℕ)). part.now) lines i
          ∙ ap (option_map (λ (part : Bor (List ℕ)). part.now)) (slice_get-get_or lines i d lt));
      at = is.1;
      named =
          subst (λ p. IsNamed ls (earlier (t.line - 1)) p line t) (place ∙ ap (place_after (nows lines)) (sym same))
          (subst (λ f. IsNamed ls f at line t) first_there is.2);
      twice = λ twice. subst (λ (f : FirstLines). IsSome (f t.word.now)) first_there (twice_known ls firsts at line (i + 1) t known error is.2 twice);
    }
    )

-- The lines up to the ith are those before it and the line itself.
take_line : (lines : List (Bor (List ℕ))) (i : ℕ) (d : Bor (List ℕ)) → i < length lines
    → take (i + 1) (nows lines) ≡ take i (nows lines) ++ (get_or lines i d).now ∷ []
take_line lines i d lt =
    take-map (i + 1) lines ∙ ap nows (take_more lines i d lt) ∙ map-append (λ (part : Bor (List ℕ)). part.now) (take i lines) (get_or lines i d ∷ [])
    ∙ ap (λ xs. xs ++ (get_or lines i d).now ∷ []) (sym (take-map i lines))
  where
    take-map : (n : ℕ) (ps : List (Bor (List ℕ))) → take n (nows ps) ≡ nows (take n ps)
    take-map zero ps = refl
    take-map (suc n) [] = refl
    take-map (suc n) (p ∷ ps) = ap (λ (xs : List (List ℕ)). p.now ∷ xs) (take-map n ps)

-- The place after one more line is the place after that line, from the place before it.
place_more : (lines : List (Bor (List ℕ))) (i : ℕ) (d : Bor (List ℕ)) → i < length lines
    → place_after (nows lines) (i + 1) ≡ after (place_after (nows lines) i) (get_or lines i d).now
place_more lines i d lt =
    ap (fold after start) (take_line lines i d lt) ∙ fold-append after start (take i (nows lines)) ((get_or lines i d).now ∷ [])

-- The first lines of the labels up to a line are those before it, and then the line itself.
pub lines_more : (lines : List (Bor (List ℕ))) (i : ℕ) (d : Bor (List ℕ)) (firsts new : FirstLines) → i < length lines
    → firsts ≡ first_line_with (take i (nows lines)) → new ≡ lines_after firsts (label_of (get_or lines i d).now) (i + 1)
    → new ≡ first_line_with (take (i + 1) (nows lines))
lines_more lines i d firsts new lt before next =
    let count : length (take i (nows lines)) ≡ i = length-take-le i (nows lines) (omega (arith, length-map lines (λ (part : Bor (List ℕ)). part.now))) in
    next ∙ ap (λ (f : FirstLines). lines_after f (label_of (get_or lines i d).now) (i + 1)) before
    ∙ sym (ap first_line_with (take_line lines i d lt) ∙ first_more (take i (nows lines)) (get_or lines i d).now (i + 1) (omega (arith, count)))

-- If no line is left, the first lines are those of all lines.
pub lines_all : (lines : List (Bor (List ℕ))) (i : ℕ) (firsts : FirstLines) → length lines ≤ i
    → firsts ≡ first_line_with (take i (nows lines)) → firsts ≡ first_line_with (nows lines)
lines_all lines i firsts le so_far = so_far ∙ ap first_line_with (take_all i (nows lines) (omega (arith, length-map lines (λ (part : Bor (List ℕ)). part.now))))

-- With the next line's fault, if it has one, the faults found so far are those up to that line.
pub found_more : (ls : Labels) (lines : List (Bor (List ℕ))) (i : ℕ) (d : Bor (List ℕ)) (faults new : List TextFault) (cursor cursor' : Cursor) (found :
    Option TextFault) → i < length lines → FoundSoFar ls lines i faults cursor
    → option_map error_of found ≡ error_at (i + 1) (line_piece ls (place_of cursor) (get_or lines i d).now)
    → IfSome found (λ t. (t.line ≡ i + 1) × IsAt (get_or lines i d).now t.column t.word.now
    × IsNamed ls (first_lines cursor) (place_of cursor) (get_or lines i d).now t)
    → place_of cursor' ≡ after (place_of cursor) (get_or lines i d).now
    → first_lines cursor' ≡ lines_after (first_lines cursor) (label_of (get_or lines i d).now) (i + 1)
    → new ≡ faults ++ option_to_list found → FoundSoFar ls lines (i + 1) new cursor'
found_more ls lines i d faults new cursor cursor' found lt before same at next next_lines is_new =
    let rest = pieces_from ls (after (place_of cursor) (get_or lines i d).now) (nows (drop (i + 1) lines)) in
    let here : errors_from (i + 1) (pieces_from ls (place_of cursor) (nows (drop i lines)))
    ≡ map error_of (option_to_list found) ++ errors_from (i + 1 + 1) rest =
    ap (λ xs. errors_from (i + 1) (pieces_from ls (place_of cursor) xs)) (at_item lines i d lt)
    ∙ one_line (i + 1) (line_piece ls (place_of cursor) (get_or lines i d).now) rest found same in
    record {
      errors =
          ap (λ place. map error_of new ++ errors_from (i + 1 + 1) (pieces_from ls place (nows (drop (i + 1) lines)))) next
          ∙ ap (λ xs. map error_of xs ++ errors_from (i + 1 + 1) rest) is_new
          ∙ ap (λ xs. xs ++ errors_from (i + 1 + 1) rest) (map-append error_of faults (option_to_list found))
          ∙ append_assoc (map error_of faults) (map error_of (option_to_list found)) (errors_from (i + 1 + 1) rest)
          ∙ ap (λ xs. map error_of faults ++ xs) (sym here) ∙ before.errors;
      placed =
          subst (All (IsInPlace ls (nows lines))) (sym is_new) (
          all_placed ls lines i d faults (place_of cursor) (first_lines cursor) found lt before.place before.firsts (same_labels cursor) same at before.placed
          );
      place = next ∙ ap (λ place. after place (get_or lines i d).now) before.place ∙ sym (place_more lines i d lt);
      firsts = lines_more lines i d (first_lines cursor) (first_lines cursor') lt before.firsts next_lines;
    }

-- If no line is left, the faults found are those of all lines.
pub found_all : (ls : Labels) (lines : List (Bor (List ℕ))) (i : ℕ) (faults : List TextFault) (cursor : Cursor) → length lines ≤ i
    → FoundSoFar ls lines i faults cursor → map error_of faults ≡ errors_from 1 (pieces_from ls start (nows lines))
found_all ls lines i faults cursor le before =
    let ended : nows (drop i lines) ≡ [] = rw (drop_of_length-le lines le) refl in
    sym (append-nil (map error_of faults)) ∙ ap (λ rest. map error_of faults ++ errors_from (i + 1) (pieces_from ls (place_of cursor) rest)) (sym ended)
    ∙ before.errors

-- The word is in the line at its column if its piece is in the line.
pub at_of : (line : List ℕ) (s : Span) (column : ℕ) (word : List ℕ) → StandsIn line s → column ≡ s.start + 1 → word ≡ s.bytes → IsAt line column word
at_of line s column word stands is_column is_word =
    let from : column - 1 ≡ s.start = omega (arith, is_column) in
    subst (IsAt line column) (sym is_word) (record {
      from_one = omega (arith, is_column);
      within = rw from stands.within;
      reads = rw from stands.reads;
    })

-- The column and the word are those at fault if the piece is.
pub named_of : (labels : Labels) (firsts : FirstLines) (at : Place) (line : List ℕ) (fault : AsmFault) (s : Span) (t : TextFault) → t.fault ≡ fault
    → s ≡ word_at_fault labels (address at) line fault → t.column ≡ s.start + 1 → t.word.now ≡ s.bytes
    → (h : Hint) → t.hint ≡ h → IsAdvised labels firsts at line fault (advice_of h) → IsNamed labels firsts at line t
named_of labels firsts at line fault s t same named is_column is_word h is_hint advised =
    let there : s ≡ word_at_fault labels (address at) line t.fault = named ∙ ap (λ f. word_at_fault labels (address at) line f) (sym same) in
    record {
      column = is_column ∙ ap (λ (x : Span). x.start + 1) there;
      word = is_word ∙ ap (λ (x : Span). x.bytes) there;
      advised =
          subst (λ x. IsAdvised labels firsts at line t.fault (advice_of x)) (sym is_hint)
          (subst (λ f. IsAdvised labels firsts at line f (advice_of h)) (sym same) advised);
    }

-- After one more line is passed, the lines left still lead to the place after all lines.
pub passed_more : (lines : List (Bor (List ℕ))) (i : ℕ) (d : Bor (List ℕ)) (cursor cursor' : Cursor) → i < length lines →
    fold after (place_of cursor) (nows (drop i lines)) ≡ fold after start (nows lines) → place_of cursor' ≡ after (place_of cursor) (get_or lines i d).now
    → fold after (place_of cursor') (nows (drop (i + 1) lines)) ≡ fold after start (nows lines)
passed_more lines i d cursor cursor' lt before next =
    ap (λ place. fold after place (nows (drop (i + 1) lines))) next ∙ sym (ap (fold after (place_of cursor)) (at_item lines i d lt)) ∙ before

-- If no line is left, the cursor is at the place after all lines.
pub passed_all : (lines : List (Bor (List ℕ))) (i : ℕ) (cursor : Cursor) → length lines ≤ i →
    fold after (place_of cursor) (nows (drop i lines)) ≡ fold after start (nows lines) → place_of cursor ≡ fold after start (nows lines)
passed_all lines i cursor le before =
    let ended : nows (drop i lines) ≡ [] = rw (drop_of_length-le lines le) refl in sym (ap (fold after (place_of cursor)) ended) ∙ before

-- The faults of the lines of a text, with the labels of these lines, are the faults of the text.
pub all_of_text : (text : List ℕ) (lines : List (List ℕ)) (ls : Labels) (faults : List TextFault) → lines ≡ lines_of text → ls ≡ labels_of (lines_of text)
    → AreFaultsOf ls (pieces_from ls start lines) lines faults → AreTheFaults text faults
unfolding pieces_of
all_of_text text lines ls faults same labels found = record {
  errors = found.errors ∙ ap (λ xs. errors_from 1 (pieces_from ls start xs)) same ∙ ap (λ l. errors_from 1 (pieces_from l start (lines_of text))) labels;
  placed =
      subst (λ l. All (IsInPlace l (lines_of text)) faults) labels (subst (λ xs. All (IsInPlace ls xs) faults) same found.placed);
}
