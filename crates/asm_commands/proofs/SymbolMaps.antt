-- The labels of a text, line by line and by address.
use Rattle.std.proofs.Common.{◌≡◌, ℕ, ◌+◌, ◌<◌, ◌≤◌, not, ◌&&◌, eqb, List, [], ◌∷◌, ◌++◌, length, get_or, drop, map}
use Rattle.std.proofs.Common.{Option, Some, None, Bor, option_map, option_to_list, filter_map, nat_cmp, is_lt, refl, sym, ap, ◌∙◌}
use Rattle.std.proofs.Common.{add-one, append_assoc, append-nil, arith, drop-cons}
use Rattle.std.specs.List.{cons_option}
use Rattle.std.specs.List.Sorted.{IsStableByKey}
use Rattle.std.proofs.lemmas.Bool.Decides.{nat_tests}
use Rattle.std.proofs.lemmas.List.{map-append}
use Rattle.std.proofs.lemmas.List.Elements.{filter_agree}
use Rattle.std.proofs.Math.ListN.{drop_of_length-le}
use Rattle.asm_lines.specs.declared.statement.Section.TheVariants.{Code}
use Rattle.assembler.specs.Meaning.{Place}
use Rattle.assembler.specs.Passes.{nows}
use Rattle.asm_commands.specs.declared.text_label.TextLabel.{TextLabel}
use Rattle.asm_commands.specs.SymbolMaps.{LabelRow, end_before, label_line, label_lines, labels_at, row_of}
use Rattle.fault_lists.proofs.Lemmas.{at_item}

-- ---- line by line

kept : (g : List ℕ → Option LabelRow) (x : List ℕ) (xs : List (List ℕ)) (old new : List TextLabel) (found : Option TextLabel) (all : List LabelRow) →
    new ≡ old ++ option_to_list found → option_map row_of found ≡ g x → map row_of old ++ filter_map g (x ∷ xs) ≡ all →
    map row_of new ++ filter_map g xs ≡ all
kept g x xs old new None all is_new is so_far =
    ap (λ (us : List TextLabel). map row_of us ++ filter_map g xs) (is_new ∙ append-nil old)
    ∙ ap (λ (o : Option LabelRow). map row_of old ++ cons_option o (filter_map g xs)) is ∙ so_far
kept g x xs old new (Some l) all is_new is so_far =
    ap (λ (us : List TextLabel). map row_of us ++ filter_map g xs) is_new
    ∙ ap (λ (us : List LabelRow). us ++ filter_map g xs) (map-append row_of old (l ∷ []))
    ∙ append_assoc (map row_of old) (row_of l ∷ []) (filter_map g xs)
    ∙ ap (λ (o : Option LabelRow). map row_of old ++ cons_option o (filter_map g xs)) is ∙ so_far

-- After the label of one more line is kept, the labels so far and those of the lines that are left are still all labels.
pub kept_more : (g : List ℕ → Option LabelRow) (lines : List (Bor (List ℕ))) (i : ℕ) (d : Bor (List ℕ)) (old new : List TextLabel) (found :
    Option TextLabel) → i < length lines → map row_of old ++ filter_map g (nows (drop i lines)) ≡ filter_map g (nows lines)
    → option_map row_of found ≡ g (get_or lines i d).now → new ≡ old ++ option_to_list found
    → map row_of new ++ filter_map g (nows (drop (i + 1) lines)) ≡ filter_map g (nows lines)
kept_more g lines i d old new found lt so_far is is_new =
    kept g (get_or lines i d).now (nows (drop (i + 1) lines)) old new found (filter_map g (nows lines)) is_new is
    (ap (λ (xs : List (List ℕ)). map row_of old ++ filter_map g xs) (sym (at_item lines i d lt)) ∙ so_far)

-- If no line is left, the labels so far are all labels.
pub kept_all : (g : List ℕ → Option LabelRow) (lines : List (Bor (List ℕ))) (i : ℕ) (labels : List TextLabel) → length lines ≤ i
    → map row_of labels ++ filter_map g (nows (drop i lines)) ≡ filter_map g (nows lines) → map row_of labels ≡ filter_map g (nows lines)
kept_all g lines i labels le so_far =
    let ended : nows (drop i lines) ≡ [] = rw (drop_of_length-le lines le) refl in
    sym (append-nil (map row_of labels)) ∙ ap (λ (xs : List (List ℕ)). map row_of labels ++ filter_map g xs) (sym ended) ∙ so_far

-- ---- by address

tie_is : (a b : ℕ) → (not (is_lt (nat_cmp a b)) && not (is_lt (nat_cmp b a))) ≡ eqb a b
tie_is a b = grind (arith, nat_tests)

-- some label with this value
abbrev keyed : ℕ → TextLabel
keyed a = record { name = record { ref_ptr = (0, 0); now = [] }; section = Code; address = a }

-- A stable sort by address keeps the labels at each address, in their order.
pub stable_at : (old new : List TextLabel) → IsStableByKey (λ (l : TextLabel). l.address) nat_cmp old new → (a : ℕ) → labels_at a new ≡ labels_at a old
stable_at old new stable a =
    filter_agree (λ (l : TextLabel). eqb a l.address) (λ (l : TextLabel). not (is_lt (nat_cmp a l.address)) && not (is_lt (nat_cmp l.address a)))
    (λ l. sym (tie_is a l.address)) new
    ∙ stable (keyed a)
    ∙ filter_agree (λ (l : TextLabel). not (is_lt (nat_cmp a l.address)) && not (is_lt (nat_cmp l.address a))) (λ (l : TextLabel). eqb a l.address)
    (λ l. tie_is a l.address) old

-- ---- lines

-- If the line of the next label follows the text so far, this is the text of one label more.
pub more_printed : (at : Place) (labels : List TextLabel) (i : ℕ) (d : TextLabel) (others : List TextLabel) (end : ℕ) (text new whole : List ℕ) →
    i < length labels → others ≡ drop (i + 1) labels → end ≡ end_before at (get_or labels i d).section others
    → new ≡ text ++ label_line end (get_or labels i d) → text ++ label_lines at (drop i labels) ≡ whole ++ label_lines at labels
    → new ++ label_lines at (drop (i + 1) labels) ≡ whole ++ label_lines at labels
more_printed at labels i d others end text new whole lt is_others is_end is_new so_far =
    let l = get_or labels i d in
    let rest = drop (i + 1) labels in
    let next : drop i labels ≡ l ∷ rest = rw (add-one) (drop-cons labels i d lt) in
    let last : end ≡ end_before at l.section rest = is_end ∙ ap (end_before at l.section) is_others in
    ap (λ (us : List ℕ). us ++ label_lines at rest) (is_new ∙ ap (λ (n : ℕ). text ++ label_line n l) last)
    ∙ append_assoc text (label_line (end_before at l.section rest) l) (label_lines at rest)
    ∙ ap (λ (ls : List TextLabel). text ++ label_lines at ls) (sym next) ∙ so_far

-- If no label is left, this is the whole text.
pub all_printed : (at : Place) (labels : List TextLabel) (i : ℕ) (text whole : List ℕ) → length labels ≤ i
    → text ++ label_lines at (drop i labels) ≡ whole ++ label_lines at labels → text ≡ whole ++ label_lines at labels
all_printed at labels i text whole le so_far =
    sym (append-nil text) ∙ ap (λ (ls : List TextLabel). text ++ label_lines at ls) (sym (drop_of_length-le labels le)) ∙ so_far
