-- The two passes, line by line.
use Rattle.std.proofs.Common.{◌≡◌, ℕ, ◌+◌, ◌-◌, ◌<◌, ◌≤◌, List, [], ◌∷◌, ◌++◌, length, get_or}
use Rattle.std.proofs.Common.{drop, take, Some, Result, Err, Bor, refl, sym, ap, subst, ◌∙◌}
use Rattle.std.proofs.Common.{append_assoc, append-nil, arith, add-one, drop-cons}
use Rattle.std.specs.Prelude.{codes, fold, map, slice_get, IsOk, All}
use Rattle.std.proofs.lemmas.List.{map_push, map_more, take_all, length_push, length-map}
use Rattle.std.proofs.lemmas.List.Elements.{All-push}
use Rattle.std.proofs.lemmas.Grind.{flat_map-append}
use Rattle.std.proofs.Math.ListN.{drop_of_length-le}
use Rattle.std.proofs.lemmas.Option.{slice_get-map, slice_get-get_or, get_or_from_slice_get, slice_get_within}
use Rattle.std.proofs.lemmas.Bool.{false≢true}
use Rattle.std.specs.Option.{option_map}
use Rattle.assembler.specs.declared.fault.AsmFault.{AsmFault}
use Rattle.elf_image.specs.declared.layout.Layout.{Layout}
use Rattle.asm_lines.specs.declared.statement.Section.{Section}
use Rattle.asm_lines.specs.declared.statement.Section.TheVariants.{Code, Local, Shared}
use Rattle.assembler.specs.declared.cursor.LineAt.{LineAt}
use Rattle.assembler.specs.declared.cursor.Cursor.{Cursor}
use Rattle.assembler.specs.Faults.{◌>>=◌}
use Rattle.assembler.specs.Meaning.{Labels, Piece, start, after, place_line, line_piece, pieces_from, piece_of}
use Rattle.assembler.specs.Meaning.{bytes_in, section_bytes, labels_of, lines_of, pieces_of, entry_of, IsMeaning}
use Rattle.assembler.specs.Passes.{place_of, nows, piece_at, label_values}

-- ---- the first pass

-- The first i lines are placed, and the rest follow from the cursor.
pub record Scanned (lines : List (Bor (List ℕ))) (i : ℕ) (placed : List LineAt) (cursor : Cursor) : Type 0 where
  pub so_far : (ls : Labels) → pieces_from ls start (nows lines) ≡ map (piece_at ls) placed ++ pieces_from ls (place_of cursor) (nows (drop i lines))
  pub count : length placed ≡ i
  -- The place after the remaining lines, from the cursor on, is the place after all lines.
  pub labels : fold after (place_of cursor) (nows (drop i lines)) ≡ fold after start (nows lines)

at_item : (lines : List (Bor (List ℕ))) (i : ℕ) (d : Bor (List ℕ)) → i < length lines → nows (drop i lines) ≡ (get_or lines i d).now ∷ nows (drop (i + 1) lines)
at_item lines i d lt = rw (add-one, drop-cons lines i d lt) refl

-- After one more line is placed, and the cursor has moved past it, one more line is scanned.
pub scanned_more : (lines : List (Bor (List ℕ))) (i : ℕ) (d : Bor (List ℕ)) (placed new : List LineAt) (cursor cursor' : Cursor) (p : LineAt) →
    i < length lines → Scanned lines i placed cursor
    → ((ls : Labels) → line_piece ls (place_of cursor) (get_or lines i d).now ≡ piece_at ls p) →
    place_of cursor' ≡ after (place_of cursor) (get_or lines i d).now → new ≡ placed ++ p ∷ [] → Scanned lines (i + 1) new cursor'
scanned_more lines i d placed new cursor cursor' p lt before placed_ok next is_new = record {
  so_far = λ ls.
      let one : pieces_from ls (place_of cursor) (nows (drop i lines))
      ≡ piece_at ls p ∷ pieces_from ls (place_of cursor') (nows (drop (i + 1) lines)) = ap (pieces_from ls (place_of cursor)) (at_item lines i d lt)
      ∙ ap (λ r. r ∷ pieces_from ls (after (place_of cursor) (get_or lines i d).now) (nows (drop (i + 1) lines))) (placed_ok ls)
      ∙ ap (λ at. piece_at ls p ∷ pieces_from ls at (nows (drop (i + 1) lines))) (sym next) in
      before.so_far ls ∙ ap (λ x. map (piece_at ls) placed ++ x) one ∙ sym (append_assoc (map (piece_at ls) placed) (piece_at ls p ∷ []) _)
      ∙ ap (λ x. x ++ pieces_from ls (place_of cursor') (nows (drop (i + 1) lines)))
      (sym (ap (map (piece_at ls)) is_new ∙ map_push (piece_at ls) placed p));
  count = ap length is_new ∙ length_push placed p ∙ ap (λ k. k + 1) before.count;
  labels = ap (λ at. fold after at (nows (drop (i + 1) lines))) next ∙ sym (ap (fold after (place_of cursor)) (at_item lines i d lt)) ∙ before.labels;
}

get_seam : {X : Type 0} (xs : List X) (y : X) (ys : List X) → slice_get (xs ++ y ∷ ys) (length xs) ≡ Some y
get_seam [] y ys = refl
get_seam (x ∷ xs) y ys = get_seam xs y ys

-- If the line at the cursor has a fault, so does its piece among those of all lines, whatever the labels are.
pub scanned_fault : (lines : List (Bor (List ℕ))) (i : ℕ) (d : Bor (List ℕ)) (placed : List LineAt) (cursor : Cursor) (f : AsmFault) → i < length lines →
    Scanned lines i placed cursor
    → place_line (place_of cursor) (get_or lines i d).now ≡ Err f → (ls : Labels) → slice_get (pieces_from ls start (nows lines)) (i + 1 - 1) ≡ Some (Err f)
scanned_fault lines i d placed cursor f lt before bad ls =
    let one : pieces_from ls (place_of cursor) (nows (drop i lines))
    ≡ Err f ∷ pieces_from ls (after (place_of cursor) (get_or lines i d).now) (nows (drop (i + 1) lines)) =
    ap (pieces_from ls (place_of cursor)) (at_item lines i d lt) ∙ first (place_line (place_of cursor) (get_or lines i d).now) bad in
    let all = before.so_far ls ∙ ap (λ x. map (piece_at ls) placed ++ x) one in
    let at : i + 1 - 1 ≡ length (map (piece_at ls) placed) = simp length-map (omega (arith, before.count)) in
    ap (λ xs. slice_get xs (i + 1 - 1)) all ∙ rw at (get_seam (map (piece_at ls) placed) (Err f) _)
  where
    first : (r : Result _ AsmFault) → r ≡ Err f →
        ((r >>= piece_of ls) ∷ pieces_from ls (after (place_of cursor) (get_or lines i d).now) (nows (drop (i + 1) lines)))
        ≡ (Err f ∷ pieces_from ls (after (place_of cursor) (get_or lines i d).now) (nows (drop (i + 1) lines)))
    first r e = rw e refl

-- After the last line, the pieces of all lines are those placed, and the cursor is at the end.
pub scanned_all : (lines : List (Bor (List ℕ))) (i : ℕ) (placed : List LineAt) (cursor : Cursor) → length lines ≤ i → Scanned lines i placed cursor
    → ((ls : Labels) → pieces_from ls start (nows lines) ≡ map (piece_at ls) placed) × (place_of cursor ≡ fold after start (nows lines))
scanned_all lines i placed cursor le before =
    let ended : nows (drop i lines) ≡ [] = rw (drop_of_length-le lines le) refl in (
      λ ls. before.so_far ls ∙ ap (λ rest. map (piece_at ls) placed ++ pieces_from ls (place_of cursor) rest) ended ∙ append-nil _,
      sym (ap (fold after (place_of cursor)) ended) ∙ before.labels,
    )

-- ---- the second pass

-- The layout has the bytes of the first i lines.
pub record Emitted (labels : Labels) (placed : List LineAt) (i entry : ℕ) (layout : Layout) : Type 0 where
  -- None of these lines has a fault.
  pub faultless : All IsOk (map (piece_at labels) (take i placed))
  pub code_is : layout.code ≡ section_bytes Code (map (piece_at labels) (take i placed))
  pub local_is : layout.local ≡ section_bytes Local (map (piece_at labels) (take i placed))
  pub shared_is : layout.shared ≡ section_bytes Shared (map (piece_at labels) (take i placed))
  -- The layout has this entry.
  pub entry_is : layout.entry ≡ entry

module _ (labels : Labels) (placed : List LineAt) (i : ℕ) (d : LineAt) where
  section_more : (s : Section) (old new : List ℕ) → i < length placed → old ≡ section_bytes s (map (piece_at labels) (take i placed)) →
      new ≡ old ++ bytes_in s (piece_at labels (get_or placed i d)) → new ≡ section_bytes s (map (piece_at labels) (take (i + 1) placed))
  section_more s old new lt before more =
      more ∙ ap (λ x. x ++ bytes_in s (piece_at labels (get_or placed i d))) before
      ∙ sym (rw (map_more (piece_at labels) placed i d lt, flat_map-append) (rw (append-nil (bytes_in s (piece_at labels (get_or placed i d)))) refl))

  -- If the next line has no fault, and its bytes are added, the layout has the bytes of one more line.
  pub emitted_next : (entry : ℕ) (old new : Layout) → i < length placed → Emitted labels placed i entry old → IsOk (piece_at labels (get_or placed i d))
      → new.code ≡ old.code ++ bytes_in Code (piece_at labels (get_or placed i d)) →
      new.local ≡ old.local ++ bytes_in Local (piece_at labels (get_or placed i d)) →
      new.shared ≡ old.shared ++ bytes_in Shared (piece_at labels (get_or placed i d))
      → new.entry ≡ old.entry → Emitted labels placed (i + 1) entry new
  emitted_next entry old new lt before ok code local shared same = record {
    faultless = rw (map_more (piece_at labels) placed i d lt) (All-push IsOk _ _ before.faultless ok);
    code_is = section_more Code old.code new.code lt before.code_is code;
    local_is = section_more Local old.local new.local lt before.local_is local;
    shared_is = section_more Shared old.shared new.shared lt before.shared_is shared;
    entry_is = same ∙ before.entry_is;
  }

  -- A fault of a placed line is among the pieces, at that line's place.
  pub emitted_fault : (f : AsmFault) → i < length placed → piece_at labels (get_or placed i d) ≡ Err f →
      slice_get (map (piece_at labels) placed) (i + 1 - 1) ≡ Some (Err f)
  emitted_fault f lt bad =
      let at : i + 1 - 1 ≡ i = omega arith in
      rw at (slice_get-map (piece_at labels) placed i ∙ ap (option_map (piece_at labels)) (slice_get-get_or placed i d lt)
      ∙ ap (λ (r : Result Piece AsmFault). Some r) bad)

-- After the last line, no line has a fault, and each section has the bytes of all lines.
pub emitted_all : (labels : Labels) (placed : List LineAt) (i entry : ℕ) (layout : Layout) → length placed ≤ i → Emitted labels placed i entry layout
    → All IsOk (map (piece_at labels) placed) × (layout.code ≡ section_bytes Code (map (piece_at labels) placed))
    × (layout.local ≡ section_bytes Local (map (piece_at labels) placed)) × (layout.shared ≡ section_bytes Shared (map (piece_at labels) placed))
emitted_all labels placed i entry layout le before =
    let all : take i placed ≡ placed = take_all i placed le in
    (rw all at before.faultless, rw all at before.code_is, rw all at before.local_is, rw all at before.shared_is)

-- ---- both

-- After all lines are placed, the text has the labels of the cursor, and the pieces of the placed lines.
pub pieces_are : (text : List ℕ) (lines : List (Bor (List ℕ))) (placed : List LineAt) (cursor : Cursor) → nows lines ≡ lines_of text
    → ((ls : Labels) → pieces_from ls start (nows lines) ≡ map (piece_at ls) placed) → place_of cursor ≡ fold after start (nows lines)
    → (labels_of (lines_of text) ≡ label_values cursor.labels) × (pieces_of (lines_of text) ≡ map (piece_at (label_values cursor.labels)) placed)
unfolding pieces_of
pieces_are text lines placed cursor same pieces places =
    let labels : labels_of (nows lines) ≡ label_values cursor.labels = ap (λ p. p.labels) (sym places) in
    let all : pieces_of (nows lines) ≡ map (piece_at (label_values cursor.labels)) placed =
    ap (λ ls. pieces_from ls start (nows lines)) labels ∙ pieces (label_values cursor.labels) in
    (ap labels_of (sym same) ∙ labels, ap pieces_of (sym same) ∙ all)

-- A fault that a line has whatever the labels are is that line's fault in the text.
pub present : (text : List ℕ) (lines : List (Bor (List ℕ))) (i : ℕ) (f : AsmFault) → nows lines ≡ lines_of text →
    ((ls : Labels) → slice_get (pieces_from ls start (nows lines)) i ≡ Some (Err f)) → slice_get (pieces_of (lines_of text)) i ≡ Some (Err f)
unfolding pieces_of
present text lines i f same bad = ap (λ all. slice_get (pieces_of all) i) (sym same) ∙ bad (labels_of (nows lines))

-- If no piece is a fault, there is no fault at any place.
pub no_fault : (all : List (Result Piece AsmFault)) (i : ℕ) (f : AsmFault) → All IsOk all → slice_get all i ≡ Some (Err f) → ⊥
no_fault all i f each bad =
    let at : get_or all i (Err f) ≡ Err f = get_or_from_slice_get all i (Err f) (Err f) bad in
    let ok : IsOk (get_or all i (Err f)) = each i (Err f) (slice_get_within all i (Err f) bad) in
    false≢true (subst (λ r. IsOk r) at ok)

-- Two layouts with the same entry and the same sections are the same.
pub same_layout : (a b : Layout) → a.entry ≡ b.entry → a.code ≡ b.code → a.local ≡ b.local → a.shared ≡ b.shared → a ≡ b
same_layout a b entry code local shared =
    let make = λ (e : ℕ) (c l s : List ℕ). let layout : Layout = record { entry = e; code = c; local = l; shared = s } in layout in
    ap (λ (e : ℕ). make e a.code a.local a.shared) entry ∙ ap (λ (c : List ℕ). make b.entry c a.local a.shared) code
    ∙ ap (λ (l : List ℕ). make b.entry b.code l a.shared) local ∙ ap (λ (s : List ℕ). make b.entry b.code b.local s) shared

-- If all lines are placed, none has a fault, and the layout has their bytes and the entry of the cursor's labels,
-- the text means the layout.
pub meaning_from : (text : List ℕ) (lines : List (Bor (List ℕ))) (placed : List LineAt) (cursor : Cursor) (layout : Layout) → nows lines ≡ lines_of text
    → ((ls : Labels) → pieces_from ls start (nows lines) ≡ map (piece_at ls) placed) → place_of cursor ≡ fold after start (nows lines)
    → All IsOk (map (piece_at (label_values cursor.labels)) placed) → layout.code ≡ section_bytes Code (map (piece_at (label_values cursor.labels)) placed) →
    layout.local ≡ section_bytes Local (map (piece_at (label_values cursor.labels)) placed)
    → layout.shared ≡ section_bytes Shared (map (piece_at (label_values cursor.labels)) placed) →
    layout.entry ≡ entry_of (label_values cursor.labels (codes "start")) → IsMeaning text layout
meaning_from text lines placed cursor layout same pieces places oks code local shared entry =
    let are = pieces_are text lines placed cursor same pieces places in
    record {
      faultless = rw are.1 oks;
      code = rw are.1 code;
      local = rw are.1 local;
      shared = rw are.1 shared;
      entry = entry ∙ ap entry_of (ap (λ ls. ls (codes "start")) (sym are.0));
    }
