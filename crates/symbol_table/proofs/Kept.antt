-- Symbols that are kept one after another.
use Rattle.std.proofs.Common.{◌≡◌, ℕ, suc, ◌+◌, ◌-◌, ◌<◌, ◌≤◌, Bool, cond, List, [], ◌∷◌, ◌++◌, map, Option, Some, None}
use Rattle.std.proofs.Common.{option_map, option_to_list, find, filter_map, slice_get, sym, ap, ◌∙◌, arith, append_assoc, append-nil}
use Rattle.std.specs.List.{cons_option, range_with_len}
use Rattle.std.proofs.lemmas.List.{map-append}
use Rattle.std.proofs.lemmas.List.FromFn.{get_or-map-range_with_len, length-map-range_with_len}
use Rattle.std.proofs.lemmas.Option.{slice_get-get_or, slice_get_past}
use Rattle.symbol_table.specs.declared.row.Symbol.{Symbol}
use Rattle.symbol_table.specs.Rows.{SymbolRow, row_of}

-- After the symbol of one more item is kept, the rows so far and those of the rest are still all rows.
pub kept_row : {X : Type 0} (g : X → Option SymbolRow) (x : X) (xs : List X) (old new : List Symbol) (found : Option Symbol) (all : List SymbolRow) →
    new ≡ old ++ option_to_list found → option_map row_of found ≡ g x → map row_of old ++ filter_map g (x ∷ xs) ≡ all →
    map row_of new ++ filter_map g xs ≡ all
kept_row g x xs old new None all is_new is so_far =
    ap (λ (us : List Symbol). map row_of us ++ filter_map g xs) (is_new ∙ append-nil old)
    ∙ ap (λ (o : Option SymbolRow). map row_of old ++ cons_option o (filter_map g xs)) is ∙ so_far
kept_row g x xs old new (Some s) all is_new is so_far =
    ap (λ (us : List Symbol). map row_of us ++ filter_map g xs) is_new
    ∙ ap (λ (us : List SymbolRow). us ++ filter_map g xs) (map-append row_of old (s ∷ []))
    ∙ append_assoc (map row_of old) (row_of s ∷ []) (filter_map g xs)
    ∙ ap (λ (o : Option SymbolRow). map row_of old ++ cons_option o (filter_map g xs)) is ∙ so_far

-- The numbers from k to below n are k and those from k + 1 on.
pub range_next : (k n : ℕ) → k < n → range_with_len k (n - k) ≡ k ∷ range_with_len (k + 1) (n - (k + 1))
range_next k n lt = let next : n - k ≡ suc (n - (k + 1)) = omega arith in ap (range_with_len k) next

range_end : (k n : ℕ) → n ≤ k → range_with_len k (n - k) ≡ []
range_end k n le = let none : n - k ≡ 0 = omega arith in ap (range_with_len k) none

module _ {Y : Type 0} (h : Y → Option SymbolRow) (f : ℕ → Y) (k n : ℕ) (old : List Symbol) (all : List SymbolRow)
    (so_far : map row_of old ++ filter_map h (map f (range_with_len k (n - k))) ≡ all) where
  -- The same, for the item with the number k.
  pub next_row : (new : List Symbol) (found : Option Symbol) → k < n → new ≡ old ++ option_to_list found → option_map row_of found ≡ h (f k) →
      map row_of new ++ filter_map h (map f (range_with_len (k + 1) (n - (k + 1)))) ≡ all
  next_row new found lt is_new is =
      kept_row h (f k) (map f (range_with_len (k + 1) (n - (k + 1)))) old new found all is_new is
      (ap (λ (ks : List ℕ). map row_of old ++ filter_map h (map f ks)) (sym (range_next k n lt)) ∙ so_far)

  -- After the last item, the rows so far are all rows.
  pub all_rows : n ≤ k → map row_of old ≡ all
  all_rows le =
      sym (append-nil (map row_of old)) ∙ ap (λ (ks : List ℕ). map row_of old ++ filter_map h (map f ks)) (sym (range_end k n le)) ∙ so_far

-- The first of the items from k on that passes is the item k or the first of those from k + 1 on.
pub find_next : {Y : Type 0} (p : Y → Bool) (f : ℕ → Y) (k n : ℕ) → k < n → find p (map f (range_with_len k (n - k)))
    ≡ cond (p (f k)) (Some (f k)) (find p (map f (range_with_len (k + 1) (n - (k + 1)))))
find_next p f k n lt = ap (λ (ks : List ℕ). find p (map f ks)) (range_next k n lt)

-- There is no first one after the last item.
pub find_end : {Y : Type 0} (p : Y → Bool) (f : ℕ → Y) (k n : ℕ) → n ≤ k → find p (map f (range_with_len k (n - k))) ≡ None
find_end p f k n le = ap (λ (ks : List ℕ). find p (map f ks)) (range_end k n le)

-- An item of a list that a function of the number gives.
pub get_within : {Y : Type 0} (f : ℕ → Y) (n i : ℕ) → i < n → slice_get (map f (range_with_len 0 n)) i ≡ Some (f i)
get_within f n i lt =
    slice_get-get_or (map f (range_with_len 0 n)) i (f i) (omega (arith, length-map-range_with_len f 0 n))
    ∙ ap Some (get_or-map-range_with_len f 0 n i i (f i) lt (omega arith))

-- Past its end there is none.
pub get_past : {Y : Type 0} (f : ℕ → Y) (n i : ℕ) → n ≤ i → slice_get (map f (range_with_len 0 n)) i ≡ None
get_past f n i le = slice_get_past (map f (range_with_len 0 n)) i (omega (arith, length-map-range_with_len f 0 n))
