-- The last symbol at or below an address.
use Rattle.std.proofs.Common.{◌≡◌, ℕ, zero, suc, ◌-◌, ◌<◌, ◌≤◌, Bool, true, false, leb, List, [], ◌∷◌, length, get_or, take, map, Option}
use Rattle.std.proofs.Common.{Some, None, IfSome, option_map, slice_get, refl, sym, ap, ◌∙◌, arith, get_or-take, length-take}
use Rattle.std.specs.List.{AllWithin, filter, last_or}
use Rattle.std.specs.List.Sorted.{IsPartitionPoint}
use Rattle.std.proofs.lemmas.Bool.{cond-false, cond-true, leb-true}
use Rattle.std.proofs.lemmas.Option.{get_or_from_slice_get, slice_get_within}
use Rattle.symbol_table.specs.declared.row.Symbol.{Symbol}
use Rattle.symbol_table.specs.Rows.{nearest, row_of}
use Rattle.symbol_table.proofs.Mapped.{filter_rows}

module _ {X : Type 0} where
  -- If the elements before a place pass and those from it on fail, a filter keeps those before it.
  filter_is : (p : X → Bool) (xs : List X) (i : ℕ) → AllWithin (λ x. p x ≡ true) xs 0 i → AllWithin (λ x. p x ≡ false) xs i (length xs) →
      filter p xs ≡ take i xs
  filter_is p [] zero below above = refl
  filter_is p [] (suc i) below above = refl
  filter_is p (x ∷ xs) zero below above =
      cond-false (p x) (x ∷ filter p xs) (filter p xs) (above zero x (omega arith) (omega arith))
      ∙ filter_is p xs zero (λ k d low high. absurd (omega arith)) (λ k d low high. above (suc k) d (omega arith) (omega arith))
  filter_is p (x ∷ xs) (suc i) below above =
      cond-true (p x) (x ∷ filter p xs) (filter p xs) (below zero x (omega arith) (omega arith))
      ∙ ap (λ (us : List X). x ∷ us)
      (filter_is p xs i (λ k d low high. below (suc k) d (omega arith) (omega arith)) (λ k d low high. above (suc k) d (omega arith) (omega arith)))

  last_is : (xs : List X) → last_or None xs ≡ slice_get xs (length xs - 1)
  last_is [] = refl
  last_is (x ∷ []) = refl
  last_is (x ∷ y ∷ xs) =
      let next : suc (suc (length xs)) - 1 ≡ suc (suc (length xs) - 1) = omega arith in last_is (y ∷ xs) ∙ ap (slice_get (x ∷ y ∷ xs)) (sym next)

last_map : (o : Option Symbol) (xs : List Symbol) → last_or (option_map row_of o) (map row_of xs) ≡ option_map row_of (last_or o xs)
last_map o [] = refl
last_map o (x ∷ xs) = last_map (Some x) xs

module _ (symbols : List Symbol) (address count : ℕ)
    (point : IsPartitionPoint (λ (s : Symbol). leb s.address address ≡ true) (λ (s : Symbol). leb s.address address ≡ false) symbols count)
    (found : Option Symbol) (is : found ≡ slice_get (take count symbols) (length (take count symbols) - 1)) where
  -- The last symbol before the first one above an address is the nearest.
  pub nearest_found : option_map row_of found ≡ nearest (map row_of symbols) address
  nearest_found =
      ap (option_map row_of)
      (is ∙ sym (last_is (take count symbols)) ∙ ap (last_or None) (sym (filter_is (λ (s : Symbol). leb s.address address) symbols count point.0 point.1)))
      ∙ sym (last_map None (filter (λ (s : Symbol). leb s.address address) symbols))
      ∙ ap (last_or None) (sym (filter_rows (λ k. leb k address) symbols))

  -- It is at or below the address.
  pub found_below : IfSome found (λ (s : Symbol). s.address ≤ address)
  found_below = go found is
    where
      go : (o : Option Symbol) → o ≡ slice_get (take count symbols) (length (take count symbols) - 1) → IfSome o (λ (s : Symbol). s.address ≤ address)
      go None e = tt
      go (Some s) e =
          let k = length (take count symbols) - 1 in
          let inside : k < length (take count symbols) = slice_get_within (take count symbols) k s (sym e) in
          let short : k < count = omega (arith, length-take count symbols) in
          let reads : get_or symbols k s ≡ s = sym (get_or-take count symbols k s short) ∙ get_or_from_slice_get (take count symbols) k s s (sym e) in
          let passes = point.0 k s (omega arith) short in
          let low = leb-true s.address address (ap (λ (x : Symbol). leb x.address address) (sym reads) ∙ passes) in
          low
