-- A loop that reads each operand into an element.
use Rattle.std.proofs.Common.{◌≡◌, ℕ, ◌+◌, ◌<◌, ◌≤◌, List, [], ◌∷◌, ◌++◌, length, get_or, drop, map, Result, Ok}
use Rattle.std.proofs.Common.{Err, Bor, refl, sym, ap, ◌∙◌, append_assoc, append-nil, add-one, drop-cons}
use Rattle.std.proofs.lemmas.List.{map-append}
use Rattle.std.proofs.Math.ListN.{drop_of_length-le}
use Rattle.asm_lines.specs.declared.fault.LineFault.{LineFault}
use Rattle.asm_lines.specs.Steps.{◌>>=◌}
use Rattle.asm_lines.specs.Statements.{each}

abbrev nows : List (Bor (List ℕ)) → List (List ℕ)
nows operands = map (λ (operand : Bor (List ℕ)). operand.now) operands

abbrev pub with_front : {A : Type 0} → List A → Result (List A) LineFault → Result (List A) LineFault
with_front front read = read >>= λ xs. Ok (front ++ xs)

at_item : (operands : List (Bor (List ℕ))) (i : ℕ) (d : Bor (List ℕ)) → i < length operands →
    nows (drop i operands) ≡ (get_or operands i d).now ∷ nows (drop (i + 1) operands)
at_item operands i d lt = rw (add-one, drop-cons operands i d lt) refl

-- elements of the code that are, seen by `view`, what `read` gives
module _ {X A : Type 0} (view : X → A) (read : List ℕ → Result A LineFault) (operands : List (Bor (List ℕ))) (i : ℕ) (d : Bor (List ℕ)) where
  regroup : (front : List A) (x : A) (r : Result (List A) LineFault) → with_front front (r >>= λ xs. Ok (x ∷ xs)) ≡ with_front (front ++ x ∷ []) r
  regroup front x (Ok xs) = ap (λ (ys : List A). Ok ys) (sym (append_assoc front (x ∷ []) xs))
  regroup front x (Err e) = refl

  pub each_more : (old new : List X) (x : X) (total : Result (List A) LineFault) → i < length operands → read (get_or operands i d).now ≡ Ok (view x) →
      new ≡ old ++ x ∷ []
      → with_front (map view old) (each read (nows (drop i operands))) ≡ total → with_front (map view new) (each read (nows (drop (i + 1) operands))) ≡ total
  each_more old new x total lt is_x is_new so_far =
      let one : each read (nows (drop i operands)) ≡ (each read (nows (drop (i + 1) operands)) >>= λ xs. Ok (view x ∷ xs)) =
      rw (at_item operands i d lt, is_x) refl in
      rw (is_new, map-append) (sym (regroup (map view old) (view x) _) ∙ rw (← one) so_far)

  pub each_fails : (front : List A) (f : LineFault) (total : Result (List A) LineFault) → i < length operands → read (get_or operands i d).now ≡ Err f →
      with_front front (each read (nows (drop i operands))) ≡ total → total ≡ Err f
  each_fails front f total lt bad so_far =
      let one : each read (nows (drop i operands)) ≡ Err f = rw (at_item operands i d lt, bad) refl in
      sym so_far ∙ rw one refl

  pub each_done : (front : List A) (total : Result (List A) LineFault) → length operands ≤ i → with_front front (each read (nows (drop i operands))) ≡ total →
      total ≡ Ok front
  each_done front total le so_far = sym so_far ∙ rw (drop_of_length-le operands le) (ap (λ (xs : List A). Ok xs) (append-nil front))
