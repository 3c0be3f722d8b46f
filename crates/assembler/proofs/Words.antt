-- The loop over the values of `.word`.
use Rattle.std.proofs.Common.{◌≡◌, ℕ, ◌+◌, ◌^◌, ◌<◌, ◌≤◌, List, ◌∷◌, ◌++◌, length, get_or, drop, Result, Ok, Err}
use Rattle.std.proofs.Common.{Bor, BTreeMap, refl, sym, ap, ◌∙◌, append_assoc, append-nil, add-one, drop-cons}
use Rattle.std.specs.Prelude.{map, IsOkAnd}
use Rattle.std.specs.Int.{w32, to_le_bytes}
use Rattle.std.proofs.Math.ListN.{drop_of_length-le}
use Rattle.asm_lines.specs.declared.statement.Value.{Value}
use Rattle.asm_lines.specs.Statements.{val_of}
use Rattle.assembler.specs.declared.fault.AsmFault.{AsmFault}
use Rattle.asm_lines.specs.Number.{low_bits}
use Rattle.assembler.specs.declared.symbol.Symbol.{Symbol}
use Rattle.assembler.specs.declared.values.Part.TheVariants as parts
use Rattle.assembler.specs.Faults.{◌>>=◌}
use Rattle.assembler.specs.Meaning.{part_of, words_bytes}
use Rattle.assembler.specs.Passes.{label_values, taken}

abbrev prefixed : List ℕ → Result (List ℕ) AsmFault → Result (List ℕ) AsmFault
prefixed front read = read >>= λ bytes. Ok (front ++ bytes)

-- The bytes so far, followed by those of the remaining values, are those of all values.
pub record WordsSoFar (m : BTreeMap (Bor (List ℕ)) Symbol) (values : List Value) (i : ℕ) (old out : List ℕ) : Type 0 where
  -- the bytes that were added
  pub done : List ℕ
  pub out_is : out ≡ old ++ done
  pub so_far : prefixed done (words_bytes (label_values m) (map val_of (drop i values))) ≡ words_bytes (label_values m) (map val_of values)

module _ (m : BTreeMap (Bor (List ℕ)) Symbol) (values : List Value) (i : ℕ) (d : Value) (old out : List ℕ) where
  rest_is : i < length values → map val_of (drop i values) ≡ val_of (get_or values i d) ∷ map val_of (drop (i + 1) values)
  rest_is lt = rw (add-one, drop-cons values i d lt) refl

  -- After the word of one more value is appended, the bytes so far are those of one more value.
  pub words_more : (z : _) (out' : List ℕ) → i < length values → WordsSoFar m values i old out →
      part_of (taken parts.Whole) (label_values m) (val_of (get_or values i d)) ≡ Ok z → out' ≡ out ++ to_le_bytes w32 (low_bits (2 ^ 32) z)
      → WordsSoFar m values (i + 1) old out'
  unfolding words_bytes
  words_more z out' lt before read more = record {
    done = before.done ++ to_le_bytes w32 (low_bits (2 ^ 32) z);
    out_is = more ∙ ap (λ x. x ++ to_le_bytes w32 (low_bits (2 ^ 32) z)) before.out_is ∙ append_assoc old before.done _;
    so_far =
        let ls = label_values m in
        let one : words_bytes (label_values m) (map val_of (drop i values))
        ≡ (words_bytes (label_values m) (map val_of (drop (i + 1) values)) >>= λ bytes. Ok (to_le_bytes w32 (low_bits (2 ^ 32) z) ++ bytes)) =
        ap (words_bytes (label_values m)) (rest_is lt) ∙ rw read refl in
        sym (regroup before.done (to_le_bytes w32 (low_bits (2 ^ 32) z)) _) ∙ ap (prefixed before.done) (sym one) ∙ before.so_far;
  }
    where
      regroup : (front new : List ℕ) (r : Result (List ℕ) AsmFault) → prefixed front (r >>= λ bytes. Ok (new ++ bytes)) ≡ prefixed (front ++ new) r
      regroup front new (Ok bytes) = ap (λ (x : List ℕ). Ok x) (sym (append_assoc front new bytes))
      regroup front new (Err f) = refl

  -- If one of the values has a fault, and none before it has one, this is the fault of the whole list.
  pub words_fault : (f : AsmFault) → i < length values → WordsSoFar m values i old out →
      part_of (taken parts.Whole) (label_values m) (val_of (get_or values i d)) ≡ Err f → words_bytes (label_values m) (map val_of values) ≡ Err f
  unfolding words_bytes
  words_fault f lt before read =
      let one : words_bytes (label_values m) (map val_of (drop i values)) ≡ Err f = ap (words_bytes (label_values m)) (rest_is lt) ∙ rw read refl in
      sym before.so_far ∙ ap (prefixed before.done) one

  -- After the last value, the bytes that were added are those of all values.
  pub words_done : length values ≤ i → WordsSoFar m values i old out → IsOkAnd (words_bytes (label_values m) (map val_of values)) (λ bytes. out ≡ old ++ bytes)
  unfolding words_bytes
  words_done le before =
      let one : prefixed before.done (words_bytes (label_values m) (map val_of (drop i values))) ≡ Ok before.done =
      rw (drop_of_length-le values le) (ap (λ (x : List ℕ). Ok x) (append-nil before.done)) in
      rw (sym before.so_far ∙ one) before.out_is
