-- Digits that `from_str_radix` reads.
use Rattle.std.proofs.Common.{◌≡◌, ◌⊎◌, ℕ, ◌^◌, ◌<◌, ◌≤◌, Bool, true, false, ◌&&◌, List, [], ◌∷◌, length, nat_lt}
use Rattle.std.proofs.Common.{Result, Ok, Err, Some, None, OkIff, refl, sym, ap, ◌∙◌, inl, inr}
use Rattle.std.specs.Char.{digit_value}
use Rattle.std.specs.List.{list_all}
use Rattle.std.specs.Result.{result_ok}
use Rattle.std.specs.Str.Parse.{AllDigits, IsNumeral, ParsesUnsigned, digits_value, without_leading_plus}
use Rattle.std.proofs.lemmas.Bool.{and_from, and_left, and_parts, and_right, cases_lt, cond-false, cond-true, le-ltb, lt-ltb, ltb-true}
use Rattle.state_conditions.specs.Texts.{is_numeral, numeral, value_of_digits}

module _ (radix : ℕ) where
  all_true : (ds : List ℕ) → AllDigits radix ds → list_all (λ b. nat_lt (digit_value b) radix) ds ≡ true
  all_true [] all = refl
  all_true (d ∷ ds) all = and_from _ _ (lt-ltb (digit_value d) radix all.0) (all_true ds all.1)

  all_digits : (ds : List ℕ) → list_all (λ b. nat_lt (digit_value b) radix) ds ≡ true → AllDigits radix ds
  all_digits [] e = tt
  all_digits (d ∷ ds) e =
      let parts = and_parts (nat_lt (digit_value d) radix) (list_all (λ b. nat_lt (digit_value b) radix) ds) e in
      (ltb-true (digit_value d) radix parts.0, all_digits ds parts.1)

  numeral_true : (ds : List ℕ) → IsNumeral radix ds → is_numeral radix ds ≡ true
  numeral_true ds h = and_from _ _ (lt-ltb 0 (length ds) h.0) (all_true ds h.1)

  true_numeral : (ds : List ℕ) → is_numeral radix ds ≡ true → IsNumeral radix ds
  true_numeral ds e =
      let parts = and_parts (nat_lt 0 (length ds)) (list_all (λ b. nat_lt (digit_value b) radix) ds) e in
      (ltb-true 0 (length ds) parts.0, all_digits ds parts.1)

  value_as : {E : Type 0} (ds : List ℕ) (parsed : Result ℕ E) →
      OkIff parsed (IsNumeral radix ds × (digits_value radix ds < 2 ^ 32)) (digits_value radix ds) → result_ok parsed ≡ value_of_digits radix ds
  value_as ds (Ok x) h =
      let value = digits_value radix ds in
      ap Some h.1 ∙ sym (cond-true (is_numeral radix ds && nat_lt value (2 ^ 32)) (Some value) None
      (and_from _ _ (numeral_true ds h.0.0) (lt-ltb value (2 ^ 32) h.0.1)))
  value_as ds (Err error) h =
      let value = digits_value radix ds in
      sym (cond-false (is_numeral radix ds && nat_lt value (2 ^ 32)) (Some value) None (by (is_numeral radix ds) refl (cases_lt value (2 ^ 32))))
    where
      by : (b : Bool) → is_numeral radix ds ≡ b → (digits_value radix ds < 2 ^ 32) ⊎ (2 ^ 32 ≤ digits_value radix ds) →
          (is_numeral radix ds && nat_lt (digits_value radix ds) (2 ^ 32)) ≡ false
      by false e _ = and_left _ _ e
      by true e (inl lt) = absurd (h (true_numeral ds e, lt))
      by true e (inr le) = and_right _ _ (le-ltb (digits_value radix ds) (2 ^ 32) le)

-- What `from_str_radix` gives is the number that the text spells.
pub parsed_is : {E : Type 0} (radix : ℕ) (text : List ℕ) (parsed : Result ℕ E) → ParsesUnsigned 32 radix text parsed →
    result_ok parsed ≡ numeral radix text
unfolding numeral
parsed_is radix text parsed h = value_as radix (without_leading_plus text) parsed h
