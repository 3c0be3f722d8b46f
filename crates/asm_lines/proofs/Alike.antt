-- Numerals of one number are read alike.
use Rattle.std.proofs.Common.{◌≡◌, ℕ, ◌+◌, ◌*◌, ◌<◌, Bool, true, false, not, eqb, cond, List, []}
use Rattle.std.proofs.Common.{◌∷◌, Option, Some, None, Err, refl, sym, ap, ◌∙◌, arith, inl, inr}
use Rattle.std.specs.Prelude.{◌==◌, ◌&&◌, ◌||◌, nat_lt, ℤ, pos, find, is_some, unwrap_or, slice_index}
use Rattle.std.specs.Char.{digit_value}
use Rattle.std.specs.List.{list_all}
use Rattle.std.specs.Str.{bytes_eq}
use Rattle.std.specs.Str.Parse.{digits_value_after, AllDigits}
use Rattle.std.proofs.lemmas.Bool.{agree_below, agree_below_at, and_parts, and_from, and_left, or_cases, eqb-true, not-true, lt-ltb, true≢false}
use Rattle.std.proofs.lemmas.Bool.Decides.{nat_tests}
use Rattle.asm_lines.specs.declared.fault.LineFault.TheVariants.{Form}
use Rattle.asm_lines.specs.Text.{is_blank}
use Rattle.asm_lines.specs.Number.{digit_in, digits_after, digits_in, number_of, number_within, natural_within}
use Rattle.asm_lines.specs.Names.{x_name, use_name, numbers, register_of}
use Rattle.asm_lines.specs.Statements.{is_letter, is_name, register_in, value_in, bracket_parts, part_in, upper_in, lower_in, byte_in, nothing_in}
use Rattle.asm_lines.specs.Alike.{IsHexOf, IsNumeralOf, AreReadAlike}
use Rattle.asm_lines.proofs.Numerals.{digit_passes, digits_pass, plain_digits}
use Rattle.asm_lines.proofs.PlainWords.{weaker, bracketed_none}

-- ---- hex digits

hex_below : (b : ℕ) → digit_value b < 16 → b < 128
hex_below b h = grind (arith, nat_tests)

-- A test that all hex digits among the first 128 bytes pass is passed by every hex digit.
hex_passes : (q : ℕ → Bool) → agree_below (λ b. not (nat_lt (digit_value b) 16) || q b) (λ _. true) 128 ≡ true → (b : ℕ) → digit_value b < 16 → q b ≡ true
hex_passes q table b h =
    elim (or_cases (not (nat_lt (digit_value b) 16)) (q b)
    (agree_below_at (λ b. not (nat_lt (digit_value b) 16) || q b) (λ _. true) 128 b table (hex_below b h))) [
      | inl past ↦ absurd (true≢false (sym (lt-ltb (digit_value b) 16 h) ∙ not-true (nat_lt (digit_value b) 16) past))
      | inr passes ↦ passes
    ]

hex_digits_pass : (q : ℕ → Bool) → agree_below (λ b. not (nat_lt (digit_value b) 16) || q b) (λ _. true) 128 ≡ true → (bs : List ℕ) → AllDigits 16 bs
    → list_all q bs ≡ true
hex_digits_pass q table [] h = refl
hex_digits_pass q table (b ∷ bs) h = and_from (q b) (list_all q bs) (hex_passes q table b h.0) (hex_digits_pass q table bs h.1)

abbrev is_its_value : ℕ → Bool
is_its_value b = is_some (digit_in 16 b) && (unwrap_or (digit_in 16 b) 99 == digit_value b)

some_value : (o : Option ℕ) (v : ℕ) → is_some o ≡ true → unwrap_or o 99 ≡ v → o ≡ Some v
some_value None v h e = absurd cc
some_value (Some x) v h e = ap (λ (y : ℕ). Some y) e

hex_digit : (b : ℕ) → digit_value b < 16 → digit_in 16 b ≡ Some (digit_value b)
hex_digit b h =
    let a = and_parts (is_some (digit_in 16 b)) (unwrap_or (digit_in 16 b) 99 == digit_value b) (hex_passes is_its_value refl b h) in
    some_value (digit_in 16 b) (digit_value b) a.0 (eqb-true _ _ a.1)

hex_digits : (v : ℕ) (bs : List ℕ) → AllDigits 16 bs → digits_after 16 v bs ≡ Some (digits_value_after 16 v bs)
hex_digits v [] h = refl
hex_digits v (b ∷ bs) h = rw (hex_digit b h.0) (hex_digits (v * 16 + digit_value b) bs h.1)

-- ---- the number of a numeral

hex_number : (n : ℕ) (bytes : List ℕ) → IsHexOf n bytes → number_of bytes ≡ Some (pos n)
unfolding number_of digits_in
hex_number n bytes ([], is, numeral, value) = let none : 0 < 0 = numeral.0 in absurd (omega arith)
hex_number n bytes (b ∷ bs, is, numeral, value) = rw (is, hex_digits 0 (b ∷ bs) numeral.1) (ap (λ (v : ℕ). Some (pos v)) value)

-- A numeral of a number is read as that number.
pub numeral_number : (n : ℕ) (bytes : List ℕ) → IsNumeralOf n bytes → number_of bytes ≡ Some (pos n)
numeral_number n bytes (inl decimal) = plain_digits bytes decimal.0 ∙ ap (λ (v : ℕ). Some (pos v)) decimal.1
numeral_number n bytes (inr hex) = hex_number n bytes hex

-- ---- a numeral is nothing else

-- The text begins with a digit, and has no blank and no closing bracket.
pub record LooksLikeNumber (bytes : List ℕ) : Type 0 where
  -- the first byte
  pub first : ℕ
  -- the bytes after it
  pub rest : List ℕ
  -- these are all bytes of the numeral
  pub is : bytes ≡ first ∷ rest
  -- the first byte is a decimal digit
  pub digit : digit_value first < 10
  -- no byte is a blank
  pub solid : list_all (λ b. not (is_blank b)) bytes ≡ true
  -- no byte is a closing bracket
  pub unclosed : list_all (λ b. not (eqb b 41)) bytes ≡ true

-- Each numeral begins with a digit, and has no blank and no closing bracket.
pub looks : (n : ℕ) (bytes : List ℕ) → IsNumeralOf n bytes → LooksLikeNumber bytes
looks n [] (inl decimal) = let none : 0 < 0 = decimal.0.0 in absurd (omega arith)
looks n (b ∷ bs) (inl decimal) = record {
  first = b;
  rest = bs;
  is = refl;
  digit = decimal.0.1.0;
  solid =
      digits_pass (λ b. not (is_blank b)) refl (b ∷ bs) decimal.0.1;
  unclosed = digits_pass (λ b. not (eqb b 41)) refl (b ∷ bs) decimal.0.1;
}
looks n bytes (inr hex) = record {
  first = 48;
  rest = 120 ∷ hex.0;
  is = hex.1;
  digit = omega arith;
  solid = rw hex.1 (hex_digits_pass (λ b. not (is_blank b)) refl hex.0 hex.2.1);
  unclosed = rw hex.1 (hex_digits_pass (λ b. not (eqb b 41)) refl hex.0 hex.2.1);
}

-- whether no register's name begins with this byte
abbrev begins_no_register : ℕ → Bool
begins_no_register b = list_all (λ r. not (eqb (slice_index (x_name r) 0) b) && not (eqb (slice_index (use_name r) 0) b)) numbers

other_name : (name : List ℕ) (b : ℕ) (bs : List ℕ) → eqb (slice_index name 0) b ≡ false → bytes_eq name (b ∷ bs) ≡ false
other_name [] b bs h = refl
other_name (c ∷ cs) b bs h = and_left (eqb c b) _ h

-- If no element of a list passes a test, none is found.
pub find_nothing : (p : ℕ → Bool) (xs : List ℕ) → list_all (λ x. not (p x)) xs ≡ true → find p xs ≡ None
find_nothing p [] h = refl
find_nothing p (x ∷ xs) h =
    let a = and_parts (not (p x)) (list_all (λ y. not (p y)) xs) h in
    ap (λ t. cond t (Some x) (find p xs)) (not-true (p x) a.0) ∙ find_nothing p xs a.1

no_register : (b : ℕ) (bs : List ℕ) → digit_value b < 10 → register_of (b ∷ bs) ≡ None
unfolding register_of
no_register b bs h = find_nothing (λ r. bytes_eq (x_name r) (b ∷ bs) || bytes_eq (use_name r) (b ∷ bs)) numbers
    (weaker (λ r. not (eqb (slice_index (x_name r) 0) b) && not (eqb (slice_index (use_name r) 0) b))
    (λ r. not (bytes_eq (x_name r) (b ∷ bs) || bytes_eq (use_name r) (b ∷ bs)))
    (λ r e. let a = and_parts (not (eqb (slice_index (x_name r) 0) b)) (not (eqb (slice_index (use_name r) 0) b)) e in
    rw (other_name (x_name r) b bs (not-true _ a.0), other_name (use_name r) b bs (not-true _ a.1)) refl)
    numbers (digit_passes begins_no_register refl b h))

-- ---- what each reader gives for a numeral

module _ (n : ℕ) (bytes : List ℕ) (is : IsNumeralOf n bytes) where
  no_brackets : bracket_parts bytes ≡ None
  no_brackets = let l = looks n bytes is in bracketed_none bytes (rw l.is (omega arith)) l.unclosed

  register_fails : register_of bytes ≡ None
  register_fails = let l = looks n bytes is in rw l.is (no_register l.first l.rest l.digit)

  no_name : is_name bytes ≡ false
  unfolding is_name
  no_name = let l = looks n bytes is in rw l.is (and_left (is_letter l.first) _ (not-true _ (digit_passes (λ b. not (is_letter b)) refl l.first l.digit)))

  no_nothing : nothing_in (bytes ∷ []) ≡ Err Form
  unfolding nothing_in
  no_nothing = let l = looks n bytes is in rw l.is refl

module _ (n : ℕ) (one other : List ℕ) (is : IsNumeralOf n one) (is' : IsNumeralOf n other) where
  same_number : number_of one ≡ number_of other
  same_number = numeral_number n one is ∙ sym (numeral_number n other is')

  within_alike : (least most : ℤ) → number_within least most one ≡ number_within least most other
  unfolding number_within
  within_alike least most = rw same_number refl

  -- Two numerals of the same number are read alike.
  pub numerals_alike : AreReadAlike one other
  unfolding register_in value_in upper_in lower_in part_in natural_within byte_in
  numerals_alike = record {
    register = rw (register_fails n one is, register_fails n other is') refl;
    value = λ least most. rw (no_name n one is, no_name n other is', within_alike least most) refl;
    upper = rw (no_brackets n one is, no_brackets n other is', within_alike (pos 0) (pos 1048575)) refl;
    lower = rw (no_brackets n one is, no_brackets n other is', within_alike _ _) refl;
    natural = λ most. rw (within_alike (pos 0) (pos most)) refl;
    byte = rw (within_alike _ _) refl;
    brackets = rw (no_brackets n one is, no_brackets n other is') tt;
    nothing = no_nothing n one is ∙ sym (no_nothing n other is');
  }
