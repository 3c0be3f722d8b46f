-- A number that is written is read back as the same number.
use Rattle.std.proofs.Common.{◌≡◌, ℕ, suc, ◌+◌, ◌-◌, ◌*◌, ◌^◌, ◌<◌, ◌≤◌, Bool, true, false, not, eqb}
use Rattle.std.proofs.Common.{ltb, List, [], ◌∷◌, length, Some, Ok, refl, ap, ◌∙◌, arith, inl, inr}
use Rattle.std.specs.Prelude.{◌==◌, ◌&&◌, ◌||◌, nat_lt, ℤ, pos, negsuc, int_le, slice_index, unsigned_abs}
use Rattle.std.specs.Char.{digit_value}
use Rattle.std.specs.List.{list_all}
use Rattle.std.specs.Fmt.{decimal, signed_decimal}
use Rattle.std.specs.Str.Parse.{digits_value, digits_value_after, AllDigits, IsNumeral}
use Rattle.std.proofs.lemmas.Fmt.{decimal_is_IsNumeral}
use Rattle.std.proofs.lemmas.Bool.{agree_below, agree_below_at, or_cases, and_right, and_from, le-leb, lt-ltb, le-ltb, ltb-true, not-true}
use Rattle.std.proofs.lemmas.Bool.Decides.{nat_tests}
use Rattle.std.proofs.lemmas.Int.{ints}
use Rattle.asm_lines.specs.Number.{digit_in, digits_after, digits_in, minus, number_of, number_within, natural_within}
use Rattle.asm_lines.proofs.PlainWords.{is_plain, Word}

-- ---- digits

in_digits : (b : ℕ) → digit_value b < 10 → (48 ≤ b) × (b ≤ 57)
in_digits b h = (grind (arith, nat_tests), grind (arith, nat_tests))

digit_again : (b : ℕ) → digit_value b < 10 → digit_in 10 b ≡ Some (digit_value b)
digit_again b h =
    let r = in_digits b h in
    let low = le-leb 48 b r.0 in
    let high = le-leb b 57 r.1 in
    let v : digit_value b ≡ b - 48 = rw (le-ltb b 48 r.0, lt-ltb b 58 (omega arith)) refl in
    let small : ltb (b - 48) 10 ≡ true = lt-ltb _ _ (omega arith) in
    rw v (rw (low, high, small) refl)

digits_again : (v : ℕ) (bs : List ℕ) → AllDigits 10 bs → digits_after 10 v bs ≡ Some (digits_value_after 10 v bs)
digits_again v [] h = refl
digits_again v (b ∷ bs) h = rw (digit_again b h.0) (digits_again (v * 10 + digit_value b) bs h.1)

-- A test that all bytes from 48 to 57 pass is passed by every decimal digit.
pub digit_passes : (q : ℕ → Bool) → agree_below (λ b. nat_lt b 48 || q b) (λ _. true) 58 ≡ true → (b : ℕ) → digit_value b < 10 → q b ≡ true
digit_passes q table b h =
    let r = in_digits b h in
    elim (or_cases (nat_lt b 48) (q b) (agree_below_at (λ b. nat_lt b 48 || q b) (λ _. true) 58 b table (omega arith))) [
      | inl below ↦ absurd (omega (arith, ltb-true b 48 below))
      | inr passes ↦ passes
    ]

-- If each byte from 48 to 57 passes a test, so does each decimal digit of a text.
pub digits_pass : (q : ℕ → Bool) → agree_below (λ b. nat_lt b 48 || q b) (λ _. true) 58 ≡ true → (bs : List ℕ) → AllDigits 10 bs → list_all q bs ≡ true
digits_pass q table [] h = refl
digits_pass q table (b ∷ bs) h = and_from (q b) (list_all q bs) (digit_passes q table b h.0) (digits_pass q table bs h.1)

-- ---- numbers

second_digit : (bs : List ℕ) → AllDigits 10 bs → (slice_index bs 0 == 120) ≡ false
second_digit [] h = refl
second_digit (b ∷ bs) h = not-true _ (digit_passes (λ b. not (eqb b 120)) refl b h.0)

-- A decimal numeral is read as its value.
pub plain_digits : (bs : List ℕ) → IsNumeral 10 bs → number_of bs ≡ Some (pos (digits_value 10 bs))
unfolding number_of digits_in
plain_digits [] h = let none : 0 < 0 = h.0 in absurd (omega arith)
plain_digits (b ∷ bs) h =
    let no_minus : eqb b 45 ≡ false = not-true _ (digit_passes (λ b. not (eqb b 45)) refl b h.1.0) in
    let no_hex : ((slice_index (b ∷ bs) 0 == 48) && (slice_index (b ∷ bs) 1 == 120)) ≡ false =
    and_right (eqb b 48) (slice_index bs 0 == 120) (second_digit bs h.1.1) in
    rw (no_minus, no_hex, digits_again 0 (b ∷ bs) h.1) refl

minus_digits : (bs : List ℕ) → IsNumeral 10 bs → number_of (45 ∷ bs) ≡ Some (minus (digits_value 10 bs))
unfolding number_of digits_in
minus_digits [] h = let none : 0 < 0 = h.0 in absurd (omega arith)
minus_digits (b ∷ bs) h = rw (digits_again 0 (b ∷ bs) h.1) refl

minus_suc : (n : ℕ) → minus (suc n) ≡ negsuc n
minus_suc n = omega (arith, ints)

pub decimal_read : (n : ℕ) → n < 2 ^ 32 → number_of (decimal n) ≡ Some (pos n)
decimal_read n small = let d = decimal_is_IsNumeral n (omega arith) in plain_digits (decimal n) d.0 ∙ ap (λ (v : ℕ). Some (pos v)) d.1

pub signed_read : (z : ℤ) → unsigned_abs z < 2 ^ 32 → number_of (signed_decimal z) ≡ Some z
signed_read (pos n) small = decimal_read n small
signed_read (negsuc n) small = let d = decimal_is_IsNumeral (suc n) (omega arith) in
    minus_digits (decimal (suc n)) d.0 ∙ ap (λ (v : ℕ). Some (minus v)) d.1 ∙ ap (λ (z : ℤ). Some z) (minus_suc n)

-- A number within its bounds is read back from its signed decimal text, if it is below 2^32 in absolute value.
pub within_again : (least most z : ℤ) → unsigned_abs z < 2 ^ 32 → int_le least z ≡ true → int_le z most ≡ true →
    number_within least most (signed_decimal z) ≡ Ok z
unfolding number_within
within_again least most z small low high = rw (signed_read z small, low, high) refl

-- A natural number up to a bound below 2^32 is read back from its decimal text.
pub natural_again : (most n : ℕ) → n ≤ most → most < 2 ^ 32 → natural_within most (decimal n) ≡ Ok n
unfolding natural_within number_within
natural_again most n le small = rw (decimal_read n (omega arith), le-leb 0 n (omega arith), le-leb n most le) refl

-- ---- as words

-- A test that digits and the minus pass is passed by each byte of a signed decimal text.
pub signed_pass : (q : ℕ → Bool) → agree_below (λ b. nat_lt b 48 || q b) (λ _. true) 58 ≡ true → q 45 ≡ true → (z : ℤ) → unsigned_abs z < 2 ^ 32 →
    list_all q (signed_decimal z) ≡ true
signed_pass q table minus (pos n) small = digits_pass q table (decimal n) (decimal_is_IsNumeral n (omega arith)).0.1
signed_pass q table minus (negsuc n) small = and_from (q 45) _ minus (digits_pass q table (decimal (suc n)) (decimal_is_IsNumeral (suc n) (omega arith)).0.1)

signed_some : (z : ℤ) → unsigned_abs z < 2 ^ 32 → 0 < length (signed_decimal z)
signed_some (pos n) small = (decimal_is_IsNumeral n (omega arith)).0.0
signed_some (negsuc n) small = omega arith

-- The signed decimal text of a number below 2^32 in absolute value is a word.
pub signed_word : (z : ℤ) → unsigned_abs z < 2 ^ 32 → Word (signed_decimal z)
signed_word z small = record { plain = signed_pass is_plain refl refl z small; nonempty = signed_some z small }

-- The decimal text of a natural number below 2^32 is a word.
pub decimal_word : (n : ℕ) → n < 2 ^ 32 → Word (decimal n)
decimal_word n small = signed_word (pos n) small
