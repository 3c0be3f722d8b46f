-- Numbers that are written are words, and are read back.
use Rattle.std.proofs.Common.{◌≡◌, ℕ, zero, suc, ◌+◌, ◌/◌, ◌%◌, ◌^◌, ◌<◌, ◌≤◌, Bool, true, false, eqb, List, [], ◌∷◌, ◌++◌, length}
use Rattle.std.proofs.Common.{get_or, Some, None, Ok, refl, ap, ◌∙◌, arith, inl, inr}
use Rattle.std.specs.Prelude.{◌==◌, ◌||◌, nat_lt, pos, Option, unwrap_or, is_some, codes, if◌then◌else◌}
use Rattle.std.specs.Char.{digit_value}
use Rattle.std.specs.Fmt.{decimal}
use Rattle.std.specs.Int.{w32, to_be_bytes}
use Rattle.std.specs.List.{list_all}
use Rattle.std.specs.Str.{bytes_eq}
use Rattle.std.specs.Str.Parse.{AllDigits, IsNumeral}
use Rattle.std.proofs.lemmas.Bool.{agree_below_at, cases_lt, or_cases, and_parts, and_from, eqb-true, le-leb, le-ltb, lt-ltb, ltb-true, ne_eqb}
use Rattle.std.proofs.lemmas.Bool.Decides.{nat_tests}
use Rattle.std.proofs.lemmas.Fmt.{decimal_digit, decimal_is_IsNumeral, decimal_step}
use Rattle.std.proofs.lemmas.Nat.{from_be_bytes-to_be_bytes_4}
use Rattle.hex.specs.Hex.{encode_lower, encode_with, lower_digits, IsBytes}
use Rattle.hex.proofs.HexLemmas.{decode_sized-encode_lower, length-encode_with}
use Rattle.asm_lines.specs.Alike.{IsNumeralOf}
use Rattle.asm_lines.specs.Number.{natural_within, number_of, number_within}
use Rattle.command_io.specs.Digits.{hex_of_byte, hex_of_word}
use Rattle.trace_lines.specs.OrderTexts.{register_text}
use Rattle.trace_text.specs.Words.{number_in, hex_word_in, hex_byte_in}
use Rattle.trace_text.specs.Steps.{register_in}
use Rattle.asm_lines.specs.Names.{register_of}
use Rattle.trace_text.proofs.Splitting.{is_plain, Word}

-- ---- decimal numbers

-- A decimal digit is from 48 to 57.
in_digits : (b : ℕ) → digit_value b < 10 → (48 ≤ b) × (b < 58)
in_digits b h = (grind (arith, nat_tests), grind (arith, nat_tests))

plain_digit : (b : ℕ) → digit_value b < 10 → is_plain b ≡ true
plain_digit b h =
    let low = (in_digits b h).0 in
    let high = (in_digits b h).1 in
    elim (or_cases (nat_lt b 48) (is_plain b) (agree_below_at (λ b. nat_lt b 48 || is_plain b) (λ _. true) 58 b refl high)) [
      | inl below ↦ absurd (omega (arith, ltb-true b 48 below))
      | inr plain ↦ plain
    ]

plain_digits : (bs : List ℕ) → AllDigits 10 bs → list_all is_plain bs ≡ true
plain_digits [] h = refl
plain_digits (b ∷ bs) h = and_from (is_plain b) (list_all is_plain bs) (plain_digit b h.0) (plain_digits bs h.1)

-- The decimal digits of a number are a word.
pub decimal_word : (n : ℕ) → n < 256 → Word (decimal n)
decimal_word n small = let d = decimal_is_IsNumeral n (omega arith) in record { plain = plain_digits (decimal n) d.0.1; nonempty = d.0.0 }

-- The decimal digits of a number are no minus.
pub not_minus : (n : ℕ) → n < 256 → bytes_eq (decimal n) (codes "-") ≡ false
not_minus n small = go (decimal n) (decimal_is_IsNumeral n (omega arith)).0
  where
    go : (ds : List ℕ) → IsNumeral 10 ds → bytes_eq ds (codes "-") ≡ false
    go [] h = absurd (omega (arith, h.0))
    go (c ∷ cs) h =
        let low = (in_digits c h.1.0).0 in
        let e : eqb c 45 ≡ false = ne_eqb c 45 (λ same. omega (arith, low, same)) in
        rw e refl

-- A numeral is read as its number.
abbrev pub AreRead : Type 0
AreRead = (n : ℕ) (bytes : List ℕ) → IsNumeralOf n bytes → number_of bytes ≡ Some (pos n)

-- The decimal digits of a number are read as this number.
pub number_again : AreRead → (n : ℕ) → n < 256 → number_in (decimal n) ≡ Ok n
unfolding number_in natural_within number_within
number_again read n small =
    let is = read n (decimal n) (inl (decimal_is_IsNumeral n (omega arith))) in
    rw (is, le-leb 0 n (omega arith), le-leb n 255 (omega arith)) refl

-- ---- hex digits

plain_at : (xs : List ℕ) → list_all is_plain xs ≡ true → (i : ℕ) → is_plain (get_or xs i 0) ≡ true
plain_at [] h i = refl
plain_at (x ∷ xs) h zero = (and_parts (is_plain x) (list_all is_plain xs) h).0
plain_at (x ∷ xs) h (suc i) = plain_at xs (and_parts (is_plain x) (list_all is_plain xs) h).1 i

plain_hex : (bytes : List ℕ) → list_all is_plain (encode_lower bytes) ≡ true
unfolding encode_with
plain_hex [] = refl
plain_hex (b ∷ bytes) =
    and_from (is_plain (get_or lower_digits (b / 16) 0)) _ (plain_at lower_digits refl (b / 16))
    (and_from (is_plain (get_or lower_digits (b % 16) 0)) _ (plain_at lower_digits refl (b % 16)) (plain_hex bytes))

-- The hex digits of a word are a word.
pub hex_word : (n : ℕ) → Word (hex_of_word n)
hex_word n = record {
  plain = plain_hex (to_be_bytes w32 n);
  nonempty = omega (arith, length-encode_with lower_digits (to_be_bytes w32 n));
}

-- The hex digits of a byte are a word.
pub hex_byte : (n : ℕ) → Word (hex_of_byte n)
hex_byte n = record { plain = plain_hex (n ∷ []); nonempty = omega (arith, length-encode_with lower_digits (n ∷ [])) }

word_bytes : (n : ℕ) → IsBytes (to_be_bytes w32 n)
word_bytes n zero = omega arith
word_bytes n (suc zero) = omega arith
word_bytes n (suc (suc zero)) = omega arith
word_bytes n (suc (suc (suc zero))) = omega arith
word_bytes n (suc (suc (suc (suc i)))) = omega arith

-- The hex digits of a word are read as this word.
pub hex_word_again : (n : ℕ) → n < 2 ^ 32 → hex_word_in (hex_of_word n) ≡ Some n
unfolding hex_word_in
hex_word_again n small =
    rw (decode_sized-encode_lower (to_be_bytes w32 n) 4 refl (word_bytes n)) (ap Some (from_be_bytes-to_be_bytes_4 n small))

one_byte : (n : ℕ) → n < 256 → IsBytes (n ∷ [])
one_byte n small zero = small
one_byte n small (suc i) = omega arith

-- The hex digits of a byte are read as this byte.
pub hex_byte_again : (n : ℕ) → n < 256 → hex_byte_in (hex_of_byte n) ≡ Some n
unfolding hex_byte_in
hex_byte_again n small = rw (decode_sized-encode_lower (n ∷ []) 1 refl (one_byte n small)) refl

-- ---- registers

-- the one or two decimal digits of a number
abbrev digits_of_small : ℕ → List ℕ
digits_of_small n = if nat_lt n 10 then (48 + n) ∷ [] else (48 + n / 10) ∷ (48 + n % 10) ∷ []

small_decimal : (n : ℕ) → n < 100 → decimal n ≡ digits_of_small n
small_decimal n small =
    elim (cases_lt n 10) [
      | inl one ↦ rw (lt-ltb n 10 one) (decimal_digit n one)
      | inr two ↦ rw (le-ltb n 10 two) (decimal_step n two (omega arith) ∙ ap (λ ds. ds ++ (48 + n % 10) ∷ []) (decimal_digit (n / 10) (omega arith)))
    ]

-- a register's name, with its digits one by one
abbrev written_name : ℕ → List ℕ
written_name r = if r == 32 then codes "pc" else codes "x" ++ digits_of_small r

name_is : (r : ℕ) → r < 33 → register_text r ≡ written_name r
name_is r small = ap (λ ds. if r == 32 then codes "pc" else codes "x" ++ ds) (small_decimal r (omega arith))

-- whether a register's name is read as the register
abbrev is_named : ℕ → Bool
is_named r = eqb (unwrap_or (register_in (written_name r)) 99) r

some_from : (o : Option ℕ) (r : ℕ) → r < 33 → unwrap_or o 99 ≡ r → o ≡ Some r
some_from (Some v) r small e = ap Some e
some_from None r small e = absurd (omega arith)

-- A register's name is read as the register.
pub register_again : (r : ℕ) → r < 33 → register_in (register_text r) ≡ Some r
unfolding register_in register_of
register_again r small =
    ap register_in (name_is r small) ∙ some_from _ r small (eqb-true _ r (agree_below_at is_named (λ _. true) 33 r refl small))

none_from : (o : Option ℕ) → is_some o ≡ false → o ≡ None
none_from (Some v) e = cc e
none_from None e = refl

-- A register's name is no address.
pub no_address : (r : ℕ) → r < 33 → hex_word_in (register_text r) ≡ None
unfolding hex_word_in
no_address r small =
    ap hex_word_in (name_is r small)
    ∙ none_from _ (agree_below_at (λ r. is_some (hex_word_in (written_name r))) (λ _. false) 33 r refl small)

-- A register's name is a word.
pub register_word : (r : ℕ) → r < 33 → Word (register_text r)
register_word r small =
    rw (name_is r small)
    (record {
      plain = agree_below_at (λ r. list_all is_plain (written_name r)) (λ _. true) 33 r refl small;
      nonempty = ltb-true 0 _ (agree_below_at (λ r. nat_lt 0 (length (written_name r))) (λ _. true) 33 r refl small);
    })
