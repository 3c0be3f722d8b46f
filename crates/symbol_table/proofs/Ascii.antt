-- Bytes of names and of numbers, and blanks in them.
use Rattle.std.proofs.Common.{◌≡◌, ℕ, zero, suc, ◌+◌, ◌^◌, ◌<◌, ◌≤◌, Bool, true, false, cond, not, ◌&&◌, ◌||◌, ◌≢◌, List, [], ◌∷◌}
use Rattle.std.proofs.Common.{length, get_or, Result, Ok, Err, Some, None, OkIff, refl, sym, ap, ◌∙◌, subst, inl, inr, arith, eqb, leb, nat_lt}
use Rattle.std.specs.Char.{digit_value, is_ascii_graphic, is_ascii_hexdigit}
use Rattle.std.specs.List.{list_all, position_or_len}
use Rattle.std.specs.Result.{result_ok}
use Rattle.std.specs.Str.{IsAscii, IsUtf8}
use Rattle.std.specs.Str.Parse.{AllDigits, IsNumeral, ParsesUnsigned, digits_value}
use Rattle.std.proofs.lemmas.Bool.{and_from, and_left, and_parts, and_right, cases_lt, cond-false, cond-true, eqb-true, le-ltb, lt-ltb}
use Rattle.std.proofs.lemmas.Bool.Decides.{nat_tests}
use Rattle.std.proofs.lemmas.Str.{IsUtf8-from_ascii}
use Rattle.std.proofs.lemmas.Str.Parse.{without_leading_plus_none}
use Rattle.symbol_table.specs.Names.{is_internal, is_name, is_printable, name_of}
use Rattle.symbol_table.specs.Text.{are_hex_digits, hex_number, is_hex}

module _ (p : ℕ → Bool) (low : (b : ℕ) → p b ≡ true → b < 128) where
  all_ascii : (bytes : List ℕ) → list_all p bytes ≡ true → IsAscii bytes
  all_ascii [] all i = omega arith
  all_ascii (b ∷ bytes) all zero = low b (and_parts (p b) (list_all p bytes) all).0
  all_ascii (b ∷ bytes) all (suc i) = all_ascii bytes (and_parts (p b) (list_all p bytes) all).1 i

graphic_low : (b : ℕ) → is_ascii_graphic b ≡ true → b < 128
graphic_low b e = grind (arith, nat_tests)

hex_low : (b : ℕ) → is_ascii_hexdigit b ≡ true → b < 128
hex_low b e = grind (arith, nat_tests)

hex_no_plus : (b : ℕ) → is_ascii_hexdigit b ≡ true → b ≡ 43 → ⊥
hex_no_plus b e same = grind (arith, nat_tests)

hex_digit : (b : ℕ) → is_ascii_hexdigit b ≡ true → digit_value b < 16
hex_digit b e = grind (arith, nat_tests)

-- ---- names

-- The bytes of a name are a text.
pub name_is_text : (bytes : List ℕ) → is_name bytes ≡ true → IsUtf8 bytes
unfolding is_name
name_is_text bytes e =
    let front = (and_parts (not (eqb (length bytes) 0) && is_printable bytes) (not (is_internal bytes)) e).0 in
    IsUtf8-from_ascii bytes (all_ascii is_ascii_graphic graphic_low bytes (and_parts (not (eqb (length bytes) 0)) (is_printable bytes) front).1)

blank_not_printable : (xs : List ℕ) → position_or_len (λ b. eqb b 32) xs < length xs → is_printable xs ≡ false
blank_not_printable [] lt = absurd (omega arith)
blank_not_printable (x ∷ xs) lt = go (eqb x 32) refl lt (blank_not_printable xs)
  where
    go : (t : Bool) → eqb x 32 ≡ t → cond (not t) (1 + position_or_len (λ b. eqb b 32) xs) 0 < suc (length xs) →
        (position_or_len (λ b. eqb b 32) xs < length xs → is_printable xs ≡ false) → is_printable (x ∷ xs) ≡ false
    go true e lt later = and_left (is_ascii_graphic x) (is_printable xs) (ap is_ascii_graphic (eqb-true x 32 e))
    go false e lt later = and_right (is_ascii_graphic x) (is_printable xs) (later (omega arith))

-- Bytes with a blank are no name.
pub blank_no_name : (xs : List ℕ) → position_or_len (λ b. eqb b 32) xs < length xs → name_of xs ≡ None
unfolding is_name
blank_no_name xs lt =
    let none : is_name xs ≡ false = and_left _ (not (is_internal xs)) (and_right (not (eqb (length xs) 0)) (is_printable xs) (blank_not_printable xs lt)) in
    ap (λ b. cond b (Some xs) None) none

-- ---- numbers

-- Hex digits are a text.
pub hex_is_text : (bytes : List ℕ) → is_hex bytes ≡ true → IsUtf8 bytes
unfolding is_hex
hex_is_text bytes e = IsUtf8-from_ascii bytes (all_ascii is_ascii_hexdigit hex_low bytes (and_parts _ (are_hex_digits bytes) e).1)

all_digits : (bytes : List ℕ) → are_hex_digits bytes ≡ true → AllDigits 16 bytes
all_digits [] all = tt
all_digits (b ∷ bytes) all =
    let parts = and_parts (is_ascii_hexdigit b) (are_hex_digits bytes) all in (hex_digit b parts.0, all_digits bytes parts.1)

no_plus : (bytes : List ℕ) → are_hex_digits bytes ≡ true → get_or bytes 0 0 ≢ 43
no_plus [] all same = omega arith
no_plus (b ∷ bytes) all same = hex_no_plus b (and_parts (is_ascii_hexdigit b) (are_hex_digits bytes) all).0 same

some_digit : (n : ℕ) → ((leb 1 n && leb n 8) || eqb n 16) ≡ true → 0 < n
some_digit n e = grind (arith, nat_tests)

hex_parts : (bytes : List ℕ) → is_hex bytes ≡ true → (0 < length bytes) × (are_hex_digits bytes ≡ true)
unfolding is_hex
hex_parts bytes e =
    let parts = and_parts ((leb 1 (length bytes) && leb (length bytes) 8) || eqb (length bytes) 16) (are_hex_digits bytes) e in
    (some_digit (length bytes) parts.0, parts.1)

parsed_as : {E : Type 0} (bytes : List ℕ) (parsed : Result ℕ E) → is_hex bytes ≡ true →
    OkIff parsed (IsNumeral 16 bytes × (digits_value 16 bytes < 2 ^ 32)) (digits_value 16 bytes) → result_ok parsed ≡ hex_number bytes
unfolding hex_number
parsed_as bytes (Ok x) e h =
    let value = digits_value 16 bytes in
    ap Some h.1 ∙ sym (cond-true (is_hex bytes && nat_lt value (2 ^ 32)) (Some value) None (and_from _ _ e (lt-ltb value (2 ^ 32) h.0.1)))
parsed_as bytes (Err error) e h =
    let value = digits_value 16 bytes in
    let parts = hex_parts bytes e in
    let large : 2 ^ 32 ≤ value = elim (cases_lt value (2 ^ 32)) [ inl lt ↦ absurd (h ((parts.0, all_digits bytes parts.1), lt)) | inr le ↦ le ] in
    sym (cond-false (is_hex bytes && nat_lt value (2 ^ 32)) (Some value) None (and_right (is_hex bytes) _ (le-ltb value (2 ^ 32) large)))

-- What `from_str_radix` gives of hex digits is their number.
pub hex_parsed : {E : Type 0} (bytes : List ℕ) (parsed : Result ℕ E) → is_hex bytes ≡ true → ParsesUnsigned 32 16 bytes parsed →
    result_ok parsed ≡ hex_number bytes
hex_parsed bytes parsed e h =
    let same = without_leading_plus_none bytes (no_plus bytes (hex_parts bytes e).1) in
    parsed_as bytes parsed e (subst (λ (ds : List ℕ). OkIff parsed (IsNumeral 16 ds × (digits_value 16 ds < 2 ^ 32)) (digits_value 16 ds)) same h)
