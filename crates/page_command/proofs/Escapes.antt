-- No tag begins in escaped text.
use Rattle.std.proofs.Common.{◌≡◌, ℕ, ◌+◌, ◌%◌, ◌/◌, ◌≤◌, ◌==◌, ◌||◌, Bool, true, false, cond, List, [], ◌∷◌, ◌++◌}
use Rattle.std.proofs.Common.{◌⊎◌, inl, inr, flat_map, chars, codes, IsUtf8, encode_utf8_all}
use Rattle.std.proofs.Common.{refl, sym, ap, ap₂, ◌∙◌, arith, ltb, ne_eqb}
use Rattle.std.specs.Prelude.{if◌then◌else◌}
use lib.Utf8.{encode as encode_utf8}
use Rattle.std.specs.List.{list_any}
use Rattle.std.proofs.lemmas.Bool.{cases_eq}
use Rattle.std.proofs.lemmas.Str.{chars-encodes}
use Rattle.std.proofs.lemmas.List.Folds.{list_any-append}
use Rattle.page_command.specs.Laws.{has_tag, is_tag}
use Rattle.page_command.specs.Pages.{escaped, escaped_char, is_special}

or_parts : (x y : Bool) → (x || y) ≡ false → (x ≡ false) × (y ≡ false)
or_parts true y e = absurd cc
or_parts false y e = (refl, e)

-- A byte of 128 or more begins no tag.
high : (b : ℕ) → 128 ≤ b → is_tag b ≡ false
high b big = ne_eqb b 60 (λ e. omega (arith, big, e))

-- The bytes of another character begin no tag.
other_char : (c : ℕ) → is_tag c ≡ false → has_tag (encode_utf8 c) ≡ false
unfolding encode_utf8
other_char c e = by (ltb c 128) (ltb c 2048) (ltb c 65536)
  where
    next : (n : ℕ) → is_tag (128 + n % 64) ≡ false
    next n = high (128 + n % 64) (omega arith)

    two : is_tag (192 + c / 64) ≡ false
    two = high (192 + c / 64) (omega arith)

    three : is_tag (224 + c / 4096) ≡ false
    three = high (224 + c / 4096) (omega arith)

    four : is_tag (240 + c / 262144) ≡ false
    four = high (240 + c / 262144) (omega arith)

    by : (x y z : Bool) → has_tag (cond x (c ∷ []) (cond y ((192 + c / 64) ∷ (128 + c % 64) ∷ [])
        (cond z ((224 + c / 4096) ∷ (128 + c / 64 % 64) ∷ (128 + c % 64) ∷ [])
        ((240 + c / 262144) ∷ (128 + c / 4096 % 64) ∷ (128 + c / 64 % 64) ∷ (128 + c % 64) ∷ [])))) ≡ false
    by true y z = rw e refl
    by false true z = rw (two, next c) refl
    by false false true = rw (three, next (c / 64), next c) refl
    by false false false = rw (four, next (c / 4096), next (c / 64), next c) refl

-- No tag begins in an escaped character.
of_char : (c : ℕ) → has_tag (escaped_char c) ≡ false
of_char c = by (c == 37) (c == 60) refl
  where
    by : (x y : Bool) → (c == 60) ≡ y → has_tag (if x then codes "%25" else if y then codes "%3c" else encode_utf8 c) ≡ false
    by true y e = refl
    by false true e = refl
    by false false e = other_char c e

of_chars : (cs : List ℕ) → has_tag (flat_map escaped_char cs) ≡ false
of_chars [] = refl
of_chars (c ∷ cs) =
    list_any-append is_tag (escaped_char c) (flat_map escaped_char cs) ∙ ap₂ (λ x y. x || y) (of_char c) (of_chars cs)

-- No tag begins in an escaped text.
pub none_begins : (text : List ℕ) → has_tag (escaped text) ≡ false
unfolding escaped
none_begins text = of_chars (chars text)

-- A character that is not special is itself.
plain_char : (c : ℕ) → list_any is_special (encode_utf8 c) ≡ false → escaped_char c ≡ encode_utf8 c
unfolding encode_utf8
plain_char c none = by (cases_eq c 37) (cases_eq c 60)
  where
    by : (c ≡ 37) ⊎ (c ≡ 37 → ⊥) → (c ≡ 60) ⊎ (c ≡ 60 → ⊥) → escaped_char c ≡ encode_utf8 c
    by (inl is) other = absurd (let none = ap (λ n. list_any is_special (encode_utf8 n)) (sym is) ∙ none in cc)
    by (inr one) (inl is) = absurd (let none = ap (λ n. list_any is_special (encode_utf8 n)) (sym is) ∙ none in cc)
    by (inr one) (inr other) = rw (ne_eqb c 37 one, ne_eqb c 60 other) refl

plain_chars : (cs : List ℕ) → list_any is_special (encode_utf8_all cs) ≡ false → flat_map escaped_char cs ≡ encode_utf8_all cs
plain_chars [] none = refl
plain_chars (c ∷ cs) none =
    let parts = or_parts (list_any is_special (encode_utf8 c)) (list_any is_special (encode_utf8_all cs))
    (sym (list_any-append is_special (encode_utf8 c) (encode_utf8_all cs)) ∙ none) in
    ap₂ (λ xs ys. xs ++ ys) (plain_char c parts.0) (plain_chars cs parts.1)

-- A text without special bytes is escaped as it is.
pub none_special : (text : List ℕ) → IsUtf8 text → list_any is_special text ≡ false → escaped text ≡ text
unfolding escaped
none_special text utf8 none =
    ap (λ bytes. flat_map escaped_char (chars bytes)) (sym utf8.1.1) ∙ ap (flat_map escaped_char) (chars-encodes utf8.0 utf8.1.0)
    ∙ plain_chars utf8.0 (ap (list_any is_special) utf8.1.1 ∙ none) ∙ utf8.1.1
