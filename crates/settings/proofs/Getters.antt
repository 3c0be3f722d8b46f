-- What the getters of clap's matches give, for plain values.
use Rattle.std.proofs.Common.{◌≡◌, ◌∙◌, ◌==◌, ◌<◌, ◌≤◌, ◌^◌, ℕ, Bool, cond, ap, sym, arith, true≢false, List, [], ◌∷◌, drop}
use Rattle.std.proofs.Common.{Option, Some, None, Result, Ok, true, false, option_map, is_some, refl, pos, codes}
use Rattle.std.specs.Prelude.{IfSome, IsSome, IsSomeAnd, MatchOption, unwrap_or}
use Rattle.std.specs.Borrow.{Bor}
use Rattle.std.specs.Str.{bytes_eq}
use Rattle.std.specs.Str.Parse.{IsNumeral, ParsesUnsigned, digits_value, signed_digits_value, starts_with_minus, without_leading_plus}
use Rattle.std.proofs.lemmas.Bool.{ne_eqb}
use Rattle.std.proofs.lemmas.Int.{ints}
use Rattle.std.proofs.lemmas.Slice.Eq.{bytes_eq-Decides}
use Rattle.std.proofs.lemmas.Str.Parse.{digit_from_value}
use Rattle.clap.specs.Lexer.{without_minus}
use Rattle.clap.specs.Words.{IsSignedIn, ReadsOne, Text}
use Rattle.clap.proofs.CallerReads.{signed_reads}
use Rattle.settings.specs.Plain.{texts_of}

-- If the plain value is present, the getter gives a text.
pub text_there : (o : Option (Bor Text)) (t : Option Text) → option_map (λ s. s.now) o ≡ t → is_some t ≡ true → IsSome o
text_there None t e there = absurd (true≢false (sym (ap is_some e ∙ there)))
text_there (Some s) t e there = refl

-- If the getter gives a text, the plain value is this text.
pub text_given : (o : Option (Bor Text)) (t : Option Text) (s : Bor Text) → option_map (λ s. s.now) o ≡ t → o ≡ Some s → t ≡ Some s.now
text_given o t s e is = sym e ∙ ap (option_map (λ s. s.now)) is

-- If the getter gives texts, the plain value is these texts.
pub texts_given : (texts : List (Bor Text)) (t : Option (List Text)) → Some (texts_of texts) ≡ t → texts_of texts ≡ unwrap_or t []
texts_given texts (Some t) e = cc
texts_given texts None e = cc

-- If the getter gives none, there is no plain value.
pub no_texts : (t : Option (List Text)) → None ≡ t → [] ≡ unwrap_or t []
no_texts None e = refl
no_texts (Some t) e = cc

-- ---- flags

-- If a text is present, comparing it with `true` says whether the flag is set.
pub flag_by : (s : Text) (t : Option Text) → Some s ≡ t
    → (bytes_eq s (codes "true") ≡ true → t ≡ Some (codes "true")) × (t ≡ Some (codes "true") → bytes_eq s (codes "true") ≡ true)
flag_by s t e = (
  (λ h. sym e ∙ ap (λ x. Some x) ((bytes_eq-Decides s (codes "true")).0 h)),
  (λ h. (bytes_eq-Decides s (codes "true")).1 (same s (codes "true") (e ∙ h))),
)
  where
    same : (x y : Text) → Some x ≡ Some y → x ≡ y
    same x y h = cc

-- If there is no text, the flag is not set.
pub no_flag : (t : Option Text) → None ≡ t → (false ≡ true → t ≡ Some (codes "true")) × (t ≡ Some (codes "true") → false ≡ true)
no_flag t e = ((λ h. cc), λ h. cc)

-- ---- numbers

without_minus_by : (t : Text) → without_minus t ≡ cond (starts_with_minus t) (drop 1 t) t
without_minus_by [] = refl
without_minus_by (x ∷ xs) = go (x == 45)
  where
    go : (b : Bool) → unwrap_or (cond b (Some xs) None) (x ∷ xs) ≡ cond b xs (x ∷ xs)
    go true = refl
    go false = refl

no_plus : (digits : Text) → IsNumeral 10 digits → without_leading_plus digits ≡ digits
no_plus [] h = refl
no_plus (d ∷ ds) h =
    let plus : (d == 43) ≡ false = ne_eqb _ _ (λ e. omega (arith, digit_from_value d h.1.0)) in
    ap (λ (b : Bool). drop (cond b 1 0) (d ∷ ds)) plus

-- A number read without a minus is the one that the text spells, if that is in a range without negative numbers.
spelled : (low high : ℕ) (t : Text) (n : ℕ) → IsSignedIn (pos low) (pos high) t → n ≡ digits_value 10 (without_leading_plus (without_minus t)) →
    pos n ≡ signed_digits_value 10 t
spelled low high t n passed is = go (starts_with_minus t) refl (is ∙ ap (λ u. digits_value 10 (without_leading_plus u)) (without_minus_by t))
  where
    go : (b : Bool) → starts_with_minus t ≡ b → n ≡ digits_value 10 (without_leading_plus (cond (starts_with_minus t) (drop 1 t) t)) →
        pos n ≡ signed_digits_value 10 t
    go true minus e =
        let low_ok = rw minus at passed.2 in
        let numeral : IsNumeral 10 (drop 1 t) = rw minus at passed.0 in
        let digits : n ≡ digits_value 10 (drop 1 t) = rw minus at e ∙ ap (digits_value 10) (no_plus (drop 1 t) numeral) in
        let none : digits_value 10 (drop 1 t) ≡ 0 = omega (arith, ints) in
        rw (digits, minus, none) refl
    go false minus e = let digits : n ≡ digits_value 10 (without_leading_plus t) = rw minus at e in rw (minus, digits) refl

module _ {E : Type 0} (G : Text → Result ℕ E → Type 0) (only : (u : Text) (x : Result ℕ E) → G u x → ParsesUnsigned 32 10 u x) where
  -- A getter of numbers gives the number that the option's text spells, or None.
  pub choice_given : (low high : ℕ) (first one : Option Text) (r : Option ℕ)
      → one ≡ option_map without_minus first → IfSome first (IsSignedIn (pos low) (pos high)) → (one ≡ None → r ≡ None)
      → ((t : Text) → one ≡ Some t → ReadsOne G t r) → high < 2 ^ 32
      → MatchOption first (r ≡ None) (λ text. IsSomeAnd r (λ n. (pos n ≡ signed_digits_value 10 text) × (low ≤ n) × (n ≤ high)))
  choice_given low high None one r same passed none some fits = none same
  choice_given low high (Some t) one r same passed none some fits =
      let read = some (without_minus t) same in
      let got = signed_reads E G 32 low high t r read only fits passed in
      let value : G (without_minus t) (Ok got.0) = rw got.1 at read in
      rw got.1 (spelled low high t got.0 passed (only (without_minus t) (Ok got.0) value).1, got.2, got.3)

-- The same holds with a default instead of None.
pub or_default : (default low high : ℕ) (first : Option Text) (r : Option ℕ)
    → MatchOption first (r ≡ None) (λ text. IsSomeAnd r (λ n. (pos n ≡ signed_digits_value 10 text) × (low ≤ n) × (n ≤ high)))
    → low ≤ default → default ≤ high
    → MatchOption first (unwrap_or r default ≡ default) (λ text. pos (unwrap_or r default) ≡ signed_digits_value 10 text) × (low ≤ unwrap_or r default)
    × (unwrap_or r default ≤ high)
or_default default low high None r given least most = rw given (refl, least, most)
or_default default low high (Some t) (Some n) given least most = given
or_default default low high (Some t) None given least most = absurd given
