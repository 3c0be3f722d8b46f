-- Digits are read as a number, or as bytes, exactly if they stand for them.
use Rattle.std.proofs.Common.{◌≡◌, ◌≢◌, ℕ, ◌+◌, ◌*◌, ◌^◌, ◌≤◌, ◌%◌, List, [], ◌∷◌, length, refl, sym, ap, ◌∙◌, arith, Bool, true, false, subst}
use Rattle.std.proofs.Math.Nat.{pow-succ'}
use Rattle.std.proofs.lemmas.Bool.{and_parts, leb-true, le-leb}
use Rattle.std.proofs.lemmas.Option.{option_and_then_some, none-some, same_Some}
use Rattle.std.specs.Prelude.{Option, Some, None, option_and_then, nat_le, ◌&&◌, if◌then◌else◌, Result, Ok, Err}
use Rattle.hex.specs.Hex.{hex_digit_value, decode_of, decode_pairs, pair_value, value_at, digit_or_error, ◌>>=◌}
use Rattle.hex.proofs.HexLemmas.{decode_of-even, decode_of-ok}
use Rattle.hex.specs.declared.error.FromHexError.{FromHexError}
use Rattle.debug_lines.specs.Numbers.{number_from, number_of, bytes_of, decoded}
use Rattle.debug_lines.specs.Spelling.{AreDigitsOf, IsNumber, AreBytes}

-- No byte is a space.
abbrev pub HasNoSpace : List ℕ → Type 0
HasNoSpace [] = Unit {0}
HasNoSpace (b ∷ bytes) = (b ≢ 32) × HasNoSpace bytes

-- ---- numbers

carried : (m d x n low : ℕ) → n ≡ (16 * m + d) * x + low → n ≡ m * (16 * x) + (d * x + low)
carried m d x n low e = omega arith

pub digits-read : (m : ℕ) (digits : List ℕ) (n : ℕ) → number_from m digits ≡ Some n
    → (low : ℕ) × AreDigitsOf digits low × (n ≡ m * 16 ^ length digits + low)
digits-read m [] n e = let same : m ≡ n = same_Some m n e in (0, refl, omega arith)
digits-read m (b ∷ digits) n e =
    option_and_then_some (λ d. number_from (16 * m + d) digits) (hex_digit_value b) n e
    (λ d is more.
    let rest = digits-read (16 * m + d) digits n more in (
      d * 16 ^ length digits + rest.0,
      (d, rest.0, is, rest.1, refl),
      rw (pow-succ' 16 (length digits)) (carried m d (16 ^ length digits) n rest.0 rest.2),
    ))

pub digits-written : (m : ℕ) (digits : List ℕ) (low : ℕ) → AreDigitsOf digits low → number_from m digits ≡ Some (m * 16 ^ length digits + low)
digits-written m [] low a = ap Some (omega arith)
digits-written m (b ∷ digits) low a =
    let more = digits-written (16 * m + a.0) digits a.1 a.3 in
    ap (option_and_then (λ d. number_from (16 * m + d) digits)) a.2 ∙ more
    ∙ ap Some (rw (pow-succ' 16 (length digits)) (carried m a.0 (16 ^ length digits) _ a.1 refl ∙ omega (arith, a.4)))

-- If a test guards a value that is there, the test holds.
pub guarded : {A : Type 0} (b : Bool) (x : Option A) (y : A) → (if b then x else None) ≡ Some y → (b ≡ true) × (x ≡ Some y)
guarded true x y e = (refl, e)
guarded false x y e = absurd (none-some y e)

-- One to eight digits stand for the number that is read from them.
pub number-read : (digits : List ℕ) (n : ℕ) → number_of digits ≡ Some n → IsNumber digits n
unfolding number_of
number-read digits n e =
    let some = guarded (nat_le 1 (length digits) && nat_le (length digits) 8) (number_from 0 digits) n e in
    let bounds = and_parts (nat_le 1 (length digits)) (nat_le (length digits) 8) some.0 in
    let value = digits-read 0 digits n some.1 in
    let same : n ≡ value.0 = omega (arith, value.2) in
    record {
      some = leb-true 1 (length digits) bounds.0;
      few = leb-true (length digits) 8 bounds.1;
      value = rw same value.1;
    }

pub number-written : (digits : List ℕ) (n : ℕ) → IsNumber digits n → number_of digits ≡ Some n
unfolding number_of
number-written digits n i =
    rw (le-leb 1 (length digits) i.some, le-leb (length digits) 8 i.few) (digits-written 0 digits n i.value ∙ ap Some (omega arith))

-- A digit is not a space.
digit-no_space : (b d : ℕ) → hex_digit_value b ≡ Some d → b ≢ 32
digit-no_space b d is space = none-some d (ap hex_digit_value (sym space) ∙ is)

pub digits-no_space : (digits : List ℕ) (n : ℕ) → AreDigitsOf digits n → HasNoSpace digits
digits-no_space [] n a = tt
digits-no_space (b ∷ digits) n a = (digit-no_space b a.0 a.2, digits-no_space digits a.1 a.3)

-- ---- bytes

bound_ok : {A B : Type 0} (r : Result A FromHexError) (f : A → Result B FromHexError) (y : B) → (r >>= f) ≡ Ok y
    → (x : A) × (r ≡ Ok x) × (f x ≡ Ok y)
bound_ok (Ok x) f y e = (x, refl, e)
bound_ok (Err error) f y e = cc

digit_ok : (b i : ℕ) (o : Option ℕ) (d : ℕ) → digit_or_error b i o ≡ Ok d → o ≡ Some d
digit_ok b i (Some v) d e = let same : v ≡ d = cc in ap Some same
digit_ok b i None d e = cc

pairs-read : (i : ℕ) (digits bytes : List ℕ) → decode_pairs i digits ≡ Ok bytes → AreBytes digits bytes
unfolding decode_pairs
pairs-read i [] bytes e = let same : [] ≡ bytes = cc in subst (λ bs. AreBytes [] bs) same refl
pairs-read i (a ∷ []) bytes e = cc
pairs-read i (a ∷ b ∷ rest) bytes e =
    let pair = bound_ok (pair_value a b i) _ bytes e in
    let high = bound_ok (value_at a i) _ pair.0 pair.1 in
    let low = bound_ok (value_at b (i + 1)) _ pair.0 high.2 in
    let more = bound_ok (decode_pairs (i + 2) rest) _ bytes pair.2 in
    let byte : high.0 * 16 + low.0 ≡ pair.0 = cc in
    let same : pair.0 ∷ more.0 ≡ bytes = cc in
    subst (λ bs. AreBytes (a ∷ b ∷ rest) bs) same (
      a,
      b,
      rest,
      refl,
      (
        high.0,
        low.0,
        digit_ok a i (hex_digit_value a) high.0 high.1,
        (low.0, 0, digit_ok b (i + 1) (hex_digit_value b) low.0 low.1, refl, omega arith),
        omega arith,
      ),
      pairs-read (i + 2) rest more.0 more.1,
    )

pair-of : (a b i h l : ℕ) (x y : Option ℕ) → x ≡ Some h → y ≡ Some l
    → (digit_or_error a i x >>= λ high. digit_or_error b (i + 1) y >>= λ low. Ok (high * 16 + low)) ≡ Ok (h * 16 + l)
pair-of a b i h l x y ex ey = rw (ex, ey) refl

pairs-written : (i : ℕ) (digits bytes : List ℕ) → AreBytes digits bytes → decode_pairs i digits ≡ Ok bytes
unfolding decode_pairs
pairs-written i digits [] a = ap (decode_pairs i) a
pairs-written i digits (byte ∷ bytes) a =
    let high = a.4 in
    let low = high.3 in
    let value : high.0 * 16 + low.0 ≡ byte = omega (arith, high.4, low.3, low.4) in
    ap (decode_pairs i) a.3
    ∙ ap (λ r. r >>= λ first. decode_pairs (i + 2) a.2 >>= λ more. Ok (first ∷ more)) (pair-of a.0 a.1 i high.0 low.0 _ _ high.2 low.2)
    ∙ ap (λ r. r >>= λ more. Ok ((high.0 * 16 + low.0) ∷ more)) (pairs-written (i + 2) a.2 bytes a.5)
    ∙ ap (λ first. Ok (first ∷ bytes)) value

digits-twice : (digits bytes : List ℕ) → AreBytes digits bytes → length digits ≡ 2 * length bytes
digits-twice digits [] a = ap length a
digits-twice digits (byte ∷ bytes) a = let more = digits-twice a.2 bytes a.5 in let whole = ap length a.3 in omega arith

-- Digits stand for the bytes that are decoded from them.
decode-read : (digits bytes : List ℕ) → decode_of digits ≡ Ok bytes → AreBytes digits bytes
decode-read digits bytes e =
    let even = decode_of-ok digits bytes e in
    pairs-read 0 digits bytes (sym (decode_of-even digits even.0) ∙ e)

decoded-some : (r : Result (List ℕ) FromHexError) (bytes : List ℕ) → decoded r ≡ Some bytes → r ≡ Ok bytes
decoded-some (Ok read) bytes e = ap Ok (same_Some read bytes e)
decoded-some (Err error) bytes e = absurd (none-some bytes e)

pub bytes-read : (digits bytes : List ℕ) → bytes_of digits ≡ Some bytes → AreBytes digits bytes × (1 ≤ length bytes)
unfolding bytes_of
bytes-read digits bytes e =
    let some = guarded (nat_le 1 (length digits)) (decoded (decode_of digits)) bytes e in
    let all = decode-read digits bytes (decoded-some (decode_of digits) bytes some.1) in
    let count = digits-twice digits bytes all in
    let more = leb-true 1 (length digits) some.0 in
    (all, omega arith)

pub bytes-written : (digits bytes : List ℕ) → AreBytes digits bytes → 1 ≤ length bytes → bytes_of digits ≡ Some bytes
unfolding bytes_of
bytes-written digits bytes a some =
    let count = digits-twice digits bytes a in
    let even : length digits % 2 ≡ 0 = omega arith in
    rw (le-leb 1 (length digits) (omega arith)) (ap decoded (decode_of-even digits even ∙ pairs-written 0 digits bytes a))
