-- A text with a bracket is not a number, a name or a register.
use Rattle.std.proofs.Common.{◌≡◌, ℕ, ◌+◌, ◌*◌, Bool, true, false, not, eqb, eq-eqb, List, [], ◌∷◌}
use Rattle.std.proofs.Common.{◌++◌, Option, Some, None, Err, refl, sym, subst, ◌∙◌, inl, inr, ◌⊎◌}
use Rattle.std.specs.Prelude.{◌&&◌, ◌||◌, ℤ, if◌then◌else◌}
use Rattle.std.specs.Option.{option_and_then}
use Rattle.std.specs.List.{list_all}
use Rattle.std.specs.Str.{bytes_eq}
use Rattle.std.proofs.lemmas.Bool.{and_parts, and_left, and_right, not-true, ne_eqb, true≢false}
use Rattle.asm_lines.specs.declared.fault.LineFault.TheVariants.{Form}
use Rattle.asm_lines.specs.Text.{is_blank}
use Rattle.asm_lines.specs.Number.{digit_in, digits_after, digits_in, number_of, number_within}
use Rattle.asm_lines.specs.Names.{x_name, use_name, numbers, register_of}
use Rattle.asm_lines.specs.Statements.{is_letter, is_name_byte, is_name, register_in, nothing_in}
use Rattle.asm_lines.proofs.PlainWords.{weaker}
use Rattle.asm_lines.proofs.Alike.{find_nothing}
use Rattle.asm_lines.proofs.Trims.{lacks}

-- The byte is a bracket, and so none of the other bytes that the readers look for.
pub record IsBracket (m : ℕ) : Type 0 where
  -- it is an opening or a closing bracket
  pub which : (m ≡ 40) ⊎ (m ≡ 41)
  -- no blank
  pub solid : is_blank m ≡ false
  -- no letter
  pub letter : is_letter m ≡ false
  -- no byte of names
  pub name_byte : is_name_byte m ≡ false
  -- no decimal digit
  pub decimal : digit_in 10 m ≡ None
  -- no hex digit
  pub hex : digit_in 16 m ≡ None
  -- no minus
  pub no_minus : eqb m 45 ≡ false
  -- no 0
  pub no_zero : eqb m 48 ≡ false
  -- no x
  pub no_x : eqb m 120 ≡ false
  -- in no register's name
  pub registers : list_all (λ r. lacks m (x_name r) && lacks m (use_name r)) numbers ≡ true
  -- not in %hi
  pub high : lacks m (37 ∷ 104 ∷ 105 ∷ []) ≡ true
  -- not in %lo
  pub low : lacks m (37 ∷ 108 ∷ 111 ∷ []) ≡ true

-- a byte that is one of the two brackets
module _ (m : ℕ) (which : (m ≡ 40) ⊎ (m ≡ 41)) where
  of_both : (P : ℕ → Type 0) → P 40 → P 41 → P m
  of_both P a b = elim which [ inl e ↦ subst P (sym e) a | inr e ↦ subst P (sym e) b ]

  -- An opening or a closing bracket is none of the other bytes that the readers look for.
  pub bracket : IsBracket m
  bracket = record {
    which = which;
    solid = of_both (λ b. is_blank b ≡ false) refl refl;
    letter = of_both (λ b. is_letter b ≡ false) refl refl;
    name_byte = of_both (λ b. is_name_byte b ≡ false) refl refl;
    decimal = of_both (λ b. digit_in 10 b ≡ None) refl refl;
    hex = of_both (λ b. digit_in 16 b ≡ None) refl refl;
    no_minus = of_both (λ b. eqb b 45 ≡ false) refl refl;
    no_zero = of_both (λ b. eqb b 48 ≡ false) refl refl;
    no_x = of_both (λ b. eqb b 120 ≡ false) refl refl;
    registers = of_both (λ b. list_all (λ r. lacks b (x_name r) && lacks b (use_name r)) numbers ≡ true) refl refl;
    high = of_both (λ b. lacks b (37 ∷ 104 ∷ 105 ∷ []) ≡ true) refl refl;
    low = of_both (λ b. lacks b (37 ∷ 108 ∷ 111 ∷ []) ≡ true) refl refl;
  }

module _ (m : ℕ) (is : IsBracket m) where
  eqb_other : (y : ℕ) → not (eqb y m) ≡ true → eqb m y ≡ false
  eqb_other y h = ne_eqb m y (λ e. true≢false (sym (eq-eqb y m (sym e)) ∙ not-true _ h))

  -- ---- other texts

  -- A text with a bracket is not equal to a text without it.
  pub unlike : (P Q ys : List ℕ) → lacks m ys ≡ true → bytes_eq (P ++ m ∷ Q) ys ≡ false
  unlike [] Q [] h = refl
  unlike [] Q (y ∷ ys) h = and_left (eqb m y) _ (eqb_other y (and_parts (not (eqb y m)) (lacks m ys) h).0)
  unlike (p ∷ P) Q [] h = refl
  unlike (p ∷ P) Q (y ∷ ys) h = and_right (eqb p y) _ (unlike P Q ys (and_parts (not (eqb y m)) (lacks m ys) h).1)

  unlike_name : (ys P Q : List ℕ) → lacks m ys ≡ true → bytes_eq ys (P ++ m ∷ Q) ≡ false
  unlike_name [] [] Q h = refl
  unlike_name [] (p ∷ P) Q h = refl
  unlike_name (y ∷ ys) [] Q h = and_left (eqb y m) _ (not-true _ (and_parts (not (eqb y m)) (lacks m ys) h).0)
  unlike_name (y ∷ ys) (p ∷ P) Q h = and_right (eqb y p) _ (unlike_name ys P Q (and_parts (not (eqb y m)) (lacks m ys) h).1)

  -- ---- registers and names

  no_such_register : (P Q : List ℕ) → register_of (P ++ m ∷ Q) ≡ None
  unfolding register_of
  no_such_register P Q = find_nothing (λ r. bytes_eq (x_name r) (P ++ m ∷ Q) || bytes_eq (use_name r) (P ++ m ∷ Q)) numbers
      (weaker (λ r. lacks m (x_name r) && lacks m (use_name r)) (λ r. not (bytes_eq (x_name r) (P ++ m ∷ Q) || bytes_eq (use_name r) (P ++ m ∷ Q)))
      (λ r e. let a = and_parts (lacks m (x_name r)) (lacks m (use_name r)) e in rw (unlike_name (x_name r) P Q a.0, unlike_name (use_name r) P Q a.1) refl)
      numbers is.registers)

  -- A text with a bracket is not read as a register.
  pub register_fails : (P Q : List ℕ) → register_in (P ++ m ∷ Q) ≡ Err Form
  unfolding register_in
  register_fails P Q = rw (no_such_register P Q) refl

  not_all : (P Q : List ℕ) → list_all is_name_byte (P ++ m ∷ Q) ≡ false
  not_all [] Q = and_left (is_name_byte m) _ is.name_byte
  not_all (p ∷ P) Q = and_right (is_name_byte p) _ (not_all P Q)

  -- A text with a bracket is not a name.
  pub no_name : (P Q : List ℕ) → is_name (P ++ m ∷ Q) ≡ false
  unfolding is_name
  no_name [] Q = and_left (is_letter m) _ is.letter
  no_name (p ∷ P) Q = and_right (is_letter p) _ (not_all P Q)

  -- ---- numbers

  after_none : (base : ℕ) (o : Option ℕ) (f : ℕ → Option ℕ) → ((d : ℕ) → f d ≡ None) → option_and_then f o ≡ None
  after_none base None f h = refl
  after_none base (Some d) f h = h d

  no_digits : (base v : ℕ) (P Q : List ℕ) → digit_in base m ≡ None → digits_after base v (P ++ m ∷ Q) ≡ None
  no_digits base v [] Q e = rw e refl
  no_digits base v (p ∷ P) Q e = after_none base (digit_in base p) _ (λ d. no_digits base (v * base + d) P Q e)

  none_written : (base : ℕ) (P Q : List ℕ) → digit_in base m ≡ None → digits_in base (P ++ m ∷ Q) ≡ None
  unfolding digits_in
  none_written base [] Q e = no_digits base 0 [] Q e
  none_written base (p ∷ P) Q e = no_digits base 0 (p ∷ P) Q e

  pick_none : (s t : Bool) (x y z : Option ℤ) → x ≡ None → y ≡ None → z ≡ None → (if s then x else (if t then y else z)) ≡ None
  pick_none true t x y z a b c = a
  pick_none false true x y z a b c = b
  pick_none false false x y z a b c = c

  either_none : (s : Bool) (x z : Option ℤ) → x ≡ None → z ≡ None → (if s then x else z) ≡ None
  either_none true x z a c = a
  either_none false x z a c = c

  pub no_number : (P Q : List ℕ) → number_of (P ++ m ∷ Q) ≡ None
  unfolding number_of
  no_number [] Q = rw (is.no_minus, is.no_zero, none_written 10 [] Q is.decimal) refl
  no_number (p ∷ []) Q = rw (and_right (eqb p 48) (eqb m 120) is.no_x)
      (either_none (eqb p 45) _ _ (rw (none_written 10 [] Q is.decimal) refl) (rw (none_written 10 (p ∷ []) Q is.decimal) refl))
  no_number (p ∷ q ∷ P) Q = pick_none (eqb p 45) (eqb p 48 && eqb q 120) _ _ _ (rw (none_written 10 (q ∷ P) Q is.decimal) refl) (rw
      (none_written 16 P Q is.hex) refl) (rw (none_written 10 (p ∷ q ∷ P) Q is.decimal) refl)

  -- A text with a bracket is not read as a number.
  pub number_fails : (least most : ℤ) (P Q : List ℕ) → number_within least most (P ++ m ∷ Q) ≡ Err Form
  unfolding number_within
  number_fails least most P Q = rw (no_number P Q) refl

  -- A text with a bracket counts as an operand.
  pub some_operand : (P Q : List ℕ) → nothing_in ((P ++ m ∷ Q) ∷ []) ≡ Err Form
  unfolding nothing_in
  some_operand [] Q = refl
  some_operand (p ∷ P) Q = refl
