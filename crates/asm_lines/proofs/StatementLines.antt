-- What a line with a statement says depends on its label, its first word and its operands.
use Rattle.std.proofs.Common.{◌≡◌, ℕ, ◌<◌, Bool, true, false, not, eqb, List, [], ◌∷◌, ◌++◌, length, get_or, Option}
use Rattle.std.proofs.Common.{Some, None, Result, Ok, refl, sym, ap, ◌∙◌, append_assoc, arith, inl, inr}
use Rattle.std.specs.Prelude.{◌||◌}
use Rattle.std.specs.List.{list_all}
use Rattle.std.proofs.lemmas.Bool.{and_parts, and_from, or_parts, or_cases, not-true, not_from_false, ne_eqb, eqb-true}
use Rattle.std.proofs.lemmas.List.{length-append, get_or_append_left}
use Rattle.asm_lines.specs.declared.fault.LineFault.{LineFault}
use Rattle.asm_lines.specs.Steps.{◌>>=◌}
use Rattle.asm_lines.specs.Text.{is_blank, trimmed, operands_of}
use Rattle.asm_lines.specs.Names.{directive_of, mnemonic_of}
use Rattle.asm_lines.specs.Statements.{Stmt, Said, is_letter, is_name_byte, is_name, chosen, statement_in, rest_of_line, label_in, said_in, line_of}
use Rattle.asm_lines.specs.Alike.{AreReadAlike, Pairwise, AreBlanks, IsQuiet, IsFirstWord, IsLead, statement_line}
use Rattle.asm_lines.proofs.PlainWords.{weaker, all_at, cut_at_none, cut_at_mid}
use Rattle.asm_lines.proofs.Readers.{chosen_alike}
use Rattle.asm_lines.proofs.Trims.{lacks, lacks_both, no_such}
use Rattle.asm_lines.proofs.Trims.{trimmed_before_gap, trimmed_word, trimmed_solid, Ends, blank, solid, ends_of, operands_before_gap}

-- ---- names and quiet texts

name_bytes : (name : List ℕ) → is_name name ≡ true → list_all is_name_byte name ≡ true
unfolding is_name
name_bytes [] e = cc
name_bytes (b ∷ bs) e =
    let a = and_parts (is_letter b) (list_all is_name_byte bs) e in
    and_from (is_name_byte b) (list_all is_name_byte bs) (rw a.0 refl) a.1

-- A name has no byte that is not a byte of names.
pub name_without : (c : ℕ) → is_name_byte c ≡ false → (name : List ℕ) → is_name name ≡ true → list_all (λ b. not (eqb b c)) name ≡ true
name_without c fails name e = no_such is_name_byte c fails name (name_bytes name e)

name_solid : (name : List ℕ) → is_name name ≡ true → list_all (λ b. not (is_blank b)) name ≡ true
name_solid name e = weaker is_name_byte (λ b. not (is_blank b)) (λ b p. go b p (is_blank b) refl) name (name_bytes name e)
  where
    go : (b : ℕ) → is_name_byte b ≡ true → (t : Bool) → is_blank b ≡ t → not t ≡ true
    go b p false f = refl
    go b p true f = elim (or_cases (eqb b 32) (eqb b 9) f) [
      | inl s ↦ (let differ : false ≡ true = sym (ap is_name_byte (eqb-true b 32 s)) ∙ p in differ)
      | inr t ↦ (let differ : false ≡ true = sym (ap is_name_byte (eqb-true b 9 t)) ∙ p in differ)
    ]

name_some : (name : List ℕ) → is_name name ≡ true → 0 < length name
unfolding is_name
name_some [] e = cc
name_some (b ∷ bs) e = omega arith

pub name_trimmed : (name : List ℕ) → is_name name ≡ true → trimmed name ≡ name
name_trimmed name e = trimmed_word name (name_some name e) (name_solid name e)

quiet_colon : (bytes : List ℕ) → IsQuiet bytes → lacks 58 bytes ≡ true
quiet_colon bytes h = weaker (λ b. not (eqb b 58 || eqb b 35)) (λ b. not (eqb b 58))
    (λ b e. not_from_false _ (or_parts (eqb b 58) (eqb b 35) (not-true _ e)).0) bytes h

quiet_mark : (bytes : List ℕ) → IsQuiet bytes → lacks 35 bytes ≡ true
quiet_mark bytes h = weaker (λ b. not (eqb b 58 || eqb b 35)) (λ b. not (eqb b 35))
    (λ b e. not_from_false _ (or_parts (eqb b 58) (eqb b 35) (not-true _ e)).1) bytes h

-- ---- labels

-- A name, blanks and a colon are read as a label with that name, and the text after them is the rest.
pub labelled : (name gap rest : List ℕ) → is_name name ≡ true → AreBlanks gap → label_in ((name ++ gap) ++ 58 ∷ rest) ≡ (Some name, rest)
unfolding label_in
labelled name gap rest e h =
    let quiet = lacks_both 58 name gap (name_without 58 refl name e) (no_such is_blank 58 refl gap h) in
    rw (cut_at_mid (λ b. eqb b 58) (name ++ gap) 58 rest quiet refl, trimmed_before_gap name gap h, name_trimmed name e, e) refl

unlabelled : (text : List ℕ) → lacks 58 text ≡ true → label_in text ≡ (None, text)
unfolding label_in
unlabelled text h = rw (cut_at_none (λ b. eqb b 58) text h) refl

-- ---- a statement

abbrev some_statement : Result Stmt LineFault → Result (Option Stmt) LineFault
some_statement read = read >>= λ s. Ok (Some s)

same_operands : (word rest rest' : List ℕ) → operands_of rest ≡ operands_of rest' → statement_in word rest ≡ statement_in word rest'
unfolding statement_in
same_operands word rest rest' e = ap (chosen (directive_of word) (mnemonic_of word)) e

-- A text that has a byte fails the test for length 0.
pub not_empty : (xs : List ℕ) → 0 < length xs → eqb (length xs) 0 ≡ false
not_empty xs some = ne_eqb _ _ (λ e. absurd (omega (arith, e, some)))

module _ (word : List ℕ) (is : IsFirstWord word) where
  read_blank : (rest : List ℕ) → AreBlanks rest → rest_of_line (word ++ 32 ∷ rest) ≡ some_statement (statement_in word rest)
  unfolding rest_of_line
  read_blank rest h =
      let whole : trimmed (word ++ 32 ∷ rest) ≡ word
      = trimmed_before_gap word (32 ∷ rest) (and_from (is_blank 32) _ refl h) ∙ trimmed_word word is.nonempty is.no_blank in
      rw (whole, not_empty word is.nonempty, cut_at_none is_blank word is.no_blank, same_operands word [] rest (sym (operands_before_gap [] rest h))) refl

  read_solid : (front : List ℕ) (c : ℕ) (gap : List ℕ) → is_blank c ≡ false → AreBlanks gap
      → rest_of_line (word ++ 32 ∷ ((front ++ c ∷ []) ++ gap)) ≡ some_statement (statement_in word ((front ++ c ∷ []) ++ gap))
  unfolding rest_of_line
  read_solid front c gap n h =
      let kept = front ++ c ∷ [] in
      let apart : word ++ 32 ∷ ((front ++ c ∷ []) ++ gap) ≡ ((word ++ 32 ∷ front) ++ c ∷ []) ++ gap
      = sym (append_assoc word (32 ∷ (front ++ c ∷ [])) gap) ∙ ap (λ l. l ++ gap) (sym (append_assoc word (32 ∷ front) (c ∷ []))) in
      let together : (word ++ 32 ∷ front) ++ c ∷ [] ≡ word ++ 32 ∷ (front ++ c ∷ []) = append_assoc word (32 ∷ front) (c ∷ []) in
      let first : is_blank (get_or ((word ++ 32 ∷ front) ++ c ∷ []) 0 32) ≡ false
      = ap (λ l. is_blank (get_or l 0 32)) together ∙ ap is_blank (get_or_append_left word (32 ∷ (front ++ c ∷ [])) 32 0 is.nonempty)
      ∙ not-true _ (all_at (λ b. not (is_blank b)) word 0 32 is.nonempty is.no_blank) in
      let whole : trimmed (word ++ 32 ∷ ((front ++ c ∷ []) ++ gap)) ≡ word ++ 32 ∷ (front ++ c ∷ [])
      = ap trimmed apart ∙ trimmed_before_gap ((word ++ 32 ∷ front) ++ c ∷ []) gap h ∙ trimmed_solid (word ++ 32 ∷ front) c first n ∙ together in
      let some : eqb (length (word ++ 32 ∷ (front ++ c ∷ []))) 0 ≡ false = not_empty (word ++ 32 ∷ (front ++ c ∷ [])) (simp length-append (omega arith)) in
      rw (
        whole,
        some,
        cut_at_mid is_blank word 32 (front ++ c ∷ []) is.no_blank refl,
        same_operands word (front ++ c ∷ []) ((front ++ c ∷ []) ++ gap)
            (sym (operands_before_gap (front ++ c ∷ []) gap h)),
      ) refl

  pub statement_read : (rest : List ℕ) → rest_of_line (word ++ 32 ∷ rest) ≡ some_statement (statement_in word rest)
  statement_read rest = go (ends_of rest)
    where
      go : Ends rest → rest_of_line (word ++ 32 ∷ rest) ≡ some_statement (statement_in word rest)
      go (blank h) = read_blank rest h
      go (solid front c gap e n h) =
          ap (λ r. rest_of_line (word ++ 32 ∷ r)) e ∙ read_solid front c gap n h ∙ ap (λ r. some_statement (statement_in word r)) (sym e)

-- ---- the line

abbrev name_led : (lead : List ℕ) → IsLead lead → Option (List ℕ)
name_led lead (inl e) = None
name_led lead (inr h) = Some h.0

abbrev said_as : Option (List ℕ) → Result Stmt LineFault → Result Said LineFault
said_as name read = some_statement read >>= λ s. Ok (record { name = name; statement = s })

module _ (lead word : List ℕ) (led : IsLead lead) (is : IsFirstWord word) where
  line_read : (rest : List ℕ) → IsQuiet rest → line_of (statement_line lead word rest) ≡ said_as (name_led lead led) (statement_in word rest)
  unfolding line_of said_in
  line_read rest quiet = go led
    where
      body : lacks 35 (word ++ 32 ∷ rest) ≡ true
      body = lacks_both 35 word (32 ∷ rest) (quiet_mark word is.quiet) (quiet_mark rest quiet)

      go : (led : IsLead lead) → line_of (lead ++ (word ++ 32 ∷ rest)) ≡ said_as (name_led lead led) (statement_in word rest)
      go (inl e) =
          let colon : lacks 58 (word ++ 32 ∷ rest) ≡ true = lacks_both 58 word (32 ∷ rest) (quiet_colon word is.quiet) (quiet_colon rest quiet) in
          ap (λ l. line_of (l ++ (word ++ 32 ∷ rest))) e
          ∙ rw (cut_at_none (λ b. eqb b 35) (word ++ 32 ∷ rest) body, unlabelled (word ++ 32 ∷ rest) colon, statement_read word is rest) refl
      go (inr (name, named, e)) =
          let whole : lead ++ (word ++ 32 ∷ rest) ≡ (name ++ []) ++ 58 ∷ (word ++ 32 ∷ rest)
          = ap (λ l. l ++ (word ++ 32 ∷ rest)) e ∙ append_assoc name (58 ∷ []) (word ++ 32 ∷ rest) ∙ sym (append_assoc name [] (58 ∷ (word ++ 32 ∷ rest))) in
          let mark : lacks 35 ((name ++ []) ++ 58 ∷ (word ++ 32 ∷ rest)) ≡ true
          = lacks_both 35 (name ++ []) (58 ∷ (word ++ 32 ∷ rest)) (lacks_both 35 name [] (name_without 35 refl name named) refl) body in
          ap line_of whole
          ∙ rw (
            cut_at_none (λ b. eqb b 35) ((name ++ []) ++ 58 ∷ (word ++ 32 ∷ rest)) mark,
            labelled name []
                (word ++ 32 ∷ rest) named refl,
            statement_read word is rest,
          ) refl

  -- Lines with the same label and first word say the same if their operands are read alike in pairs, and have no colon
  -- and no mark of a comment.
  pub lines_alike : (rest rest' : List ℕ) → IsQuiet rest → IsQuiet rest' → Pairwise AreReadAlike (operands_of rest) (operands_of rest')
      → line_of (statement_line lead word rest) ≡ line_of (statement_line lead word rest')
  unfolding statement_in
  lines_alike rest rest' quiet quiet' alike =
      line_read rest quiet ∙ ap (said_as (name_led lead led)) (chosen_alike (directive_of word) (mnemonic_of word) alike) ∙ sym (line_read rest' quiet')
