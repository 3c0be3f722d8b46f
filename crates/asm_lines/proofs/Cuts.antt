-- An operand with a bracket is read from the parts before its last opening bracket and within it.
use Rattle.std.proofs.Common.{◌≡◌, ℕ, ◌-◌, Bool, true, false, not, eqb, List, [], ◌∷◌, ◌++◌, length, Option, Some, None, refl, sym, ap, subst, ◌∙◌, arith}
use Rattle.std.specs.Prelude.{slice_index, reverse, nat_lt, if◌then◌else◌, codes, ℤ, pos, negsuc}
use Rattle.std.specs.Option.{option_map}
use Rattle.std.specs.List.{list_all, suffix_len, prefix_len}
use Rattle.std.proofs.lemmas.Bool.{and_from, not_from_false, le-ltb, and_parts, eqb-true}
use Rattle.std.proofs.lemmas.List.{length-append, length-reverse, take_at}
use Rattle.std.proofs.Math.Seq.{get_or-append_seam}
use Rattle.asm_lines.specs.Text.{trimmed, cut_last_at}
use Rattle.asm_lines.specs.Number.{natural_within}
use Rattle.asm_lines.specs.Statements.{value_in, bracket_parts, label_of_part, part_in, or_number, upper_in, lower_in, byte_in}
use Rattle.asm_lines.specs.Alike.{AreBracketedAlike, AreReadAlike}
use Rattle.asm_lines.proofs.Trims.{lacks, all_reversed}
use Rattle.asm_lines.proofs.WithBracket.{IsBracket, register_fails, no_name, number_fails, some_operand}

-- ---- the last opening bracket

pub data LastCut (xs : List ℕ) : Type 0 where
  without : lacks 40 xs ≡ true → LastCut xs
  last : (front inside : List ℕ) → xs ≡ front ++ 40 ∷ inside → lacks 40 inside ≡ true → LastCut xs

-- Each text has no opening bracket, or is cut at its last one.
pub last_cut : (xs : List ℕ) → LastCut xs
last_cut [] = without refl
last_cut (x ∷ xs) = go (last_cut xs)
  where
    first : (t : Bool) → eqb x 40 ≡ t → lacks 40 xs ≡ true → LastCut (x ∷ xs)
    first true e h = last [] xs (ap (λ b. b ∷ xs) (eqb-true x 40 e)) h
    first false e h = without (and_from (not (eqb x 40)) _ (not_from_false (eqb x 40) e) h)

    go : LastCut xs → LastCut (x ∷ xs)
    go (without h) = first (eqb x 40) refl h
    go (last front inside is h) = last (x ∷ front) inside (ap (λ (ys : List ℕ). x ∷ ys) is) h

all_kept : (q : ℕ → Bool) (xs : List ℕ) → list_all q xs ≡ true → suffix_len q xs ≡ length xs
all_kept q xs h = go (reverse xs) (all_reversed q xs h) ∙ length-reverse xs
  where
    go : (ys : List ℕ) → list_all q ys ≡ true → prefix_len q ys ≡ length ys
    go [] e = refl
    go (y ∷ ys) e = let a = and_parts (q y) (list_all q ys) e in rw (a.0, go ys a.1) (omega arith)

-- A text without an opening bracket is not cut at one.
pub cut_last_none : (xs : List ℕ) → lacks 40 xs ≡ true → cut_last_at 40 xs ≡ None
unfolding cut_last_at
cut_last_none xs h = let past : nat_lt (length xs) (length xs) ≡ false = le-ltb _ _ (omega arith) in rw (all_kept (λ b. not (eqb b 40)) xs h, past) refl

-- ---- brackets

abbrev pub Parts : Type 0
Parts = Option (List ℕ × List ℕ)

abbrev pub parts_trimmed : Parts → Parts
parts_trimmed o = option_map (λ parts. (trimmed parts.0, trimmed parts.1)) o

abbrev pub cut_trimmed : List ℕ → Parts
cut_trimmed xs = parts_trimmed (cut_last_at 40 xs)

-- If a text ends with a closing bracket, its bracketed parts are those of the last cut before it, trimmed; else it has
-- none.
pub bracketed_snoc : (xs : List ℕ) (c : ℕ) → bracket_parts (xs ++ c ∷ []) ≡ (if eqb c 41 then cut_trimmed xs else None)
unfolding bracket_parts
bracketed_snoc xs c =
    let count : length (xs ++ c ∷ []) - 1 ≡ length xs = simp length-append (omega arith) in
    rw (count, get_or-append_seam xs c [] 0, take_at xs (c ∷ []) (length xs) refl) refl

-- The two cuts at an opening bracket are read alike, and name the same label after a modifier.
pub record SameCut (one other : Parts) : Type 0 where
  -- both are read alike
  pub brackets : AreBracketedAlike one other
  -- after a modifier that begins with % and has no bracket, both name the same label, or none
  pub named : (modifier : List ℕ) → slice_index modifier 0 ≡ 37 → lacks 40 modifier ≡ true → lacks 41 modifier ≡ true
      → label_of_part modifier one ≡ label_of_part modifier other

-- Two cuts that are equal are read alike.
pub same_cut : (one other : Parts) → one ≡ other → SameCut one other
same_cut one other e = subst (SameCut one) e (record { brackets = itself one; named = λ modifier percent h i. refl })
  where
    itself : (o : Parts) → AreBracketedAlike o o
    itself None = tt
    itself (Some p) = (refl, refl, refl)

-- ---- what the readers give for both

module _ (m : ℕ) (is : IsBracket m) where
  -- If the cuts are the same, all readers agree: a text with a bracket can only be %hi, %lo or an address.
  pub from_cuts : (P Q P' Q' : List ℕ) → SameCut (bracket_parts (P ++ m ∷ Q)) (bracket_parts (P' ++ m ∷ Q')) → AreReadAlike (P ++ m ∷ Q) (P' ++ m ∷ Q')
  unfolding value_in upper_in lower_in part_in natural_within byte_in
  from_cuts P Q P' Q' same = record {
    register = register_fails m is P Q ∙ sym (register_fails m is P' Q');
    value = λ least most. rw (no_name m is P Q, no_name m is P' Q', number_fails m is least most P Q, number_fails m is least most P' Q') refl;
    upper = numbered (pos 0) (pos 1048575) (codes "%hi") (same.named (codes "%hi") refl refl refl);
    lower = numbered (negsuc 2047) (pos 2047) (codes "%lo") (same.named (codes "%lo") refl refl refl);
    natural = λ most. rw (number_fails m is (pos 0) (pos most) P Q, number_fails m is (pos 0) (pos most) P' Q') refl;
    byte = rw (number_fails m is (negsuc 127) (pos 255) P Q, number_fails m is (negsuc 127) (pos 255) P' Q') refl;
    brackets = same.brackets;
    nothing = some_operand m is P Q ∙ sym (some_operand m is P' Q');
  }
    where
      or_fails : (least most : ℤ) (o : Option (List ℕ)) → or_number least most (P ++ m ∷ Q) o ≡ or_number least most (P' ++ m ∷ Q') o
      or_fails least most (Some name) = refl
      or_fails least most None = rw (number_fails m is least most P Q, number_fails m is least most P' Q') refl

      numbered : (least most : ℤ) (modifier : List ℕ) →
          label_of_part modifier (bracket_parts (P ++ m ∷ Q)) ≡ label_of_part modifier (bracket_parts (P' ++ m ∷ Q'))
          → or_number least most (P ++ m ∷ Q) (label_of_part modifier (bracket_parts (P ++ m ∷ Q)))
          ≡ or_number least most (P' ++ m ∷ Q') (label_of_part modifier (bracket_parts (P' ++ m ∷ Q')))
      numbered least most modifier e = ap (or_number least most (P ++ m ∷ Q)) e ∙ or_fails least most (label_of_part modifier (bracket_parts (P' ++ m ∷ Q')))
