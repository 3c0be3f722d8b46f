-- Words without special bytes, and how texts made of them are cut.
use Rattle.std.proofs.Common.{◌≡◌, ℕ, suc, ◌+◌, ◌-◌, ◌<◌, ◌≤◌, Bool, true, false, not, eqb, List, [], ◌∷◌, ◌++◌}
use Rattle.std.proofs.Common.{length, get_or, drop, map, Some, None, refl, sym, ap, ◌∙◌, append_assoc, append-nil}
use Rattle.std.proofs.Common.{arith}
use Rattle.std.specs.Prelude.{◌==◌, ◌||◌, reverse, nat_lt}
use Rattle.std.specs.List.{list_all, position_or_len, suffix_len, slice_split}
use Rattle.std.proofs.lemmas.Bool.{and_parts, and_from, or_parts, not_from_false, lt-ltb, le-ltb, not-true, true_from_ne_false, both_ways}
use Rattle.std.proofs.lemmas.List.{reverse-append, reverse-reverse, take_at, drop_at, get_or_append_left, get_or-append_right, length-append, length-reverse}
use Rattle.std.proofs.lemmas.List.Folds.{list_all-append, list_all_at}
use Rattle.std.proofs.lemmas.List.Sums.{suffix_len_is}
use Rattle.std.proofs.lemmas.List.Splits.{slice_split-cons_yes, slice_split-cons_no}
use Rattle.std.proofs.Math.Seq.{get_or-append_seam}
use Rattle.asm_lines.specs.Text.{is_blank, front_trimmed, trimmed, cut_at, cut_last_at, parts_at, operands_of}
use Rattle.asm_lines.specs.Statements.{bracket_parts}
use Rattle.asm_lines.specs.Written.{after_commas, in_brackets}

-- ---- tests of each byte

-- If each byte of a text passes a test, each passes a weaker test.
pub weaker : (p q : ℕ → Bool) → ((b : ℕ) → p b ≡ true → q b ≡ true) → (xs : List ℕ) → list_all p xs ≡ true → list_all q xs ≡ true
weaker p q h [] e = refl
weaker p q h (x ∷ xs) e = let a = and_parts (p x) (list_all p xs) e in and_from (q x) (list_all q xs) (h x a.0) (weaker p q h xs a.1)

-- If each byte of two texts passes a test, so does each byte of their concatenation.
pub joined_all : (q : ℕ → Bool) (xs ys : List ℕ) → list_all q xs ≡ true → list_all q ys ≡ true → list_all q (xs ++ ys) ≡ true
joined_all q xs ys a b = list_all-append q xs ys ∙ and_from (list_all q xs) (list_all q ys) a b

-- If each byte of a text passes a test, the byte at a given place does.
pub all_at : (q : ℕ → Bool) (xs : List ℕ) (i d : ℕ) → i < length xs → list_all q xs ≡ true → q (get_or xs i d) ≡ true
all_at q xs i d lt h = true_from_ne_false (q (get_or xs i d)) (λ e. both_ways (list_all q xs) (list_all_at q xs i d lt e) h)

-- ---- cuts and trims

cut_none : (p : ℕ → Bool) (xs : List ℕ) → list_all (λ b. not (p b)) xs ≡ true → position_or_len p xs ≡ length xs
cut_none p [] h = refl
cut_none p (x ∷ xs) h = let a = and_parts (not (p x)) (list_all (λ b. not (p b)) xs) h in rw (a.0, cut_none p xs a.1) (omega arith)

cut_mid : (p : ℕ → Bool) (xs : List ℕ) (c : ℕ) (ys : List ℕ) → list_all (λ b. not (p b)) xs ≡ true → p c ≡ true → position_or_len p (xs ++ c ∷ ys) ≡ length xs
cut_mid p [] c ys h e = rw e refl
cut_mid p (x ∷ xs) c ys h e = let a = and_parts (not (p x)) (list_all (λ b. not (p b)) xs) h in rw (a.0, cut_mid p xs c ys a.1 e) (omega arith)

-- A text in which no byte passes is not cut.
pub cut_at_none : (p : ℕ → Bool) (xs : List ℕ) → list_all (λ b. not (p b)) xs ≡ true → cut_at p xs ≡ None
unfolding cut_at
cut_at_none p xs h = let past : nat_lt (length xs) (length xs) ≡ false = le-ltb _ _ (omega arith) in rw (cut_none p xs h, past) refl

-- A text is cut at the first byte that passes.
pub cut_at_mid : (p : ℕ → Bool) (xs : List ℕ) (c : ℕ) (ys : List ℕ) → list_all (λ b. not (p b)) xs ≡ true → p c ≡ true → cut_at p (xs ++ c ∷ ys) ≡ Some (xs, ys)
unfolding cut_at
cut_at_mid p xs c ys h e =
    let inside : nat_lt (length xs) (length (xs ++ c ∷ ys)) ≡ true = lt-ltb _ _ (simp length-append (omega arith)) in
    let rest : drop (length xs + 1) (xs ++ c ∷ ys) ≡ ys =
    ap (drop (length xs + 1)) (sym (append_assoc xs (c ∷ []) ys)) ∙ drop_at (xs ++ c ∷ []) ys (length xs + 1) (simp length-append refl) in
    rw (cut_mid p xs c ys h e, inside, take_at xs (c ∷ ys) (length xs) refl, rest) refl

-- A text is cut at its last opening bracket.
pub cut_last_mid : (front inside : List ℕ) → list_all (λ b. not (b == 40)) inside ≡ true → cut_last_at 40 (front ++ 40 ∷ inside) ≡ Some (front, inside)
unfolding cut_last_at
cut_last_mid front inside h =
    let whole = front ++ 40 ∷ inside in
    let count : length (front ++ 40 ∷ inside) ≡ suc (length front + length inside) = simp length-append (omega arith) in
    let behind : (k : ℕ) → length front + 1 ≤ k → k < length (front ++ 40 ∷ inside) → not (eqb (get_or (front ++ 40 ∷ inside) k 0) 40) ≡ true =
    λ k low high.
    let at : get_or (front ++ 40 ∷ inside) k 0 ≡ get_or inside (k - (length front + 1)) 0 =
    ap (λ l. get_or l k 0) (sym (append_assoc front (40 ∷ []) inside))
    ∙ get_or-append_right (front ++ 40 ∷ []) inside (length front + 1) k 0 (simp length-append refl) low in
    rw at (all_at (λ b. not (b == 40)) inside (k - (length front + 1)) 0 (omega (arith, count)) h) in
    let mark : 0 < length front + 1 → not (eqb (get_or (front ++ 40 ∷ inside) (length front + 1 - 1) 0) 40) ≡ false =
    λ _. let same : length front + 1 - 1 ≡ length front = omega arith in rw (same, get_or-append_seam front 40 inside 0) refl in
    let suffix : suffix_len (λ b. not (eqb b 40)) (front ++ 40 ∷ inside) ≡ length (front ++ 40 ∷ inside) - (length front + 1) =
    suffix_len_is (λ b. not (eqb b 40)) (front ++ 40 ∷ inside) (length front + 1) 0 (omega (arith, count)) behind mark in
    let stands : nat_lt (length (front ++ 40 ∷ inside) - (length front + 1)) (length (front ++ 40 ∷ inside)) ≡ true = lt-ltb _ _ (omega (arith, count)) in
    let before : length (front ++ 40 ∷ inside) - (length (front ++ 40 ∷ inside) - (length front + 1)) - 1 ≡ length front = omega (arith, count) in
    let after : length (front ++ 40 ∷ inside) - (length (front ++ 40 ∷ inside) - (length front + 1)) ≡ length front + 1 = omega (arith, count) in
    let rest : drop (length front + 1) (front ++ 40 ∷ inside)
    ≡ inside = ap (drop (length front + 1)) (sym (append_assoc front (40 ∷ []) inside))
    ∙ drop_at (front ++ 40 ∷ []) inside (length front + 1) (simp length-append refl) in
    rw (suffix, stands, before, after, take_at front (40 ∷ inside) (length front) refl, rest) refl

kept_front : (xs : List ℕ) → is_blank (get_or xs 0 32) ≡ false → front_trimmed xs ≡ xs
kept_front [] h = refl
kept_front (x ∷ xs) h = rw h refl

-- A text whose first and last byte are not blanks is its own trimmed text.
pub trimmed_same : (xs : List ℕ) → is_blank (get_or xs 0 32) ≡ false → is_blank (get_or (reverse xs) 0 32) ≡ false → trimmed xs ≡ xs
unfolding trimmed
trimmed_same xs first last = rw (kept_front xs first, kept_front (reverse xs) last, reverse-reverse) refl

-- The empty text is its own trimmed text.
pub trimmed_nothing : trimmed [] ≡ []
unfolding trimmed
trimmed_nothing = refl

pub trimmed_blank : (xs : List ℕ) → trimmed (32 ∷ xs) ≡ trimmed xs
unfolding trimmed
trimmed_blank xs = refl

-- ---- words

-- whether a byte is not a blank, a comma, the mark of a comment, a colon or a line feed
abbrev pub is_plain : ℕ → Bool
is_plain b = not (is_blank b || (b == 44) || (b == 35) || (b == 58) || (b == 10))

pub record Word (w : List ℕ) : Type 0 where
  -- each byte is plain
  pub plain : list_all is_plain w ≡ true
  -- there is a byte
  pub nonempty : 0 < length w

pub data Words : List (List ℕ) → Type 0 where
  none : Words []
  more : {w : List ℕ} {ws : List (List ℕ)} → Word w → Words ws → Words (w ∷ ws)

plain_parts : (b : ℕ) → is_plain b ≡ true → (is_blank b ≡ false) × (eqb b 44 ≡ false) × (eqb b 35 ≡ false) × (eqb b 58 ≡ false) × (eqb b 10 ≡ false)
plain_parts b h =
    let v = or_parts (((is_blank b || eqb b 44) || eqb b 35) || eqb b 58) (eqb b 10) (not-true _ h) in
    let x = or_parts ((is_blank b || eqb b 44) || eqb b 35) (eqb b 58) v.0 in
    let y = or_parts (is_blank b || eqb b 44) (eqb b 35) x.0 in
    let z = or_parts (is_blank b) (eqb b 44) y.0 in
    (z.0, z.1, y.1, x.1, v.1)

module _ (w : List ℕ) (is : Word w) where
  -- A word has no blank.
  pub no_blank : list_all (λ b. not (is_blank b)) w ≡ true
  no_blank = weaker is_plain _ (λ b p. not_from_false _ (plain_parts b p).0) w is.plain

  -- A word has no comma.
  pub no_comma : list_all (λ b. not (eqb b 44)) w ≡ true
  no_comma = weaker is_plain _ (λ b p. not_from_false _ (plain_parts b p).1) w is.plain

  -- A word has no mark of a comment.
  pub no_comment : list_all (λ b. not (eqb b 35)) w ≡ true
  no_comment = weaker is_plain _ (λ b p. not_from_false _ (plain_parts b p).2) w is.plain

  -- A word has no colon.
  pub no_colon : list_all (λ b. not (eqb b 58)) w ≡ true
  no_colon = weaker is_plain _ (λ b p. not_from_false _ (plain_parts b p).3) w is.plain

  -- A word has no line feed.
  pub no_line_feed : list_all (λ b. not (eqb b 10)) w ≡ true
  no_line_feed = weaker is_plain _ (λ b p. not_from_false _ (plain_parts b p).4) w is.plain

  pub first_stays : is_blank (get_or w 0 32) ≡ false
  first_stays = (plain_parts (get_or w 0 32) (all_at is_plain w 0 32 is.nonempty is.plain)).0

-- The last byte of a text is the last of the part after a byte, if that part is not empty.
last_seam : (xs : List ℕ) (c : ℕ) (ys : List ℕ) → 0 < length ys → get_or (reverse (xs ++ c ∷ ys)) 0 32 ≡ get_or (reverse ys) 0 32
last_seam xs c ys some =
    let split : reverse (xs ++ c ∷ ys) ≡ reverse ys ++ reverse (xs ++ c ∷ []) =
    ap reverse (sym (append_assoc xs (c ∷ []) ys)) ∙ reverse-append (xs ++ c ∷ []) ys in
    ap (λ l. get_or l 0 32) split ∙ get_or_append_left (reverse ys) (reverse (xs ++ c ∷ [])) 32 0 (rw length-reverse some)

last_plain : (x : ℕ) (xs : List ℕ) → list_all is_plain (x ∷ xs) ≡ true → is_plain (get_or (reverse (x ∷ xs)) 0 32) ≡ true
last_plain x [] h = (and_parts (is_plain x) true h).0
last_plain x (y ∷ ys) h = ap is_plain (last_seam [] x (y ∷ ys) (omega arith)) ∙ last_plain y ys (and_parts (is_plain x) (list_all is_plain (y ∷ ys)) h).1

pub last_stays : (w : List ℕ) → Word w → is_blank (get_or (reverse w) 0 32) ≡ false
last_stays [] is = let h : 0 < 0 = is.nonempty in absurd (omega arith)
last_stays (x ∷ xs) is = (plain_parts (get_or (reverse (x ∷ xs)) 0 32) (last_plain x xs is.plain)).0

-- A word is its own trimmed text.
pub word_trimmed : (w : List ℕ) → Word w → trimmed w ≡ w
word_trimmed w is = trimmed_same w (first_stays w is) (last_stays w is)

-- ---- a name with its operands

pub everywhere : (q : ℕ → Bool) → q 32 ≡ true → q 44 ≡ true → ((w : List ℕ) → Word w → list_all q w ≡ true) → (ops : List (List ℕ)) → Words ops →
    list_all q (after_commas ops) ≡ true
everywhere q q32 q44 each [] none = refl
everywhere q q32 q44 each (op ∷ ops) (more w ws) =
    and_from (q 44) _ q44 (and_from (q 32) _ q32 (joined_all q op (after_commas ops) (each op w) (everywhere q q32 q44 each ops ws)))

pub some_append : (xs ys : List ℕ) → 0 < length xs → 0 < length (xs ++ ys)
some_append xs ys some = simp length-append (omega arith)

last_operand : (front : List ℕ) (c : ℕ) (op : List ℕ) (ops : List (List ℕ)) → Word op → Words ops →
    is_blank (get_or (reverse (front ++ c ∷ (op ++ after_commas ops))) 0 32) ≡ false
last_operand front c op [] w none =
    ap (λ l. is_blank (get_or (reverse (front ++ c ∷ l)) 0 32)) (append-nil op) ∙ ap is_blank (last_seam front c op w.nonempty) ∙ last_stays op w
last_operand front c op (o ∷ os) w (more v vs) =
    ap is_blank (last_seam front c (op ++ 44 ∷ 32 ∷ (o ++ after_commas os)) (some_append op _ w.nonempty)
    ∙ last_seam op 44 (32 ∷ (o ++ after_commas os)) (omega arith)) ∙ last_operand [] 32 o os v vs

-- A text is split at its first byte that passes: the part before it, and the parts of the text after it.
pub split_mid : (p : ℕ → Bool) (xs : List ℕ) (c : ℕ) (ys : List ℕ) → list_all (λ b. not (p b)) xs ≡ true → p c ≡ true →
    slice_split p (xs ++ c ∷ ys) ≡ xs ∷ slice_split p ys
split_mid p [] c ys h e = slice_split-cons_yes p c ys e
split_mid p (x ∷ xs) c ys h e = let a =
    and_parts (not (p x)) (list_all (λ b. not (p b)) xs) h in slice_split-cons_no p x (xs ++ c ∷ ys) (not-true _ a.0) ∙ rw (split_mid p xs c ys a.1 e) refl

-- A text in which no byte passes is its own only part.
pub split_none : (p : ℕ → Bool) (xs : List ℕ) → list_all (λ b. not (p b)) xs ≡ true → slice_split p xs ≡ xs ∷ []
split_none p [] h = refl
split_none p (x ∷ xs) h = let a =
    and_parts (not (p x)) (list_all (λ b. not (p b)) xs) h in slice_split-cons_no p x xs (not-true _ a.0) ∙ rw (split_none p xs a.1) refl

-- A text without the mark is its own only part.
pub one_part : (mark : ℕ) (xs : List ℕ) → list_all (λ b. not (eqb b mark)) xs ≡ true → parts_at mark xs ≡ xs ∷ []
one_part mark xs h = split_none (λ b. eqb b mark) xs h

split_operands : (lead op : List ℕ) (ops : List (List ℕ)) → list_all (λ b. not (eqb b 44)) lead ≡ true → trimmed lead ≡ op → Words ops →
    map trimmed (slice_split (λ b. eqb b 44) (lead ++ after_commas ops)) ≡ op ∷ ops
split_operands lead op [] h t none = ap (λ l. map trimmed (slice_split (λ b. eqb b 44) l)) (append-nil lead)
    ∙ ap (map trimmed) (split_none (λ b. eqb b 44) lead h) ∙ ap (λ (x : List ℕ). x ∷ []) t
split_operands lead op (o ∷ os) h t (more w ws) =
    ap (map trimmed) (split_mid (λ b. eqb b 44) lead 44 (32 ∷ (o ++ after_commas os)) h refl)
    ∙ ap (λ (x : List ℕ). x ∷ map trimmed (slice_split (λ b. eqb b 44) ((32 ∷ o) ++ after_commas os))) t
    ∙ ap (λ (xs : List (List ℕ)). op ∷ xs) (split_operands (32 ∷ o) o os (no_comma o w) (trimmed_blank o ∙ word_trimmed o w) ws)

-- Words that are written with commas between them are read back as operands.
pub operands_again : (op : List ℕ) (ops : List (List ℕ)) → Word op → Words ops → operands_of (op ++ after_commas ops) ≡ op ∷ ops
unfolding operands_of
operands_again op ops w ws = split_operands op op ops (no_comma op w) (word_trimmed op w) ws

-- The empty text is read as one empty operand.
pub no_operands_again : operands_of [] ≡ [] ∷ []
unfolding operands_of trimmed
no_operands_again = refl

module _ (name op : List ℕ) (ops : List (List ℕ)) (wn : Word name) (w : Word op) (ws : Words ops) where
  -- If blanks, commas and all bytes of words pass a test, so does each byte of a name with its operands.
  pub text_quiet : (q : ℕ → Bool) → q 32 ≡ true → q 44 ≡ true → ((v : List ℕ) → Word v → list_all q v ≡ true) →
      list_all q (name ++ 32 ∷ (op ++ after_commas ops)) ≡ true
  text_quiet q q32 q44 each = joined_all q name (32 ∷ (op ++ after_commas ops)) (each name wn)
      (and_from (q 32) _ q32 (joined_all q op (after_commas ops) (each op w) (everywhere q q32 q44 each ops ws)))

  -- A name with its operands is its own trimmed text.
  pub text_trimmed : trimmed (name ++ 32 ∷ (op ++ after_commas ops)) ≡ name ++ 32 ∷ (op ++ after_commas ops)
  text_trimmed =
      let first : get_or (name ++ 32 ∷ (op ++ after_commas ops)) 0 32 ≡ get_or name 0 32 =
      get_or_append_left name (32 ∷ (op ++ after_commas ops)) 32 0 wn.nonempty in
      trimmed_same (name ++ 32 ∷ (op ++ after_commas ops)) (ap is_blank first ∙ first_stays name wn) (last_operand name 32 op ops w ws)

-- ---- brackets

-- A text that has no closing bracket has no bracketed part.
pub bracketed_none : (w : List ℕ) → 0 < length w → list_all (λ b. not (eqb b 41)) w ≡ true → bracket_parts w ≡ None
unfolding bracket_parts
bracketed_none w some h = let last : eqb (get_or w (length w - 1) 0) 41 ≡ false =
    not-true _ (all_at (λ b. not (eqb b 41)) w (length w - 1) 0 (omega arith) h) in rw last refl

-- A text written as a front and an inside in brackets is read as these two parts, if both are trimmed and the inside
-- has no opening bracket.
pub bracketed_again : (front inside : List ℕ) → trimmed front ≡ front → trimmed inside ≡ inside → list_all (λ b. not (eqb b 40)) inside ≡ true →
    bracket_parts (in_brackets front inside) ≡ Some (front, inside)
unfolding bracket_parts
bracketed_again front inside tf ti h =
    let whole : front ++ 40 ∷ (inside ++ 41 ∷ []) ≡ (front ++ 40 ∷ inside) ++ 41 ∷ [] = sym (append_assoc front (40 ∷ inside) (41 ∷ [])) in
    let count : length ((front ++ 40 ∷ inside) ++ 41 ∷ []) - 1 ≡ length (front ++ 40 ∷ inside) = simp length-append (omega arith) in
    rw (
      whole,
      count,
      get_or-append_seam (front ++ 40 ∷ inside) 41 [] 0,
      take_at (front ++ 40 ∷ inside) (41 ∷ []) (length (front ++ 40 ∷ inside)) refl,
      cut_last_mid front inside h,
      tf,
      ti,
    ) refl
