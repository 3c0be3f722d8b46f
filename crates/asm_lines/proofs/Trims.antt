-- Blanks at the ends of a text and of its parts.
use Rattle.std.proofs.Common.{◌≡◌, ℕ, ◌<◌, Bool, true, false, cond, not, eqb, List, [], ◌∷◌, ◌++◌}
use Rattle.std.proofs.Common.{length, get_or, map, refl, sym, ap, ◌∙◌, append_assoc, append-nil}
use Rattle.std.specs.Prelude.{reverse}
use Rattle.std.specs.List.{list_all, slice_split}
use Rattle.std.proofs.lemmas.Bool.{and_parts, and_from, not_from_false, not-true, eqb-true}
use Rattle.std.proofs.lemmas.List.{reverse-append, length-reverse}
use Rattle.asm_lines.specs.Text.{is_blank, front_trimmed, trimmed, operands_of}
use Rattle.asm_lines.specs.Alike.{AreBlanks}
use Rattle.asm_lines.proofs.PlainWords.{weaker, joined_all, all_at, trimmed_same, split_mid, split_none}
use Rattle.asm_lines.proofs.Comments.{Cut, uncut, cut, cut_of}

-- whether the text has no such byte
abbrev pub lacks : ℕ → List ℕ → Bool
lacks m xs = list_all (λ b. not (eqb b m)) xs

-- If two texts lack a byte, so does their concatenation.
pub lacks_both : (m : ℕ) (xs ys : List ℕ) → lacks m xs ≡ true → lacks m ys ≡ true → lacks m (xs ++ ys) ≡ true
lacks_both m xs ys h i = joined_all (λ b. not (eqb b m)) xs ys h i

-- If each byte passes a test, no byte is one that fails it.
pub no_such : (p : ℕ → Bool) (c : ℕ) → p c ≡ false → (bs : List ℕ) → list_all p bs ≡ true → lacks c bs ≡ true
no_such p c fails bs h = weaker p (λ b. not (eqb b c)) (λ b e. go b e (eqb b c) refl) bs h
  where
    go : (b : ℕ) → p b ≡ true → (t : Bool) → eqb b c ≡ t → not t ≡ true
    go b e false f = refl
    go b e true f = let differ : false ≡ true = sym fails ∙ sym (ap p (eqb-true b c f)) ∙ e in differ

-- ---- a text with blanks before or after it

reverse_cons : (x : ℕ) (xs : List ℕ) → reverse (x ∷ xs) ≡ reverse xs ++ x ∷ []
reverse_cons x xs = reverse-append (x ∷ []) xs

-- If each byte of a text passes a test, so does each byte of the reversed text.
pub all_reversed : (q : ℕ → Bool) (xs : List ℕ) → list_all q xs ≡ true → list_all q (reverse xs) ≡ true
all_reversed q [] h = refl
all_reversed q (x ∷ xs) h =
    let a = and_parts (q x) (list_all q xs) h in
    ap (list_all q) (reverse_cons x xs) ∙ joined_all q (reverse xs) (x ∷ []) (all_reversed q xs a.1) (and_from (q x) true a.0 refl)

front_after_gap : (gap xs : List ℕ) → AreBlanks gap → front_trimmed (gap ++ xs) ≡ front_trimmed xs
front_after_gap [] xs h = refl
front_after_gap (g ∷ gap) xs h = let a = and_parts (is_blank g) (list_all is_blank gap) h in rw a.0 (front_after_gap gap xs a.1)

front_blank : (gap : List ℕ) → AreBlanks gap → front_trimmed gap ≡ []
front_blank [] h = refl
front_blank (g ∷ gap) h = let a = and_parts (is_blank g) (list_all is_blank gap) h in rw a.0 (front_blank gap a.1)

-- Trimming the front of a text keeps a byte that is not a blank, and all after it.
pub front_before_solid : (xs : List ℕ) (c : ℕ) (ys : List ℕ) → is_blank c ≡ false → front_trimmed (xs ++ c ∷ ys) ≡ front_trimmed xs ++ c ∷ ys
front_before_solid [] c ys h = rw h refl
front_before_solid (x ∷ xs) c ys h = go (is_blank x) (front_before_solid xs c ys h)
  where
    go : (t : Bool) → front_trimmed (xs ++ c ∷ ys) ≡ front_trimmed xs ++ c ∷ ys
        → cond t (front_trimmed (xs ++ c ∷ ys)) (x ∷ (xs ++ c ∷ ys)) ≡ cond t (front_trimmed xs) (x ∷ xs) ++ c ∷ ys
    go true more = more
    go false more = refl

-- Blanks before a text are trimmed away.
pub trimmed_after_gap : (gap xs : List ℕ) → AreBlanks gap → trimmed (gap ++ xs) ≡ trimmed xs
unfolding trimmed
trimmed_after_gap gap xs h = ap (λ (l : List ℕ). reverse (front_trimmed (reverse l))) (front_after_gap gap xs h)

back_before_gap : (xs gap : List ℕ) → AreBlanks gap → front_trimmed (reverse (xs ++ gap)) ≡ front_trimmed (reverse xs)
back_before_gap xs gap h = ap front_trimmed (reverse-append xs gap) ∙ front_after_gap (reverse gap) (reverse xs) (all_reversed is_blank gap h)

-- what is left of the blanks after a text if the text is trimmed in front
pub record Kept (xs gap : List ℕ) : Type 0 where
  -- the blanks that are left
  pub gap_left : List ℕ
  -- the text with the blanks, trimmed in front, is the trimmed text and those
  pub is : front_trimmed (xs ++ gap) ≡ front_trimmed xs ++ gap_left
  -- those are blanks
  pub blanks : AreBlanks gap_left

twice : (ys : List ℕ) → list_all (λ b. not (not (is_blank b))) ys ≡ true → AreBlanks ys
twice ys e = weaker (λ b. not (not (is_blank b))) is_blank (λ b n. undone (is_blank b) n) ys e
  where
    undone : (t : Bool) → not (not t) ≡ true → t ≡ true
    undone true n = refl
    undone false n = n

-- If a text with blanks after it is trimmed in front, only blanks are left after the trimmed text.
pub kept_of : (xs gap : List ℕ) → AreBlanks gap → Kept xs gap
kept_of xs gap h = go (cut_of (λ b. not (is_blank b)) xs)
  where
    go : Cut (λ b. not (is_blank b)) xs → Kept xs gap
    go (uncut e) = record {
      gap_left = [];
      is = front_blank (xs ++ gap) (joined_all is_blank xs gap (twice xs e) h) ∙ sym (append-nil (front_trimmed xs) ∙ front_blank xs (twice xs e));
      blanks = refl;
    }
    go (cut front c behind is e n) =
        let none : is_blank c ≡ false = not-true (is_blank c) n in
        let one : front_trimmed xs ≡ front_trimmed front ++ c ∷ behind = ap front_trimmed is ∙ front_before_solid front c behind none in
        let whole : xs ++ gap ≡ front ++ c ∷ (behind ++ gap) = ap (λ l. l ++ gap) is ∙ append_assoc front (c ∷ behind) gap in
        record {
          gap_left = gap;
          is = ap front_trimmed whole ∙ front_before_solid front c (behind ++ gap) none ∙ sym (append_assoc (front_trimmed front) (c ∷ behind) gap)
              ∙ ap (λ l. l ++ gap) (sym one);
          blanks = h;
        }

-- Blanks after a text are trimmed away.
pub trimmed_before_gap : (xs gap : List ℕ) → AreBlanks gap → trimmed (xs ++ gap) ≡ trimmed xs
unfolding trimmed
trimmed_before_gap xs gap h =
    let k = kept_of xs gap h in
    ap (λ (l : List ℕ). reverse (front_trimmed (reverse l))) k.is ∙ ap reverse (back_before_gap (front_trimmed xs) k.gap_left k.blanks)

-- ---- the end of a text

-- The text is blanks alone, or has a last byte that is not a blank, with blanks after it.
pub data Ends (xs : List ℕ) : Type 0 where
  blank : AreBlanks xs → Ends xs
  solid : (front : List ℕ) (c : ℕ) (gap : List ℕ) → xs ≡ (front ++ c ∷ []) ++ gap → is_blank c ≡ false → AreBlanks gap → Ends xs

-- Each text is blanks alone, or has a last byte that is not a blank.
pub ends_of : (xs : List ℕ) → Ends xs
ends_of [] = blank refl
ends_of (x ∷ xs) = go (ends_of xs)
  where
    first : (t : Bool) → is_blank x ≡ t → AreBlanks xs → Ends (x ∷ xs)
    first true e h = blank (and_from (is_blank x) _ e h)
    first false e h = solid [] x xs refl e h

    go : Ends xs → Ends (x ∷ xs)
    go (blank h) = first (is_blank x) refl h
    go (solid front c gap is n h) = solid (x ∷ front) c gap (ap (λ (ys : List ℕ). x ∷ ys) is) n h

-- A text whose first and last byte are not blanks is its own trimmed text.
pub trimmed_solid : (xs : List ℕ) (c : ℕ) → is_blank (get_or (xs ++ c ∷ []) 0 32) ≡ false → is_blank c ≡ false → trimmed (xs ++ c ∷ []) ≡ xs ++ c ∷ []
trimmed_solid xs c first last = trimmed_same (xs ++ c ∷ []) first (ap (λ l. is_blank (get_or l 0 32)) (reverse-append xs (c ∷ [])) ∙ last)

-- A text without a blank is its own trimmed text, if it is not empty.
pub trimmed_word : (xs : List ℕ) → 0 < length xs → list_all (λ b. not (is_blank b)) xs ≡ true → trimmed xs ≡ xs
trimmed_word xs some h = trimmed_same xs (not-true _ (all_at (λ b. not (is_blank b)) xs 0 32 some h))
    (not-true _ (all_at (λ b. not (is_blank b)) (reverse xs) 0 32 (rw length-reverse some) (all_reversed (λ b. not (is_blank b)) xs h)))

-- ---- operands

abbrev pub is_comma : ℕ → Bool
is_comma b = eqb b 44

-- Blanks have no comma.
pub blanks_uncut : (gap : List ℕ) → AreBlanks gap → lacks 44 gap ≡ true
blanks_uncut gap h = no_such is_blank 44 refl gap h

-- Blanks before a text do not change its operands.
pub operands_after_gap : (gap xs : List ℕ) → AreBlanks gap → operands_of (gap ++ xs) ≡ operands_of xs
unfolding operands_of
operands_after_gap gap xs h = go (cut_of is_comma xs)
  where
    go : Cut is_comma xs → map trimmed (slice_split is_comma (gap ++ xs)) ≡ map trimmed (slice_split is_comma xs)
    go (uncut e) = ap (map trimmed) (split_none is_comma (gap ++ xs) (joined_all _ gap xs (blanks_uncut gap h) e))
        ∙ ap (λ (l : List ℕ). l ∷ []) (trimmed_after_gap gap xs h) ∙ ap (map trimmed) (sym (split_none is_comma xs e))
    go (cut front c behind is e n) =
        let whole : gap ++ xs ≡ (gap ++ front) ++ c ∷ behind = ap (λ l. gap ++ l) is ∙ sym (append_assoc gap front (c ∷ behind)) in
        let none = lacks_both 44 gap front (blanks_uncut gap h) e in
        ap (λ l. map trimmed (slice_split is_comma l)) whole
        ∙ ap (map trimmed) (split_mid is_comma (gap ++ front) c behind none n)
        ∙ ap (λ (l : List ℕ). l ∷ map trimmed (slice_split is_comma behind)) (trimmed_after_gap gap front h)
        ∙ ap (map trimmed) (sym (split_mid is_comma front c behind e n))
        ∙ ap (λ l. map trimmed (slice_split is_comma l)) (sym is)

-- Blanks after a text do not change its operands, even if the first operand begins before the text.
operands_after : (lead xs gap : List ℕ) → lacks 44 lead ≡ true → AreBlanks gap
    → map trimmed (slice_split is_comma (lead ++ (xs ++ gap))) ≡ map trimmed (slice_split is_comma (lead ++ xs))
operands_after lead [] gap l h =
    ap (map trimmed) (split_none is_comma (lead ++ gap) (joined_all _ lead gap l (blanks_uncut gap h)))
    ∙ ap (λ (x : List ℕ). x ∷ []) (trimmed_before_gap lead gap h)
    ∙ ap (map trimmed) (sym (split_none is_comma lead l))
    ∙ ap (λ x. map trimmed (slice_split is_comma x)) (sym (append-nil lead))
operands_after lead (x ∷ xs) gap l h = go (λ front none. operands_after front xs gap none h) (is_comma x) refl
  where
    go : ((front : List ℕ) → lacks 44 front ≡ true
        → map trimmed (slice_split is_comma (front ++ (xs ++ gap))) ≡ map trimmed (slice_split is_comma (front ++ xs)))
        → (t : Bool) → is_comma x ≡ t → map trimmed (slice_split is_comma (lead ++ x ∷ (xs ++ gap))) ≡ map trimmed (slice_split is_comma (lead ++ x ∷ xs))
    go rest true e =
        ap (map trimmed) (split_mid is_comma lead x (xs ++ gap) l e)
        ∙ ap (λ (ys : List (List ℕ)). trimmed lead ∷ ys) (rest [] refl)
        ∙ ap (map trimmed) (sym (split_mid is_comma lead x xs l e))
    go rest false e =
        ap (λ y. map trimmed (slice_split is_comma y)) (sym (append_assoc lead (x ∷ []) (xs ++ gap)))
        ∙ rest (lead ++ x ∷ []) (lacks_both 44 lead (x ∷ []) l (and_from (not (is_comma x)) true (not_from_false (is_comma x) e) refl))
        ∙ ap (λ y. map trimmed (slice_split is_comma y)) (append_assoc lead (x ∷ []) xs)

-- Blanks after a text do not change its operands.
pub operands_before_gap : (xs gap : List ℕ) → AreBlanks gap → operands_of (xs ++ gap) ≡ operands_of xs
unfolding operands_of
operands_before_gap xs gap h = operands_after [] xs gap refl h
