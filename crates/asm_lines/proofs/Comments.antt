-- A comment changes nothing.
use Rattle.std.proofs.Common.{◌≡◌, ℕ, Bool, true, false, not, eqb, List, [], ◌∷◌, ◌++◌, refl, sym, ap, ◌∙◌, append_assoc}
use Rattle.std.specs.List.{list_all}
use Rattle.std.proofs.lemmas.Bool.{and_from, not_from_false}
use Rattle.asm_lines.specs.Text.{cut_at}
use Rattle.asm_lines.specs.Statements.{before_comment, said_in, line_of}
use Rattle.asm_lines.proofs.PlainWords.{cut_at_none, cut_at_mid}

-- No byte of the text passes, or there is a first one that does.
pub data Cut (p : ℕ → Bool) (xs : List ℕ) : Type 0 where
  uncut : list_all (λ b. not (p b)) xs ≡ true → Cut p xs
  cut : (front : List ℕ) (c : ℕ) (behind : List ℕ) → xs ≡ front ++ c ∷ behind → list_all (λ b. not (p b)) front ≡ true → p c ≡ true → Cut p xs

-- No byte of a text passes, or the text is cut at the first one that does.
pub cut_of : (p : ℕ → Bool) (xs : List ℕ) → Cut p xs
cut_of p [] = uncut refl
cut_of p (x ∷ xs) = go (p x) refl (cut_of p xs)
  where
    go : (t : Bool) → p x ≡ t → Cut p xs → Cut p (x ∷ xs)
    go true e c = cut [] x xs refl refl e
    go false e (uncut h) = uncut (and_from (not (p x)) _ (not_from_false (p x) e) h)
    go false e (cut front c behind is h passes) =
        cut (x ∷ front) c behind (ap (λ (ys : List ℕ). x ∷ ys) is) (and_from (not (p x)) _ (not_from_false (p x) e) h) passes

-- whether a byte is the mark of a comment
abbrev pub is_mark : ℕ → Bool
is_mark b = eqb b 35

-- A comment does not change what a line says.
pub comment_left_out : (line comment : List ℕ) → line_of (line ++ 35 ∷ comment) ≡ line_of line
unfolding line_of
comment_left_out line comment = ap said_in (go (cut_of is_mark line))
  where
    go : Cut is_mark line → before_comment (line ++ 35 ∷ comment) (cut_at is_mark (line ++ 35 ∷ comment)) ≡ before_comment line (cut_at is_mark line)
    go (uncut h) = rw (cut_at_mid is_mark line 35 comment h refl, cut_at_none is_mark line h) refl
    go (cut front c behind is h e) =
        let whole : line ++ 35 ∷ comment ≡ front ++ c ∷ (behind ++ 35 ∷ comment)
        = ap (λ l. l ++ 35 ∷ comment) is ∙ append_assoc front (c ∷ behind) (35 ∷ comment) in
        ap (λ l. before_comment l (cut_at is_mark l)) whole
        ∙ ap (before_comment (front ++ c ∷ (behind ++ 35 ∷ comment))) (cut_at_mid is_mark front c (behind ++ 35 ∷ comment) h e)
        ∙ ap (before_comment (front ++ c ∷ behind)) (sym (cut_at_mid is_mark front c behind h e))
        ∙ ap (λ l. before_comment l (cut_at is_mark l)) (sym is)
