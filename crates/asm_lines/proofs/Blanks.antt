-- Blanks around commas, brackets and a label's colon, and at the ends of a line, change nothing.
use Rattle.std.proofs.Common.{◌≡◌, ℕ, Bool, true, false, not, eqb, List, [], ◌∷◌, ◌++◌, map, Option, Some, None, refl}
use Rattle.std.proofs.Common.{sym, ap, ap₂, subst, ◌∙◌, append_assoc, append-nil, Result, Ok, ◌⊎◌, inl, inr}
use Rattle.std.specs.Prelude.{◌||◌, if◌then◌else◌}
use Rattle.std.specs.List.{slice_split}
use Rattle.std.proofs.lemmas.Bool.{and_from, not_from_false, eqb-true}
use Rattle.asm_lines.specs.declared.fault.LineFault.{LineFault}
use Rattle.asm_lines.specs.Steps.{◌>>=◌}
use Rattle.asm_lines.specs.Text.{is_blank, trimmed, cut_at, operands_of}
use Rattle.asm_lines.specs.Statements.{Said, is_name, bracket_parts, rest_of_line, before_comment, label_parts, label_in, said_in, line_of}
use Rattle.asm_lines.specs.Alike.{AreBracketedAlike, AreReadAlike, Pairwise, none, more, AreBlanks, IsQuiet, IsMark, IsFirstWord, IsLead, statement_line}
use Rattle.asm_lines.proofs.PlainWords.{weaker, joined_all, cut_at_none, cut_at_mid, split_mid, split_none}
use Rattle.asm_lines.proofs.Comments.{Cut, uncut, cut, cut_of, is_mark}
use Rattle.asm_lines.proofs.Trims.{lacks, lacks_both, no_such, is_comma, blanks_uncut}
use Rattle.asm_lines.proofs.Trims.{trimmed_after_gap, trimmed_before_gap, operands_after_gap, operands_before_gap}
use Rattle.asm_lines.proofs.WithBracket.{bracket}
use Rattle.asm_lines.proofs.Gaps.{gap_alike}
use Rattle.asm_lines.proofs.StatementLines.{name_without, labelled, lines_alike}

-- ---- commas

abbrev split_trimmed : List ℕ → List (List ℕ)
split_trimmed xs = map trimmed (slice_split is_comma xs)

comma_after : (lead xs ys : List ℕ) → lacks 44 lead ≡ true → split_trimmed (lead ++ (xs ++ 44 ∷ ys)) ≡ split_trimmed (lead ++ xs) ++ split_trimmed ys
comma_after lead [] ys l =
    ap (map trimmed) (split_mid is_comma lead 44 ys l refl)
    ∙ ap (λ l. l ++ split_trimmed ys) (ap (map trimmed) (sym (split_none is_comma lead l)) ∙ ap split_trimmed (sym (append-nil lead)))
comma_after lead (x ∷ xs) ys l = go (λ front h. comma_after front xs ys h) (is_comma x) refl
  where
    go : ((front : List ℕ) → lacks 44 front ≡ true → split_trimmed (front ++ (xs ++ 44 ∷ ys)) ≡ split_trimmed (front ++ xs) ++ split_trimmed ys)
        → (t : Bool) → is_comma x ≡ t → split_trimmed (lead ++ x ∷ (xs ++ 44 ∷ ys)) ≡ split_trimmed (lead ++ x ∷ xs) ++ split_trimmed ys
    go rest true e =
        ap (map trimmed) (split_mid is_comma lead x (xs ++ 44 ∷ ys) l e)
        ∙ ap (λ (zs : List (List ℕ)). trimmed lead ∷ zs) (rest [] refl)
        ∙ ap (λ zs. map trimmed zs ++ split_trimmed ys) (sym (split_mid is_comma lead x xs l e))
    go rest false e =
        ap split_trimmed (sym (append_assoc lead (x ∷ []) (xs ++ 44 ∷ ys)))
        ∙ rest (lead ++ x ∷ []) (lacks_both 44 lead (x ∷ []) l (and_from (not (is_comma x)) true (not_from_false (is_comma x) e) refl))
        ∙ ap (λ zs. split_trimmed zs ++ split_trimmed ys) (append_assoc lead (x ∷ []) xs)

comma_gap : (front gap gap' back : List ℕ) → AreBlanks gap → AreBlanks gap'
    → operands_of (front ++ (gap ++ 44 ∷ (gap' ++ back))) ≡ operands_of (front ++ 44 ∷ back)
unfolding operands_of
comma_gap front gap gap' back h h' =
    ap split_trimmed (sym (append_assoc front gap (44 ∷ (gap' ++ back))))
    ∙ comma_after [] (front ++ gap) (gap' ++ back) refl
    ∙ ap₂ (λ xs ys. xs ++ ys) (operands_before_gap front gap h) (operands_after_gap gap' back h')
    ∙ sym (comma_after [] front back refl)

-- ---- brackets

-- An operand is read like itself.
pub alike_itself : (one : List ℕ) → AreReadAlike one one
alike_itself one = record {
  register = refl;
  value = λ least most. refl;
  upper = refl;
  lower = refl;
  natural = λ most. refl;
  byte = refl;
  brackets =
      go (bracket_parts one);
  nothing = refl;
}
  where
    go : (o : Option (List ℕ × List ℕ)) → AreBracketedAlike o o
    go None = tt
    go (Some p) = (refl, refl, refl)

pub all_alike : (ones : List (List ℕ)) → Pairwise AreReadAlike ones ones
all_alike [] = none
all_alike (one ∷ ones) = more (alike_itself one) (all_alike ones)

-- two texts without commas, in the same place of the operands
module _ (M N : List ℕ) (quiet : lacks 44 M ≡ true) (quiet' : lacks 44 N ≡ true)
    (alike : (front back : List ℕ) → AreReadAlike (trimmed (front ++ (M ++ back))) (trimmed (front ++ (N ++ back)))) where
  last_operand : (lead X back : List ℕ) → lacks 44 lead ≡ true → lacks 44 X ≡ true → lacks 44 back ≡ true
      → split_trimmed (lead ++ (X ++ back)) ≡ trimmed (lead ++ (X ++ back)) ∷ []
  last_operand lead X back l x b = ap (map trimmed) (split_none is_comma (lead ++ (X ++ back)) (lacks_both 44 lead (X ++ back) l (lacks_both 44 X back x b)))

  first_operand : (lead X front : List ℕ) (c : ℕ) (behind : List ℕ) → lacks 44 lead ≡ true → lacks 44 X ≡ true → lacks 44 front ≡ true → is_comma c ≡ true
      → split_trimmed (lead ++ (X ++ (front ++ c ∷ behind))) ≡ trimmed (lead ++ (X ++ front)) ∷ split_trimmed behind
  first_operand lead X front c behind l x f e =
      ap split_trimmed (ap (λ y. lead ++ y) (sym (append_assoc X front (c ∷ behind))) ∙ sym (append_assoc lead (X ++ front) (c ∷ behind)))
      ∙ ap (map trimmed) (split_mid is_comma (lead ++ (X ++ front)) c behind (lacks_both 44 lead (X ++ front) l (lacks_both 44 X front x f)) e)

  in_place : (lead front back : List ℕ) → lacks 44 lead ≡ true
      → Pairwise AreReadAlike (split_trimmed (lead ++ (front ++ (M ++ back)))) (split_trimmed (lead ++ (front ++ (N ++ back))))
  in_place lead [] back l = go (cut_of is_comma back)
    where
      go : Cut is_comma back → Pairwise AreReadAlike (split_trimmed (lead ++ (M ++ back))) (split_trimmed (lead ++ (N ++ back)))
      go (uncut b) = rw (last_operand lead M back l quiet b, last_operand lead N back l quiet' b) (more (alike lead back) none)
      go (cut front c behind is f e) =
          rw (is, first_operand lead M front c behind l quiet f e, first_operand lead N front c behind l quiet' f e)
          (more (alike lead front) (all_alike (split_trimmed behind)))
  in_place lead (x ∷ xs) back l = go (λ front h. in_place front xs back h) (is_comma x) refl
    where
      go : ((front : List ℕ) → lacks 44 front ≡ true
          → Pairwise AreReadAlike (split_trimmed (front ++ (xs ++ (M ++ back)))) (split_trimmed (front ++ (xs ++ (N ++ back)))))
          → (t : Bool) → is_comma x ≡ t → Pairwise AreReadAlike (split_trimmed (lead ++ x ∷ (xs ++ (M ++ back)))) (split_trimmed
          (lead ++ x ∷ (xs ++ (N ++ back))))
      go rest true e =
          rw (split_mid is_comma lead x (xs ++ (M ++ back)) l e, split_mid is_comma lead x (xs ++ (N ++ back)) l e)
          (more (alike_itself (trimmed lead)) (rest [] refl))
      go rest false e =
          rw (← append_assoc lead (x ∷ []) (xs ++ (M ++ back)), ← append_assoc lead (x ∷ []) (xs ++ (N ++ back)))
          (rest (lead ++ x ∷ []) (lacks_both 44 lead (x ∷ []) l (and_from (not (is_comma x)) true (not_from_false (is_comma x) e) refl)))

bracket_gap : (m : ℕ) → (m ≡ 40) ⊎ (m ≡ 41) → (front gap gap' back : List ℕ) → AreBlanks gap → AreBlanks gap'
    → Pairwise AreReadAlike (operands_of (front ++ (gap ++ m ∷ (gap' ++ back)))) (operands_of (front ++ m ∷ back))
unfolding operands_of
bracket_gap m which front gap gap' back h h' =
    let M : List ℕ = gap ++ m ∷ gap' in
    let free : eqb m 44 ≡ false = elim which [ inl e ↦ rw e refl | inr e ↦ rw e refl ] in
    let quiet : lacks 44 (gap ++ m ∷ gap') ≡ true
    = lacks_both 44 gap (m ∷ gap') (blanks_uncut gap h) (and_from (not (is_comma m)) _ (not_from_false _ free) (blanks_uncut gap' h')) in
    let one : lacks 44 (m ∷ []) ≡ true = and_from (not (is_comma m)) true (not_from_false _ free) refl in
    let alike : (A B : List ℕ) → AreReadAlike (trimmed (A ++ ((gap ++ m ∷ gap') ++ B))) (trimmed (A ++ ((m ∷ []) ++ B)))
    = (λ A B. rw (append_assoc gap (m ∷ gap') B) (gap_alike m (bracket m which) A gap gap' B h h')) in
    subst (λ l. Pairwise AreReadAlike (split_trimmed (front ++ l)) (split_trimmed (front ++ m ∷ back))) (append_assoc gap (m ∷ gap') back)
    (in_place (gap ++ m ∷ gap') (m ∷ []) quiet one alike [] front back refl)

marks_alike : (m : ℕ) → IsMark m → (front gap gap' back : List ℕ) → AreBlanks gap → AreBlanks gap'
    → Pairwise AreReadAlike (operands_of (front ++ (gap ++ m ∷ (gap' ++ back)))) (operands_of (front ++ m ∷ back))
marks_alike m (inl e) front gap gap' back h h' =
    subst (λ c. Pairwise AreReadAlike (operands_of (front ++ (gap ++ c ∷ (gap' ++ back)))) (operands_of (front ++ c ∷ back))) (sym e)
    (subst (λ l. Pairwise AreReadAlike l (operands_of (front ++ 44 ∷ back))) (sym (comma_gap front gap gap' back h h'))
    (all_alike (operands_of (front ++ 44 ∷ back))))
marks_alike m (inr which) front gap gap' back h h' = bracket_gap m which front gap gap' back h h'

-- ---- lines

quiet_byte : (m : ℕ) → IsMark m → (eqb m 58 || eqb m 35) ≡ false
quiet_byte m (inl e) = rw e refl
quiet_byte m (inr (inl e)) = rw e refl
quiet_byte m (inr (inr e)) = rw e refl

quiet_blanks : (gap : List ℕ) → AreBlanks gap → IsQuiet gap
quiet_blanks gap h = weaker is_blank (λ b. not (eqb b 58 || eqb b 35)) (λ b e. go b e (eqb b 58) refl (eqb b 35) refl) gap h
  where
    go : (b : ℕ) → is_blank b ≡ true → (s : Bool) → eqb b 58 ≡ s → (t : Bool) → eqb b 35 ≡ t → not (s || t) ≡ true
    go b e false f false g = refl
    go b e true f t g = let differ : false ≡ true = sym (ap is_blank (eqb-true b 58 f)) ∙ e in absurd cc
    go b e false f true g = let differ : false ≡ true = sym (ap is_blank (eqb-true b 35 g)) ∙ e in absurd cc

-- Blanks around a comma or a bracket of the operands do not change what a line says, if the operands have no colon and
-- no mark of a comment.
pub marks_change_nothing : (lead word front gap gap' back : List ℕ) (m : ℕ) → IsLead lead → IsFirstWord word → IsQuiet front → IsQuiet back
    → AreBlanks gap → AreBlanks gap' → IsMark m
    → line_of (statement_line lead word (front ++ (gap ++ m ∷ (gap' ++ back)))) ≡ line_of (statement_line lead word (front ++ m ∷ back))
marks_change_nothing lead word front gap gap' back m led is quiet quiet' h h' mark =
    let q : ℕ → Bool = λ b. not (eqb b 58 || eqb b 35) in
    let byte = not_from_false _ (quiet_byte m mark) in
    let wide : IsQuiet (front ++ (gap ++ m ∷ (gap' ++ back)))
    = joined_all q front _ quiet (joined_all q gap _ (quiet_blanks gap h) (and_from (q m) _ byte (joined_all q gap' back (quiet_blanks gap' h') quiet'))) in
    let narrow : IsQuiet (front ++ m ∷ back) = joined_all q front (m ∷ back) quiet (and_from (q m) _ byte quiet') in
    lines_alike lead word led is (front ++ (gap ++ m ∷ (gap' ++ back))) (front ++ m ∷ back) wide narrow (marks_alike m mark front gap gap' back h h')

-- ---- ends of a line, and a label's colon

by_trim : (one other : List ℕ) → trimmed one ≡ trimmed other → rest_of_line one ≡ rest_of_line other
unfolding rest_of_line
by_trim one other e = rw e refl

rest_ends : (before text after : List ℕ) → AreBlanks before → AreBlanks after → rest_of_line (before ++ (text ++ after)) ≡ rest_of_line text
rest_ends before text after b a = by_trim _ _ (trimmed_after_gap before (text ++ after) b ∙ trimmed_before_gap text after a)

abbrev is_colon : ℕ → Bool
is_colon b = eqb b 58

abbrev said_from : Option (List ℕ) × List ℕ → Result Said LineFault
said_from parts = rest_of_line parts.1 >>= λ s. Ok (record { name = parts.0; statement = s })

said_ends : (before text after : List ℕ) → AreBlanks before → AreBlanks after → said_in (before ++ (text ++ after)) ≡ said_in text
unfolding said_in label_in
said_ends before text after b a = go (cut_of is_colon text)
  where
    label_or : (t : Bool) (name behind : List ℕ)
        → said_from (if t then (Some name, behind ++ after) else (None, before ++ (text ++ after)))
        ≡ said_from (if t then (Some name, behind) else (None, text))
    label_or true name behind = rw (rest_ends [] behind after refl a) refl
    label_or false name behind = rw (rest_ends before text after b a) refl

    go : Cut is_colon text → said_from (label_parts (before ++ (text ++ after))
        (cut_at is_colon (before ++ (text ++ after)))) ≡ said_from (label_parts text (cut_at is_colon text))
    go (uncut h) =
        let free = lacks_both 58 before (text ++ after) (no_such is_blank 58 refl before b) (lacks_both 58 text after h (no_such is_blank 58 refl after a)) in
        rw (cut_at_none is_colon (before ++ (text ++ after)) free, cut_at_none is_colon text h, rest_ends before text after b a) refl
    go (cut front c behind is h e) =
        let whole : before ++ (text ++ after) ≡ (before ++ front) ++ c ∷ (behind ++ after)
        = ap (λ l. before ++ (l ++ after)) is ∙ ap (λ l. before ++ l) (append_assoc front (c ∷ behind) after)
        ∙ sym (append_assoc before front (c ∷ (behind ++ after))) in
        let one : cut_at is_colon (before ++ (text ++ after)) ≡ Some (before ++ front, behind ++ after)
        = ap (cut_at is_colon) whole ∙ cut_at_mid is_colon (before ++ front) c (behind ++ after) (lacks_both 58 before front
        (no_such is_blank 58 refl before b) h) e in
        let other : cut_at is_colon text ≡ Some (front, behind) = ap (cut_at is_colon) is ∙ cut_at_mid is_colon front c behind h e in
        rw (one, other, trimmed_after_gap before front b) (label_or (is_name (trimmed front)) (trimmed front) behind)

-- the line before its comment
abbrev kept : List ℕ → List ℕ
kept line = before_comment line (cut_at is_mark line)

kept_uncut : (line : List ℕ) → lacks 35 line ≡ true → kept line ≡ line
kept_uncut line h = rw (cut_at_none is_mark line h) refl

kept_cut : (front : List ℕ) (c : ℕ) (behind : List ℕ) → lacks 35 front ≡ true → is_mark c ≡ true → kept (front ++ c ∷ behind) ≡ front
kept_cut front c behind h e = rw (cut_at_mid is_mark front c behind h e) refl

kept_after : (text rest : List ℕ) → lacks 35 text ≡ true → kept (text ++ rest) ≡ text ++ kept rest
kept_after text rest h = go (cut_of is_mark rest)
  where
    go : Cut is_mark rest → kept (text ++ rest) ≡ text ++ kept rest
    go (uncut r) = kept_uncut (text ++ rest) (lacks_both 35 text rest h r) ∙ ap (λ l. text ++ l) (sym (kept_uncut rest r))
    go (cut front c behind is f e) =
        ap kept (ap (λ l. text ++ l) is ∙ sym (append_assoc text front (c ∷ behind))) ∙ kept_cut (text ++ front) c behind (lacks_both 35 text front h f) e
        ∙ ap (λ l. text ++ l) (sym (ap kept is ∙ kept_cut front c behind f e))

-- Blanks at the ends of a line do not change what it says.
pub ends_change_nothing : (before line after : List ℕ) → AreBlanks before → AreBlanks after → line_of (before ++ (line ++ after)) ≡ line_of line
unfolding line_of
ends_change_nothing before line after b a = ap said_in (kept_after before (line ++ after) (no_such is_blank 35 refl before b)) ∙ go (cut_of is_mark line)
  where
    go : Cut is_mark line → said_in (before ++ kept (line ++ after)) ≡ said_in (kept line)
    go (uncut h) =
        ap (λ l. said_in (before ++ l)) (kept_uncut (line ++ after) (lacks_both 35 line after h (no_such is_blank 35 refl after a)))
        ∙ said_ends before line after b a ∙ ap said_in (sym (kept_uncut line h))
    go (cut front c behind is h e) =
        ap (λ l. said_in (before ++ l)) (ap kept (ap (λ l. l ++ after) is ∙ append_assoc front (c ∷ behind) after)
        ∙ kept_cut front c (behind ++ after) h e ∙ sym (append-nil front))
        ∙ said_ends before front [] b refl ∙ ap said_in (sym (ap kept is ∙ kept_cut front c behind h e))

-- Blanks around the colon of a label do not change what a line says.
pub colon_changes_nothing : (name gap gap' rest : List ℕ) → is_name name ≡ true → AreBlanks gap → AreBlanks gap'
    → line_of (name ++ (gap ++ 58 ∷ (gap' ++ rest))) ≡ line_of (name ++ 58 ∷ rest)
unfolding line_of said_in
colon_changes_nothing name gap gap' rest n h h' =
    let marked : (g : List ℕ) → AreBlanks g → lacks 35 (name ++ g) ≡ true
    = (λ g e. lacks_both 35 name g (name_without 35 refl name n) (no_such is_blank 35 refl g e)) in
    let one : kept (name ++ (gap ++ 58 ∷ (gap' ++ rest))) ≡ (name ++ gap) ++ 58 ∷ (gap' ++ kept rest)
    = ap kept (sym (append_assoc name gap (58 ∷ (gap' ++ rest)))) ∙ kept_after (name ++ gap) (58 ∷ (gap' ++ rest)) (marked gap h)
    ∙ ap (λ l. (name ++ gap) ++ l) (kept_after (58 ∷ gap') rest (no_such is_blank 35 refl gap' h')) in
    let other : kept (name ++ 58 ∷ rest) ≡ (name ++ []) ++ 58 ∷ kept rest
    = kept_after name (58 ∷ rest) (name_without 35 refl name n) ∙ ap (λ l. name ++ l) (kept_after (58 ∷ []) rest refl)
    ∙ ap (λ l. l ++ 58 ∷ kept rest) (sym (append-nil name)) in
    rw (
      one,
      other,
      labelled name gap (gap' ++ kept rest) n h,
      labelled name [] (kept rest) n refl,
      by_trim (gap' ++ kept rest) (kept rest)
          (trimmed_after_gap gap' (kept rest) h'),
    ) refl
