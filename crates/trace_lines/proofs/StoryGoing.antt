-- Each step adds its line, if it is chosen, to the story of a run.
use Rattle.std.proofs.Common.{◌≡◌, ℕ, ◌+◌, List, [], ◌∷◌, ◌++◌, length, refl, sym, ap, ◌∙◌, append_assoc, arith}
use Rattle.std.proofs.lemmas.List.{append-nil}
use Rattle.std.specs.Prelude.{codes}
use Rattle.std.specs.Fmt.{decimal}
use Rattle.trace_lines.specs.StoryTexts.{members_text}
use Rattle.trace_lines.specs.StoryLines.{StoriesGoOn, StoryState, StoryStep, chosen_line, known_after, lines_from, no_lines, story_of, with_line, with_lines}

text_more : (t : StoryState) (run : List StoryStep) → (with_lines t run).text ≡ t.text ++ lines_from t.choice t.known run
text_more t [] = sym (append-nil t.text)
text_more t (a ∷ rest) =
    text_more (with_line t a) rest
    ∙ append_assoc t.text (chosen_line t.choice t.known a) (lines_from t.choice (known_after t.choice t.known a) rest)

number_more : (t : StoryState) (run : List StoryStep) → (with_lines t run).known.number ≡ t.known.number + length run
number_more t [] = omega arith
number_more t (a ∷ rest) = number_more (with_line t a) rest ∙ omega arith

one_more : (t : StoryState) (run : List StoryStep) (a : StoryStep) → with_lines t (run ++ a ∷ []) ≡ with_line (with_lines t run) a
one_more t [] a = refl
one_more t (x ∷ rest) a = one_more (with_line t x) rest a

-- Lines that are added step by step are the story of all steps.
pub stories_more : StoriesGoOn
unfolding story_of
stories_more = record {
  more = one_more;
  story = λ choice run. text_more (no_lines choice) run;
  number = λ choice run. number_more (no_lines choice) run ∙ omega arith;
}

-- ---- the members of a group

members_end : (ps : List ℕ) (p : ℕ) → members_text (ps ++ p ∷ []) ≡ members_text ps ++ (codes " " ++ decimal p)
members_end [] p = append-nil (codes " " ++ decimal p)
members_end (q ∷ ps) p =
    ap (λ rest. (codes " " ++ decimal q) ++ rest) (members_end ps p)
    ∙ sym (append_assoc (codes " " ++ decimal q) (members_text ps) (codes " " ++ decimal p))

-- The text of some members, followed by one more, is the text of them all.
pub members_more : (old done : List ℕ) (p : ℕ) (more text text2 : List ℕ) → more ≡ done ++ p ∷ [] → text ≡ old ++ members_text done →
    text2 ≡ text ++ (codes " " ++ decimal p) → text2 ≡ old ++ members_text more
members_more old done p more text text2 is before after =
    after
    ∙ ap (λ xs. xs ++ (codes " " ++ decimal p)) before
    ∙ append_assoc old (members_text done) (codes " " ++ decimal p)
    ∙ ap (λ xs. old ++ xs) (sym (members_end done p))
    ∙ ap (λ xs. old ++ members_text xs) (sym is)
