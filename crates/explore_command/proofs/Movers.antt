-- The text of processors, one after another.
use Rattle.std.proofs.Common.{◌≡◌, ℕ, ◌+◌, ◌<◌, ◌≤◌, List, ◌++◌, drop, length, append_assoc, sym, ap, ◌∙◌}
use Rattle.std.specs.Prelude.{codes, slice_index_or}
use Rattle.std.specs.Fmt.{decimal}
use Rattle.std.proofs.lemmas.List.{append-nil, drop_all, drop_more}
use Rattle.explore_command.specs.Lassos.{movers_text}

-- If a text and that of the processors from a place on make the whole, then after the processor at the place is
-- appended, the text and that of the processors after it do.
pub movers_more : (movers : List ℕ) (i d : ℕ) (old new whole : List ℕ) → i < length movers →
    new ≡ old ++ codes " " ++ decimal (slice_index_or movers i d) → old ++ movers_text (drop i movers) ≡ whole →
    new ++ movers_text (drop (i + 1) movers) ≡ whole
movers_more movers i d old new whole l more before =
    ap (λ xs. xs ++ movers_text (drop (i + 1) movers)) (more ∙ append_assoc old (codes " ") (decimal (slice_index_or movers i d)))
    ∙ (append_assoc old (codes " " ++ decimal (slice_index_or movers i d)) (movers_text (drop (i + 1) movers))
    ∙ (ap (λ xs. old ++ movers_text xs) (sym (drop_more movers i d l)) ∙ before))

-- If no processors are left, the text is the whole.
pub no_movers : (movers : List ℕ) (i : ℕ) (text whole : List ℕ) → length movers ≤ i → text ++ movers_text (drop i movers) ≡ whole → text ≡ whole
no_movers movers i text whole l h = sym (append-nil text) ∙ (ap (λ xs. text ++ movers_text xs) (sym (drop_all i movers l)) ∙ h)
