-- The text of numbers, number by number.
use Rattle.std.proofs.Common.{◌≡◌, ℕ, ◌+◌, ◌<◌, ◌≤◌, List, ◌++◌, drop, length, append_assoc, sym, ap, ◌∙◌}
use Rattle.std.specs.Prelude.{codes, slice_index_or}
use Rattle.std.specs.Fmt.{decimal}
use Rattle.std.proofs.lemmas.List.{append-nil, drop_all, drop_more}
use Rattle.hunt_command.specs.Findings.{numbers_text}

-- If a text and that of the numbers from a place on make the whole, then after the number at the place is appended, the
-- text and that of the numbers after it do.
pub numbers_more : (ns : List ℕ) (i d : ℕ) (old new whole : List ℕ) → i < length ns →
    new ≡ old ++ codes " " ++ decimal (slice_index_or ns i d) → old ++ numbers_text (drop i ns) ≡ whole →
    new ++ numbers_text (drop (i + 1) ns) ≡ whole
numbers_more ns i d old new whole l more before =
    ap (λ xs. xs ++ numbers_text (drop (i + 1) ns)) (more ∙ append_assoc old (codes " ") (decimal (slice_index_or ns i d)))
    ∙ (append_assoc old (codes " " ++ decimal (slice_index_or ns i d)) (numbers_text (drop (i + 1) ns))
    ∙ (ap (λ xs. old ++ numbers_text xs) (sym (drop_more ns i d l)) ∙ before))

-- After the last number, the text is the whole.
pub no_numbers : (ns : List ℕ) (i : ℕ) (text whole : List ℕ) → length ns ≤ i → text ++ numbers_text (drop i ns) ≡ whole → text ≡ whole
no_numbers ns i text whole l h = sym (append-nil text) ∙ (ap (λ xs. text ++ numbers_text xs) (sym (drop_all i ns l)) ∙ h)
