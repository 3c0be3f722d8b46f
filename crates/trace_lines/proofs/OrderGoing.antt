-- Each entry adds its line to those of a list.
use Rattle.std.proofs.Common.{◌≡◌, ◌+◌, [], ◌∷◌, ◌++◌, length, sym, ap, ◌∙◌, append_assoc, arith}
use Rattle.std.proofs.lemmas.List.{append-nil}
use Rattle.flat_machine.specs.Flat.{flat_run, flat_step}
use Rattle.trace_lines.specs.OrderLines.{chosen_line, lines_from}
use Rattle.trace_lines.specs.Laws.{LinesGoOn}

-- An entry at the end of a list adds its line, in the flat machine that has taken the entries before it.
pub lines_more : LinesGoOn
lines_more choice m number [] e = append-nil (chosen_line choice m number e) ∙ ap (λ n. chosen_line choice m n e) (omega arith)
lines_more choice m number (x ∷ xs) e =
    let there : number + 1 + length xs ≡ number + length (x ∷ xs) = omega arith in
    ap (λ rest. chosen_line choice m number x ++ rest)
    (lines_more choice (flat_step m x) (number + 1) xs e
    ∙ ap (λ n. lines_from choice (flat_step m x) (number + 1) xs ++ chosen_line choice (flat_run (flat_step m x) xs) n e) there)
    ∙ sym (append_assoc (chosen_line choice m number x) (lines_from choice (flat_step m x) (number + 1) xs)
    (chosen_line choice (flat_run m (x ∷ xs)) (number + length (x ∷ xs)) e))
