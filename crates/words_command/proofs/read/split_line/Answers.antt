use Rattle.std.proofs.Common.{◌∷◌, take, ap, sym, ◌∙◌}
use Rattle.words_command.specs.HexText.{lines_of}
use Rattle.words_command.proofs.Lines.{line_found, line_last, rest_of, nothing_left}
use Rattle.words_command.proofs.read.split_line.Goals as goal

pub returns-in-Some-clause-lines : goal.returns-in-Some-clause-lines
returns-in-Some-clause-lines c =
    line_found c.args.text.now c.in-Some.end (sym c.in-Some.ensures)
    ∙ ap (λ rest. take c.in-Some.end c.args.text.now ∷ lines_of rest) (rest_of c.args.text.now c.in-Some.end)

pub returns-in-None-clause-lines : goal.returns-in-None-clause-lines
returns-in-None-clause-lines c =
    line_last c.args.text.now (sym c.in-None.ensures) c.requires ∙ ap (λ rest. c.args.text.now ∷ lines_of rest) (sym (nothing_left c.args.text.now))
