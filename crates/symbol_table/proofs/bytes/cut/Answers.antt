use Rattle.std.proofs.Common.{eqb, sym}
use Rattle.symbol_table.proofs.Cuts.{parts-cut, parts-uncut, rest_shorter}
use Rattle.symbol_table.proofs.bytes.cut.Goals as goal

pub returns-in-None-clause-parts : goal.returns-in-None-clause-parts
returns-in-None-clause-parts c = parts-uncut (λ b. eqb b c.args.mark) c.args.bytes.now (sym c.in-None.ensures)

pub returns-in-Some-clause-parts : goal.returns-in-Some-clause-parts
returns-in-Some-clause-parts c =
    parts-cut (λ b. eqb b c.args.mark) c.args.bytes.now c.in-Some.at (sym c.in-Some.ensures) _ _ c.split_at.ensures.front c.split_at-in-Some.ensures.back

pub returns-in-Some-clause-shorter : goal.returns-in-Some-clause-shorter
returns-in-Some-clause-shorter c =
    rest_shorter (λ b. eqb b c.args.mark) c.args.bytes.now c.in-Some.at (sym c.in-Some.ensures) _ c.split_at-in-Some.ensures.back
