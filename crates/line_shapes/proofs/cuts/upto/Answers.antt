use Rattle.line_shapes.proofs.Cutting.{upto_found, upto_none}
use Rattle.line_shapes.proofs.cuts.upto.Goals as goal

pub returns-in-Some : goal.returns-in-Some
returns-in-Some c = upto_found c.args.word.now c.args.text.now _ _ c.in-Some.at c.in-Some.ensures.cases c.range.ensures.value c.range_from.ensures.value

pub returns-in-None : goal.returns-in-None
returns-in-None c = upto_none c.args.word.now c.args.text.now c.in-None.ensures.cases
