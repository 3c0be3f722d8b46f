use Rattle.line_shapes.proofs.Cutting.{stripped_is}
use Rattle.line_shapes.proofs.cuts.after.Goals as goal

pub returns : goal.returns
returns c = stripped_is c.args.begin.now c.args.text.now c.strip_prefix.result c.strip_prefix.ensures.cases
