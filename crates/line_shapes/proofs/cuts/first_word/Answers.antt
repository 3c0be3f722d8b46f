use Rattle.line_shapes.proofs.Cutting.{first_of, rest_has_words, rest_shorter}
use Rattle.line_shapes.proofs.cuts.first_word.Goals as goal

pub returns-clause-words : goal.returns-clause-words
returns-clause-words c = first_of c.args.text.now c.split_once.result c.split_once.ensures.cases

pub returns-clause-shorter : goal.returns-clause-shorter
returns-clause-shorter c = rest_shorter c.args.text.now c.split_once.result c.split_once.ensures.cases

pub returns-clause-more : goal.returns-clause-more
returns-clause-more c = rest_has_words c.split_once.result
