use Rattle.hart.proofs.Meanings.{stored, store_meaning}
use Rattle.hart.proofs.instructions.store_part.Goals as goal

pub returns-clause-table : goal.returns-clause-table
returns-clause-table c = stored c.args.size c.args.offset c.args.value c.requires.inside

pub returns-clause-meaning : goal.returns-clause-meaning
returns-clause-meaning c x h =
    rw (stored c.args.size c.args.offset c.args.value c.requires.inside) (store_meaning c.args.size c.args.offset c.args.value x c.requires.inside h)
