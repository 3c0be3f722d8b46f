use Rattle.state_search.proofs.Lemmas.{as_it_was, row_ordered}
use Rattle.exploration.proofs.order.step.Goals as goal

pub returns-then-classes-first-clause-exchanged : goal.returns-then-classes-first-clause-exchanged
returns-then-classes-first-clause-exchanged g c = as_it_was _ _

pub returns-clause-row : goal.returns-clause-row
returns-clause-row g c =
    row_ordered c.args.extent c.args.classes.now c.args.state_tables.now c.args.row.now c.trade.new.row c.requires.classes c.trade.ensures c.requires.row
