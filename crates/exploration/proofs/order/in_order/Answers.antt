use Rattle.state_search.proofs.Lemmas.{as_it_was, then_exchanged}
use Rattle.exploration.proofs.order.in_order.Goals as goal

pub loop-last-init : goal.loop-last-init
loop-last-init g c = record { exchanged = as_it_was _ _; row = c.requires.row }

pub loop-last-preserved : goal.loop-last-preserved
loop-last-preserved g c = record {
  exchanged = then_exchanged _ _ _ _ c.loop-last.invariant.exchanged c.sink.ensures.exchanged;
  row = c.sink.ensures.row;
}
