use Rattle.state_search.proofs.Lemmas.{as_it_was, then_exchanged}
use Rattle.exploration.proofs.order.sink.Goals as goal

pub loop-back-init : goal.loop-back-init
loop-back-init g c = record { exchanged = as_it_was _ _; row = c.requires.row; there = c.requires.there }

pub loop-back-preserved : goal.loop-back-preserved
loop-back-preserved g c = record {
  exchanged = then_exchanged _ _ _ _ c.loop-back.invariant.exchanged c.step-at.ensures.exchanged;
  row = c.step-at.ensures.row;
  there = c.step-at.ensures.there;
}
