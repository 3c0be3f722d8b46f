use Rattle.state_search.proofs.Trading.{as_it_was, then_exchanged}
use Rattle.state_search.proofs.ordering.canonical.Goals as goal

pub loop-next-init : goal.loop-next-init
loop-next-init g c = record { exchanged = as_it_was _ _; there = c.requires.there }

pub loop-next-preserved : goal.loop-next-preserved
loop-next-preserved g c = record {
  exchanged = then_exchanged _ _ _ _ c.loop-next.invariant.exchanged c.step-at.ensures.exchanged;
  there = c.step-at.ensures.there;
}

pub loop-back-preserved : goal.loop-back-preserved
loop-back-preserved g c = record {
  exchanged = then_exchanged _ _ _ _ c.loop-back.invariant.exchanged c.step-at-in-loop-back.ensures.exchanged;
  there = c.step-at-in-loop-back.ensures.there;
}
