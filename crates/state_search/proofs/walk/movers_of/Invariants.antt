use Rattle.state_search.specs.Ends.{AreRows}
use Rattle.state_store.specs.TransitionCache.{KnowsLists, KnowsLocalStates}
use Rattle.state_store.specs.StateTables.{HasGrown}
use Rattle.state_search.proofs.walk.movers_of.Given as goal

abbrev pub invariant-loop-place : goal.invariant-loop-place
invariant-loop-place g l = record {
  kept : HasGrown l.fn.state_tables l.state_tables;
  local_states : KnowsLocalStates l.extent.exchanged l.code l.state_tables l.transition_caches.local_states;
  lists : KnowsLists l.state_tables l.transition_caches.lists;
  rows : AreRows l.extent l.state_tables l.rows.keys;
}
