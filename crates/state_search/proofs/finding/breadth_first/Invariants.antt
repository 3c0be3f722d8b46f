use Rattle.state_search.specs.Search.{AreAllFound, Searched}
use Rattle.state_store.specs.TransitionCache.{KnowsLists, KnowsLocalStates}
use Rattle.state_store.specs.StateTables.{HasGrown, means}
use Rattle.state_search.proofs.finding.breadth_first.Given as goal

abbrev pub invariant-loop-at : goal.invariant-loop-at
invariant-loop-at g l = record {
  kept : HasGrown l.fn.state_tables l.state_tables;
  local_states : KnowsLocalStates l.extent.exchanged l.code l.state_tables l.transition_caches.local_states;
  lists : KnowsLists l.state_tables l.transition_caches.lists;
  searched : Searched l.extent l.code l.classes l.state_tables l.found.rows.keys l.found.moves (means l.extent l.fn.state_tables l.fn.first) l.at;
  all : AreAllFound l.found.rows.keys l.found.moves;
}
