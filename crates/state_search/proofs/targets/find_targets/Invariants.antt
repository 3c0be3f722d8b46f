use Rattle.state_search.specs.Ends.{AreRows}
use Rattle.state_search.specs.Targets.{AreTargetsOf}
use Rattle.state_store.specs.TransitionCache.{KnowsLists, KnowsLocalStates}
use Rattle.state_store.specs.StateTables.{HasGrown, IsRow, means}
use Rattle.state_search.proofs.targets.find_targets.Given as goal

abbrev pub invariant-loop-p : goal.invariant-loop-p
invariant-loop-p g l = record {
  kept : HasGrown l.fn.state_tables l.state_tables;
  local_states : KnowsLocalStates l.extent.exchanged l.code l.state_tables l.transition_caches.local_states;
  lists : KnowsLists l.state_tables l.transition_caches.lists;
  rows : AreRows l.extent l.state_tables l.rows.keys;
  is_row : IsRow l.extent l.state_tables l.row;
  targets : AreTargetsOf l.extent l.code l.classes l.fn.state_tables l.rows.keys (means l.extent l.fn.state_tables l.row) l.list.items l.p;
}
