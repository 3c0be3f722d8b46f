use Rattle.state_search.specs.Ends.{AreRows}
use Rattle.state_search.specs.Targets.{AreTargets}
use Rattle.state_store.specs.TransitionCache.{KnowsLists, KnowsLocalStates}
use Rattle.state_store.specs.StateTables.{HasGrown}
use Rattle.state_search.proofs.targets.targets_of.Given as goal

abbrev pub invariant-loop-at : goal.invariant-loop-at
invariant-loop-at g l = record {
  kept : HasGrown l.fn.state_tables l.state_tables;
  local_states : KnowsLocalStates l.extent.exchanged l.code l.state_tables l.transition_caches.local_states;
  lists : KnowsLists l.state_tables l.transition_caches.lists;
  rows : AreRows l.extent l.state_tables l.rows.keys;
  targets : AreTargets l.extent l.code l.classes l.fn.state_tables l.rows.keys l.targets l.at;
}
