use Rattle.std.proofs.Common.{◌≡◌, ℕ, ◌<◌, List, [], length}
use Rattle.std.specs.Prelude.{slice_index_or}
use Rattle.state_store.specs.local_reduction.Closing.{MacroState}
use Rattle.state_search.specs.Search.{AreAllFound, Searched, Expanded}
use Rattle.state_store.specs.TransitionCache.{KnowsLists, KnowsLocalStates}
use Rattle.state_store.specs.StateTables.{HasGrown, IsRow}
use Rattle.state_search.proofs.finding.expand.Given as goal

abbrev pub invariant-loop-p : goal.invariant-loop-p
invariant-loop-p g l = record {
  kept : HasGrown l.fn.state_tables l.state_tables;
  local_states : KnowsLocalStates l.extent.exchanged l.code l.state_tables l.transition_caches.local_states;
  lists : KnowsLists l.state_tables l.transition_caches.lists;
  there : l.at < length l.rows.keys;
  row_is : slice_index_or l.rows.keys l.at [] ≡ l.row;
  is_row : IsRow l.extent l.state_tables l.row;
  expanded : (first : MacroState) (moves : List (List ℕ)) →
      Searched l.extent l.code l.classes l.fn.state_tables l.fn.rows.keys moves first l.at → AreAllFound l.fn.rows.keys moves →
      Expanded l.extent l.code l.classes l.state_tables l.rows.keys moves first l.successors.items l.at l.p;
}
