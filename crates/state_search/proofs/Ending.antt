-- A search that has noted the successors of all its rows has found all states.
use Rattle.std.proofs.Common.{◌⊎◌, inl, inr, ℕ, ◌<◌, ◌≤◌, List, [], length, sym, subst}
use Rattle.std.specs.Prelude.{slice_index, slice_index_or, Contains}
use Rattle.state_store.specs.local_reduction.Closing.{MacroState}
use Rattle.state_store.specs.local_reduction.Forgetting.{kept_by}
use Rattle.state_graph.specs.Ranks.{no_rank, successors_at}
use Rattle.state_store.specs.declared.state_tables.Extent.{Extent}
use Rattle.state_store.specs.local_reduction.Exchanging.{IsWayUpTo}
use Rattle.state_store.specs.StateTables.{TableLists, placed_at, setting_at}
use Rattle.state_graph.specs.Search.{AreReached}
use Rattle.state_search.specs.Search.{AreRowsOfSearch, Searched, Moves, state_at}
use Rattle.state_store.specs.Moves.{CanMove, Spinning}
use Rattle.state_search.specs.Ends.{AreDifferentStates, AreFound, AreSome}
use Rattle.state_search.proofs.Lemmas.{listed_is}

-- All states are reached from the first row.
from_first : (e : Extent) (code : List ℕ) (classes : List ℕ) (t : TableLists) (rows moves : List (List ℕ)) (first : MacroState) (done : ℕ) →
    Searched e code classes t rows moves first done → AreReached (setting_at e) code (kept_by t.live) classes (state_at e t rows) (length rows)
from_first e code classes t rows moves first done h i l =
    let r = h.reached i l in
    (r.0, subst (λ s. IsWayUpTo (setting_at e) code (kept_by t.live) classes s r.0 (state_at e t rows i)) (sym h.begins) r.1)

-- If no two rows of a search mean the same state, they mean as many states that it reaches.
pub some_found : (e : Extent) (code : List ℕ) (classes : List ℕ) (t : TableLists) (rows moves : List (List ℕ)) (first : MacroState) →
    AreRowsOfSearch e code classes t rows moves first → AreDifferentStates (length rows) (state_at e t rows) →
    AreSome e code classes t rows first
some_found e code classes t rows moves first h different = record {
  are_rows = h.searched.are_rows;
  begins = h.searched.begins;
  reached = from_first e code classes t rows moves first h.done h.searched;
  different = different;
}

-- If the successors of all rows are noted, and no two rows mean the same state, the search is complete.
pub all_found : (e : Extent) (code : List ℕ) (classes : List ℕ) (t : TableLists) (rows moves : List (List ℕ)) (first : MacroState) →
    Searched e code classes t rows moves first (length rows) → length rows ≤ no_rank → AreDifferentStates (length rows) (state_at e t rows) →
    AreFound e code classes t rows moves first
all_found e code classes t rows moves first h few different = record {
  some = some_found e code classes t rows moves first (record { done = length rows; searched = h }) different;
  successors = record {
    filled = h.filled;
    all = h.noted;
    few = few;
    spins = h.spins;
    sound = h.sound;
    complete = λ i k l may. by i k (h.complete i k l (within i k may) may);
  };
  breadth = h.breadth;
}
  where
    by : (i k : ℕ) → Spinning e code (state_at e t rows i) ⊎ ((v : ℕ) × Contains (successors_at moves i) v × (v < length rows)
        × Moves e code classes t.live (state_at e t rows i) k (state_at e t rows v)) →
        Spinning e code (state_at e t rows i) ⊎ ((v : ℕ) × Contains (successors_at moves i) v
        × Moves e code classes t.live (state_at e t rows i) k (state_at e t rows v))
    by i k (inl spins) = inl spins
    by i k (inr x) = inr (x.0, x.1, x.3)

    within : (i k : ℕ) → CanMove e code (state_at e t rows i) k → k < e.processors
    within i k may =
        (listed_is (λ q. kept_by t.live (placed_at t (slice_index (slice_index_or rows i []) q)).local_state) e.processors k may.local_state may.there).0
