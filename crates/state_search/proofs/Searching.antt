-- A search stays right as tables and rows grow, and the move of the last processor completes a state.
use Rattle.std.proofs.Common.{◌≡◌, ◌⊎◌, inl, inr, ℕ, ◌+◌, ◌<◌, ◌≤◌, zero, suc, Bool, true, false, cond, List}
use Rattle.std.proofs.Common.{[], ◌∷◌, ◌++◌, Some, length, refl, sym, ap, subst, ◌∙◌, arith, length-append}
use Rattle.std.specs.Prelude.{slice_get, slice_index, slice_index_or, Contains}
use Rattle.std.specs.List.{IsDistinct, list_any}
use Rattle.std.proofs.lemmas.Bool.{cases_lt}
use Rattle.std.proofs.lemmas.List.{get_or_append_left}
use Rattle.std.proofs.lemmas.List.Elements.{Contains-append_left, Contains-push, Contains-push_cases}
use Rattle.indexmap.specs.IndexSet.{insert_key}
use Rattle.state_store.specs.local_reduction.Closing.{MacroState}
use Rattle.state_store.specs.local_reduction.Exchanging.{AreAlike}
use Rattle.state_store.specs.local_reduction.LocalStates.{IsReference}
use Rattle.state_store.proofs.Lemmas.local_reduction.{reference_same}
use Rattle.state_store.specs.local_reduction.Forgetting.{kept_by}
use Rattle.state_graph.specs.Ranks.{successors_at}
use Rattle.state_store.specs.declared.state_tables.Extent.{Extent}
use Rattle.state_store.specs.StateTables.{TableLists, HasGrown, placed_at, setting_at, means, IsRow}
use Rattle.state_search.specs.Search.{state_at, AreAllFound, IsPlaced, Moves, IsReached, IsNextUpTo}
use Rattle.state_store.specs.Moves.{CanMove, Spinning}
use Rattle.state_search.specs.Search.{IsSuccessor, HasSuccessor, Searched, Expanded}
use Rattle.state_search.proofs.Lemmas.{found_at, listed_there, way_on, up_to}
use Rattle.state_store.proofs.Lemmas.{one_place}
use Rattle.state_store.proofs.Lemmas.{row_kept, means_kept}

-- ---- a list with a row inserted

record IsLonger (rows : List (List ℕ)) (row : List ℕ) (new : List (List ℕ)) : Type 0 where
  longer : length rows ≤ length new
  same : (i : ℕ) → i < length rows → slice_index_or new i [] ≡ slice_index_or rows i []
  others : (i : ℕ) → i < length new → (i < length rows) ⊎ ((i ≡ length rows) × (slice_index_or new i [] ≡ row))

last : (rows : List (List ℕ)) (row : List ℕ) → slice_index_or (rows ++ row ∷ []) (length rows) [] ≡ row
last [] row = refl
last (r ∷ rows) row = last rows row

appended : (rows : List (List ℕ)) (row : List ℕ) → IsLonger rows row (rows ++ row ∷ [])
appended rows row = record {
  longer = omega (arith, length-append rows (row ∷ []));
  same = λ i l. get_or_append_left rows (row ∷ []) [] i l;
  others = λ i l. by i l (cases_lt i (length rows));
}
  where
    by : (i : ℕ) → i < length (rows ++ row ∷ []) → (i < length rows) ⊎ (length rows ≤ i) →
        (i < length rows) ⊎ ((i ≡ length rows) × (slice_index_or (rows ++ row ∷ []) i [] ≡ row))
    by i l (inl below) = inl below
    by i l (inr past) =
        let here : i ≡ length rows = omega (arith, l, past, length-append rows (row ∷ [])) in
        inr (here, ap (λ j. slice_index_or (rows ++ row ∷ []) j []) here ∙ last rows row)

module _ (eq : List ℕ → List ℕ → Bool) (exact : (x y : List ℕ) → eq x y ≡ true → x ≡ y) where
  inserted : (rows : List (List ℕ)) (row : List ℕ) → IsLonger rows row (insert_key eq rows row)
  inserted rows row = by (list_any (eq row) rows)
    where
      by : (b : Bool) → IsLonger rows row (cond b rows (rows ++ row ∷ []))
      by true = record { longer = omega arith; same = λ i l. refl; others = λ i l. inl l }
      by false = appended rows row

  -- the place of a row in the list into which it is inserted
  pub placed : (rows : List (List ℕ)) (row : List ℕ) (new : List (List ℕ)) (place : ℕ) → new ≡ insert_key eq rows row →
      (k : List ℕ) × (slice_get new place ≡ Some k) × (eq row k ≡ true) → IsDistinct eq new → ((x : List ℕ) → eq x x ≡ true) →
      IsPlaced rows row new place
  placed rows row new place is stored distinct itself =
      let more : IsLonger rows row new = subst (IsLonger rows row) (sym is) (inserted rows row) in
      let here = found_at new place stored.0 [] stored.1 in
      let row_is : slice_index_or new place [] ≡ row = here.1 ∙ sym (exact row stored.0 stored.2) in
      record {
        longer = more.longer;
        same = more.same;
        others = λ i l. by i l here.0 row_is (more.others i l);
        within = here.0;
        is = row_is;
      }
    where
      by : (i : ℕ) → i < length new → place < length new → slice_index_or new place [] ≡ row →
          (i < length rows) ⊎ ((i ≡ length rows) × (slice_index_or new i [] ≡ row)) → (i < length rows) ⊎ (i ≡ place)
      by i l within row_is (inl below) = inl below
      by i l within row_is (inr x) =
          let same : slice_index_or new i [] ≡ slice_index_or new place [] = x.1 ∙ sym row_is in
          inr (one_place eq new distinct i place [] l within (subst (λ r. eq (slice_index_or new i []) r ≡ true) same (itself _))
          (subst (λ r. eq r (slice_index_or new i []) ≡ true) same (itself _)))

-- ---- successors that are noted

-- No successors are noted for states past the end of the list.
none_past : (moves : List (List ℕ)) (i : ℕ) → length moves ≤ i → successors_at moves i ≡ []
none_past [] i l = refl
none_past (m ∷ moves) zero l = absurd (omega (arith, l))
none_past (m ∷ moves) (suc i) l = none_past moves i (omega (arith, l))

pub none_there : (moves : List (List ℕ)) (i v : ℕ) → length moves ≤ i → Contains (successors_at moves i) v → ⊥
none_there moves i v past x =
    let none = (subst (λ vs. Contains vs v) (none_past moves i past) x).1 in
    omega (arith, none)

pub noted_there : (moves : List (List ℕ)) (i v : ℕ) → Contains (successors_at moves i) v → i < length moves
noted_there moves i v x = by (cases_lt i (length moves))
  where
    by : (i < length moves) ⊎ (length moves ≤ i) → i < length moves
    by (inl less) = less
    by (inr past) = absurd (none_there moves i v past x)

-- The place is still a successor, or the other claim holds, after another successor is appended.
one_more : {X : Type 0} (successors : List ℕ) (target v : ℕ) → Contains successors v ⊎ X → Contains (successors ++ target ∷ []) v ⊎ X
one_more successors target v (inl x) = inl (Contains-append_left successors (target ∷ []) v x)
one_more successors target v (inr x) = inr x

-- ---- processors with equal numbers

local_states_same : (e : Extent) (t : TableLists) (row : List ℕ) (q p : ℕ) → q < e.processors → p < e.processors → slice_index row q ≡ slice_index row p →
    slice_get (means e t row).local_states q ≡ slice_get (means e t row).local_states p
local_states_same e t row q p fq fp same =
    listed_there (λ i. kept_by t.live (placed_at t (slice_index row i)).local_state) e.processors q fq
    ∙ (ap (λ i. Some (kept_by t.live (placed_at t i).local_state)) same
    ∙ sym (listed_there (λ i. kept_by t.live (placed_at t (slice_index row i)).local_state) e.processors p fp))

-- ---- ways

module _ (e : Extent) (code : List ℕ) (classes : List ℕ) where
  pub reached_on : (live : List (List Bool)) (s u t : MacroState) (k : ℕ) → IsReached e code classes live s u →
      Moves e code classes live u k t → IsReached e code classes live s t
  reached_on live s u t k r m =
      (r.0 ++ (k, t) ∷ [], way_on (setting_at e) code (kept_by live) classes r.0 s u t k r.1 m)

  -- ---- rows keep their states: tables grow, or rows are appended

  -- Each old row means the same state by the new tables and rows.
  module _ (t u : TableLists) (rows new : List (List ℕ)) (longer : length rows ≤ length new) (live : u.live ≡ t.live)
      (same : (i : ℕ) → i < length rows → state_at e t rows i ≡ state_at e u new i) where
    moves_stay : (s v : MacroState) (k : ℕ) (s' v' : MacroState) → s ≡ s' → v ≡ v' → Moves e code classes t.live s k v →
        Moves e code classes u.live s' k v'
    moves_stay s v k s' v' es ev m =
        subst (λ (z : List (List Bool) × MacroState × MacroState). Moves e code classes z.0 z.1 k z.2)
        (λ j. (sym live j, es j, ev j)) m

    pub successor_stays : (i v : ℕ) → i < length rows → IsSuccessor e code classes t rows (state_at e t rows i) v →
        IsSuccessor e code classes u new (state_at e u new i) v
    successor_stays i v l x =
        let below = x.0 in
        (omega (arith, below, longer), by x.1)
      where
        by : Spinning e code (state_at e t rows i) ⊎ ((k : ℕ) × Moves e code classes t.live (state_at e t rows i) k (state_at e t rows v)) →
            Spinning e code (state_at e u new i) ⊎ ((k : ℕ) × Moves e code classes u.live (state_at e u new i) k (state_at e u new v))
        by (inl spins) = inl (subst (Spinning e code) (same i l) spins)
        by (inr m) = inr (m.0, moves_stay _ _ m.0 _ _ (same i l) (same v x.0) m.1)

    pub has_stays : (i k : ℕ) (successors : List ℕ) → i < length rows →
        HasSuccessor e code classes t rows (state_at e t rows i) successors k →
        HasSuccessor e code classes u new (state_at e u new i) successors k
    has_stays i k successors l h may = by (h (subst (λ s. CanMove e code s k) (sym (same i l)) may))
      where
        by : Spinning e code (state_at e t rows i) ⊎ ((v : ℕ) × Contains successors v × (v < length rows)
            × Moves e code classes t.live (state_at e t rows i) k (state_at e t rows v)) →
            Spinning e code (state_at e u new i) ⊎ ((v : ℕ) × Contains successors v × (v < length new)
            × Moves e code classes u.live (state_at e u new i) k (state_at e u new v))
        by (inl spins) = inl (subst (Spinning e code) (same i l) spins)
        by (inr x) =
            let below = x.2 in
            inr (x.0, x.1, omega (arith, below, longer), moves_stay _ _ k _ _ (same i l) (same x.0 below) x.3)

    pub searched_stays : (moves : List (List ℕ)) (first : MacroState) (done : ℕ) → Searched e code classes t rows moves first done →
        ((i : ℕ) → i < length new → IsRow e u (slice_index_or new i [])) →
        ((i : ℕ) → i < length new → IsReached e code classes u.live first (state_at e u new i)) →
        ((i : ℕ) → i < length new → length (slice_index_or new i []) ≡ length (slice_index_or new 0 [])) →
        Searched e code classes u new moves first done
    searched_stays moves first done h are reached wide = record {
      are_rows = are;
      reached = reached;
      filled = omega (arith, h.filled, longer);
      begins = sym (same 0 h.filled) ∙ h.begins;
      wide = wide;
      within = omega (arith, h.within, longer);
      noted = h.noted;
      spins = λ i below spins.
          h.spins i below (subst (Spinning e code) (sym (same i (omega (arith, below, h.within)))) spins);
      sound = λ i v below x. successor_stays i v (omega (arith, below, h.within)) (h.sound i v below x);
      complete = λ i k below few.
          has_stays i k (successors_at moves i) (omega (arith, below, h.within)) (h.complete i k below few);
      breadth = h.breadth;
    }

  -- ---- tables that grow

  module _ (t u : TableLists) (kept : HasGrown t u) (rows moves : List (List ℕ)) (first : MacroState) (done : ℕ) where
    abbrev stay : Searched e code classes t rows moves first done → (i : ℕ) → i < length rows →
        state_at e t rows i ≡ state_at e u rows i
    stay h i l = means_kept e t u (slice_index_or rows i []) kept (h.are_rows i l)

    pub searched_kept : Searched e code classes t rows moves first done → Searched e code classes u rows moves first done
    searched_kept h =
        searched_stays t u rows rows (omega arith) kept.live (stay h) moves first done h
        (λ i l. row_kept e t u (slice_index_or rows i []) kept (h.are_rows i l))
        (λ i l. subst (λ (z : List (List Bool) × MacroState). IsReached e code classes z.0 first z.1)
        (λ j. (sym kept.live j, stay h i l j)) (h.reached i l))
        h.wide

    pub expanded_kept : (successors : List ℕ) (processors : ℕ) →
        Expanded e code classes t rows moves first successors done processors →
        Expanded e code classes u rows moves first successors done processors
    expanded_kept successors processors h = record {
      searched = searched_kept h.searched;
      more = h.more;
      sound = λ v x. successor_stays t u rows rows (omega arith) kept.live (stay h.searched) done v h.more (h.sound v x);
      complete = λ k below.
          has_stays t u rows rows (omega arith) kept.live (stay h.searched) done k successors h.more (h.complete k below);
      found = h.found;
    }

  -- ---- one more row

  module _ (t : TableLists) (rows : List (List ℕ)) (row : List ℕ) (new : List (List ℕ)) (place : ℕ) (ins : IsPlaced rows row new place)
      (moves : List (List ℕ)) (first : MacroState) (done : ℕ) where
    abbrev stays : (i : ℕ) → i < length rows → state_at e t rows i ≡ state_at e t new i
    stays i l = ap (means e t) (sym (ins.same i l))

    pub searched_more : Searched e code classes t rows moves first done → IsRow e t row →
        IsReached e code classes t.live first (means e t row) → length row ≡ length (slice_index_or rows 0 []) →
        Searched e code classes t new moves first done
    searched_more h is_row reached long =
        searched_stays t t rows new ins.longer refl stays moves first done h (λ i l. row_at i (ins.others i l))
        (λ i l. reached_at i (ins.others i l)) (λ i l. wide_at i (ins.others i l) ∙ ap length (sym (ins.same 0 h.filled)))
      where
        wide_at : (i : ℕ) → (i < length rows) ⊎ (i ≡ place) → length (slice_index_or new i []) ≡ length (slice_index_or rows 0 [])
        wide_at i (inl l) = ap length (ins.same i l) ∙ h.wide i l
        wide_at i (inr here) = ap length (ap (λ j. slice_index_or new j []) here ∙ ins.is) ∙ long

        is_at : (i : ℕ) → i ≡ place → row ≡ slice_index_or new i []
        is_at i here = sym (ap (λ j. slice_index_or new j []) here ∙ ins.is)

        row_at : (i : ℕ) → (i < length rows) ⊎ (i ≡ place) → IsRow e t (slice_index_or new i [])
        row_at i (inl l) = subst (IsRow e t) (sym (ins.same i l)) (h.are_rows i l)
        row_at i (inr here) = subst (IsRow e t) (is_at i here) is_row

        reached_at : (i : ℕ) → (i < length rows) ⊎ (i ≡ place) → IsReached e code classes t.live first (state_at e t new i)
        reached_at i (inl l) = subst (IsReached e code classes t.live first) (stays i l) (h.reached i l)
        reached_at i (inr here) = subst (λ r. IsReached e code classes t.live first (means e t r)) (is_at i here) reached

  -- ---- one more processor

  module _ (t u : TableLists) (kept : HasGrown t u) (rows moves : List (List ℕ)) (first : MacroState) (successors : List ℕ)
      (done p : ℕ) (row : List ℕ) (h : Expanded e code classes t rows moves first successors done p)
      (is : slice_index_or rows done [] ≡ row) where
    k : Expanded e code classes u rows moves first successors done p
    k = expanded_kept t u kept rows moves first done successors p h

    state_is : means e t row ≡ state_at e u rows done
    state_is = ap (means e t) (sym is) ∙ means_kept e t u (slice_index_or rows done []) kept (h.searched.are_rows done h.more)

    -- The successors stay the same if they have that of the next processor.
    with_none : HasSuccessor e code classes u rows (state_at e u rows done) successors p →
        Expanded e code classes u rows moves first successors done (p + 1)
    with_none last = record {
      searched = k.searched;
      more = h.more;
      sound = k.sound;
      complete = λ q below. by q (up_to q p below);
      found = k.found;
    }
      where
        by : (q : ℕ) → (q < p) ⊎ (q ≡ p) → HasSuccessor e code classes u rows (state_at e u rows done) successors q
        by q (inl below) = k.complete q below
        by q (inr same) = subst (HasSuccessor e code classes u rows (state_at e u rows done) successors) (sym same) last

    -- A processor that has no move adds no successor.
    pub stood : (CanMove e code (means e t row) p → ⊥) → Expanded e code classes u rows moves first successors done (p + 1)
    stood none = with_none (λ may. absurd (none (subst (λ s. CanMove e code s p) (sym state_is) may)))

    -- A processor in the same local state as an earlier one of its class adds no successor.
    pub copied_on : (q : ℕ) → q < p → AreAlike classes q p → slice_index row q ≡ slice_index row p → p < e.processors →
        Expanded e code classes u rows moves first successors done (p + 1)
    copied_on q below alike same few = with_none stand_in
      where
        here : slice_get (state_at e u rows done).local_states q ≡ slice_get (state_at e u rows done).local_states p
        here = subst (λ (s : MacroState). slice_get s.local_states q ≡ slice_get s.local_states p) state_is
            (local_states_same e t row q p (omega (arith, below, few)) few same)

        stand_in : HasSuccessor e code classes u rows (state_at e u rows done) successors p
        stand_in may =
            by (k.complete q below (record {
              local_state = may.local_state;
              there = here ∙ may.there;
              runs = may.runs;
              refers =
                  subst IsReference (reference_same (setting_at e p) (setting_at e q)
                  (record { processors = refl; shared_words = refl }) code may.local_state.processor may.refers) may.refers;
            }))
          where
            by : Spinning e code (state_at e u rows done) ⊎ ((v : ℕ) × Contains successors v × (v < length rows)
                × Moves e code classes u.live (state_at e u rows done) q (state_at e u rows v)) →
                Spinning e code (state_at e u rows done) ⊎ ((v : ℕ) × Contains successors v × (v < length rows)
                × Moves e code classes u.live (state_at e u rows done) p (state_at e u rows v))
            by (inl spins) = inl spins
            by (inr x) = inr (
              x.0,
              x.1,
              x.2,
              record {
                mover = x.3.mover;
                alike = x.3.alike ∙ alike;
                same = x.3.same ∙ here;
                left = x.3.left;
                move = x.3.move;
                exchange = x.3.exchange;
              },
            )

    -- A processor that has a move adds the place of the row to which it leads.
    pub went : (next : List ℕ) (new : List (List ℕ)) (target : ℕ) → IsNextUpTo e code classes u (means e t row) p (Some next) →
        IsPlaced rows next new target → length next ≡ length row →
        Expanded e code classes u new moves first (successors ++ target ∷ []) done (p + 1)
    went next new target moved ins long = record {
      searched = searched_more u rows next new target ins moves first done k.searched moved.0
          (reached_on u.live first (state_at e u rows done) (means e u next) p (k.searched.reached done h.more) move)
          (long ∙ (ap length (sym is) ∙ h.searched.wide done h.more));
      more = omega (arith, h.more, ins.longer);
      sound = λ v x. sound v (Contains-push_cases successors target v x);
      complete = λ q below. by q (up_to q p below);
      found = λ v some l. found v some (ins.others v l);
    }
      where
        found : (v : ℕ) → 0 < v → (v < length rows) ⊎ (v ≡ target) →
            Contains (successors ++ target ∷ []) v ⊎ ((j : ℕ) × Contains (successors_at moves j) v)
        found v some (inl below) = one_more successors target v (k.found v some below)
        found v some (inr here) = inl (subst (Contains (successors ++ target ∷ [])) (sym here) (Contains-push successors target))

        move : Moves e code classes u.live (state_at e u rows done) p (means e u next)
        move = subst (λ s. Moves e code classes u.live s p (means e u next)) state_is moved.1

        stays_here : (i : ℕ) → i < length rows → state_at e u rows i ≡ state_at e u new i
        stays_here i l = ap (means e u) (sym (ins.same i l))

        there : Moves e code classes u.live (state_at e u new done) p (state_at e u new target)
        there = subst (λ (z : MacroState × MacroState). Moves e code classes u.live z.0 p z.1)
            (λ j. (stays_here done h.more j, ap (means e u) (sym ins.is) j)) move

        sound : (v : ℕ) → Contains successors v ⊎ (target ≡ v) → IsSuccessor e code classes u new (state_at e u new done) v
        sound v (inl x) = successor_stays u u rows new ins.longer refl stays_here done v h.more (k.sound v x)
        sound v (inr x) =
            subst (IsSuccessor e code classes u new (state_at e u new done)) x (ins.within, inr (p, there))

        by : (q : ℕ) → (q < p) ⊎ (q ≡ p) →
            HasSuccessor e code classes u new (state_at e u new done) (successors ++ target ∷ []) q
        by q (inl below) may = more (has_stays u u rows new ins.longer refl stays_here done q successors h.more (k.complete q below) may)
          where
            more : Spinning e code (state_at e u new done) ⊎ ((v : ℕ) × Contains successors v × (v < length new)
                × Moves e code classes u.live (state_at e u new done) q (state_at e u new v)) →
                Spinning e code (state_at e u new done) ⊎ ((v : ℕ) × Contains (successors ++ target ∷ []) v × (v < length new)
                × Moves e code classes u.live (state_at e u new done) q (state_at e u new v))
            more (inl spins) = inl spins
            more (inr x) = inr (x.0, Contains-append_left successors (target ∷ []) x.0 x.1, x.2, x.3)
        by q (inr same) may = inr (
          target,
          Contains-push successors target,
          ins.within,
          subst (λ i. Moves e code classes u.live (state_at e u new done) i (state_at e u new target)) (sym same) there,
        )

  -- ---- the beginning, and a state whose moves are all found

  -- If there is only one row, every row but the first is a successor of some row.
  pub all_begun : (row : List ℕ) → AreAllFound (row ∷ []) []
  all_begun row v some l = absurd (omega (arith, some, l))

  -- A list of one row is the beginning of a search: its state is the first, and no successors are noted.
  pub begun : (t : TableLists) (row : List ℕ) → IsRow e t row → Searched e code classes t (row ∷ []) [] (means e t row) 0
  begun t row h = record {
    are_rows = λ i l. row_at i l;
    reached = λ i l. reached_at i l;
    filled = omega arith;
    begins = refl;
    wide = λ i l. wide_at i l;
    within = omega arith;
    noted = refl;
    spins = λ i below. absurd (omega (arith, below));
    sound = λ i v below. absurd (omega (arith, below));
    complete = λ i k below. absurd (omega (arith, below));
    breadth = λ i v u x. absurd (none_there [] i v (omega arith) x);
  }
    where
      row_at : (i : ℕ) → i < 1 → IsRow e t (slice_index_or (row ∷ []) i [])
      row_at zero l = h
      row_at (suc i) l = absurd (omega (arith, l))

      wide_at : (i : ℕ) → i < 1 → length (slice_index_or (row ∷ []) i []) ≡ length row
      wide_at zero l = refl
      wide_at (suc i) l = absurd (omega (arith, l))

      reached_at : (i : ℕ) → i < 1 → IsReached e code classes t.live (means e t row) (state_at e t (row ∷ []) i)
      reached_at zero l = ([], refl)
      reached_at (suc i) l = absurd (omega (arith, l))

  -- After the moves of all processors, the successors of one more state are noted.
  pub completed : (t : TableLists) (rows moves : List (List ℕ)) (first : MacroState) (successors : List ℕ) (done : ℕ) →
      Expanded e code classes t rows moves first successors done e.processors →
      (Spinning e code (state_at e t rows done) → successors ≡ done ∷ []) →
      Searched e code classes t rows (moves ++ successors ∷ []) first (done + 1)
  completed t rows moves first successors done h itself = record {
    are_rows = h.searched.are_rows;
    reached = h.searched.reached;
    filled = h.searched.filled;
    begins = h.searched.begins;
    wide = h.searched.wide;
    within = omega (arith, h.more);
    noted = omega (arith, length-append moves (successors ∷ []), h.searched.noted);
    spins = λ i below. spins i (up_to i done below);
    sound = λ i v below. sound i v (up_to i done below);
    complete = λ i k below few. complete i k few (up_to i done below);
    breadth = λ i v u x some less. breadth i v u some less x (cases_lt i done) (cases_lt done i);
  }
    where
      before : (i : ℕ) → i < done → successors_at (moves ++ successors ∷ []) i ≡ successors_at moves i
      before i below = get_or_append_left moves (successors ∷ []) [] i (omega (arith, below, h.searched.noted))

      here : (i : ℕ) → i ≡ done → successors_at (moves ++ successors ∷ []) i ≡ successors
      here i same = ap (successors_at (moves ++ successors ∷ [])) (same ∙ sym h.searched.noted) ∙ last moves successors

      spins : (i : ℕ) → (i < done) ⊎ (i ≡ done) → Spinning e code (state_at e t rows i) →
          successors_at (moves ++ successors ∷ []) i ≡ i ∷ []
      spins i (inl below) x = before i below ∙ h.searched.spins i below x
      spins i (inr same) x =
          here i same
          ∙ (itself (subst (λ j. Spinning e code (state_at e t rows j)) same x) ∙ ap (λ (j : ℕ). j ∷ []) (sym same))

      old_in : (i v : ℕ) → Contains (successors_at moves i) v → Contains (successors_at (moves ++ successors ∷ []) i) v
      old_in i v x =
          let below = noted_there moves i v x in
          subst (λ vs. Contains vs v) (sym (before i (omega (arith, below, h.searched.noted)))) x

      found_by : (i u : ℕ) → done ≤ i → i ≡ done → Contains successors u ⊎ ((j : ℕ) × Contains (successors_at moves j) u) →
          (k : ℕ) × (k ≤ i) × Contains (successors_at (moves ++ successors ∷ []) k) u
      found_by i u past same (inl z) = (i, omega arith, subst (λ vs. Contains vs u) (sym (here i same)) z)
      found_by i u past same (inr z) =
          let there = noted_there moves z.0 u z.1 in
          (z.0, omega (arith, there, past, h.searched.noted), old_in z.0 u z.1)

      breadth : (i v u : ℕ) → 0 < u → u < v → Contains (successors_at (moves ++ successors ∷ []) i) v → (i < done) ⊎ (done ≤ i) →
          (done < i) ⊎ (i ≤ done) → (k : ℕ) × (k ≤ i) × Contains (successors_at (moves ++ successors ∷ []) k) u
      breadth i v u some less x (inl below) last =
          let y = h.searched.breadth i v u (subst (λ vs. Contains vs v) (before i below) x) some less in
          (y.0, y.1, old_in y.0 u y.2)
      breadth i v u some less x (inr past) (inl beyond) =
          absurd (none_there (moves ++ successors ∷ []) i v
          (omega (arith, beyond, length-append moves (successors ∷ []), h.searched.noted)) x)
      breadth i v u some less x (inr past) (inr low) =
          let same : i ≡ done = omega (arith, past, low) in
          let y = h.sound v (subst (λ vs. Contains vs v) (here i same) x) in
          let within = y.0 in
          found_by i u past same (h.found u some (omega (arith, less, within)))

      sound : (i v : ℕ) → (i < done) ⊎ (i ≡ done) → Contains (successors_at (moves ++ successors ∷ []) i) v →
          IsSuccessor e code classes t rows (state_at e t rows i) v
      sound i v (inl below) x = h.searched.sound i v below (subst (λ vs. Contains vs v) (before i below) x)
      sound i v (inr same) x =
          subst (λ j. IsSuccessor e code classes t rows (state_at e t rows j) v) (sym same)
          (h.sound v (subst (λ vs. Contains vs v) (here i same) x))

      complete : (i k : ℕ) → k < e.processors → (i < done) ⊎ (i ≡ done) →
          HasSuccessor e code classes t rows (state_at e t rows i) (successors_at (moves ++ successors ∷ []) i) k
      complete i k few (inl below) =
          subst (λ vs. HasSuccessor e code classes t rows (state_at e t rows i) vs k) (sym (before i below))
          (h.searched.complete i k below few)
      complete i k few (inr same) =
          subst (λ (z : ℕ × List ℕ). HasSuccessor e code classes t rows (state_at e t rows z.0) z.1 k)
          (λ j. (sym same j, sym (here i same) j)) (h.complete k few)

  -- After the moves of all processors, every row but the first is a successor of some row.
  pub completed_all : (t : TableLists) (rows moves : List (List ℕ)) (first : MacroState) (successors : List ℕ) (done : ℕ) →
      Expanded e code classes t rows moves first successors done e.processors → AreAllFound rows (moves ++ successors ∷ [])
  completed_all t rows moves first successors done h v some l = on (h.found v some l)
    where
      on : Contains successors v ⊎ ((j : ℕ) × Contains (successors_at moves j) v) →
          (k : ℕ) × Contains (successors_at (moves ++ successors ∷ []) k) v
      on (inl x) = (length moves, subst (λ vs. Contains vs v) (sym (last moves successors)) x)
      on (inr x) =
          let there = noted_there moves x.0 v x.1 in
          (x.0, subst (λ vs. Contains vs v) (sym (get_or_append_left moves (successors ∷ []) [] x.0 there)) x.1)

  -- If a row is left, the search begins on its successors, with the moves of no processor yet.
  pub expanding : (t : TableLists) (rows moves : List (List ℕ)) (first : MacroState) (done : ℕ) →
      Searched e code classes t rows moves first done → AreAllFound rows moves → done < length rows →
      Expanded e code classes t rows moves first [] done 0
  expanding t rows moves first done h all more = record {
    searched = h;
    more = more;
    sound = λ v x. let none = x.1 in absurd (omega (arith, none));
    complete = λ k below. absurd (omega (arith, below));
    found = λ v some l. inr (all v some l);
  }

  -- A state in which a processor spins has itself as its successor.
  pub spun : (t : TableLists) (rows moves : List (List ℕ)) (first : MacroState) (done : ℕ) →
      Searched e code classes t rows moves first done → AreAllFound rows moves → done < length rows →
      Spinning e code (state_at e t rows done) → Expanded e code classes t rows moves first (done ∷ []) done e.processors
  spun t rows moves first done h all more spins = record {
    searched = h;
    more = more;
    sound = λ v x. (subst (λ i. i < length rows) (only v x) more, inl spins);
    complete = λ k below may. inl spins;
    found = λ v some l. inr (all v some l);
  }
    where
      only : (v : ℕ) → Contains (done ∷ []) v → done ≡ v
      only v (zero, _, same) = same
      only v (suc n, less, _) = absurd (omega (arith, less))
