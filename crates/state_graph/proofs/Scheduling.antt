-- What ranks of states that are found up to exchanges say of the schedules of a flat machine that reaches the first
-- state.
use Rattle.std.proofs.Common.{◌≡◌, ◌⊎◌, inl, inr, ℕ, ◌<◌, ◌≤◌, zero, suc, Bool, true, false, cond, true≢false, nat_lt}
use Rattle.std.proofs.Common.{List, [], ◌∷◌, ◌++◌, Some, length, refl, sym, ap, subst, ◌∙◌, arith, length-append}
use Rattle.std.specs.Prelude.{slice_get, All, Contains}
use Rattle.std.proofs.lemmas.Bool.{cases_lt, le-ltb, ltb-false}
use Rattle.std.proofs.lemmas.List.Elements.{All-nil, All-cons, All-contains}
use Rattle.local_reduction.specs.flat_machine.declared.setting.Setting.{Setting}
use Rattle.local_reduction.specs.flat_machine.State.{FlatState, is_running}
use Rattle.local_reduction.specs.flat_machine.Turns.{Turn, Retires, Reaches, Stops, turn_of}
use Rattle.local_reduction.specs.flat_machine.Flat.{flat_run, flat_events}
use Rattle.local_reduction.specs.LocalStates.{LocalState, IsReference, Spins, consoles_after, turns}
use Rattle.local_reduction.specs.Closing.{IsAlike, local_state_of, MacroState, IsIn, MayMove, HasSpinner, IsForgetful}
use Rattle.local_reduction.specs.Closing.{ReachesMacroState, IsKeptOf, AreAtReference, HasStopped}
use Rattle.local_reduction.specs.Exchanging.{IsBeside, IsExchangeOf, IsMoveUpTo, IsClosedUpTo, IsShortUpTo, IsWayUpTo}
use Rattle.local_reduction.specs.Laws.{SetsClosedUpToAreNotLeft, SetsClosedUpToContainAllFinalStates, MovesUpToAreTurns, ShortUpToSchedulesEnd}
use Rattle.local_reduction.specs.Termination.{CanAlwaysEnd, CanBeStuck, EveryScheduleEnds, SomeScheduleNeverEnds}
use Rattle.local_reduction.proofs.Lemmas.{as_it_is, back, may_exchanged, spinner_exchanged, exchanged_back, goes_alike}
use Rattle.local_reduction.proofs.Lemmas.{beside_all, found_within, found_there, some_inj, below}
use Rattle.state_graph.specs.declared.ranks.Rule.TheVariants as rule
use Rattle.state_graph.specs.Ranks.{no_rank, successors_at, rank_at, HasBelow, AreRanks}
use Rattle.state_graph.specs.declared.termination.Termination.{Termination}
use Rattle.state_graph.specs.declared.termination.Termination.TheVariants as termination_claim
use Rattle.state_graph.specs.Termination.{IsTrueOf}
use Rattle.state_graph.specs.Search.{AreSuccessors, AreReached}
use Rattle.state_graph.specs.Laws.{IsTerminationOf}

-- ---- turns and ways

-- If a turn is a reference, a turn that goes the same way is one.
referred_too : (kept : LocalState → LocalState) (a b : LocalState) (x y : Turn) → IsAlike kept a b x y → IsReference y →
    IsReference x
referred_too kept a b (Retires p r) (Retires q o) h w = absurd w
referred_too kept a b (Retires p r) (Reaches w c f) h i = absurd h
referred_too kept a b (Retires p r) (Stops d) h i = absurd h
referred_too kept a b (Reaches w c f) y h i = tt
referred_too kept a b (Stops c) (Retires p r) h i = absurd h
referred_too kept a b (Stops c) (Reaches w d f) h i = absurd h
referred_too kept a b (Stops c) (Stops d) h i = absurd i

-- A way followed by one move is a way.
way_on : (at : ℕ → Setting) (code : List ℕ) (kept : LocalState → LocalState) (classes : List ℕ) (way : List (ℕ × MacroState))
    (s u t : MacroState) (k : ℕ) → IsWayUpTo at code kept classes s way u → IsMoveUpTo at code kept classes u k t →
    IsWayUpTo at code kept classes s (way ++ (k, t) ∷ []) t
way_on at code kept classes [] s u t k w m = (subst (λ v. IsMoveUpTo at code kept classes v k t) (sym w) m, refl)
way_on at code kept classes ((j, v) ∷ way) s u t k w m = (w.0, way_on at code kept classes way v u t k w.1 m)

-- ---- states whose processors have all stopped

-- If each processor is at its reference, none may move and none spins, then all have stopped.
stopped : (at : ℕ → Setting) (code : List ℕ) (forget : LocalState → LocalState) (n : FlatState) (consoles : ℕ → List ℕ)
    (u : MacroState) → IsForgetful at code forget → IsKeptOf forget n consoles u → AreAtReference at code n →
    ((k : ℕ) → MayMove at code u k → ⊥) → (HasSpinner at code u → ⊥) → HasStopped n
stopped at code forget n consoles u forgets kept at_reference none no_spinner k p found = by (is_running p.status) refl
  where
    goes : is_running p.status ≡ true → IsReference (turn_of (at k) code p) ⊎ Spins (at k) code p → ⊥
    goes runs (inl refers) =
        none k (record {
          local_state = forget (local_state_of p (consoles k));
          there = kept.each k p found;
          runs = forgets.running (local_state_of p (consoles k)) ∙ runs;
          refers = referred_too forget (forget (local_state_of p (consoles k))) (local_state_of p (consoles k)) _ _
              (forgets.turn k (local_state_of p (consoles k)) runs) refers;
        })
    goes runs (inr spins) =
        no_spinner (record {
          processor = k;
          local_state = forget (local_state_of p (consoles k));
          there = kept.each k p found;
          goes_on = goes_alike at code forget forgets k (local_state_of p (consoles k)) (forget (local_state_of p (consoles k)))
              (sym (forgets.once (local_state_of p (consoles k)))) (spins 0);
        })

    by : (b : Bool) → is_running p.status ≡ b → is_running p.status ≡ false
    by false stops = stops
    by true runs = absurd (goes runs (at_reference k p found runs))

-- If all processors have stopped, none runs in what is kept.
pub none_runs : (at : ℕ → Setting) (code : List ℕ) (forget : LocalState → LocalState) (n : FlatState) (consoles : ℕ → List ℕ)
    (u : MacroState) → IsForgetful at code forget → IsKeptOf forget n consoles u → HasStopped n → (k : ℕ) (a : LocalState) →
    slice_get u.local_states k ≡ Some a → is_running a.processor.status ≡ false
none_runs at code forget n consoles u forgets kept stopped k a found =
    let here = found_there n.processors k (subst (λ m. k < m) kept.all (found_within u.local_states k a found)) in
    let is : forget (local_state_of here.0 (consoles k)) ≡ a =
    some_inj (forget (local_state_of here.0 (consoles k))) a (sym (kept.each k here.0 here.1) ∙ found) in
    ap (λ (b : LocalState). is_running b.processor.status) (sym is)
    ∙ (forgets.running (local_state_of here.0 (consoles k)) ∙ stopped k here.0 here.1)

nowhere_there : {X : Type 0} (i : ℕ) (x : X) → slice_get [] i ≡ Some x → ⊥
nowhere_there i x found = cc

-- ---- lists of successors

-- A list without an element is empty.
empty : (ts : List ℕ) → ((t : ℕ) → Contains ts t → ⊥) → ts ≡ []
empty [] none = refl
empty (t ∷ ts) none = absurd (none t (0, omega arith, refl))

empty_has_none : (ts : List ℕ) (t : ℕ) → ts ≡ [] → Contains ts t → ⊥
empty_has_none ts t e x = let least = x.1 in let none = ap length e in omega (arith, least, none)

-- If one of two facts holds, and not the first, the second does.
unless : {X Y : Type 0} → (X → ⊥) → X ⊎ Y → Y
unless none (inl x) = absurd (none x)
unless none (inr y) = y

-- Either some successor has no rank, or each has one.
some_up : (ranks ts : List ℕ) →
    ((t : ℕ) × Contains ts t × (no_rank ≤ rank_at ranks t)) ⊎ All (λ t. rank_at ranks t < no_rank) ts
some_up ranks [] = inr (All-nil (λ t. rank_at ranks t < no_rank))
some_up ranks (t ∷ ts) = by (cases_lt (rank_at ranks t) no_rank) (some_up ranks ts)
  where
    by : (rank_at ranks t < no_rank) ⊎ (no_rank ≤ rank_at ranks t) →
        ((u : ℕ) × Contains ts u × (no_rank ≤ rank_at ranks u)) ⊎ All (λ u. rank_at ranks u < no_rank) ts →
        ((u : ℕ) × Contains (t ∷ ts) u × (no_rank ≤ rank_at ranks u)) ⊎ All (λ u. rank_at ranks u < no_rank) (t ∷ ts)
    by (inr past) _ = inl (t, (0, omega arith, refl), past)
    by (inl less) (inl x) = let l = x.1.1 in inl (x.0, (suc x.1.0, omega (arith, l), x.1.2), x.2)
    by (inl less) (inr all) = inr (All-cons (λ u. rank_at ranks u < no_rank) t ts less all)

module _ (at : ℕ → Setting) (code : List ℕ) (kept : LocalState → LocalState) (classes : List ℕ) (state : ℕ → MacroState)
    (count : ℕ) (moves : List (List ℕ)) (h : AreSuccessors at code kept classes state count moves) (m : FlatState)
    (consoles : ℕ → List ℕ) (reaches : ReachesMacroState at code kept m consoles (state 0))
    (forget : IsForgetful at code kept) where
  listed : (i : ℕ) → i < count → i < length moves
  listed i l = subst (λ n. i < n) (sym h.all) l

  found : (i : ℕ) → i < length moves → i < count
  found i l = subst (λ n. i < n) h.all l

  -- ---- every schedule ends

  module _ (ranks : List ℕ) (are : AreRanks rule.Each moves ranks)
      (all : (i : ℕ) → i < length moves → rank_at ranks i < no_rank) where
    -- In no state does a processor spin, since that state would be ranked after itself.
    none_spins : (i : ℕ) → i < count → HasSpinner at code (state i) → ⊥
    none_spins i l spins =
        let itself : Contains (successors_at moves i) i =
        subst (λ ts. Contains ts i) (sym (h.spins i l spins)) (0, omega arith, refl) in
        let less = are.sound i (listed i l) (all i (listed i l)) i itself in
        omega (arith, less)

    -- A state's rank bounds how many moves follow one another from there.
    short : (n i : ℕ) → i < count → rank_at ranks i ≤ n → IsShortUpTo at code kept classes n (state i)
    short zero i l low = (
      none_spins i l,
      λ k may.
          let next = unless (none_spins i l) (h.complete i k l may) in
          let less = are.sound i (listed i l) (all i (listed i l)) next.0 next.1 in
          absurd (omega (arith, less, low)),
    )
    short (suc n) i l low = (
      none_spins i l,
      λ k may.
          let next = unless (none_spins i l) (h.complete i k l may) in
          let less = are.sound i (listed i l) (all i (listed i l)) next.0 next.1 in
          (state next.0, next.2, short n next.0 (h.sound i next.0 l next.1).0 (omega (arith, less, low))),
    )

    all_end : ShortUpToSchedulesEnd → EveryScheduleEnds m
    all_end law =
        law at code kept classes m consoles (state 0) (rank_at ranks 0) forget reaches
        (short (rank_at ranks 0) 0 h.filled (omega arith))

  -- ---- some schedule never ends

  module _ (reached : AreReached at code kept classes state count)
      (no_spinner : (i : ℕ) → i < count → HasSpinner at code (state i) → ⊥) (ranks : List ℕ)
      (are : AreRanks rule.Each moves ranks) (from : ℕ) (there : from < length moves)
      (none : no_rank ≤ rank_at ranks from) where
    -- A way of at least this many moves leads to a state without a rank.
    abbrev Long : ℕ → Type 0
    Long least =
        (way : List (ℕ × MacroState)) × (i : ℕ) × (i < count) × (no_rank ≤ rank_at ranks i)
        × IsWayUpTo at code kept classes (state 0) way (state i) × (least ≤ length way)

    long : (least : ℕ) → Long least
    long zero = let way = reached from (found from there) in (way.0, from, found from there, none, way.1, omega arith)
    long (suc n) = let x = long n in by x.0 x.1 x.2 x.3 x.4 x.5 (some_up ranks (successors_at moves x.1))
      where
        by : (way : List (ℕ × MacroState)) (i : ℕ) → i < count → no_rank ≤ rank_at ranks i →
            IsWayUpTo at code kept classes (state 0) way (state i) → n ≤ length way →
            ((t : ℕ) × Contains (successors_at moves i) t × (no_rank ≤ rank_at ranks t))
            ⊎ All (λ t. rank_at ranks t < no_rank) (successors_at moves i) → Long (suc n)
        by way i l up goes many (inr low) =
            absurd (are.whole i (listed i l) up
            (λ t x. All-contains (λ t. rank_at ranks t < no_rank) (successors_at moves i) t low x))
        by way i l up goes many (inl x) =
            let move = unless (no_spinner i l) (h.sound i x.0 l x.1).1 in
            let longer = length-append way ((move.0, state x.0) ∷ []) in (
              way ++ (move.0, state x.0) ∷ [],
              x.0,
              (h.sound i x.0 l x.1).0,
              x.2,
              way_on at code kept classes way (state 0) (state i) (state x.0) move.0 goes move.1,
              omega (arith, longer, many),
            )

    never_ends : MovesUpToAreTurns → SomeScheduleNeverEnds m
    never_ends law least =
        let x = long least in
        let y = law at code kept classes m consoles (state 0) (state 0) x.0 (state x.1) forget
        (as_it_is classes (state 0)) reaches x.4 in
        let many = x.5 in
        let as_many = y.6 in
        (y.0, omega (arith, many, as_many))

  -- ---- sets of states

  module _ (left_out : ℕ → Bool) where
    -- the states with lesser numbers, except those that are left out
    picked : ℕ → List MacroState
    picked zero = []
    picked (suc n) = cond (left_out n) (picked n) (state n ∷ picked n)

    abbrev IsPicked : ℕ → MacroState → Type 0
    IsPicked n s = (i : ℕ) × (i < n) × (left_out i ≡ false) × (state i ≡ s)

    picked_is : (n : ℕ) (s : MacroState) → IsIn (picked n) s → IsPicked n s
    unfolding picked
    picked_is zero s x = absurd (nowhere_there x.0 s x.1)
    picked_is (suc n) s x = by (λ y. picked_is n s y) (left_out n) refl x.0 x.1
      where
        by : (IsIn (picked n) s → IsPicked n s) → (b : Bool) → left_out n ≡ b → (i : ℕ) →
            slice_get (cond b (picked n) (state n ∷ picked n)) i ≡ Some s → IsPicked (suc n) s
        by again true out i found = let z = again (i, found) in let l = z.1 in (z.0, omega (arith, l), z.2, z.3)
        by again false inside zero found = (n, omega arith, inside, (let same : state n ≡ s = cc in same))
        by again false inside (suc i) found =
            let z = again (i, found) in let l = z.1 in (z.0, omega (arith, l), z.2, z.3)

    picked_has : (n i : ℕ) → i < n → left_out i ≡ false → IsIn (picked n) (state i)
    unfolding picked
    picked_has zero i l inside = absurd (omega (arith, l))
    picked_has (suc n) i l inside = by (λ low. picked_has n i low inside) (left_out n) refl (below n i l)
      where
        by : (i < n → IsIn (picked n) (state i)) → (b : Bool) → left_out n ≡ b → (i < n) ⊎ (i ≡ n) →
            IsIn (cond b (picked n) (state n ∷ picked n)) (state i)
        by again true out (inl low) = again low
        by again true out (inr same) = absurd (true≢false (sym out ∙ (ap left_out (sym same) ∙ inside)))
        by again false _ (inl low) = let x = again low in (suc x.0, x.1)
        by again false _ (inr same) = (zero, ap (λ j. Some (state j)) (sym same))

    -- A set is closed if it has all successors of each of its states.
    closed : ((i t : ℕ) → i < count → left_out i ≡ false → Contains (successors_at moves i) t → left_out t ≡ false) →
        IsClosedUpTo at code kept classes (picked count)
    closed stay s k a inside there runs refers =
        let x = picked_is count s inside in
        let may : MayMove at code (state x.0) k =
        subst (λ u. MayMove at code u k) (sym x.3)
        (record { local_state = a; there = there; runs = runs; refers = refers }) in
        by x (h.complete x.0 k x.1 may)
      where
        by : (x : IsPicked count s) → HasSpinner at code (state x.0)
            ⊎ ((t : ℕ) × Contains (successors_at moves x.0) t × IsMoveUpTo at code kept classes (state x.0) k (state t)) →
            HasSpinner at code s ⊎ ((t : MacroState) × IsMoveUpTo at code kept classes s k t × IsIn (picked count) t)
        by x (inl spins) = inl (subst (HasSpinner at code) x.3 spins)
        by x (inr next) = inr (
          state next.0,
          subst (λ u. IsMoveUpTo at code kept classes u k (state next.0)) x.3 next.2,
          picked_has count next.0 (h.sound x.0 next.0 x.1 next.1).0 (stay x.0 next.0 x.1 x.2 next.1),
        )

  -- ---- an end can always be reached

  module _ (ranks : List ℕ) (are : AreRanks rule.One moves ranks)
      (all : (i : ℕ) → i < length moves → rank_at ranks i < no_rank) where
    -- In no state does a processor spin, since such a state has only itself as a successor, and so no rank.
    none_runs_on : (i : ℕ) → i < count → HasSpinner at code (state i) → ⊥
    none_runs_on i l spins = by (are.sound i (listed i l) (all i (listed i l)))
      where
        itself : (t : ℕ) → Contains (successors_at moves i) t → t ≡ i
        itself t x = only (subst (λ ts. Contains ts t) (h.spins i l spins) x)
          where
            only : Contains (i ∷ []) t → t ≡ i
            only (zero, _, e) = sym e
            only (suc n, less, e) = absurd (omega (arith, less))

        by : (successors_at moves i ≡ []) ⊎ HasBelow (successors_at moves i) ranks (rank_at ranks i) → ⊥
        by (inl none) =
            empty_has_none (successors_at moves i) i none
            (subst (λ ts. Contains ts i) (sym (h.spins i l spins)) (0, omega arith, refl))
        by (inr x) =
            let same : rank_at ranks x.0 ≡ rank_at ranks i = ap (rank_at ranks) (itself x.0 x.1) in
            let less = x.2 in
            omega (arith, same, less)

    -- From this state a way leads to a state in which no processor may move and none spins.
    abbrev Leads : ℕ → Type 0
    Leads i =
        (way : List (ℕ × MacroState)) × (u : MacroState) × IsWayUpTo at code kept classes (state i) way u
        × ((k : ℕ) → MayMove at code u k → ⊥) × (HasSpinner at code u → ⊥)

    no_move_there : (i : ℕ) → i < count → successors_at moves i ≡ [] → Leads i
    no_move_there i l none = (
      [],
      state i,
      refl,
      λ k may.
          let next = unless (none_runs_on i l) (h.complete i k l may) in
          empty_has_none (successors_at moves i) next.0 none next.1,
      none_runs_on i l,
    )

    leads : (n i : ℕ) → i < count → rank_at ranks i ≤ n → Leads i
    leads zero i l low = by (are.sound i (listed i l) (all i (listed i l)))
      where
        by : (successors_at moves i ≡ []) ⊎ HasBelow (successors_at moves i) ranks (rank_at ranks i) → Leads i
        by (inl none) = no_move_there i l none
        by (inr x) = let less = x.2 in absurd (omega (arith, less, low))
    leads (suc n) i l low = by (λ j there less. leads n j there less) (are.sound i (listed i l) (all i (listed i l)))
      where
        by : ((j : ℕ) → j < count → rank_at ranks j ≤ n → Leads j) →
            (successors_at moves i ≡ []) ⊎ HasBelow (successors_at moves i) ranks (rank_at ranks i) → Leads i
        by again (inl none) = no_move_there i l none
        by again (inr x) =
            let less = x.2 in
            let move = unless (none_runs_on i l) (h.sound i x.0 l x.1).1 in
            let rest = again x.0 (h.sound i x.0 l x.1).0 (omega (arith, less, low)) in
            ((move.0, state x.0) ∷ rest.0, rest.1, (move.1, rest.2), rest.3, rest.4)

    beside : (j k : ℕ) → IsBeside (at j) (at k)
    beside = beside_all at m reaches.settings

    all_reach : SetsClosedUpToAreNotLeft → MovesUpToAreTurns → CanAlwaysEnd m
    all_reach stays law order =
        let begins : IsIn (picked (λ i. false) count) (state 0) = picked_has (λ i. false) count 0 h.filled refl in
        let x = stays at code kept classes (picked (λ i. false) count) m consoles (state 0) (state 0) order forget
        (closed (λ i. false) (λ i t l out x. refl))
        (λ s inside spins.
        let picked_row = picked_is (λ i. false) count s inside in
        none_runs_on picked_row.0 picked_row.1 (subst (HasSpinner at code) (sym picked_row.3) spins))
        begins (as_it_is classes (state 0)) reaches in
        let row = picked_is (λ i. false) count x.0 x.2 in
        let on = leads (rank_at ranks row.0) row.0 row.1 (omega arith) in
        let y = law at code kept classes (flat_run m (turns order))
        (consoles_after consoles (flat_events m (turns order))) (state row.0) x.1 on.0 on.1 forget
        (subst (λ s. IsExchangeOf classes s x.1) (sym row.3) x.3) x.4 on.2 in (
          y.0,
          stopped at code kept (flat_run (flat_run m (turns order)) (turns y.0))
              (consoles_after (consoles_after consoles (flat_events m (turns order)))
              (flat_events (flat_run m (turns order)) (turns y.0)))
              y.1 forget y.3 y.4
              (λ k may. on.3 (y.2.0.place k) (may_exchanged classes at code kept beside y.2.0 on.1 y.1 k y.2.1 may))
              (λ spins. on.4 (spinner_exchanged classes at code kept beside (back classes y.2.0) y.1 on.1
              (exchanged_back classes y.2.0 on.1 y.1 y.2.1) spins)),
        )

  -- ---- from some state no end can be reached

  module _ (reached : AreReached at code kept classes state count) (ranks : List ℕ)
      (are : AreRanks rule.One moves ranks) (from : ℕ) (there : from < length moves)
      (none : no_rank ≤ rank_at ranks from) where
    abbrev has_rank : ℕ → Bool
    has_rank i = nat_lt (rank_at ranks i) no_rank

    -- The successors of a state without a rank have no rank.
    stay : (i t : ℕ) → i < count → has_rank i ≡ false → Contains (successors_at moves i) t → has_rank t ≡ false
    stay i t l out x = by (cases_lt (rank_at ranks t) no_rank)
      where
        by : (rank_at ranks t < no_rank) ⊎ (no_rank ≤ rank_at ranks t) → has_rank t ≡ false
        by (inl less) = absurd (are.whole i (listed i l) (ltb-false (rank_at ranks i) no_rank out) (inr (t, x, less)))
        by (inr past) = le-ltb (rank_at ranks t) no_rank past

    -- A state in which no processor runs has no successor.
    no_successors : (i : ℕ) → i < count →
        ((k : ℕ) (a : LocalState) → slice_get (state i).local_states k ≡ Some a → is_running a.processor.status ≡ false) →
        successors_at moves i ≡ []
    no_successors i l still = empty (successors_at moves i) (λ t x. moved t (h.sound i t l x).1)
      where
        moved : (t : ℕ) → HasSpinner at code (state i) ⊎ ((k : ℕ) × IsMoveUpTo at code kept classes (state i) k (state t)) → ⊥
        moved t (inl spins) = true≢false (sym spins.goes_on.0 ∙ still spins.processor spins.local_state spins.there)
        moved t (inr up_to) =
            let made = up_to.1.move up_to.1.mover refl in
            true≢false (sym made.runs ∙ still up_to.1.mover made.local_state made.there)

    stuck : SetsClosedUpToContainAllFinalStates → MovesUpToAreTurns → CanBeStuck m
    stuck ends law =
        let way = reached from (found from there) in
        let y = law at code kept classes m consoles (state 0) (state 0) way.0 (state from) forget
        (as_it_is classes (state 0)) reaches way.1 in
        (y.0, λ order stops. cannot y.0 y.1 y.2 y.5 order stops)
      where
        cannot : (before : List ℕ) (u : MacroState) → IsExchangeOf classes (state from) u →
            ReachesMacroState at code kept (flat_run m (turns before))
            (consoles_after consoles (flat_events m (turns before))) u →
            (order : List ℕ) → HasStopped (flat_run (flat_run m (turns before)) (turns order)) → ⊥
        cannot before u ex reaches order stops =
            let begins = picked_has has_rank count from (found from there) (le-ltb (rank_at ranks from) no_rank none) in
            let z = ends at code kept classes (picked has_rank count) (flat_run m (turns before))
            (consoles_after consoles (flat_events m (turns before))) (state from) u order forget (closed has_rank stay)
            begins ex reaches stops in
            let row = picked_is has_rank count z.0 z.2 in
            let still = none_runs at code kept (flat_run (flat_run m (turns before)) (turns order))
            (consoles_after (consoles_after consoles (flat_events m (turns before)))
            (flat_events (flat_run m (turns before)) (turns order))) z.1 forget z.4 stops in
            let turned_back = exchanged_back classes z.3.0 z.0 z.1 z.3.1 in
            are.whole row.0 (listed row.0 row.1) (ltb-false (rank_at ranks row.0) no_rank row.2)
            (inl (no_successors row.0 row.1
            (subst (λ (w : MacroState). (k : ℕ) (a : LocalState) → slice_get w.local_states k ≡ Some a →
            is_running a.processor.status ≡ false) (sym row.3)
            (λ k a here. still (z.3.0.taker k) a (sym (turned_back.each k) ∙ here)))))

  -- What the successors of states say about schedules is true.
  pub verdict_is : AreReached at code kept classes state count → SetsClosedUpToContainAllFinalStates → SetsClosedUpToAreNotLeft →
      MovesUpToAreTurns → ShortUpToSchedulesEnd → (verdict : Termination) → IsTrueOf moves verdict →
      IsTerminationOf m verdict
  verdict_is reached ends stays law short termination_claim.Always x = all_end x.0 x.1 x.2 short
  verdict_is reached ends stays law short termination_claim.Possible x =
      let lacks = x.0.1 in
      let reaches = x.1 in (
        never_ends reached (none_runs_on reaches.0 reaches.1 reaches.2) lacks.0 lacks.1 x.0.0 lacks.2 lacks.3 law,
        all_reach reaches.0 reaches.1 reaches.2 stays law,
      )
  verdict_is reached ends stays law short (termination_claim.Deadlock states first) x =
      stuck reached x.0 x.1 first x.2 x.3 ends law

  -- Each end is what is kept of an exchange of a found state.
  pub all_ends : SetsClosedUpToContainAllFinalStates → (order : List ℕ) → HasStopped (flat_run m (turns order)) →
      (i : ℕ) × (v : MacroState) × (i < count) × IsExchangeOf classes (state i) v
      × IsKeptOf kept (flat_run m (turns order)) (consoles_after consoles (flat_events m (turns order))) v
  all_ends ends order stops =
      let z = ends at code kept classes (picked (λ i. false) count) m consoles (state 0) (state 0) order forget
      (closed (λ i. false) (λ i t l out x. refl)) (picked_has (λ i. false) count 0 h.filled refl)
      (as_it_is classes (state 0)) reaches stops in
      let row = picked_is (λ i. false) count z.0 z.2 in
      (row.0, z.1, row.1, subst (λ s. IsExchangeOf classes s z.1) (sym row.3) z.3, z.4)

  -- If no processor spins in a found state, each state that turns lead to is an exchange of a found one.
  pub none_left : SetsClosedUpToAreNotLeft → ((i : ℕ) → i < count → HasSpinner at code (state i) → ⊥) → (order : List ℕ) →
      (i : ℕ) × (v : MacroState) × (i < count) × IsExchangeOf classes (state i) v
      × ReachesMacroState at code kept (flat_run m (turns order)) (consoles_after consoles (flat_events m (turns order))) v
  none_left stays none order =
      let z = stays at code kept classes (picked (λ i. false) count) m consoles (state 0) (state 0) order forget
      (closed (λ i. false) (λ i t l out x. refl))
      (λ s inside spins.
      let row = picked_is (λ i. false) count s inside in
      none row.0 row.1 (subst (HasSpinner at code) (sym row.3) spins))
      (picked_has (λ i. false) count 0 h.filled refl) (as_it_is classes (state 0)) reaches in
      let row = picked_is (λ i. false) count z.0 z.2 in
      (row.0, z.1, row.1, subst (λ s. IsExchangeOf classes s z.1) (sym row.3) z.3, z.4)
