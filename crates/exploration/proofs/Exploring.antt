-- The results of the rows that a search found are those of the machine.
use Rattle.std.proofs.Common.{◌≡◌, ◌⊎◌, inl, inr, ℕ, ◌<◌, ◌≤◌, ◌^◌, Bool, true, false, cond, List}
use Rattle.std.proofs.Common.{[], Some, None, Contains, length, map, refl, sym, ap, subst, ◌∙◌, arith}
use Rattle.std.specs.Prelude.{slice_get, slice_index}
use Rattle.std.specs.List.{range_with_len}
use Rattle.std.proofs.Math.Nat.{pow-le-pow_right}
use Rattle.std.proofs.lemmas.Bool.{cases_lt}
use Rattle.std.proofs.lemmas.Option.{slice_get_past}
use Rattle.std.proofs.lemmas.List.{length-map}
use Rattle.std.proofs.lemmas.List.FromFn.{length-map-range_with_len, fill_by_all}
use Rattle.flat_machine.specs.State.{FlatState, Processor}
use Rattle.hart.specs.State.{CoreState}
use Rattle.machine_steps.specs.machine_ports.Ports.{PortState}
use Rattle.machine_steps.specs.machine_theory.Processors.{no_processor, no_port, port_at, word_at}
use Rattle.machine_steps.specs.Machines.{MachineLists, IsMachine}
use Rattle.machine_steps.specs.Openings.{flat_state}
use Rattle.local_reduction.specs.Closing.{IsForgetful, MacroState, ReachesMacroState}
use Rattle.local_reduction.specs.Exchanging.{AreAlike, IsUniform}
use Rattle.local_reduction.specs.Live.{HasAllLive}
use Rattle.local_reduction.specs.Results.{FinalResult, IsFlatResult, HaveStopped, StandsFor, result_at}
use Rattle.state_search.proofs.Lemmas.{stands_for_on, there, found_at, mapped_at, listed_there, listed_is}
use Rattle.state_graph.specs.Laws.{AllStoodForAreResults, IsTerminationOf, EachResultIsStoodFor, KeepsResults, SuccessorsDecideTermination}
use Rattle.local_reduction.specs.Forgetting.{kept_by}
use Rattle.state_graph.specs.declared.termination.Termination.{Termination}
use Rattle.state_graph.specs.Termination.{IsTrueOf}
use Rattle.state_search.specs.state_store.declared.state_tables.Extent.{Extent}
use Rattle.state_search.specs.state_store.StateTables.{TableLists, placed_at, setting_at, means}
use Rattle.state_search.specs.state_store.Opening.{AreOfExtent, flat_of}
use Rattle.state_search.specs.Search.{AreClassesOf, state_at}
use Rattle.state_search.specs.state_store.Moves.{AreClasses}
use Rattle.state_search.specs.Ends.{AreFound, AreSome}
use Rattle.exploration.specs.Endings.{AreInOrder, AreSingle, IsEnding, IsStoodFor}
use Rattle.exploration.specs.Refusals.{AreOfRows, IsEndAtRows, IsSearchEnd, refused_by_search, stop_of_move}
use Rattle.exploration.specs.declared.refusal.GivenUp.TheVariants as given_up
use Rattle.exploration.specs.declared.refusal.PartialResults.{PartialResults}
use Rattle.exploration.specs.declared.refusal.SearchEnd.{SearchEnd}
use Rattle.exploration.specs.declared.refusal.SearchEnd.TheVariants as end
use Rattle.exploration.specs.Fairness.{IsFairnessAt, IsFairnessOf}
use Rattle.exploration.specs.States.{AreAllStates, ArePartial, AreStates, HasManyStates, IsGivenUp}
use Rattle.exploration.specs.declared.outcome.Fairness.{Fairness}
use Rattle.exploration.specs.declared.outcome.Fairness.TheVariants as fairness
use Rattle.local_reduction.specs.Laws.{FairCyclesNeverEnd, FairlyRankedSchedulesEnd}
use Rattle.local_reduction.specs.Termination.{IsEndlessBy}
use Rattle.state_graph.specs.Fairness.{helper_at}
use Rattle.state_graph.specs.Ranks.{rank_at}
use Rattle.state_search.specs.declared.refusal.Refusal.{Refusal as SearchRefusal}
use Rattle.state_search.specs.declared.refusal.Refusal.TheVariants as search
use Rattle.state_search.specs.Refusals.{HasFound, refused_by_move}
use Rattle.state_search.specs.state_store.declared.refusal.MoveRefusal.{MoveRefusal}
use Rattle.state_search.specs.state_store.declared.refusal.MoveRefusal.TheVariants as move
use Rattle.exploration.proofs.Endings.{kept_result}

-- ---- the rows that a search found

-- What is kept of a local state has its result.
keeps : (live : List (List Bool)) → KeepsResults (kept_by live)
keeps = kept_result

-- If processors of one class have equal numbers in a row, they are in equal local states.
pub uniform : (e : Extent) (classes : List ℕ) (t : TableLists) (row : List ℕ) → AreClasses e classes → AreClassesOf e classes row →
    IsUniform classes (means e t row)
uniform e classes t row are of j k alike = by (cases_lt j e.processors) (cases_lt k e.processors)
  where
    within : (j k : ℕ) → AreAlike classes j k → k < e.processors → j < e.processors
    within j k a l =
        let x = there classes k 0 (subst (λ n. k < n) (sym are.all) l) in
        subst (λ n. j < n) are.all (found_at classes j (slice_index classes k) 0 (a ∙ x)).0

    past : (k : ℕ) → e.processors ≤ k → slice_get (means e t row).local_states k ≡ None
    past k far =
        let long = length-map-range_with_len (λ p. kept_by t.live (placed_at t (slice_index row p)).local_state) 0 e.processors in
        slice_get_past (means e t row).local_states k (omega (arith, long, far))

    by : (j < e.processors) ⊎ (e.processors ≤ j) → (k < e.processors) ⊎ (e.processors ≤ k) →
        slice_get (means e t row).local_states j ≡ slice_get (means e t row).local_states k
    by (inl lj) (inl lk) =
        let same : slice_index classes j ≡ slice_index classes k =
        (found_at classes j (slice_index classes k) 0 (alike ∙ there classes k 0 (subst (λ n. k < n) (sym are.all) lk))).1 in
        listed_there (λ p. kept_by t.live (placed_at t (slice_index row p)).local_state) e.processors j lj
        ∙ (ap (λ i. Some (kept_by t.live (placed_at t i).local_state)) (of j k lj lk same)
        ∙ sym (listed_there (λ p. kept_by t.live (placed_at t (slice_index row p)).local_state) e.processors k lk))
    by (inl lj) (inr fk) = let l = within k j (sym alike) lj in absurd (omega (arith, l, fk))
    by (inr fj) (inl lk) = let l = within j k alike lk in absurd (omega (arith, l, fj))
    by (inr fj) (inr fk) = past j fj ∙ sym (past k fk)

module _ (e : Extent) (code : List ℕ) (classes : List ℕ) (t : TableLists) (rows : List (List ℕ)) (first : MacroState)
    (m : FlatState) (f : IsForgetful (setting_at e) code (kept_by t.live)) (some : AreSome e code classes t rows first)
    (reaches_first : ReachesMacroState (setting_at e) code (kept_by t.live) m (λ k. []) first) where
  -- The machine reaches the state of the first row.
  pub reaches_row : ReachesMacroState (setting_at e) code (kept_by t.live) m (λ k. []) (state_at e t rows 0)
  reaches_row = subst (ReachesMacroState (setting_at e) code (kept_by t.live) m (λ k. [])) (sym some.begins) reaches_first

  -- The results stand only for results of the flat machine.
  pub flat_sound : AllStoodForAreResults → IsUniform classes first → (results : List FinalResult) →
      ((r : FinalResult) → Contains results r → IsEnding e classes t rows r) → (r q : FinalResult) → Contains results r →
      StandsFor classes r q → IsFlatResult m q
  flat_sound law same results ends r q there stands =
      let h = ends r there in
      law (setting_at e) code (kept_by t.live) classes (state_at e t rows) (length rows) m h.place q f (keeps t.live) some.reached
      (subst (IsUniform classes) (sym some.begins) same) reaches_row h.within h.stopped
      (stands_for_on classes (result_at (state_at e t rows h.place)) r q h.is stands)

  -- The rows mean states of the machine.
  pub some_states : HasAllLive code t.live → AreStates m classes (length rows)
  some_states right = record {
    at = setting_at e;
    code = code;
    live = t.live;
    right = right;
    state = state_at e t rows;
    reaches = reaches_row;
    reached = some.reached;
    different = some.different;
  }

  -- The results of the rows are results of the machine.
  pub are_partial : AllStoodForAreResults → IsUniform classes first → HasAllLive code t.live → (found : PartialResults) →
      AreOfRows e classes t rows found → ArePartial (IsFlatResult m) m found.classes.items found.results.items found.states
  are_partial law same right found of = record {
    sound = λ r q there stands.
        flat_sound law same found.results.items of.sound r q there (subst (λ cs. StandsFor cs r q) of.same stands);
    once = of.once;
    counted = subst (λ (z : List ℕ × ℕ). AreStates m z.0 z.1) (λ i. (sym of.same i, sym of.states i)) (some_states right);
  }

module _ (e : Extent) (code : List ℕ) (classes : List ℕ) (t : TableLists) (rows moves : List (List ℕ)) (first : MacroState)
    (m : FlatState) (f : IsForgetful (setting_at e) code (kept_by t.live)) (found : AreFound e code classes t rows moves first)
    (reaches_first : ReachesMacroState (setting_at e) code (kept_by t.live) m (λ k. []) first) (results : List FinalResult) where
  reaches : ReachesMacroState (setting_at e) code (kept_by t.live) m (λ k. []) (state_at e t rows 0)
  reaches = reaches_row e code classes t rows first m f found.some reaches_first

  -- The results stand for every result of the flat machine.
  pub flat_complete : EachResultIsStoodFor →
      ((i : ℕ) → i < length rows → HaveStopped (state_at e t rows i) → IsStoodFor classes results (result_at (state_at e t rows i))) →
      (q : FinalResult) → IsFlatResult m q → IsStoodFor classes results q
  flat_complete law all q is =
      let x = law (setting_at e) code (kept_by t.live) classes (state_at e t rows) (length rows) moves m q f (keeps t.live)
      found.successors reaches is in
      let y = all x.0 x.1 x.2 in
      (y.0, y.1, stands_for_on classes y.0 (result_at (state_at e t rows x.0)) q y.2 x.3)

  -- The termination found is the machine's.
  pub flat_schedules : SuccessorsDecideTermination → (fact : Termination) → IsTrueOf moves fact → IsTerminationOf m fact
  flat_schedules law fact =
      law (setting_at e) code (kept_by t.live) classes (state_at e t rows) (length rows) moves m (λ k. []) fact f
      found.successors found.some.reached reaches

  -- What is found of fair schedules is true of the machine.
  pub flat_fairness : FairlyRankedSchedulesEnd → FairCyclesNeverEnd → (said : Fairness) → IsFairnessAt e code t rows said → IsFairnessOf m said
  flat_fairness ends endless fairness.Ends h =
      ends (setting_at e) code (kept_by t.live) (state_at e t rows) (length rows) (rank_at h.ranks) (helper_at h.helpers) m (λ k. []) f
      found.successors.filled reaches h.are
  flat_fairness ends endless (fairness.Endless lasso) h =
      let by : IsEndlessBy m lasso.stem.items lasso.cycle.items =
      endless (setting_at e) code (kept_by t.live) m (λ k. []) (state_at e t rows 0) lasso.stem.items h.state lasso.cycle.items f reaches h.stem h.cycle in
      ((by.0, by.1, by.2), by)
  flat_fairness ends endless fairness.Unknown h = tt

  -- The rows mean all states of the machine.
  pub all_states : HasAllLive code t.live → (termination : Termination) (count : ℕ) → IsTrueOf moves termination →
      AreInOrder classes (state_at e t rows) (length rows) results → count ≡ length moves →
      AreAllStates m classes results termination count
  unfolding some_states
  all_states right termination count fact order is =
      subst (AreAllStates m classes results termination) (sym (is ∙ found.successors.all)) (record {
        states = some_states e code classes t rows first m f found.some reaches_first right;
        moves = moves;
        successors = found.successors;
        breadth = found.breadth;
        fact = fact;
        order = order;
      })

-- If the results of rows are results of the machine, a search that gives up ends with results of the machine, and with a
-- reason that is true of it.
pub ends_with : (e : Extent) (classes : List ℕ) (t : TableLists) (rows : List (List ℕ)) (m : FlatState) (limit : ℕ) (why : SearchRefusal)
    (s : SearchEnd) → IsEndAtRows e classes t rows why s →
    (HasFound why → (found : PartialResults) → AreOfRows e classes t rows found →
    ArePartial (IsFlatResult m) m found.classes.items found.results.items found.states) → (why ≡ search.States → limit ≤ length rows) →
    IsSearchEnd (IsFlatResult m) m limit s
ends_with e classes t rows m limit why end.Asks h partial many = tt
ends_with e classes t rows m limit why (end.GivenUp given_up.Memory) h partial many = (tt, tt)
ends_with e classes t rows m limit why (end.GivenUp (given_up.States found)) h partial many =
    let is = partial (subst HasFound (sym h.0) tt) found h.1 in (
      record {
        classes = found.classes.items;
        count = found.states;
        many = subst (λ n. limit ≤ n) (sym h.1.states) (many h.0);
        states = is.counted;
      },
      is,
    )
ends_with e classes t rows m limit why (end.GivenUp (given_up.Stopped found)) h partial many =
    (tt, partial (subst HasFound (sym h.0) tt) found h.1)
ends_with e classes t rows m limit why (end.GivenUp given_up.Alone) h partial many = (tt, tt)

-- If a search for results of the flat machine ends in a way, so does one for those of a machine that has the same
-- results.
pub ends_as : (P Q : FinalResult → Type 0) (m n : FlatState) (limit : ℕ) → ((r : FinalResult) → P r → Q r) → m ≡ n → (s : SearchEnd) →
    IsSearchEnd P m limit s → IsSearchEnd Q n limit s
ends_as P Q m n limit on same s h = subst (λ (k : FlatState). IsSearchEnd Q k limit s) same (by s h)
  where
    partly : (found : PartialResults) → ArePartial P m found.classes.items found.results.items found.states →
        ArePartial Q m found.classes.items found.results.items found.states
    partly found is = record { sound = λ r q there stands. on q (is.sound r q there stands); once = is.once; counted = is.counted }

    by : (s : SearchEnd) → IsSearchEnd P m limit s → IsSearchEnd Q m limit s
    by end.Asks h = tt
    by (end.GivenUp given_up.Memory) h = (tt, tt)
    by (end.GivenUp (given_up.States found)) h = (h.0, partly found h.1)
    by (end.GivenUp (given_up.Stopped found)) h = (tt, partly found h.1)
    by (end.GivenUp given_up.Alone) h = (tt, tt)

-- What is known if a move cannot be made: nothing is claimed.
pub moves_end : (P : FinalResult → Type 0) (m : FlatState) (limit : ℕ) (why : MoveRefusal) → IsSearchEnd P m limit (stop_of_move why)
moves_end P m limit move.Memory = (tt, tt)
moves_end P m limit move.Alone = (tt, tt)
moves_end P m limit move.Asks = tt

-- A search is refused for its reason if there are too many states when it says so.
pub refusal_stands : (m : FlatState) (limit : ℕ) (why : SearchRefusal) → (why ≡ search.States → HasManyStates m limit) →
    IsGivenUp m limit (refused_by_search why)
refusal_stands m limit search.Memory many = tt
refusal_stands m limit search.States many = many refl
refusal_stands m limit search.Stopped many = tt
refusal_stands m limit search.Alone many = tt
refusal_stands m limit search.Asks many = tt

-- What is known of a property if a move cannot be made: nothing is claimed.
pub moves_refuse : (m : FlatState) (limit : ℕ) (why : MoveRefusal) → IsGivenUp m limit (refused_by_search (refused_by_move why))
moves_refuse m limit move.Memory = tt
moves_refuse m limit move.Alone = tt
moves_refuse m limit move.Asks = tt

-- ---- the machine

-- A machine has at most 64 processors.
pub few_processors : (k : ℕ) → k ≤ 6 → 2 ^ k ≤ 64
few_processors k few = pow-le-pow_right {n = 2} (omega arith) few

-- what is known of a machine's extent, cores and words after they are read
pub record AreRead (m : MachineLists) (e : Extent) (cores : List CoreState) (words : List ℕ) : Type 0 where
  -- The machine is well formed.
  pub sound : IsMachine m
  -- The extent has as many processors as the machine.
  pub processors : e.processors ≡ 2 ^ m.config.k
  pub shared : e.shared_words ≡ m.config.shared_words
  pub cores_are : cores ≡ map (λ p. (port_at m.ports p).core) (range_with_len 0 (2 ^ m.config.k))
  pub words_are : words ≡ map (word_at m.config.k m.modules) (range_with_len 0 m.config.shared_words)

-- The extent, the cores and the words of a machine satisfy what is known of them.
pub are_read : {m : MachineLists} {e : Extent} {cores : List CoreState} {words : List ℕ} {exchanged : Bool} → IsMachine m →
    e ≡ record { processors = 2 ^ m.config.k; shared_words = m.config.shared_words; exchanged = exchanged } →
    cores ≡ map (λ p. (port_at m.ports p).core) (range_with_len 0 (2 ^ m.config.k)) →
    words ≡ map (word_at m.config.k m.modules) (range_with_len 0 m.config.shared_words) → AreRead m e cores words
are_read sound extent cores_are words_are = record {
  sound = sound;
  processors = ap (λ (e : Extent). e.processors) extent;
  shared = ap (λ (e : Extent). e.shared_words) extent;
  cores_are = cores_are;
  words_are = words_are;
}

module _ {m : MachineLists} {e : Extent} {cores : List CoreState} {list : List ℕ} (seen : AreRead m e cores list) where
  abbrev core : ℕ → CoreState
  core p = (port_at m.ports p).core

  -- The cores that were read are those of a machine of this extent.
  pub of_extent : AreOfExtent e cores
  of_extent = record {
    all = ap length seen.cores_are ∙ (length-map-range_with_len core 0 (2 ^ m.config.k) ∙ sym seen.processors);
    settings = λ p c found. by p c (listed_is core (2 ^ m.config.k) p c (ap (λ xs. slice_get xs p) (sym seen.cores_are) ∙ found));
  }
    where
      by : (p : ℕ) (c : CoreState) → (p < 2 ^ m.config.k) × (core p ≡ c) → c.setting ≡ setting_at e p
      by p c x =
          ap (λ (d : CoreState). d.setting) (sym x.1)
          ∙ (seen.sound.ports.settings p x.0 ∙ (λ i. record {
            number = p;
            processors = sym seen.processors i;
            shared_words = sym seen.shared i;
          }))

  -- The list of the words that were read is as long as the shared memory of the extent.
  pub wide : length list ≡ e.shared_words
  wide = ap length seen.words_are ∙ (length-map-range_with_len (word_at m.config.k m.modules) 0 m.config.shared_words ∙ sym seen.shared)

  abbrev state : ℕ → Processor
  state p = (port_at m.ports p).core.state

  left : map (λ (c : CoreState). c.state) cores ≡ map state (range_with_len 0 (2 ^ m.config.k))
  left =
      ap (map (λ (c : CoreState). c.state)) seen.cores_are
      ∙ fill_by_all state (map (λ (c : CoreState). c.state) (map core (range_with_len 0 (2 ^ m.config.k)))) (2 ^ m.config.k) no_processor
      (length-map (map core (range_with_len 0 (2 ^ m.config.k))) (λ (c : CoreState). c.state) ∙ length-map-range_with_len core 0 (2 ^ m.config.k))
      (λ k l. mapped_at (λ (c : CoreState). c.state) (map core (range_with_len 0 (2 ^ m.config.k))) k (core k) no_processor
      (listed_there core (2 ^ m.config.k) k l))

  right : map (λ (p : PortState). p.core.state) m.ports ≡ map state (range_with_len 0 (2 ^ m.config.k))
  right = fill_by_all state (map (λ (p : PortState). p.core.state) m.ports) (2 ^ m.config.k) no_processor
      (length-map m.ports (λ (p : PortState). p.core.state) ∙ seen.sound.ports.all)
      (λ k l. mapped_at (λ (p : PortState). p.core.state) m.ports k (port_at m.ports k) no_processor
      (there m.ports k no_port (subst (λ n. k < n) (sym seen.sound.ports.all) l)))

  both : map (λ (c : CoreState). c.state) cores ≡ map (λ (p : PortState). p.core.state) m.ports
  both = left ∙ sym right

  -- The code, the cores and the words that were read make up the flat machine.
  pub flat_is : flat_of m.code cores list ≡ flat_state m
  flat_is = λ i. record { processors = both i; shared = seen.words_are i; code = m.code }

-- If a test picks a value, it is the value picked.
pub picked : {X : Type 0} (b : Bool) (x y : X) → Some x ≡ cond b (Some y) None → x ≡ y
picked true x y e = cc
picked false x y e = absurd (cc)

-- If processors are not exchanged, each has a class of its own.
pub single : {e : Extent} {classes : List ℕ} {count : ℕ} → e.processors ≡ count → AreClasses e classes → e.exchanged ≡ false →
    AreSingle count classes
single all are off j k few alike = are.own off j k (subst (λ n. k < n) (sym all) few) alike
