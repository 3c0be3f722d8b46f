-- A lookup of a move gives the row to which the move leads.
use Rattle.std.proofs.Common.{◌≡◌, ◌≢◌, ◌⊎◌, inl, inr, ℕ, ◌<◌, ◌^◌, Bool, true, false, cond, true≢false}
use Rattle.std.proofs.Common.{List, [], Some, length, refl, sym, ap, subst, ◌∙◌, arith}
use Rattle.std.specs.Prelude.{slice_get, slice_set, slice_index}
use Rattle.std.proofs.lemmas.Bool.{cases_eq}
use Rattle.std.proofs.lemmas.List.{length-set, get_or-set_same, get_or-set_other}
use Rattle.hart.specs.phi_algebra.declared.phi.Phi.{Phi}
use Rattle.hart.specs.phi_algebra.Functions.{apply}
use Rattle.flat_machine.specs.declared.setting.Setting.{Setting}
use Rattle.flat_machine.specs.declared.event.Retired.{Retired}
use Rattle.flat_machine.specs.State.{Processor, is_running}
use Rattle.flat_machine.specs.Turns.{Turn, Retires, Reaches, Stops, turn_of}
use Rattle.hart.specs.declared.decision.Shape.{Shape}
use Rattle.hart.specs.declared.decision.Decision.{Decision}
use Rattle.hart.specs.declared.decision.Decision.TheVariants.{Local, Refer, Halt, Fault}
use Rattle.hart.specs.Deciding.{Decides, after_reply}
use Rattle.local_reduction.specs.LocalStates.{LocalState, retire, alone, IsAtReference, IsReference}
use Rattle.local_reduction.specs.Closing.{IsAlike, IsForgetful, MacroState, gone, IsMove}
use Rattle.local_reduction.specs.Exchanging.{NeverAsks, IsMoveOfAny}
use Rattle.local_reduction.specs.Laws.{MovesAreOfAny, MovesOfWhatIsKept}
use Rattle.local_reduction.proofs.Lemmas.{never_from, reference_same}
use Rattle.local_reduction.specs.Live.{HasAllLive}
use Rattle.local_reduction.specs.Forgetting.{with_live, kept_by, DeadAreForgotten}
use Rattle.state_store.specs.declared.state_tables.Extent.{Extent}
use Rattle.state_store.specs.Placed.{Placed}
use Rattle.state_store.specs.StateTables.{TableLists, placed_at, words_at, HasGrown, setting_at, own_setting, means, IsRow, IsAfterReference}
use Rattle.state_store.specs.Moves.{AreClasses, CanMove, IsNext}
use Rattle.state_store.proofs.Listed.{listed_there, listed_is, listed_set}
use Rattle.state_store.proofs.Growing.{kept_on}

-- If two turns are alike and one is a reference, the other is one, too.
pub refers_too : (kept : LocalState → LocalState) (a b : LocalState) (x y : Turn) → IsAlike kept a b x y → IsReference x → IsReference y
refers_too kept a b (Retires p r) y h w = absurd w
refers_too kept a b (Reaches w c f) (Retires p r) h i = absurd h
refers_too kept a b (Reaches w c f) (Reaches v d g) h i = tt
refers_too kept a b (Reaches w c f) (Stops d) h i = absurd h
refers_too kept a b (Stops c) y h w = absurd w

pub referred_too : (kept : LocalState → LocalState) (a b : LocalState) (x y : Turn) → IsAlike kept a b x y → IsReference y → IsReference x
referred_too kept a b (Retires p r) (Retires q o) h w = absurd w
referred_too kept a b (Retires p r) (Reaches w c f) h i = absurd h
referred_too kept a b (Retires p r) (Stops d) h i = absurd h
referred_too kept a b (Reaches w c f) y h i = tt
referred_too kept a b (Stops c) (Retires p r) h i = absurd h
referred_too kept a b (Stops c) (Reaches w d f) h i = absurd h
referred_too kept a b (Stops c) (Stops d) h i = absurd i

-- The turn reaches the word, and makes `value` of its old value `before`.
pub record IsReferred (word before value : ℕ) (turn : Turn) : Type 0 where
  -- what the turn does to the word
  pub change : ℕ → ℕ
  -- the processor after the turn and what retired, given the word's old value
  pub after : ℕ → Processor × Retired
  -- The turn reaches that word.
  pub is : turn ≡ Reaches word change after
  pub value_is : change before ≡ value

-- If a core decides to refer to a word, its turn reaches that word, and changes its value as the phi does.
pub referred : (word before : ℕ) (phi : Phi) (shape : Shape) (turn : Turn) → before < 2 ^ 32 → Decides (Refer word phi shape) turn →
    IsReferred word before (apply phi before) turn
referred word before phi shape (Retires p r) small d = absurd d
referred word before phi shape (Reaches w c f) small d =
    record { change = c; after = f; is = ap (λ v. Reaches v c f) (sym d.0); value_is = sym (d.1 before small) }
referred word before phi shape (Stops c) small d = absurd d

module _ (e : Extent) (code : List ℕ) (classes : List ℕ) (t u v : TableLists) (row next : List ℕ) (p word before value number written : ℕ) where
  -- what a lookup of a move knows when it returns a row
  pub record HasLooked : Type 0 where
    -- These are the classes of the processors.
    pub classes_are : AreClasses e classes
    -- The row is one of the tables.
    pub row_is : IsRow e t row
    -- The processor is one of the machine's.
    pub few : p < e.processors
    -- The row has a place for the words.
    pub room : e.processors < length row
    -- The first tables have grown into the second.
    pub first_kept : HasGrown t u
    -- The second tables have grown into the third.
    pub then_kept : HasGrown u v
    -- The processor runs.
    pub runs : is_running (placed_at t (slice_index row p)).local_state.processor.status ≡ true
    -- Its turn reaches the word, and makes `value` of its old value.
    pub refers : IsReferred word before value
        (turn_of (placed_at t (slice_index row p)).setting code (placed_at t (slice_index row p)).local_state.processor)
    -- The word is one of the machine's.
    pub named : word < (placed_at t (slice_index row p)).setting.shared_words
    -- The word's old value is `before`.
    pub before_is : slice_index (words_at t (slice_index row e.processors)) word ≡ before
    -- The second tables have, under the number, the local state after the reference and some turns alone.
    pub behind : IsAfterReference e.exchanged code before (placed_at t (slice_index row p)) u number
    -- The third tables have the written list.
    pub written_there : written < length v.words
    -- The written list is the row's list with the word written.
    pub written_is : words_at v written ≡ slice_set (words_at u (slice_index row e.processors)) word value
    -- The next row has the two new numbers.
    pub next_is : next ≡ slice_set (slice_set row p number) e.processors written

  module _ (h : HasLooked) where
    abbrev here : Placed
    here = placed_at t (slice_index row p)

    next_own : slice_index next p ≡ number
    next_own =
        ap (λ r. slice_index r p) h.next_is
        ∙ (get_or-set_other (slice_set row p number) e.processors p written 0 (λ same. omega (arith, h.few, same))
        ∙ get_or-set_same row p number 0 (omega (arith, h.few, h.room)))

    next_words : slice_index next e.processors ≡ written
    next_words =
        ap (λ r. slice_index r e.processors) h.next_is
        ∙ get_or-set_same (slice_set row p number) e.processors written 0 (omega (arith, h.room, length-set row p number))

    next_other : (q : ℕ) → q ≢ p → q < e.processors → slice_index next q ≡ slice_index row q
    next_other q other few =
        ap (λ r. slice_index r q) h.next_is
        ∙ (get_or-set_other (slice_set row p number) e.processors q written 0 (λ same. omega (arith, few, same)) ∙ get_or-set_other row p q number 0 other)

    kept : HasGrown t v
    kept = kept_on t u v h.first_kept h.then_kept

    at_number : placed_at v number ≡ placed_at u number
    at_number = h.then_kept.same_local_state number h.behind.there

    at_other : (q : ℕ) → q ≢ p → q < e.processors → placed_at v (slice_index next q) ≡ placed_at t (slice_index row q)
    at_other q other few = ap (placed_at v) (next_other q other few) ∙ kept.same_local_state (slice_index row q) (h.row_is.there q few)

    own : here.setting ≡ own_setting e p
    own = h.row_is.own p h.few

    words_after : words_at v written ≡ slice_set (words_at t (slice_index row e.processors)) word value
    words_after =
        h.written_is
        ∙ ap (λ list. slice_set list word value) (h.first_kept.same_words (slice_index row e.processors) h.row_is.words)

    next_row : IsRow e v next
    next_row = record {
      there = λ q few. there_at q few (cases_eq q p);
      own = λ q few. own_at q few (cases_eq q p);
      words = subst (λ i. i < length v.words) (sym next_words) h.written_there;
      all = ap (λ i. length (words_at v i)) next_words
          ∙ (ap length words_after ∙ (length-set (words_at t (slice_index row e.processors)) word value ∙ h.row_is.all));
      rest = λ q past.
          ap (λ r. slice_index r q) h.next_is
          ∙ (get_or-set_other (slice_set row p number) e.processors q written 0 (λ same. omega (arith, past, same))
          ∙ (get_or-set_other row p q number 0 (λ same. omega (arith, past, h.few, same)) ∙ h.row_is.rest q past));
    }
      where
        there_at : (q : ℕ) → q < e.processors → (q ≡ p) ⊎ (q ≡ p → ⊥) → slice_index next q < length v.local_states
        there_at q few (inl same) =
            let is : slice_index next q ≡ number = ap (slice_index next) same ∙ next_own in
            omega (arith, is, h.behind.there, h.then_kept.local_states)
        there_at q few (inr other) =
            let is = next_other q other few in
            let below = h.row_is.there q few in
            omega (arith, is, below, kept.local_states)

        own_at : (q : ℕ) → q < e.processors → (q ≡ p) ⊎ (q ≡ p → ⊥) → (placed_at v (slice_index next q)).setting ≡ own_setting e q
        own_at q few (inl same) =
            ap (λ j. (placed_at v (slice_index next j)).setting) same
            ∙ (ap (λ i. (placed_at v i).setting) next_own
            ∙ (ap (λ (a : Placed). a.setting) at_number ∙ (h.behind.setting ∙ (own ∙ ap (own_setting e) (sym same)))))
        own_at q few (inr other) = ap (λ (a : Placed). a.setting) (at_other q other few) ∙ h.row_is.own q few

    s : MacroState
    s = means e t row

    named : word < e.shared_words
    named = subst (λ (z : Setting). word < z.shared_words) own h.named

    old_is : slice_index s.shared word ≡ before
    unfolding s
    old_is = h.before_is

    replied : after_reply (turn_of here.setting code here.local_state.processor) before ≡ Some (h.refers.after before)
    replied = ap (λ turn. after_reply turn before) h.refers.is

    -- the setting and the word's old value, as the state has them
    both : (λ (z : Setting × ℕ). z) (here.setting, before) ≡ (own_setting e p, slice_index s.shared word)
    both = λ i. (own i, sym old_is i)

    abbrev turned : Setting × ℕ → LocalState
    turned z = alone h.behind.count z.0 code (retire here.local_state (h.refers.after z.1))

    at_reference : IsAtReference (own_setting e p) code (turned (own_setting e p, slice_index s.shared word)).processor
    at_reference = subst (λ (z : Setting × ℕ). IsAtReference z.0 code (turned z).processor) both (h.behind.at_reference (h.refers.after before) replied)

    gone_there : kept_by v.live (placed_at u number).local_state ≡ kept_by v.live (turned (here.setting, before))
    gone_there =
        subst (λ live. kept_by live (placed_at u number).local_state ≡ kept_by live (turned (here.setting, before))) (sym h.then_kept.live)
        (h.behind.gone (h.refers.after before) replied)

    here_after : kept_by v.live (placed_at v (slice_index next p)).local_state ≡ kept_by v.live (turned (own_setting e p, slice_index s.shared word))
    here_after =
        ap (λ i. kept_by v.live (placed_at v i).local_state) next_own
        ∙ (ap (λ (a : Placed). kept_by v.live a.local_state) at_number ∙ (gone_there ∙ ap (λ z. kept_by v.live (turned z)) both))

    leaves : means e v next
        ≡ gone s p (kept_by v.live (turned (own_setting e p, slice_index s.shared word))) word (h.refers.change (slice_index s.shared word))
    unfolding s
    leaves =
        let local_states = listed_set (λ q. kept_by t.live (placed_at t (slice_index row q)).local_state) e.processors
        (λ q. kept_by v.live (placed_at v (slice_index next q)).local_state) p
        (kept_by v.live (turned (own_setting e p, slice_index s.shared word))) h.few here_after
        (λ q other few. λ i. kept_by (kept.live i) (at_other q other few i).local_state) in
        let shared = ap (words_at v) next_words
        ∙ (words_after
        ∙ ap (slice_set (words_at t (slice_index row e.processors)) word) (sym h.refers.value_is ∙ ap h.refers.change (sym old_is))) in
        λ i. record { local_states = local_states i; shared = shared i }

    quiet : e.exchanged ≡ true → NeverAsks (own_setting e p) code (retire here.local_state (h.refers.after (slice_index s.shared word)))
    quiet on =
        subst (λ (z : Setting × ℕ). NeverAsks z.0 code (retire here.local_state (h.refers.after z.1))) both
        (never_from here.setting code h.behind.count (retire here.local_state (h.refers.after before))
        (h.behind.quiet on (h.refers.after before) replied) (h.behind.later on (h.refers.after before) replied))

    stands_there : slice_get s.local_states p ≡ Some (kept_by v.live here.local_state)
    unfolding s
    stands_there =
        listed_there (λ q. kept_by t.live (placed_at t (slice_index row q)).local_state) e.processors p h.few
        ∙ ap (λ live. Some (kept_by live here.local_state)) (sym kept.live)

    turn_is : turn_of (own_setting e p) code here.local_state.processor ≡ Reaches word h.refers.change h.refers.after
    turn_is = ap (λ z. turn_of z code here.local_state.processor) (sym own) ∙ h.refers.is

    abbrev gone_to : MacroState
    gone_to = gone s p (kept_by v.live (turned (own_setting e p, slice_index s.shared word))) word (h.refers.change (slice_index s.shared word))

    of_any : MovesAreOfAny → MovesOfWhatIsKept → DeadAreForgotten → HasAllLive code v.live → (b : Bool) → e.exchanged ≡ b →
        IsMoveOfAny (setting_at e) code (kept_by v.live) classes s p gone_to
    of_any any moves forgotten right true on =
        any (setting_at e) code (kept_by v.live) classes s p (cond e.exchanged 0 p) here.local_state word h.refers.change h.refers.after h.behind.count
        (forgotten (setting_at e) code v.live right) (λ i j. record { processors = refl; shared_words = refl }) stands_there
        h.runs turn_is at_reference (quiet on)
    of_any any moves forgotten right false off = λ j alike.
        let is : own_setting e p ≡ setting_at e j =
        ap (λ b. setting_at e (cond b 0 p)) off ∙ ap (setting_at e) (sym (h.classes_are.own off j p h.few alike)) in
        subst (λ z. IsMove (λ i. z) code (kept_by v.live) s p gone_to) is
        (moves (λ i. own_setting e p) code (kept_by v.live) s p here.local_state word h.refers.change h.refers.after h.behind.count
        (forgotten (λ i. own_setting e p) code v.live right) stands_there h.runs turn_is at_reference)

    -- If a lookup of a move has done all this, the processor's move leads to the state that the next row means.
    pub looked : MovesAreOfAny → MovesOfWhatIsKept → DeadAreForgotten → HasAllLive code t.live → IsNext e code classes v (means e t row) p (Some next)
    unfolding s
    looked any moves forgotten right = (
      next_row,
      subst (IsMoveOfAny (setting_at e) code (kept_by v.live) classes s p) (sym leaves)
          (of_any any moves forgotten (subst (HasAllLive code) (sym kept.live) right) e.exchanged refl),
    )

-- ---- no move

pub kept_runs : (live : List (List Bool)) (a : LocalState) → is_running (kept_by live a).processor.status ≡ is_running a.processor.status
kept_runs live a = by (is_running a.processor.status)
  where
    forgotten : LocalState
    forgotten = record a { processor = record a.processor { registers = []; local = [] } }

    by : (b : Bool) → is_running (cond b (with_live live a) forgotten).processor.status ≡ is_running a.processor.status
    by true = refl
    by false = refl

-- A turn that is a reference is not decided to be anything else.
pub undecided : (d : Decision) (turn : Turn) → Decides d turn → ((w : ℕ) (phi : Phi) (shape : Shape) → d ≡ Refer w phi shape → ⊥) → IsReference turn → ⊥
undecided (Refer w phi shape) turn h other r = other w phi shape refl
undecided Local (Retires p q) h other r = r
undecided Local (Reaches w c f) h other r = h
undecided Local (Stops c) h other r = h
undecided (Halt b) (Retires p q) h other r = h
undecided (Halt b) (Reaches w c f) h other r = h
undecided (Halt b) (Stops c) h other r = r
undecided (Fault f) (Retires p q) h other r = h
undecided (Fault f) (Reaches w c g) h other r = h
undecided (Fault f) (Stops c) h other r = r

module _ (e : Extent) (code : List ℕ) (t : TableLists) (row : List ℕ) (p : ℕ) (h : IsRow e t row) (few : p < e.processors) where
  abbrev stands : Placed
  stands = placed_at t (slice_index row p)

  local_state_is : (m : CanMove e code (means e t row) p) → kept_by t.live stands.local_state ≡ m.local_state
  local_state_is m = (listed_is (λ q. kept_by t.live (placed_at t (slice_index row q)).local_state) e.processors p m.local_state m.there).1

  runs : (m : CanMove e code (means e t row) p) → is_running stands.local_state.processor.status ≡ true
  runs m = sym (kept_runs t.live stands.local_state) ∙ (ap (λ (a : LocalState). is_running a.processor.status) (local_state_is m) ∙ m.runs)

  -- A processor that has stopped has no move.
  pub stopped_has_none : is_running stands.local_state.processor.status ≡ false → CanMove e code (means e t row) p → ⊥
  stopped_has_none stopped m = true≢false (sym (runs m) ∙ stopped)

  -- A processor whose next turn is not a reference has no move.
  pub local_has_none : IsForgetful (setting_at e) code (kept_by t.live) → (IsReference (turn_of stands.setting code stands.local_state.processor) → ⊥) →
      CanMove e code (means e t row) p → ⊥
  local_has_none forgets local m =
      let kept : IsReference (turn_of (setting_at e p) code (kept_by t.live stands.local_state).processor) =
      subst (λ (a : LocalState). IsReference (turn_of (setting_at e p) code a.processor)) (sym (local_state_is m)) m.refers in
      let own : IsReference (turn_of (setting_at e p) code stands.local_state.processor) =
      refers_too (kept_by t.live) (kept_by t.live stands.local_state) stands.local_state _ _ (forgets.turn p stands.local_state (runs m)) kept in
      let same : turn_of (setting_at e p) code stands.local_state.processor ≡ turn_of (own_setting e p) code stands.local_state.processor =
      reference_same (setting_at e p) (own_setting e p) (record { processors = refl; shared_words = refl }) code stands.local_state.processor own in
      local (subst (λ (z : Setting). IsReference (turn_of z code stands.local_state.processor)) (sym (h.own p few)) (subst IsReference same own))
