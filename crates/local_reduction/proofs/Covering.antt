-- A closed set has, for each state of the flat machine, the state that it reaches.
use Rattle.std.proofs.Common.{◌≡◌, ◌≢◌, ◌⊎◌, inl, inr, ℕ, Bool, true, false, suc, List, [], ◌∷◌, Option, Some, None, refl, sym, ap, subst, ◌∙◌}
use Rattle.std.specs.Prelude.{slice_get}
use Rattle.flat_machine.specs.declared.setting.Setting.{Setting}
use Rattle.flat_machine.specs.declared.event.Event.{Event}
use Rattle.flat_machine.specs.declared.event.Retired.{Retired}
use Rattle.flat_machine.specs.declared.poke.Entry.TheVariants as entry
use Rattle.flat_machine.specs.State.{FlatState, Processor, is_running, setting_of}
use Rattle.flat_machine.specs.Turns.{Turn, Retires, Reaches, Stops, turn_of}
use Rattle.flat_machine.specs.Flat.{taken, with_taken, flat_step, flat_run, flat_events}
use Rattle.local_reduction.specs.LocalStates.{printed_after, consoles_after, turns, LocalState, retire, stopped_by, alone_by, IsReference}
use Rattle.local_reduction.specs.Closing.{IsAlike, IsForgetful, MacroState, IsIn, IsMove, HasSpinner, HaveNoSpinner, IsClosed}
use Rattle.local_reduction.specs.Closing.{MayMove, local_state_of, ReachesMacroState, IsKeptOf, HasStopped}
use Rattle.local_reduction.proofs.OneTurn.{Stands, standing_stays, one_events, stepped, showed, stays, silent, absent}
use Rattle.local_reduction.proofs.OneTurn.{absent_silent, console_here, console_other, consoles_more, ReachesIn}
use Rattle.local_reduction.proofs.OneTurn.{counted, uncounted, put, own_counted, reach_counted}
use Rattle.local_reduction.proofs.Endless.{spinner_endless, never_stops}

-- ---- one turn of the flat machine, from a state that reaches s

module _ (at : ℕ → Setting) (code : List ℕ) (kept : LocalState → LocalState) (m : FlatState) (consoles : ℕ → List ℕ) (counts : ℕ → ℕ) (s : MacroState) (k : ℕ)
    (h : ReachesIn at code kept m consoles counts s) where
  abbrev later : ℕ → List ℕ
  later = consoles_after consoles (one_events m k)

  abbrev TurnReaches : (ℕ → ℕ) → MacroState → Type 0
  TurnReaches c t = ReachesIn at code kept (flat_step m (entry.Processor k)) (consoles_after consoles (one_events m k)) c t

  -- If the machine takes no turn, it reaches s as before.
  pub idle_turn : flat_step m (entry.Processor k) ≡ m → one_events m k ≡ [] →
      ReachesIn at code kept (flat_step m (entry.Processor k)) (consoles_after consoles (one_events m k)) counts s
  idle_turn same none =
      subst (λ (z : FlatState × List (ℕ × Event)). ReachesIn at code kept z.0 (consoles_after consoles z.1) counts s) (λ i. (sym same i, sym none i)) h

  module _ (p : Processor) (there : slice_get m.processors k ≡ Some p) (runs : is_running p.status ≡ true) where
    abbrev mine : LocalState
    mine = local_state_of p (consoles k)

    -- The machine reaches s by one turn less, or no turn is left and the processor spins.
    abbrev pub Nearer : Type 0
    Nearer = ((n : ℕ) × (counts k ≡ suc n) × TurnReaches (put counts k n) s) ⊎ ((counts k ≡ 0) × HasSpinner at code s)

    turn_is : (x : Turn) → turn_of (at k) code p ≡ x → turn_of (setting_of m k) m.code p ≡ x
    turn_is x e = let same : turn_of (setting_of m k) m.code p ≡ turn_of (at k) code p = λ i. turn_of (h.settings k i) (h.code_is i) p in same ∙ e

    -- The flat machine after the turn x.
    pub becomes : (x : Turn) → turn_of (at k) code p ≡ x → flat_step m (entry.Processor k) ≡ with_taken m k (taken p m.shared x)
    becomes x e = stepped m k p there runs ∙ ap (λ y. with_taken m k (taken p m.shared y)) (turn_is x e)

    shows : (x : Turn) → turn_of (at k) code p ≡ x → one_events m k ≡ (k, (taken p m.shared x).2) ∷ []
    shows x e = showed m k p there runs ∙ ap (λ y. (k, (taken p m.shared y).2) ∷ []) (turn_is x e)

    -- What the processor has printed after the turn x.
    pub printed : (x : Turn) → turn_of (at k) code p ≡ x → later k ≡ printed_after (consoles k) (taken p m.shared x).2
    printed x e = ap (λ es. consoles_after consoles es k) (shows x e) ∙ console_here consoles k (taken p m.shared x).2

    others : (x : Turn) → turn_of (at k) code p ≡ x → (j : ℕ) → j ≢ k → later j ≡ consoles j
    others x e j ne = ap (λ es. consoles_after consoles es j) (shows x e) ∙ console_other consoles k (taken p m.shared x).2 j ne

    nearer : (n : FlatState) → flat_step m (entry.Processor k) ≡ n →
        ((i : ℕ) × (counts k ≡ suc i) × ReachesIn at code kept n later (put counts k i) s) ⊎ ((counts k ≡ 0) × HasSpinner at code s) → Nearer
    nearer n is (inl near) = inl (near.0, near.1, subst (λ z. ReachesIn at code kept z later (put counts k near.0) s) (sym is) near.2)
    nearer n is (inr spins) = inr spins

    -- If the turn retires an instruction that refers to no shared word, the machine reaches s by one turn less.
    pub retiring_turn : IsForgetful at code kept → (q : Processor) (r : Retired) → turn_of (at k) code p ≡ Retires q r → Nearer
    retiring_turn f q r e =
        nearer (with_taken m k (taken p m.shared (Retires q r))) (becomes (Retires q r) e)
        (own_counted at code kept m consoles s k p later counts h there (others (Retires q r) e) f (retire mine (q, r)) runs
        (λ w. subst IsReference e w) (ap (alone_by mine) e) (printed (Retires q r) e))

    -- If the turn stops the processor, the machine reaches s by one turn less.
    pub stopping_turn : IsForgetful at code kept → (c : _) → turn_of (at k) code p ≡ Stops c → Nearer
    stopping_turn f c e =
        nearer (with_taken m k (taken p m.shared (Stops c))) (becomes (Stops c) e)
        (own_counted at code kept m consoles s k p later counts h there (others (Stops c) e) f (stopped_by mine c) runs
        (λ w. subst IsReference e w) (ap (alone_by mine) e) (printed (Stops c) e))

    -- If the processor has stopped or is about to refer to a word, s has what is kept of its local state as it is.
    pub standing_there : Stands (at k) code p → slice_get s.local_states k ≡ Some (kept (local_state_of p (consoles k)))
    standing_there at_reference = (h.each k p there).0 ∙ ap (λ z. Some (kept z)) (standing_stays (counts k) (at k) code mine at_reference)

    -- If the turn is a reference, the machine reaches the state to which a move of a local state leads of which the
    -- same is kept.
    pub reaching_turn : (f : IsForgetful at code kept) (word : ℕ) (change : ℕ → ℕ) (after : ℕ → Processor × Retired) →
        turn_of (at k) code p ≡ Reaches word change after →
        (t : MacroState) (move : IsMove at code kept s k t) → TurnReaches (put counts k move.count) t
    reaching_turn f word change after e t move =
        by_turn (turn_of (at k) code move.local_state.processor) refl
        (subst (λ a. IsAlike kept a mine (turn_of (at k) code a.processor) (Reaches word change after)) is
        (subst (IsAlike kept (kept mine) mine (turn_of (at k) code (kept mine).processor)) e (f.turn k mine runs)))
      where
        at_reference : Stands (at k) code p
        at_reference = λ _. subst IsReference (sym e) tt

        is : kept (local_state_of p (consoles k)) ≡ move.local_state
        is = let same : Some (kept mine) ≡ Some move.local_state = sym (standing_there at_reference) ∙ move.there in cc

        alike_to : (x : Turn) → x ≡ Reaches move.word move.change move.after → IsAlike kept move.local_state mine x (Reaches word change after) →
            IsAlike kept move.local_state mine (Reaches move.word move.change move.after) (Reaches word change after)
        alike_to x same alike = subst (λ y. IsAlike kept move.local_state mine y (Reaches word change after)) same alike

        by_turn : (x : Turn) → turn_of (at k) code move.local_state.processor ≡ x →
            IsAlike kept move.local_state mine (turn_of (at k) code move.local_state.processor) (Reaches word change after) →
            TurnReaches (put counts k move.count) t
        by_turn x _ alike0 =
            let alike = alike_to (turn_of (at k) code move.local_state.processor) move.turn alike0 in
            let e' : turn_of (at k) code p ≡ Reaches move.word move.change after = e ∙ (λ i. Reaches (sym alike.0 i) (sym alike.1 i) after) in
            let done = reach_counted at code kept m consoles s k p later counts h there (others (Reaches move.word move.change after) e') f move.word
            move.change after (λ x. retire move.local_state (move.after x)) move.count alike.2 move.at_reference
            (printed (Reaches move.word move.change after) e') in
            subst (λ n. ReachesIn at code kept n later (put counts k move.count) t) (sym (becomes (Reaches move.word move.change after) e'))
            (subst (λ u. ReachesIn at code kept (with_taken m k (taken p m.shared (Reaches move.word move.change after))) later (put counts k move.count) u)
            (sym move.leaves) done)

    -- A processor that is about to refer to a word may move in s.
    pub may_move : (f : IsForgetful at code kept) (word : ℕ) (change : ℕ → ℕ) (after : ℕ → Processor × Retired) →
        turn_of (at k) code p ≡ Reaches word change after → MayMove at code s k
    may_move f word change after e = record {
      local_state = kept mine;
      there = standing_there (λ _. subst IsReference (sym e) tt);
      runs = f.running mine ∙ runs;
      refers = refers (turn_of (at k) code (kept mine).processor)
          (subst (IsAlike kept (kept mine) mine (turn_of (at k) code (kept mine).processor)) e (f.turn k mine runs));
    }
      where
        refers : (x : Turn) → IsAlike kept (kept mine) mine x (Reaches word change after) → IsReference x
        refers (Retires q r) alike = absurd alike
        refers (Reaches v c i) alike = tt
        refers (Stops c) alike = absurd alike

-- ---- runs

-- A set is given by what holds of its states.
module _ (at : ℕ → Setting) (code : List ℕ) (kept : LocalState → LocalState) (f : IsForgetful at code kept) (In : MacroState → Type 0)
    (closed : (s : MacroState) (k : ℕ) (a : LocalState) → In s → slice_get s.local_states k ≡ Some a → is_running a.processor.status ≡ true →
    IsReference (turn_of (at k) code a.processor) → HasSpinner at code s ⊎ ((t : MacroState) × IsMove at code kept s k t × In t)) where
  -- The flat machine reaches a state of the set.
  abbrev pub Covered : FlatState → (ℕ → List ℕ) → Type 0
  Covered m consoles = (t : MacroState) × In t × ReachesMacroState at code kept m consoles t

  -- A processor spins in some state of the set, and the order of turns does not stop all processors.
  abbrev pub Caught : FlatState → (order : List ℕ) → Type 0
  Caught m order = (s : MacroState) × In s × HasSpinner at code s × (HasStopped (flat_run m (turns order)) → ⊥)

  -- After a turn, the flat machine reaches a state of the set, or a processor spins in the state that it
  -- reached.
  abbrev Stepped : FlatState → (ℕ → List ℕ) → MacroState → (k : ℕ) → Type 0
  Stepped m consoles s k = Covered (flat_step m (entry.Processor k)) (consoles_after consoles (one_events m k)) ⊎ HasSpinner at code s

  covered_step : (m : FlatState) (consoles : ℕ → List ℕ) (s : MacroState) (k : ℕ) → In s → ReachesMacroState at code kept m consoles s → Stepped m consoles s k
  covered_step m consoles s k inside reaches = by_processor (slice_get m.processors k) refl
    where
      both : (counts : ℕ → ℕ) × ReachesIn at code kept m consoles counts s
      both = counted at code kept m consoles s reaches

      h : ReachesIn at code kept m consoles both.0 s
      h = both.1

      stays_in : (t : MacroState) → In t → (c : ℕ → ℕ) →
          ReachesIn at code kept (flat_step m (entry.Processor k)) (consoles_after consoles (one_events m k)) c t → Stepped m consoles s k
      stays_in t within c there =
          inl (t, within, uncounted at code kept (flat_step m (entry.Processor k)) (consoles_after consoles (one_events m k)) t c there)

      nearer_in : ((n : ℕ) × (both.0 k ≡ suc n)
          × ReachesIn at code kept (flat_step m (entry.Processor k)) (consoles_after consoles (one_events m k)) (put both.0 k n) s)
          ⊎ ((both.0 k ≡ 0) × HasSpinner at code s) → Stepped m consoles s k
      nearer_in (inl near) = stays_in s inside (put both.0 k near.0) near.2
      nearer_in (inr spins) = inr spins.1

      by_turn : (p : Processor) → slice_get m.processors k ≡ Some p → is_running p.status ≡ true → (x : Turn) → turn_of (at k) code p ≡ x →
          Stepped m consoles s k
      by_turn p there runs (Retires q r) e = nearer_in (retiring_turn at code kept m consoles both.0 s k h p there runs f q r e)
      by_turn p there runs (Stops c) e = nearer_in (stopping_turn at code kept m consoles both.0 s k h p there runs f c e)
      by_turn p there runs (Reaches word change after) e = moves_in (closed s k may.local_state inside may.there may.runs may.refers)
        where
          may : MayMove at code s k
          may = may_move at code kept m consoles both.0 s k h p there runs f word change after e

          moves_in : HasSpinner at code s ⊎ ((t : MacroState) × IsMove at code kept s k t × In t) → Stepped m consoles s k
          moves_in (inl spins) = inr spins
          moves_in (inr next) =
              stays_in next.0 next.2 (put both.0 k next.1.count)
              (reaching_turn at code kept m consoles both.0 s k h p there runs f word change after e next.0 next.1)

      by_running : (p : Processor) → slice_get m.processors k ≡ Some p → (b : Bool) → is_running p.status ≡ b → Stepped m consoles s k
      by_running p there true runs = by_turn p there runs (turn_of (at k) code p) refl
      by_running p there false stopped =
          stays_in s inside both.0
          (idle_turn at code kept m consoles both.0 s k h (stays m k p there stopped) (silent m k p there stopped))

      by_processor : (o : Option Processor) → slice_get m.processors k ≡ o → Stepped m consoles s k
      by_processor None none =
          stays_in s inside both.0
          (idle_turn at code kept m consoles both.0 s k h (absent m k none) (absent_silent m k none))
      by_processor (Some p) there = by_running p there (is_running p.status) refl

  -- After this order of turns, the flat machine reaches a state of the set, or a processor spins.
  abbrev pub Ran : (order : List ℕ) → FlatState → (ℕ → List ℕ) → Type 0
  Ran order m consoles = Covered (flat_run m (turns order)) (consoles_after consoles (flat_events m (turns order))) ⊎ Caught m order

  -- If the flat machine reaches a state of the set, it also does so after any order of turns; or a processor spins
  -- in a state of the set, and the order does not stop all processors.
  pub covered_run : (order : List ℕ) (m : FlatState) (consoles : ℕ → List ℕ) (s : MacroState) → In s → ReachesMacroState at code kept m consoles s →
      Ran order m consoles
  covered_run [] m consoles s inside h = inl (s, inside, h)
  covered_run (k ∷ ks) m consoles s inside h =
      by (λ next. covered_run ks (flat_step m (entry.Processor k)) (consoles_after consoles (one_events m k)) next.0 next.1 next.2)
      (covered_step m consoles s k inside h)
    where
      on : Ran ks (flat_step m (entry.Processor k)) (consoles_after consoles (one_events m k)) → Ran (k ∷ ks) m consoles
      on (inl after) = inl (
        after.0,
        after.1,
        subst (λ c. ReachesMacroState at code kept (flat_run m (turns (k ∷ ks))) c after.0)
            (sym (consoles_more consoles (one_events m k) (flat_events (flat_step m (entry.Processor k)) (turns ks)))) after.2,
      )
      on (inr caught) = inr caught

      by : (Covered (flat_step m (entry.Processor k)) (consoles_after consoles (one_events m k)) →
          Ran ks (flat_step m (entry.Processor k)) (consoles_after consoles (one_events m k))) → Stepped m consoles s k → Ran (k ∷ ks) m consoles
      by again (inl next) = on (again next)
      by again (inr spins) =
          inr (s, inside, spins, never_stops (k ∷ ks) m (spinner_endless at code kept m consoles s f h spins))

module _ (at : ℕ → Setting) (code : List ℕ) (kept : LocalState → LocalState) where
  -- If each processor has stopped or is about to refer, the state that the machine reaches is what is kept of it.
  pub standing_kept : (m : FlatState) (consoles : ℕ → List ℕ) (s : MacroState) → ReachesMacroState at code kept m consoles s →
      ((k : ℕ) (p : Processor) → slice_get m.processors k ≡ Some p → Stands (at k) code p) → IsKeptOf kept m consoles s
  standing_kept m consoles s h rests = record {
    shared = h.shared;
    all = h.all;
    each = λ k p e. let stood = h.each k p e in stood.1
        ∙ ap (λ z. Some (kept z)) (standing_stays stood.0 (at k) code (local_state_of p (consoles k)) (rests k p e));
  }

-- If all processors have stopped, each has stopped or is about to refer.
pub stopped_stand : (at : ℕ → Setting) (code : List ℕ) (m : FlatState) → HasStopped m → (k : ℕ) (p : Processor) → slice_get m.processors k ≡ Some p →
    Stands (at k) code p
stopped_stand at code m stopped k p e runs = let f = stopped k p e in absurd (cc)

-- A closed set has what is kept of each end.
pub ends_are_in : (at : ℕ → Setting) (code : List ℕ) (kept : LocalState → LocalState) (states : List MacroState) (m : FlatState) (consoles : ℕ →
    List ℕ) (s : MacroState) (order : List ℕ) →
    IsForgetful at code kept → IsClosed at code kept states → IsIn states s → ReachesMacroState at code kept m consoles s →
    HasStopped (flat_run m (turns order)) →
    (t : MacroState) × IsIn states t × IsKeptOf kept (flat_run m (turns order)) (consoles_after consoles (flat_events m (turns order))) t
ends_are_in at code kept states m consoles s order f closed inside h stopped =
    by (covered_run at code kept f (IsIn states) closed order m consoles s inside h)
  where
    by : Ran at code kept f (IsIn states) closed order m consoles →
        (t : MacroState) × IsIn states t × IsKeptOf kept (flat_run m (turns order)) (consoles_after consoles (flat_events m (turns order))) t
    by (inl last) = (
      last.0,
      last.1,
      standing_kept at code kept (flat_run m (turns order)) (consoles_after consoles (flat_events m (turns order))) last.0 last.2
          (stopped_stand at code (flat_run m (turns order)) stopped),
    )
    by (inr caught) = absurd (caught.3 stopped)

-- No order of turns leaves a closed set in which no processor spins.
pub not_left : (at : ℕ → Setting) (code : List ℕ) (kept : LocalState → LocalState) (states : List MacroState) (m : FlatState) (consoles : ℕ →
    List ℕ) (s : MacroState) (order : List ℕ) →
    IsForgetful at code kept → IsClosed at code kept states → HaveNoSpinner at code states → IsIn states s → ReachesMacroState at code kept m consoles s →
    (t : MacroState) × IsIn states t × ReachesMacroState at code kept (flat_run m (turns order)) (consoles_after consoles (flat_events m (turns order))) t
not_left at code kept states m consoles s order f closed none inside h =
    by (covered_run at code kept f (IsIn states) closed order m consoles s inside h)
  where
    by : Ran at code kept f (IsIn states) closed order m consoles →
        (t : MacroState) × IsIn states t × ReachesMacroState at code kept (flat_run m (turns order)) (consoles_after consoles (flat_events m (turns order))) t
    by (inl last) = last
    by (inr caught) = absurd (none caught.0 caught.1 caught.2)
