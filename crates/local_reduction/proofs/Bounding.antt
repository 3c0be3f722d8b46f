-- If at most this many moves follow one another, the moves give a number that bounds the turns of every order.
use Rattle.std.proofs.Common.{◌≡◌, ◌⊎◌, inl, inr, ℕ, ◌+◌, ◌<◌, ◌≤◌, Bool, true, false, zero, suc, List, [], ◌∷◌}
use Rattle.std.proofs.Common.{◌++◌, Option, Some, None, length, refl, sym, ap, subst, ◌∙◌, arith, length-append}
use Rattle.std.specs.Prelude.{slice_get}
use Rattle.flat_machine.specs.declared.setting.Setting.{Setting}
use Rattle.flat_machine.specs.declared.event.Event.{Event}
use Rattle.flat_machine.specs.declared.event.Retired.{Retired}
use Rattle.flat_machine.specs.declared.poke.Entry.TheVariants as entry
use Rattle.flat_machine.specs.State.{FlatState, Processor, is_running}
use Rattle.flat_machine.specs.Turns.{Turn, Retires, Reaches, Stops, turn_of}
use Rattle.flat_machine.specs.Flat.{flat_step, flat_events}
use Rattle.local_reduction.specs.LocalStates.{consoles_after, turns, LocalState, IsReference}
use Rattle.local_reduction.specs.Closing.{IsForgetful, MacroState, HasSpinner, MayMove, IsShort, ReachesMacroState}
use Rattle.local_reduction.specs.Termination.{EveryScheduleEnds}
use Rattle.local_reduction.proofs.OneTurn.{one_events, one_event, one_length, stays, silent, absent, absent_silent}
use Rattle.local_reduction.proofs.OneTurn.{found_within, some_inj, put, put_here, put_other, ReachesIn, below}
use Rattle.local_reduction.proofs.OneTurn.{counted}
use Rattle.local_reduction.proofs.Covering.{retiring_turn, stopping_turn, reaching_turn, may_move}

-- ---- sums of the first numbers

-- the sum of the first numbers
abbrev pub total : (ℕ → ℕ) → ℕ → ℕ
total f zero = 0
total f (suc n) = total f n + f n

total_same : (f g : ℕ → ℕ) (n : ℕ) → ((i : ℕ) → i < n → f i ≡ g i) → total f n ≡ total g n
total_same f g zero e = refl
total_same f g (suc n) e =
    let rest = total_same f g n (λ i l. e i (omega (arith, l))) in
    let last = e n (omega arith) in
    omega (arith, rest, last)

total_has : (f : ℕ → ℕ) (n k : ℕ) → k < n → f k ≤ total f n
total_has f zero k l = absurd (omega (arith, l))
total_has f (suc n) k l = by (λ less. total_has f n k less) (below n k l)
  where
    by : (k < n → f k ≤ total f n) → (k < n) ⊎ (k ≡ n) → f k ≤ total f n + f n
    by again (inl less) = let h = again less in omega (arith, h)
    by again (inr same) = let h : f k ≡ f n = ap f same in omega (arith, h)

-- The sum after one number is replaced differs by the difference of the two.
pub total_put : (f : ℕ → ℕ) (k n : ℕ) (count : ℕ) → k < count → total (put f k n) count + f k ≡ total f count + n
total_put f k n zero l = absurd (omega (arith, l))
total_put f k n (suc count) l = by (λ less. total_put f k n count less) (below count k l)
  where
    by : (k < count → total (put f k n) count + f k ≡ total f count + n) → (k < count) ⊎ (k ≡ count) →
        total (put f k n) (suc count) + f k ≡ total f (suc count) + n
    by again (inl less) =
        let rest = again less in
        let last : put f k n count ≡ f count = put_other f k n count (λ same. omega (arith, less, same)) in
        omega (arith, rest, last)
    by again (inr same) =
        let rest : total (put f k n) count ≡ total f count = total_same (put f k n) f count (λ i l. put_other f k n i (λ e. omega (arith, l, e, same))) in
        let last : put f k n count ≡ n = subst (λ j. put f k n j ≡ n) same (put_here f k n) in
        let own : f k ≡ f count = ap f same in
        omega (arith, rest, last, own)

module _ (at : ℕ → Setting) (code : List ℕ) (kept : LocalState → LocalState) where
  -- ---- whether a processor may move

  -- Whether a processor may move can be decided.
  pub may? : (s : MacroState) (k : ℕ) → MayMove at code s k ⊎ (MayMove at code s k → ⊥)
  may? s k = by_local_state (slice_get s.local_states k) refl
    where
      by_turn : (a : LocalState) → slice_get s.local_states k ≡ Some a → is_running a.processor.status ≡ true → (x : Turn) →
          turn_of (at k) code a.processor ≡ x →
          MayMove at code s k ⊎ (MayMove at code s k → ⊥)
      by_turn a there runs (Retires p r) e =
          inr (λ w. subst IsReference (ap (λ (b : LocalState). turn_of (at k) code b.processor) (some_inj w.local_state a (sym w.there ∙ there)) ∙ e) w.refers)
      by_turn a there runs (Stops c) e =
          inr (λ w. subst IsReference (ap (λ (b : LocalState). turn_of (at k) code b.processor) (some_inj w.local_state a (sym w.there ∙ there)) ∙ e) w.refers)
      by_turn a there runs (Reaches word change after) e =
          inl (record { local_state = a; there = there; runs = runs; refers = subst IsReference (sym e) tt })

      by_running : (a : LocalState) → slice_get s.local_states k ≡ Some a → (b : Bool) → is_running a.processor.status ≡ b →
          MayMove at code s k ⊎ (MayMove at code s k → ⊥)
      by_running a there true runs = by_turn a there runs (turn_of (at k) code a.processor) refl
      by_running a there false stands =
          inr (λ w.
          let same : is_running w.local_state.processor.status ≡ is_running a.processor.status =
          ap (λ (b : LocalState). is_running b.processor.status) (some_inj w.local_state a (sym w.there ∙ there)) in
          let both : true ≡ false = sym w.runs ∙ (same ∙ stands) in
          absurd (cc))

      by_local_state : (o : Option LocalState) → slice_get s.local_states k ≡ o → MayMove at code s k ⊎ (MayMove at code s k → ⊥)
      by_local_state None none = inr (λ w. let both : Some w.local_state ≡ None = sym w.there ∙ none in absurd (cc))
      by_local_state (Some a) there = by_running a there (is_running a.processor.status) refl

  -- ---- how many turns are left

  abbrev part : {X : Type 0} → X ⊎ (X → ⊥) → (X → ℕ) → ℕ
  part (inl w) g = g w
  part (inr none) g = 0

  -- the most turns that moves still to come can take: for each processor one reference, the turns alone after it, and
  -- so on
  abbrev price : (n : ℕ) (s : MacroState) → IsShort at code kept n s → ℕ
  price zero s h = 0
  price (suc n) s h = total (λ k. part (may? s k) (λ w. suc ((h.1 k w).1.count + price n (h.1 k w).0 (h.1 k w).2))) (length s.local_states)

  -- No processor spins in a state from which at most this many moves follow one another.
  no_spinner : (n : ℕ) (s : MacroState) → IsShort at code kept n s → HasSpinner at code s → ⊥
  no_spinner zero s h spins = h.0 spins
  no_spinner (suc n) s h spins = h.0 spins

  -- The turns taken are at most those alone that are left, and those of the moves to come.
  abbrev IsWithin : List ℕ → Type 0
  IsWithin order =
      (n : ℕ) (s : MacroState) (h : IsShort at code kept n s) (m : FlatState) (consoles : ℕ → List ℕ) (counts : ℕ → ℕ) →
      ReachesIn at code kept m consoles counts s → length (flat_events m (turns order)) ≤ total counts (length m.processors) + price n s h

  module _ (f : IsForgetful at code kept) (k : ℕ) (ks : List ℕ) (again : IsWithin ks) (s : MacroState) (m : FlatState) (consoles : ℕ → List ℕ)
      (counts : ℕ → ℕ) (reaches : ReachesIn at code kept m consoles counts s) where
    abbrev rest_of : List (ℕ × Event)
    rest_of = flat_events (flat_step m (entry.Processor k)) (turns ks)

    idle : flat_step m (entry.Processor k) ≡ m → one_events m k ≡ [] → (n : ℕ) (h : IsShort at code kept n s) →
        length (one_events m k ++ rest_of) ≤ total counts (length m.processors) + price n s h
    idle same none n h =
        let rest = again n s h m consoles counts reaches in
        let events : length (one_events m k ++ rest_of) ≡ length (flat_events m (turns ks)) = λ i. length (none i ++ flat_events (same i) (turns ks)) in
        omega (arith, rest, events)

    module _ (p : Processor) (there : slice_get m.processors k ≡ Some p) (runs : is_running p.status ≡ true) where
      split : length (one_events m k ++ rest_of) ≡ suc (length rest_of)
      split =
          let all = length-append (one_events m k) rest_of in
          let one = one_event m k p there runs in
          omega (arith, all, one)

      put_in : (n : ℕ) → total (put counts k n) (length (flat_step m (entry.Processor k)).processors) + counts k ≡ total counts (length m.processors) + n
      put_in n =
          ap (λ c. total (put counts k n) c + counts k) (one_length m k p there runs)
          ∙ total_put counts k n (length m.processors) (found_within m.processors k p there)

      near : ((i : ℕ) × (counts k ≡ suc i)
          × ReachesIn at code kept (flat_step m (entry.Processor k)) (consoles_after consoles (one_events m k)) (put counts k i) s)
          ⊎ ((counts k ≡ 0) × HasSpinner at code s) →
          (n : ℕ) (h : IsShort at code kept n s) → length (one_events m k ++ rest_of) ≤ total counts (length m.processors) + price n s h
      near (inr spins) n h = absurd (no_spinner n s h spins.1)
      near (inl x) n h =
          let rest = again n s h (flat_step m (entry.Processor k)) (consoles_after consoles (one_events m k)) (put counts k x.0) x.2 in
          let sums = put_in x.0 in
          let was = x.1 in
          omega (arith, rest, sums, was, split)

      far : (word : ℕ) (change : ℕ → ℕ) (after : ℕ → Processor × Retired) → turn_of (at k) code p ≡ Reaches word change after →
          (n : ℕ) (h : IsShort at code kept n s) → length (one_events m k ++ rest_of) ≤ total counts (length m.processors) + price n s h
      far word change after e zero h = absurd (h.1 k (may_move at code kept m consoles counts s k reaches p there runs f word change after e))
      far word change after e (suc n) h = by (may? s k) refl
        where
          by : (d : MayMove at code s k ⊎ (MayMove at code s k → ⊥)) → may? s k ≡ d →
              length (one_events m k ++ rest_of) ≤ total counts (length m.processors) + price (suc n) s h
          by (inr none) is = absurd (none (may_move at code kept m consoles counts s k reaches p there runs f word change after e))
          by (inl w) is =
              let move = (h.1 k w).1 in
              let rest = again n (h.1 k w).0 (h.1 k w).2 (flat_step m (entry.Processor k)) (consoles_after consoles (one_events m k)) (put counts k move.count)
              (reaching_turn at code kept m consoles counts s k reaches p there runs f word change after e (h.1 k w).0 move) in
              let sums = put_in move.count in
              let cost = total_has (λ j. part (may? s j) (λ v. suc ((h.1 j v).1.count + price n (h.1 j v).0 (h.1 j v).2))) (length s.local_states) k
              (found_within s.local_states k w.local_state w.there) in
              let own : part (may? s k) (λ v. suc ((h.1 k v).1.count + price n (h.1 k v).0 (h.1 k v).2)) ≡ suc (move.count + price n (h.1 k w).0 (h.1 k w).2) =
              ap (λ d. part d (λ v. suc ((h.1 k v).1.count + price n (h.1 k v).0 (h.1 k v).2))) is in
              omega (arith, rest, sums, cost, own, split)

    one_more : (n : ℕ) (h : IsShort at code kept n s) → length (one_events m k ++ rest_of) ≤ total counts (length m.processors) + price n s h
    one_more n h = by_processor (slice_get m.processors k) refl
      where
        by_turn : (p : Processor) → slice_get m.processors k ≡ Some p → is_running p.status ≡ true → (x : Turn) → turn_of (at k) code p ≡ x →
            length (one_events m k ++ rest_of) ≤ total counts (length m.processors) + price n s h
        by_turn p there runs (Retires q r) e = near p there runs (retiring_turn at code kept m consoles counts s k reaches p there runs f q r e) n h
        by_turn p there runs (Stops c) e = near p there runs (stopping_turn at code kept m consoles counts s k reaches p there runs f c e) n h
        by_turn p there runs (Reaches word change after) e = far p there runs word change after e n h

        by_running : (p : Processor) → slice_get m.processors k ≡ Some p → (b : Bool) → is_running p.status ≡ b →
            length (one_events m k ++ rest_of) ≤ total counts (length m.processors) + price n s h
        by_running p there true runs = by_turn p there runs (turn_of (at k) code p) refl
        by_running p there false stopped = idle (stays m k p there stopped) (silent m k p there stopped) n h

        by_processor : (o : Option Processor) → slice_get m.processors k ≡ o →
            length (one_events m k ++ rest_of) ≤ total counts (length m.processors) + price n s h
        by_processor None none = idle (absent m k none) (absent_silent m k none) n h
        by_processor (Some p) there = by_running p there (is_running p.status) refl

  within : IsForgetful at code kept → (order : List ℕ) → IsWithin order
  within f [] n s h m consoles counts reaches = omega arith
  within f (k ∷ ks) n s h m consoles counts reaches = one_more f k ks (within f ks) s m consoles counts reaches n h

-- If the number of moves from the state that a flat machine reaches is bounded, every schedule of the machine ends.
pub bounded : (at : ℕ → Setting) (code : List ℕ) (kept : LocalState → LocalState) (m : FlatState) (consoles : ℕ → List ℕ) (s : MacroState) (most : ℕ) →
    IsForgetful at code kept → ReachesMacroState at code kept m consoles s → IsShort at code kept most s → EveryScheduleEnds m
bounded at code kept m consoles s most f reaches h =
    let x = counted at code kept m consoles s reaches in (
      total x.0 (length m.processors) + price at code kept most s h,
      λ order. within at code kept f order most s h m consoles x.0 x.1,
    )
