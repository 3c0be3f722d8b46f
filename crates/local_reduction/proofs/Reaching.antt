-- Each state to which moves lead is what is kept of the flat machine after some turns.
use Rattle.std.proofs.Common.{◌≡◌, ◌⊎◌, inl, inr, ℕ, ◌+◌, ◌<◌, ◌≤◌, length-append, Bool, true, false, zero}
use Rattle.std.proofs.Common.{suc, List, [], ◌∷◌, Some, length, refl, sym, ap, subst, ◌∙◌, arith}
use Rattle.std.specs.Prelude.{slice_get}
use Rattle.flat_machine.specs.declared.setting.Setting.{Setting}
use Rattle.flat_machine.specs.declared.poke.Entry.TheVariants as entry
use Rattle.flat_machine.specs.State.{FlatState, Processor, is_running}
use Rattle.flat_machine.specs.Turns.{Turn, Retires, Reaches, Stops, turn_of}
use Rattle.flat_machine.specs.Flat.{flat_step, flat_run, flat_events}
use Rattle.local_reduction.specs.LocalStates.{consoles_after, turns, LocalState, IsReference}
use Rattle.local_reduction.specs.Closing.{IsForgetful, MacroState, HasSpinner, IsMove, IsWay, local_state_of, ReachesMacroState, IsKeptOf, AreAtReference}
use Rattle.local_reduction.specs.Termination.{turns_taken}
use Rattle.local_reduction.proofs.OneTurn.{Stands, one_events, one_event, found_within, found_there, some_inj, consoles_more}
use Rattle.local_reduction.proofs.OneTurn.{StandsIn, ReachesIn, counted, uncounted, none_counted, below, put, put_here, put_other, reference_alike}
use Rattle.local_reduction.proofs.Covering.{retiring_turn, stopping_turn, reaching_turn}

-- ---- some turns later

-- Some turns, of which at least this many are taken, lead to a machine and consoles with this property.
After : FlatState → (ℕ → List ℕ) → (least : ℕ) → (FlatState → (ℕ → List ℕ) → Type 0) → Type 0
After m consoles least P =
    (order : List ℕ) × P (flat_run m (turns order)) (consoles_after consoles (flat_events m (turns order))) × (least ≤ length (flat_events m (turns order)))

after_none : (m : FlatState) (consoles : ℕ → List ℕ) (P : FlatState → (ℕ → List ℕ) → Type 0) → P m consoles → After m consoles 0 P
unfolding After
after_none m consoles P x = ([], x, omega arith)

module _ (m : FlatState) (consoles : ℕ → List ℕ) (least : ℕ) (P : FlatState → (ℕ → List ℕ) → Type 0) (k : ℕ) where
  after_more : (most : ℕ) → most ≤ length (one_events m k) + least →
      After (flat_step m (entry.Processor k)) (consoles_after consoles (one_events m k)) least P → After m consoles most P
  unfolding After
  after_more most enough x = (
    k ∷ x.0,
    subst (P (flat_run m (turns (k ∷ x.0))))
        (sym (consoles_more consoles (one_events m k) (flat_events (flat_step m (entry.Processor k)) (turns x.0)))) x.1,
    (let all = length-append (one_events m k) (flat_events (flat_step m (entry.Processor k)) (turns x.0)) in
        let rest = x.2 in
        omega (arith, all, rest, enough)),
  )

  after_turn : After (flat_step m (entry.Processor k)) (consoles_after consoles (one_events m k)) least P → After m consoles least P
  after_turn x = after_more least (omega arith) x

chained : (P Q : FlatState → (ℕ → List ℕ) → Type 0) (least : ℕ) (order : List ℕ) (m : FlatState) (consoles : ℕ → List ℕ) →
    P (flat_run m (turns order)) (consoles_after consoles (flat_events m (turns order))) →
    ((n : FlatState) (c : ℕ → List ℕ) → P n c → After n c least Q) → After m consoles least Q
chained P Q least [] m consoles x go = go m consoles x
chained P Q least (k ∷ ks) m consoles x go =
    after_turn m consoles least Q k (chained P Q least ks (flat_step m (entry.Processor k)) (consoles_after consoles (one_events m k))
    (subst (P (flat_run m (turns (k ∷ ks)))) (consoles_more consoles (one_events m k) (flat_events (flat_step m (entry.Processor k)) (turns ks))) x) go)

then_after : (P Q : FlatState → (ℕ → List ℕ) → Type 0) (least : ℕ) (m : FlatState) (consoles : ℕ → List ℕ) → After m consoles 0 P →
    ((n : FlatState) (c : ℕ → List ℕ) → P n c → After n c least Q) → After m consoles least Q
unfolding After
then_after P Q least m consoles x go = chained P Q least x.0 m consoles x.1 go

-- ---- what each processor does alone

module _ (at : ℕ → Setting) (code : List ℕ) (kept : LocalState → LocalState) (f : IsForgetful at code kept) where
  -- The machine reaches s, and the processors below j need no turns.
  abbrev Calm : ℕ → MacroState → FlatState → (ℕ → List ℕ) → Type 0
  Calm j s m consoles = (counts : ℕ → ℕ) × ReachesIn at code kept m consoles counts s × ((i : ℕ) → i < j → counts i ≡ 0)

  module _ (n k : ℕ) (s : MacroState) (m : FlatState) (consoles : ℕ → List ℕ) (counts : ℕ → ℕ) (h : ReachesIn at code kept m consoles counts s)
      (calm : (i : ℕ) → i < k → counts i ≡ 0) (left : counts k ≡ suc n) (p : Processor) (there : slice_get m.processors k ≡ Some p) where
    -- One turn alone, if n more are known to be enough.
    calm_turn : ((m' : FlatState) (c : ℕ → List ℕ) (counts' : ℕ → ℕ) → ReachesIn at code kept m' c counts' s → ((i : ℕ) → i < k → counts' i ≡ 0) →
        counts' k ≡ n → After m' c 0 (Calm (suc k) s)) → After m consoles 0 (Calm (suc k) s)
    calm_turn again = by_running (is_running p.status) refl
      where
        below_put : (x i : ℕ) → i < k → put counts k x i ≡ 0
        below_put x i less = put_other counts k x i (λ same. omega (arith, less, same)) ∙ calm i less

        stood : Stands (at k) code p → After m consoles 0 (Calm (suc k) s)
        stood stands =
            after_none m consoles (Calm (suc k) s) (
              put counts k 0,
              none_counted at code kept m consoles s k p consoles counts h there (λ j ne. refl) stands (λ j. refl),
              λ i less. by i (below k i less),
            )
          where
            by : (i : ℕ) → (i < k) ⊎ (i ≡ k) → put counts k 0 i ≡ 0
            by i (inl less) = below_put 0 i less
            by i (inr same) = ap (put counts k 0) same ∙ put_here counts k 0

        goes : ((x : ℕ) × (counts k ≡ suc x)
            × ReachesIn at code kept (flat_step m (entry.Processor k)) (consoles_after consoles (one_events m k)) (put counts k x) s)
            ⊎ ((counts k ≡ 0) × HasSpinner at code s) → After m consoles 0 (Calm (suc k) s)
        goes (inl near) =
            after_turn m consoles 0 (Calm (suc k) s) k
            (again (flat_step m (entry.Processor k)) (consoles_after consoles (one_events m k)) (put counts k near.0) near.2 (below_put near.0)
            (put_here counts k near.0 ∙ (let one = near.1 in omega (arith, one, left))))
        goes (inr spins) = let none = spins.0 in absurd (omega (arith, none, left))

        by_turn : is_running p.status ≡ true → (x : Turn) → turn_of (at k) code p ≡ x → After m consoles 0 (Calm (suc k) s)
        by_turn runs (Retires q r) e = goes (retiring_turn at code kept m consoles counts s k h p there runs f q r e)
        by_turn runs (Stops cause) e = goes (stopping_turn at code kept m consoles counts s k h p there runs f cause e)
        by_turn runs (Reaches word change after) e = stood (λ _. subst IsReference (sym e) tt)

        by_running : (b : Bool) → is_running p.status ≡ b → After m consoles 0 (Calm (suc k) s)
        by_running true runs = by_turn runs (turn_of (at k) code p) refl
        by_running false stands = stood (λ runs. absurd (cc))

  one_calm : (n k : ℕ) (s : MacroState) → k < length s.local_states → (m : FlatState) (consoles : ℕ → List ℕ) (counts : ℕ → ℕ) →
      ReachesIn at code kept m consoles counts s → ((i : ℕ) → i < k → counts i ≡ 0) → counts k ≡ n → After m consoles 0 (Calm (suc k) s)
  one_calm zero k s few m consoles counts h calm none = after_none m consoles (Calm (suc k) s) (counts, h, λ i less. by i (below k i less))
    where
      by : (i : ℕ) → (i < k) ⊎ (i ≡ k) → counts i ≡ 0
      by i (inl less) = calm i less
      by i (inr same) = ap counts same ∙ none
  one_calm (suc n) k s few m consoles counts h calm left =
      let all = h.all in
      let p = found_there m.processors k (omega (arith, few, all)) in
      calm_turn n k s m consoles counts h calm left p.0 p.1 (one_calm n k s few)

  all_calm : (j : ℕ) (s : MacroState) (m : FlatState) (consoles : ℕ → List ℕ) → j ≤ length s.local_states → ReachesMacroState at code kept m consoles s →
      After m consoles 0 (Calm j s)
  all_calm zero s m consoles few h =
      let c = counted at code kept m consoles s h in
      after_none m consoles (Calm zero s) (c.0, c.1, λ i less. absurd (omega (arith, less)))
  all_calm (suc j) s m consoles few h =
      then_after (Calm j s) (Calm (suc j) s) 0 m consoles (all_calm j s m consoles (omega (arith, few)) h)
      (λ n c calm. one_calm (calm.0 j) j s (omega (arith, few)) n c calm.0 calm.1 calm.2 refl)

  -- The machine reaches s without any turn: s is what is kept of it.
  abbrev Rests : MacroState → FlatState → (ℕ → List ℕ) → Type 0
  Rests s m consoles = ReachesIn at code kept m consoles (λ k. 0) s

  rested : (s : MacroState) (m : FlatState) (consoles : ℕ → List ℕ) → Calm (length s.local_states) s m consoles → Rests s m consoles
  rested s m consoles calm = record {
    settings = calm.1.settings;
    code_is = calm.1.code_is;
    shared = calm.1.shared;
    all = calm.1.all;
    each = λ k p e.
        let all = calm.1.all in
        let less = found_within m.processors k p e in
        let none = calm.2 k (omega (arith, all, less)) in
        subst (λ n. StandsIn at code kept s k n (local_state_of p (consoles k))) none (calm.1.each k p e);
  }

  rests : (s : MacroState) (m : FlatState) (consoles : ℕ → List ℕ) → ReachesMacroState at code kept m consoles s → After m consoles 0 (Rests s)
  rests s m consoles h =
      then_after (Calm (length s.local_states) s) (Rests s) 0 m consoles (all_calm (length s.local_states) s m consoles (omega arith) h)
      (λ n c calm. after_none n c (Rests s) (rested s n c calm))

  rests_kept : (s : MacroState) (m : FlatState) (consoles : ℕ → List ℕ) → Rests s m consoles → IsKeptOf kept m consoles s
  rests_kept s m consoles h = record { shared = h.shared; all = h.all; each = λ k p e. (h.each k p e).0 }

  -- ---- moves

  module _ (s u : MacroState) (k : ℕ) (m : FlatState) (consoles : ℕ → List ℕ) (h : Rests s m consoles) (move : IsMove at code kept s k u) where
    -- The processor that moves is about to refer to a word.
    record Mover : Type 0 where
      p : Processor
      there : slice_get m.processors k ≡ Some p
      runs : is_running p.status ≡ true
      refers : IsReference (turn_of (at k) code p)

    mover : Mover
    mover = by found.0 found.1
      where
        found : (p : Processor) × (slice_get m.processors k ≡ Some p)
        found =
            let all = h.all in
            let less = found_within s.local_states k move.local_state move.there in
            found_there m.processors k (omega (arith, all, less))

        by : (p : Processor) → slice_get m.processors k ≡ Some p → Mover
        by p there = record { p = p; there = there; runs = runs; refers = refers }
          where
            is : kept (local_state_of p (consoles k)) ≡ move.local_state
            is = some_inj (kept (local_state_of p (consoles k))) move.local_state (sym (h.each k p there).0 ∙ move.there)

            runs : is_running p.status ≡ true
            runs = sym (f.running (local_state_of p (consoles k))) ∙ (ap (λ (a : LocalState). is_running a.processor.status) is ∙ move.runs)

            refers : IsReference (turn_of (at k) code p)
            refers =
                reference_alike at code kept f (kept (local_state_of p (consoles k))) (local_state_of p (consoles k))
                (turn_of (at k) code (kept (local_state_of p (consoles k))).processor) (turn_of (at k) code p)
                (f.turn k (local_state_of p (consoles k)) runs)
                (subst (λ (a : LocalState). IsReference (turn_of (at k) code a.processor)) (sym is) (subst IsReference (sym move.turn) tt))

    moved_once : ReachesMacroState at code kept (flat_step m (entry.Processor k)) (consoles_after consoles (one_events m k)) u
    moved_once = by_turn (turn_of (at k) code mover.p) refl mover.refers
      where
        by_turn : (x : Turn) → turn_of (at k) code mover.p ≡ x → IsReference (turn_of (at k) code mover.p) →
            ReachesMacroState at code kept (flat_step m (entry.Processor k)) (consoles_after consoles (one_events m k)) u
        by_turn (Retires q r) e refers = absurd (subst IsReference e refers)
        by_turn (Stops c) e refers = absurd (subst IsReference e refers)
        by_turn (Reaches word change after) e refers =
            uncounted at code kept (flat_step m (entry.Processor k)) (consoles_after consoles (one_events m k)) u (put (λ j. 0) k move.count)
            (reaching_turn at code kept m consoles (λ j. 0) s k h mover.p mover.there mover.runs f word change after e u move)

  moved_all : (way : List (ℕ × MacroState)) (s t : MacroState) (m : FlatState) (consoles : ℕ → List ℕ) → ReachesMacroState at code kept m consoles s →
      IsWay at code kept s way t →
      After m consoles (length way) (Rests t)
  moved_all [] s t m consoles h e = subst (λ u. After m consoles 0 (Rests u)) e (rests s m consoles h)
  moved_all ((k, u) ∷ way) s t m consoles h w =
      then_after (Rests s) (Rests t) (suc (length way)) m consoles (rests s m consoles h) (λ n c r.
      let p = mover s u k n c r w.0 in
      let one = one_event n k p.p p.there p.runs in
      after_more n c (length way) (Rests t) k (suc (length way)) (omega (arith, one))
      (moved_all way u t (flat_step n (entry.Processor k)) (consoles_after c (one_events n k)) (moved_once s u k n c r w.0) w.1))

-- If moves lead from the state that the flat machine reaches to another, some order of turns leads the machine to
-- that one. At least as many turns as moves are taken, and each processor is at its reference after them.
pub moves_are : (at : ℕ → Setting) (code : List ℕ) (kept : LocalState → LocalState) (m : FlatState) (consoles : ℕ →
    List ℕ) (s : MacroState) (way : List (ℕ × MacroState)) (t : MacroState) →
    IsForgetful at code kept → ReachesMacroState at code kept m consoles s → IsWay at code kept s way t →
    (order : List ℕ) × IsKeptOf kept (flat_run m (turns order)) (consoles_after consoles (flat_events m (turns order))) t
    × AreAtReference at code (flat_run m (turns order))
    × ReachesMacroState at code kept (flat_run m (turns order)) (consoles_after consoles (flat_events m (turns order))) t
    × (length way ≤ turns_taken m order)
unfolding After
moves_are at code kept m consoles s way t f h w =
    let done : After m consoles (length way) (Rests at code kept f t) = moved_all at code kept f way s t m consoles h w in (
      done.0,
      rests_kept at code kept f t (flat_run m (turns done.0)) (consoles_after consoles (flat_events m (turns done.0))) done.1,
      λ k p e. (done.1.each k p e).1,
      uncounted at code kept (flat_run m (turns done.0)) (consoles_after consoles (flat_events m (turns done.0))) t (λ k. 0) done.1,
      done.2,
    )
