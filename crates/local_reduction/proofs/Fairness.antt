-- If ranks of states never rise, and fall as soon as the helper of a state moves, every fair schedule ends.
use Rattle.std.proofs.Common.{◌≡◌, ◌≢◌, ◌⊎◌, inl, inr, ℕ, ◌+◌, ◌-◌, ◌<◌, ◌≤◌, Bool, true, false, zero, suc, List, [], ◌∷◌, Option, Some, None}
use Rattle.std.proofs.Common.{length, refl, sym, ap, subst, ◌∙◌, arith}
use Rattle.std.specs.Prelude.{slice_get}
use Rattle.std.proofs.lemmas.Bool.{cases_eq, cases_lt}
use Rattle.flat_machine.specs.declared.setting.Setting.{Setting}
use Rattle.flat_machine.specs.State.{FlatState, Processor, is_running}
use Rattle.flat_machine.specs.Turns.{Turn, Retires, Reaches, Stops, turn_of}
use Rattle.flat_machine.proofs.Lemmas.{set_other}
use Rattle.local_reduction.specs.LocalStates.{LocalState, alone, consoles_after}
use Rattle.local_reduction.specs.Closing.{HasSpinner, HasStopped, IsForgetful, MacroState, MayMove, ReachesMacroState, local_state_of}
use Rattle.local_reduction.specs.Termination.{AreFairlyRanked, EveryFairScheduleEnds, IsFair, RunsAfter, after_turns}
use Rattle.local_reduction.proofs.OneTurn.{ReachesIn, absent, absent_silent, counted, found_there, found_within, one_events, one_length}
use Rattle.local_reduction.proofs.OneTurn.{put, put_here, put_other, silent, some_inj, standing_stays, stays}
use Rattle.local_reduction.proofs.Covering.{idle_turn, may_move, reaching_turn, retiring_turn, stopping_turn}
use Rattle.local_reduction.proofs.Bounding.{may?, total, total_put}

-- ---- processors that run

-- A processor of the list runs.
abbrev HasRunning : List Processor → Type 0
HasRunning ps = (k : ℕ) × (p : Processor) × (slice_get ps k ≡ Some p) × (is_running p.status ≡ true)

-- No processor of the list runs.
abbrev NoneRuns : List Processor → Type 0
NoneRuns ps = (k : ℕ) (p : Processor) → slice_get ps k ≡ Some p → is_running p.status ≡ false

some_runs : (ps : List Processor) → HasRunning ps ⊎ NoneRuns ps
some_runs [] = inr (λ k p e. absurd (cc))
some_runs (q ∷ qs) = by (is_running q.status) refl (some_runs qs)
  where
    all : is_running q.status ≡ false → NoneRuns qs → NoneRuns (q ∷ qs)
    all stopped rest zero p e = ap (λ (x : Processor). is_running x.status) (sym (some_inj q p e)) ∙ stopped
    all stopped rest (suc k) p e = rest k p e

    by : (b : Bool) → is_running q.status ≡ b → HasRunning qs ⊎ NoneRuns qs → HasRunning (q ∷ qs) ⊎ NoneRuns (q ∷ qs)
    by true runs rest = inl (0, q, refl, runs)
    by false stopped (inl x) = inl (suc x.0, x.1, x.2, x.3)
    by false stopped (inr none) = inr (all stopped none)

-- A processor that may move in the state that the flat machine reaches runs.
pub runs_in : (at : ℕ → Setting) (code : List ℕ) (kept : LocalState → LocalState) → IsForgetful at code kept → (m : FlatState) (consoles : ℕ → List ℕ)
    (counts : ℕ → ℕ) (s : MacroState) → ReachesIn at code kept m consoles counts s → (k : ℕ) → MayMove at code s k →
    (p : Processor) × (slice_get m.processors k ≡ Some p) × (is_running p.status ≡ true)
runs_in at code kept f m consoles counts s h k w =
    by (found_there m.processors k (subst (λ c. k < c) h.all (found_within s.local_states k w.local_state w.there)))
  where
    by : (p : Processor) × (slice_get m.processors k ≡ Some p) → (p : Processor) × (slice_get m.processors k ≡ Some p) × (is_running p.status ≡ true)
    by x = (x.0, x.1, by_running (is_running x.0.status) refl)
      where
        here : LocalState
        here = local_state_of x.0 (consoles k)

        runs : is_running (alone (counts k) (at k) code here).processor.status ≡ true
        runs =
            sym (f.running (alone (counts k) (at k) code here))
            ∙ (ap (λ (a : LocalState). is_running a.processor.status) (some_inj _ w.local_state (sym (h.each k x.0 x.1).0 ∙ w.there)) ∙ w.runs)

        by_running : (b : Bool) → is_running x.0.status ≡ b → is_running x.0.status ≡ true
        by_running true e = e
        by_running false e =
            let stood = standing_stays (counts k) (at k) code here (λ running. let both : true ≡ false = sym running ∙ e in absurd (cc)) in
            sym (ap (λ (a : LocalState). is_running a.processor.status) stood) ∙ runs

module _ (at : ℕ → Setting) (code : List ℕ) (kept : LocalState → LocalState) (f : IsForgetful at code kept)
    (state : ℕ → MacroState) (count : ℕ) (rank helper : ℕ → ℕ) (right : AreFairlyRanked at code kept state count rank helper)
    (m : FlatState) (schedule : ℕ → ℕ) (fair : IsFair m schedule) where
  abbrev now : ℕ → FlatState
  now n = after_turns m schedule n

  abbrev Runs : (n k : ℕ) → Type 0
  Runs n k = RunsAfter m schedule n k

  abbrev Ends : Type 0
  Ends = (n : ℕ) × HasStopped (now n)

  -- After n turns the flat machine reaches state i, by these counts.
  record Stands (n i : ℕ) (counts : ℕ → ℕ) : Type 0 where
    pub within : i < count
    pub consoles : ℕ → List ℕ
    pub reaches : ReachesIn at code kept (now n) consoles counts (state i)

  -- ---- one turn

  -- The processor whose turn it is does not run.
  record Idle (n i : ℕ) (counts : ℕ → ℕ) : Type 0 where
    pub rests : Runs n (schedule n) → ⊥
    pub same : now (suc n) ≡ now n
    pub stands : Stands (suc n) i counts

  -- It takes one of its turns alone.
  record Alone (n i : ℕ) (counts : ℕ → ℕ) : Type 0 where
    pub runs : Runs n (schedule n)
    pub less : ℕ
    pub one : counts (schedule n) ≡ suc less
    pub stands : Stands (suc n) i (put counts (schedule n) less)

  -- Its move leads to one of lesser rank or, unless it is the helper, to one of the same rank with the same helper.
  abbrev IsLesser : (n i next : ℕ) → Type 0
  IsLesser n i next = (rank next < rank i) ⊎ ((rank next ≡ rank i) × (helper next ≡ helper i) × (schedule n ≡ helper i → ⊥))

  -- It moves.
  record Moved (n i : ℕ) (counts : ℕ → ℕ) : Type 0 where
    pub may : MayMove at code (state i) (schedule n)
    pub next : ℕ
    pub alone : ℕ
    pub stands : Stands (suc n) next (put counts (schedule n) alone)
    pub lesser : IsLesser n i next
    pub others : (k : ℕ) → k ≢ schedule n → slice_get (state next).local_states k ≡ slice_get (state i).local_states k

  abbrev Turned : (n i : ℕ) → (ℕ → ℕ) → Type 0
  Turned n i counts = Idle n i counts ⊎ (Alone n i counts ⊎ Moved n i counts)

  module _ (n i : ℕ) (counts : ℕ → ℕ) (h : Stands n i counts) where
    abbrev j : ℕ
    j = schedule n

    idle : (Runs n j → ⊥) → now (suc n) ≡ now n → one_events (now n) j ≡ [] → Turned n i counts
    idle rests same none = inl (record {
      rests = rests;
      same = same;
      stands = record {
        within = h.within;
        consoles = consoles_after h.consoles (one_events (now n) j);
        reaches = idle_turn at code kept (now n) h.consoles counts (state i) j h.reaches same none;
      };
    })

    module _ (p : Processor) (there : slice_get (now n).processors j ≡ Some p) (runs : is_running p.status ≡ true) where
      near : ((less : ℕ) × (counts j ≡ suc less)
          × ReachesIn at code kept (now (suc n)) (consoles_after h.consoles (one_events (now n) j)) (put counts j less) (state i))
          ⊎ ((counts j ≡ 0) × HasSpinner at code (state i)) → Turned n i counts
      near (inr spins) = absurd ((right i h.within).spins spins.1)
      near (inl x) = inr (inl (record {
        runs = (p, there, runs);
        less = x.0;
        one = x.1;
        stands = record {
          within = h.within;
          consoles = consoles_after h.consoles (one_events (now n) j);
          reaches = x.2;
        };
      }))

      far : (word : ℕ) (change : ℕ → ℕ) (after : _) → turn_of (at j) code p ≡ Reaches word change after → Turned n i counts
      far word change after e =
          let may = may_move at code kept (now n) h.consoles counts (state i) j h.reaches p there runs f word change after e in
          let led = (right i h.within).leads j may in
          inr (inr (record {
            may = may;
            next = led.next;
            alone = led.move.count;
            stands = record {
              within = led.within;
              consoles = consoles_after h.consoles (one_events (now n) j);
              reaches = reaching_turn at code kept (now n) h.consoles counts (state i) j h.reaches p there runs f word change after e (state led.next) led.move;
            };
            lesser = led.lesser;
            others = λ k other. ap (λ (t : MacroState). slice_get t.local_states k) led.move.leaves
                ∙ set_other (state i).local_states j k _ other;
          }))

    turn : Turned n i counts
    turn = by_processor (slice_get (now n).processors j) refl
      where
        by_turn : (p : Processor) → slice_get (now n).processors j ≡ Some p → is_running p.status ≡ true → (x : Turn) → turn_of (at j) code p ≡ x →
            Turned n i counts
        by_turn p there runs (Retires q o) e =
            near p there runs (retiring_turn at code kept (now n) h.consoles counts (state i) j h.reaches p there runs f q o e)
        by_turn p there runs (Stops c) e =
            near p there runs (stopping_turn at code kept (now n) h.consoles counts (state i) j h.reaches p there runs f c e)
        by_turn p there runs (Reaches word change after) e = far p there runs word change after e

        by_running : (p : Processor) → slice_get (now n).processors j ≡ Some p → (b : Bool) → is_running p.status ≡ b → Turned n i counts
        by_running p there true runs = by_turn p there runs (turn_of (at j) code p) refl
        by_running p there false stopped =
            idle (λ x.
            let both : true ≡ false = sym x.2 ∙ (ap (λ (q : Processor). is_running q.status) (some_inj x.0 p (sym x.1 ∙ there)) ∙ stopped) in
            absurd (cc))
            (stays (now n) j p there stopped) (silent (now n) j p there stopped)

        by_processor : (o : Option Processor) → slice_get (now n).processors j ≡ o → Turned n i counts
        by_processor None none =
            idle (λ x. let both : Some x.0 ≡ None = sym x.1 ∙ none in absurd (cc)) (absent (now n) j none) (absent_silent (now n) j none)
        by_processor (Some p) there = by_running p there (is_running p.status) refl

    -- A processor that may move in the state runs.
    runs_of : (k : ℕ) → MayMove at code (state i) k → Runs n k
    runs_of k w = runs_in at code kept f (now n) h.consoles counts (state i) h.reaches k w

  -- ---- the helper moves at last

  -- From each state of lesser rank the schedule ends.
  abbrev EndsBelow : (b : ℕ) → Type 0
  EndsBelow b = (n i : ℕ) (counts : ℕ → ℕ) → rank i < b → Stands n i counts → Ends

  -- The helper k, which takes a turn after d others, has c turns alone until it moves.
  abbrev ChasedIn : (b c d : ℕ) → Type 0
  ChasedIn b c d =
      (n i k : ℕ) (counts : ℕ → ℕ) → Stands n i counts → rank i ≡ b → helper i ≡ k → MayMove at code (state i) k → counts k ≡ c →
      schedule (n + d) ≡ k → Ends

  abbrev Chased : (b c : ℕ) → Type 0
  Chased b c = (d : ℕ) → ChasedIn b c d

  module _ (b : ℕ) (low : EndsBelow b) where
    -- The helper's next turn.
    next_turn : (n i k : ℕ) (counts : ℕ → ℕ) → Stands n i counts → MayMove at code (state i) k → (d : ℕ) × (schedule (n + d) ≡ k)
    next_turn n i k counts h w =
        let x = fair n k (runs_of n i counts h k w) in
        (x.0 - n, ap schedule (omega (arith, x.1)) ∙ x.2)

    module _ (c : ℕ) (again : (less : ℕ) → c ≡ suc less → Chased b less) where
      module _ (n i k : ℕ) (counts : ℕ → ℕ) (h : Stands n i counts) (r : rank i ≡ b) (its : helper i ≡ k) (w : MayMove at code (state i) k)
          (is : counts k ≡ c) where
        -- It is the helper's turn.
        own : schedule n ≡ k → Ends
        own mine = by (turn n i counts h)
          where
            by : Turned n i counts → Ends
            by (inl x) = absurd (x.rests (subst (Runs n) (sym mine) (runs_of n i counts h k w)))
            by (inr (inl x)) =
                let left : put counts (schedule n) x.less k ≡ x.less =
                subst (λ l. put counts (schedule n) x.less l ≡ x.less) mine (put_here counts (schedule n) x.less) in
                let later = next_turn (suc n) i k (put counts (schedule n) x.less) x.stands w in
                again x.less (sym is ∙ (ap counts (sym mine) ∙ x.one)) later.0 (suc n) i k (put counts (schedule n) x.less) x.stands r its w left later.1
            by (inr (inr x)) = led x.lesser
              where
                led : IsLesser n i x.next → Ends
                led (inl less) = low (suc n) x.next (put counts (schedule n) x.alone) (subst (λ a. rank x.next < a) r less) x.stands
                led (inr y) = absurd (y.2 (mine ∙ sym its))

        -- It is the turn of another processor.
        other : (d : ℕ) → ChasedIn b c d → schedule (suc n + d) ≡ k → (schedule n ≡ k → ⊥) → Ends
        other d on later not = by (turn n i counts h)
          where
            by : Turned n i counts → Ends
            by (inl x) = on (suc n) i k counts x.stands r its w is later
            by (inr (inl x)) =
                on (suc n) i k (put counts (schedule n) x.less) x.stands r its w (put_other counts (schedule n) x.less k (λ e. not (sym e)) ∙ is) later
            by (inr (inr x)) = led x.lesser
              where
                led : IsLesser n i x.next → Ends
                led (inl less) = low (suc n) x.next (put counts (schedule n) x.alone) (subst (λ a. rank x.next < a) r less) x.stands
                led (inr y) =
                    on (suc n) x.next k (put counts (schedule n) x.alone) x.stands (y.0 ∙ r) (y.1 ∙ its)
                    (record {
                      local_state = w.local_state;
                      there = x.others k (λ e. not (sym e)) ∙ w.there;
                      runs = w.runs;
                      refers = w.refers;
                    }) (put_other counts (schedule n) x.alone k (λ e. not (sym e)) ∙ is) later

      chase_at : Chased b c
      chase_at zero n i k counts h r its w is later = own n i k counts h r its w is (ap schedule (omega (arith)) ∙ later)
      chase_at (suc d) n i k counts h r its w is later = by (chase_at d) (ap schedule (omega (arith)) ∙ later) (cases_eq (schedule n) k)
        where
          by : ChasedIn b c d → schedule (suc n + d) ≡ k → (schedule n ≡ k) ⊎ (schedule n ≡ k → ⊥) → Ends
          by on moved (inl mine) = own n i k counts h r its w is mine
          by on moved (inr not) = other n i k counts h r its w is d on moved not

    chase : (c : ℕ) → Chased b c
    chase zero = chase_at zero (λ less e. absurd (omega (arith, e)))
    chase (suc c) = chase_at (suc c) (λ less e. subst (Chased b) (omega (arith, e)) (chase c))

    -- ---- no processor may move

    -- No processor may move, and the processors have c turns alone.
    abbrev Rested : (c : ℕ) → Type 0
    Rested c =
        (n i : ℕ) (counts : ℕ → ℕ) → Stands n i counts → ((k : ℕ) → MayMove at code (state i) k → ⊥) →
        total counts (length (now n).processors) ≡ c → Ends

    module _ (c : ℕ) (again : (less : ℕ) → c ≡ suc less → Rested less) where
      -- Processor q, which runs, takes a turn after d others.
      abbrev Waited : (d : ℕ) → Type 0
      Waited d =
          (n i : ℕ) (counts : ℕ → ℕ) → Stands n i counts → ((k : ℕ) → MayMove at code (state i) k → ⊥) →
          total counts (length (now n).processors) ≡ c → (q : ℕ) → Runs n q → schedule (n + d) ≡ q → Ends

      module _ (n i : ℕ) (counts : ℕ → ℕ) (h : Stands n i counts) (none : (k : ℕ) → MayMove at code (state i) k → ⊥)
          (is : total counts (length (now n).processors) ≡ c) where
        -- Whatever the turn is, it is a processor's turn alone, or none.
        pass : (Idle n i counts → Ends) → Ends
        pass if_idle = by (turn n i counts h)
          where
            by : Turned n i counts → Ends
            by (inl x) = if_idle x
            by (inr (inl x)) =
                let sums = total_put counts (schedule n) x.less (length (now n).processors) (found_within (now n).processors (schedule n) x.runs.0 x.runs.1) in
                let long : length (now (suc n)).processors ≡ length (now n).processors = one_length (now n) (schedule n) x.runs.0 x.runs.1 x.runs.2 in
                let one = x.one in
                let left : c ≡ suc (total (put counts (schedule n) x.less) (length (now n).processors)) = omega (arith, sums, one, is) in
                again (total (put counts (schedule n) x.less) (length (now n).processors)) left (suc n) i (put counts (schedule n) x.less) x.stands none
                (ap (total (put counts (schedule n) x.less)) long)
            by (inr (inr x)) = absurd (none (schedule n) x.may)

      wait : (d : ℕ) → Waited d
      wait zero n i counts h none is q runs its =
          pass n i counts h none is (λ x. absurd (x.rests (subst (Runs n) (sym (ap schedule (omega (arith)) ∙ its)) runs)))
      wait (suc d) n i counts h none is q runs its =
          pass n i counts h none is (λ x.
          wait d (suc n) i counts x.stands none (ap (λ (z : FlatState). total counts (length z.processors)) x.same ∙ is) q
          (runs.0, ap (λ (z : FlatState). slice_get z.processors q) x.same ∙ runs.1, runs.2) (ap schedule (omega (arith)) ∙ its))

      rest_at : Rested c
      rest_at n i counts h none is = by (some_runs (now n).processors)
        where
          by : HasRunning (now n).processors ⊎ NoneRuns (now n).processors → Ends
          by (inr stopped) = (n, stopped)
          by (inl x) =
              let later = fair n x.0 (x.1, x.2, x.3) in
              wait (later.0 - n) n i counts h none is x.0 (x.1, x.2, x.3) (ap schedule (omega (arith, later.1)) ∙ later.2)

    rest : (c : ℕ) → Rested c
    rest zero = rest_at zero (λ less e. absurd (omega (arith, e)))
    rest (suc c) = rest_at (suc c) (λ less e. subst Rested (omega (arith, e)) (rest c))

    -- ---- a rank

    ends_at : (n i : ℕ) (counts : ℕ → ℕ) → rank i ≡ b → Stands n i counts → Ends
    ends_at n i counts r h = by (may? at code kept (state i) (helper i))
      where
        by : MayMove at code (state i) (helper i) ⊎ (MayMove at code (state i) (helper i) → ⊥) → Ends
        by (inl w) =
            let later = next_turn n i (helper i) counts h w in
            chase (counts (helper i)) later.0 n i (helper i) counts h r refl w refl later.1
        by (inr none) =
            rest (total counts (length (now n).processors)) n i counts h (λ k w. none ((right i h.within).moves k w)) refl

  ends_below : (b : ℕ) → EndsBelow b
  ends_below zero n i counts less h = absurd (omega (arith, less))
  ends_below (suc b) n i counts less h = by (ends_below b) (cases_lt (rank i) b)
    where
      by : EndsBelow b → (rank i < b) ⊎ (b ≤ rank i) → Ends
      by low (inl lower) = low n i counts lower h
      by low (inr not) = ends_at b low n i counts (omega (arith, less, not)) h

-- If states have ranks that never rise, and that fall as soon as the helper of a state moves, every fair schedule ends.
pub fairly_ended : (at : ℕ → Setting) (code : List ℕ) (kept : LocalState → LocalState) (state : ℕ → MacroState) (count : ℕ) (rank helper : ℕ → ℕ)
    (m : FlatState) (consoles : ℕ → List ℕ) → IsForgetful at code kept → 0 < count → ReachesMacroState at code kept m consoles (state 0) →
    AreFairlyRanked at code kept state count rank helper → EveryFairScheduleEnds m
fairly_ended at code kept state count rank helper m consoles f some reaches right = λ schedule fair.
    let x = counted at code kept m consoles (state 0) reaches in
    ends_below at code kept f state count rank helper right m schedule fair (suc (rank 0)) 0 0 x.0 (omega (arith))
    (record { within = some; consoles = consoles; reaches = x.1 })
