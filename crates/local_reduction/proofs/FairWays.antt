-- If moves follow one another without end, and each processor that may move moves later, some fair schedule never ends.
use Rattle.std.proofs.Common.{◌≡◌, ◌≢◌, ◌⊎◌, inl, inr, ℕ, ◌+◌, ◌<◌, ◌≤◌, Bool, true, false, zero, suc, List, Option, Some, None}
use Rattle.std.proofs.Common.{length, refl, sym, ap, subst, ◌∙◌, arith}
use Rattle.std.specs.Prelude.{slice_get}
use Rattle.std.proofs.lemmas.Bool.{cases_eq}
use Rattle.flat_machine.specs.declared.setting.Setting.{Setting}
use Rattle.flat_machine.specs.declared.poke.Entry.TheVariants as entry
use Rattle.flat_machine.specs.State.{FlatState, Processor, is_running, setting_of}
use Rattle.flat_machine.specs.Turns.{Turn, Retires, Reaches, Stops, turn_of}
use Rattle.flat_machine.specs.Flat.{flat_step}
use Rattle.flat_machine.proofs.Lemmas.{set_other}
use Rattle.local_reduction.specs.LocalStates.{LocalState, GoesOn, IsReference, consoles_after}
use Rattle.local_reduction.specs.Closing.{HasSpinner, IsForgetful, IsMove, MacroState, MayMove, ReachesMacroState}
use Rattle.local_reduction.specs.Termination.{AreReferencesOf, IsFair, NeverEnds, RefersAfter, after_turns}
use Rattle.local_reduction.proofs.OneTurn.{ReachesIn, below, counted, found_within, one_events, one_length, put, some_inj, stepped}
use Rattle.local_reduction.proofs.Covering.{may_move, reaching_turn, retiring_turn, stopping_turn}
use Rattle.local_reduction.proofs.Bounding.{total, total_put}
use Rattle.local_reduction.proofs.Fairness.{runs_in}

-- Moves lead from each state to the next, no processor spins, and each processor that may move moves later.
pub record IsFairWay (at : ℕ → Setting) (code : List ℕ) (kept : LocalState → LocalState) (state : ℕ → MacroState) (mover : ℕ → ℕ) : Type 0 where
  pub calm : (i : ℕ) → HasSpinner at code (state i) → ⊥
  pub move : (i : ℕ) → IsMove at code kept (state i) (mover i) (state (suc i))
  pub fair : (i k : ℕ) → MayMove at code (state i) k → (d : ℕ) × (mover (i + d) ≡ k)

module _ (at : ℕ → Setting) (code : List ℕ) (kept : LocalState → LocalState) (f : IsForgetful at code kept)
    (state : ℕ → MacroState) (mover : ℕ → ℕ) (way : IsFairWay at code kept state mover) where
  -- ---- processors that go on

  -- Processor k runs.
  abbrev RunsIn : FlatState → (k : ℕ) → Type 0
  RunsIn m k = (p : Processor) × (slice_get m.processors k ≡ Some p) × (is_running p.status ≡ true)

  -- Processor k runs, and its next turn is no reference.
  abbrev GoesIn : FlatState → (k : ℕ) → Type 0
  GoesIn m k = (p : Processor) × (slice_get m.processors k ≡ Some p) × GoesOn (at k) code p

  -- Processor k runs, and its next turn is a reference.
  abbrev RefersIn : FlatState → (k : ℕ) → Type 0
  RefersIn m k =
      (p : Processor) × (slice_get m.processors k ≡ Some p) × (is_running p.status ≡ true) × IsReference (turn_of (at k) code p)

  abbrev NoneGoes : FlatState → Type 0
  NoneGoes m = (k : ℕ) → GoesIn m k → ⊥

  -- A processor that runs goes on, or is about to refer.
  goes_or_refers : (m : FlatState) (k : ℕ) → RunsIn m k → GoesIn m k ⊎ RefersIn m k
  goes_or_refers m k r = by (turn_of (at k) code r.0) refl
    where
      by : (x : Turn) → turn_of (at k) code r.0 ≡ x → GoesIn m k ⊎ RefersIn m k
      by (Retires q o) e = inl (r.0, r.1, (r.2, λ w. subst IsReference e w))
      by (Stops c) e = inl (r.0, r.1, (r.2, λ w. subst IsReference e w))
      by (Reaches word change after) e = inr (r.0, r.1, r.2, subst IsReference (sym e) tt)

  goes? : (m : FlatState) (k : ℕ) → GoesIn m k ⊎ (GoesIn m k → ⊥)
  goes? m k = by_processor (slice_get m.processors k) refl
    where
      by_refers : GoesIn m k ⊎ RefersIn m k → GoesIn m k ⊎ (GoesIn m k → ⊥)
      by_refers (inl goes) = inl goes
      by_refers (inr refers) =
          inr (λ x.
          x.2.1 (subst (λ p. IsReference (turn_of (at k) code p)) (some_inj refers.0 x.0 (sym refers.1 ∙ x.1)) refers.3))

      by_running : (p : Processor) → slice_get m.processors k ≡ Some p → (b : Bool) → is_running p.status ≡ b → GoesIn m k ⊎ (GoesIn m k → ⊥)
      by_running p there true runs = by_refers (goes_or_refers m k (p, there, runs))
      by_running p there false stopped =
          inr (λ x.
          let both : true ≡ false = sym x.2.0 ∙ (ap (λ (q : Processor). is_running q.status) (some_inj x.0 p (sym x.1 ∙ there)) ∙ stopped) in
          absurd (cc))

      by_processor : (o : Option Processor) → slice_get m.processors k ≡ o → GoesIn m k ⊎ (GoesIn m k → ⊥)
      by_processor None none = inr (λ x. let both : Some x.0 ≡ None = sym x.1 ∙ none in absurd (cc))
      by_processor (Some p) there = by_running p there (is_running p.status) refl

  -- No processor of the first n goes on.
  abbrev NoneBelow : FlatState → (n : ℕ) → Type 0
  NoneBelow m n = (k : ℕ) → k < n → GoesIn m k → ⊥

  abbrev SomeGoes : FlatState → Type 0
  SomeGoes m = (k : ℕ) × GoesIn m k

  one_more : (m : FlatState) (n : ℕ) → SomeGoes m ⊎ NoneBelow m n → GoesIn m n ⊎ (GoesIn m n → ⊥) → SomeGoes m ⊎ NoneBelow m (suc n)
  one_more m n (inl x) last = inl x
  one_more m n (inr none) (inl goes) = inl (n, goes)
  one_more m n (inr none) (inr not) = inr (λ k less goes. last k goes (below n k less))
    where
      last : (k : ℕ) → GoesIn m k → (k < n) ⊎ (k ≡ n) → ⊥
      last k goes (inl less) = none k less goes
      last k goes (inr same) = not (subst (GoesIn m) same goes)

  among : (m : FlatState) (n : ℕ) → SomeGoes m ⊎ NoneBelow m n
  among m zero = inr (λ k less goes. absurd (omega (arith, less)))
  among m (suc n) = one_more m n (among m n) (goes? m n)

  -- Some processor goes on, or none does.
  some_goes : (m : FlatState) → SomeGoes m ⊎ NoneGoes m
  some_goes m = by (among m (length m.processors))
    where
      by : SomeGoes m ⊎ NoneBelow m (length m.processors) → SomeGoes m ⊎ NoneGoes m
      by (inl x) = inl x
      by (inr none) = inr (λ k goes. none k (found_within m.processors k goes.0 goes.1) goes)

  -- ---- one turn

  -- After `made` references the flat machine reaches the state of this number, by these counts of turns alone.
  record Stage : Type 0 where
    pub made : ℕ
    pub machine : FlatState
    pub consoles : ℕ → List ℕ
    pub counts : ℕ → ℕ
    pub reaches : ReachesIn at code kept machine consoles counts (state made)

  -- the turns alone that are left
  abbrev left : Stage → ℕ
  left g = total g.counts (length g.machine.processors)

  -- The turn of processor k is no reference.
  abbrev GoesTo : (g : Stage) → (k : ℕ) → (next : Stage) → Type 0
  GoesTo g k next = GoesIn g.machine k × (next.made ≡ g.made) × (left next < left g)

  -- No processor goes on, and the turn is the reference that is due.
  abbrev RefersTo : (g : Stage) → (k : ℕ) → (next : Stage) → Type 0
  RefersTo g k next = NoneGoes g.machine × RefersIn g.machine k × (k ≡ mover g.made) × (next.made ≡ suc g.made)

  -- The turn that follows a stage, and the stage after it.
  record Chosen (g : Stage) : Type 0 where
    pub turn : ℕ
    pub next : Stage
    pub steps : next.machine ≡ flat_step g.machine (entry.Processor turn)
    pub kind : GoesTo g turn next ⊎ RefersTo g turn next

  module _ (g : Stage) where
    abbrev now : FlatState
    now = g.machine

    abbrev Nearer : (k : ℕ) → Type 0
    Nearer k =
        ((less : ℕ) × (g.counts k ≡ suc less)
        × ReachesIn at code kept (flat_step now (entry.Processor k)) (consoles_after g.consoles (one_events now k)) (put g.counts k less) (state g.made))
        ⊎ ((g.counts k ≡ 0) × HasSpinner at code (state g.made))

    -- A processor that goes on takes the turn.
    go : (k : ℕ) → GoesIn now k → Chosen g
    go k goes = by (nearer (turn_of (at k) code goes.0) refl)
      where
        nearer : (x : Turn) → turn_of (at k) code goes.0 ≡ x → Nearer k
        nearer (Retires q o) e = retiring_turn at code kept now g.consoles g.counts (state g.made) k g.reaches goes.0 goes.1 goes.2.0 f q o e
        nearer (Stops c) e = stopping_turn at code kept now g.consoles g.counts (state g.made) k g.reaches goes.0 goes.1 goes.2.0 f c e
        nearer (Reaches word change after) e = absurd (goes.2.1 (subst IsReference (sym e) tt))

        by : Nearer k → Chosen g
        by (inr spins) = absurd (way.calm g.made spins.1)
        by (inl x) = record {
          turn = k;
          next = next;
          steps = refl;
          kind = inl (goes, refl, less);
        }
          where
            next : Stage
            next = record {
              made = g.made;
              machine = flat_step now (entry.Processor k);
              consoles = consoles_after g.consoles (one_events now k);
              counts = put g.counts k x.0;
              reaches = x.2;
            }

            less : total (put g.counts k x.0) (length (flat_step now (entry.Processor k)).processors) < total g.counts (length now.processors)
            less =
                let sums = total_put g.counts k x.0 (length now.processors) (found_within now.processors k goes.0 goes.1) in
                let one = x.1 in
                subst (λ n. total (put g.counts k x.0) n < total g.counts (length now.processors)) (sym (one_length now k goes.0 goes.1 goes.2.0))
                (omega (arith, sums, one))

    -- If none goes on, the mover takes the turn, which is its reference.
    refer : NoneGoes now → Chosen g
    refer none = by (goes_or_refers now k (runs_in at code kept f now g.consoles g.counts (state g.made) g.reaches k may))
      where
        k : ℕ
        k = mover g.made

        move : IsMove at code kept (state g.made) k (state (suc g.made))
        move = way.move g.made

        may : MayMove at code (state g.made) k
        may = record {
          local_state = move.local_state;
          there = move.there;
          runs = move.runs;
          refers = subst IsReference (sym move.turn) tt;
        }

        by_turn : (x : RefersIn now k) → (t : Turn) → turn_of (at k) code x.0 ≡ t → Chosen g
        by_turn x (Retires q o) e = absurd (subst IsReference e x.3)
        by_turn x (Stops c) e = absurd (subst IsReference e x.3)
        by_turn x (Reaches word change after) e = record {
          turn = k;
          next = record {
            made = suc g.made;
            machine = flat_step now (entry.Processor k);
            consoles = consoles_after g.consoles (one_events now k);
            counts = put g.counts k move.count;
            reaches = reaching_turn at code kept now g.consoles g.counts (state g.made) k g.reaches x.0 x.1 x.2 f word change after e (state (suc g.made)) move;
          };
          steps = refl;
          kind = inr (none, x, refl, refl);
        }

        by : GoesIn now k ⊎ RefersIn now k → Chosen g
        by (inl goes) = absurd (none k goes)
        by (inr x) = by_turn x (turn_of (at k) code x.0) refl

  choose : (g : Stage) → Chosen g
  choose g = by (some_goes g.machine)
    where
      by : SomeGoes g.machine ⊎ NoneGoes g.machine → Chosen g
      by (inl x) = go g x.0 x.1
      by (inr none) = refer g none

  -- ---- the schedule

  module _ (first : Stage) (none_made : first.made ≡ 0) where
    stage : ℕ → Stage
    stage zero = first
    stage (suc n) = (choose (stage n)).next

    abbrev turn : ℕ → ℕ
    turn n = (choose (stage n)).turn

    machine_is : (n : ℕ) → (stage n).machine ≡ after_turns first.machine turn n
    unfolding stage
    machine_is zero = refl
    machine_is (suc n) = (choose (stage n)).steps ∙ ap (λ m. flat_step m (entry.Processor (turn n))) (machine_is n)

    abbrev Kind : ℕ → Type 0
    Kind n = GoesTo (stage n) (turn n) (stage (suc n)) ⊎ RefersTo (stage n) (turn n) (stage (suc n))

    kind : (n : ℕ) → Kind n
    unfolding stage choose
    kind n = (choose (stage n)).kind

    -- Some turn from n on is the reference that is due after `made` others.
    record IsDue (n made : ℕ) : Type 0 where
      pub at_turn : ℕ
      pub later : n ≤ at_turn
      pub before : (stage at_turn).made ≡ made
      pub refers : RefersTo (stage at_turn) (turn at_turn) (stage (suc at_turn))

    -- After fewer than b turns alone a reference is made.
    due_next : (b n : ℕ) → left (stage n) < b → IsDue n (stage n).made
    due_next zero n less = absurd (omega (arith, less))
    due_next (suc b) n less = by (due_next b (suc n)) (kind n)
      where
        by : (left (stage (suc n)) < b → IsDue (suc n) (stage (suc n)).made) → Kind n → IsDue n (stage n).made
        by again (inr x) = record { at_turn = n; later = omega arith; before = refl; refers = x }
        by again (inl x) =
            let fewer = x.2 in
            let due = again (omega (arith, less, fewer)) in
            let later = due.later in
            record { at_turn = due.at_turn; later = omega (arith, later); before = due.before ∙ x.1; refers = due.refers }

    -- The reference after d more is made.
    due : (d n : ℕ) → IsDue n ((stage n).made + d)
    due zero n = subst (IsDue n) (omega arith) (due_next (suc (left (stage n))) n (omega arith))
    due (suc d) n = by (due d) (due_next (suc (left (stage n))) n (omega arith))
      where
        by : ((m : ℕ) → IsDue m ((stage m).made + d)) → IsDue n (stage n).made → IsDue n ((stage n).made + suc d)
        by again x =
            let y = again (suc x.at_turn) in
            let near = x.later in
            let far = y.later in
            let before = x.before in
            let one = x.refers.3 in
            let all = y.before in
            record { at_turn = y.at_turn; later = omega (arith, near, far); before = omega (arith, all, one, before); refers = y.refers }

    -- Processor k runs after n turns.
    abbrev Runs : (n k : ℕ) → Type 0
    Runs n k = RunsIn (stage n).machine k

    -- The processor whose turn it is runs.
    runs_now : (n : ℕ) → Runs n (turn n)
    runs_now n = by (kind n)
      where
        by : Kind n → Runs n (turn n)
        by (inl x) = (x.0.0, x.0.1, x.0.2.0)
        by (inr x) = (x.1.0, x.1.1, x.1.2)

    -- A turn of another processor leaves the processor as it is.
    runs_on : (n k : ℕ) → k ≢ turn n → Runs n k → Runs (suc n) k
    unfolding stage choose
    runs_on n k other r =
        let mine = runs_now n in
        let is : slice_get (stage (suc n)).machine.processors k ≡ slice_get (stage n).machine.processors k =
        ap (λ (z : FlatState). slice_get z.processors k)
        ((choose (stage n)).steps ∙ stepped (stage n).machine (turn n) mine.0 mine.1 mine.2)
        ∙ set_other (stage n).machine.processors (turn n) k _ other in
        (r.0, is ∙ r.1, r.2)

    -- A processor that is about to refer may move.
    may_now : (n k : ℕ) → RefersIn (stage n).machine k → MayMove at code (state (stage n).made) k
    may_now n k r = by (turn_of (at k) code r.0) refl
      where
        by : (x : Turn) → turn_of (at k) code r.0 ≡ x → MayMove at code (state (stage n).made) k
        by (Retires q o) e = absurd (subst IsReference e r.3)
        by (Stops c) e = absurd (subst IsReference e r.3)
        by (Reaches word change after) e =
            may_move at code kept (stage n).machine (stage n).consoles (stage n).counts (state (stage n).made) k (stage n).reaches r.0 r.1 r.2 f word change
            after e

    abbrev TakesTurn : (n k : ℕ) → Type 0
    TakesTurn n k = (i : ℕ) × (n ≤ i) × (turn i ≡ k)

    -- A processor that may move takes a turn.
    moves_later : (n k : ℕ) → MayMove at code (state (stage n).made) k → TakesTurn n k
    moves_later n k may =
        let x = way.fair (stage n).made k may in
        let y = due x.0 n in
        (y.at_turn, y.later, y.refers.2 ∙ (ap mover y.before ∙ x.1))

    -- A processor that runs takes a turn.
    takes : (b n k : ℕ) → left (stage n) < b → Runs n k → TakesTurn n k
    takes zero n k less r = absurd (omega (arith, less))
    takes (suc b) n k less r = by (takes b (suc n) k) (kind n) (cases_eq k (turn n))
      where
        rests : GoesIn (stage n).machine k ⊎ RefersIn (stage n).machine k → NoneGoes (stage n).machine → TakesTurn n k
        rests (inl goes) none = absurd (none k goes)
        rests (inr refers) none = moves_later n k (may_now n k refers)

        later : TakesTurn (suc n) k → TakesTurn n k
        later x = let far = x.1 in (x.0, omega (arith, far), x.2)

        by : (left (stage (suc n)) < b → Runs (suc n) k → TakesTurn (suc n) k) → Kind n → (k ≡ turn n) ⊎ (k ≡ turn n → ⊥) → TakesTurn n k
        by again (inr x) own = rests (goes_or_refers (stage n).machine k r) x.0
        by again (inl x) (inl mine) = (n, omega arith, sym mine)
        by again (inl x) (inr other) = let fewer = x.2 in later (again (omega (arith, less, fewer)) (runs_on n k other r))

    -- ---- what holds of it

    is_fair : IsFair first.machine turn
    is_fair n k r =
        takes (suc (left (stage n))) n k (omega arith) (subst (λ m. RunsIn m k) (sym (machine_is n)) r)

    never_ends : NeverEnds first.machine turn
    never_ends n stopped =
        let r = runs_now n in
        let there : slice_get (after_turns first.machine turn n).processors (turn n) ≡ Some r.0 =
        subst (λ (m : FlatState). slice_get m.processors (turn n) ≡ Some r.0) (machine_is n) r.1 in
        let both : true ≡ false = sym r.2 ∙ stopped (turn n) r.0 there in
        absurd (cc)

    -- The turn is a reference of the flat machine exactly if it is one by the settings and the code that are given.
    refers_by : (n : ℕ) (p : Processor) →
        turn_of (setting_of (after_turns first.machine turn n) (turn n)) (after_turns first.machine turn n).code p ≡ turn_of (at (turn n)) code p
    refers_by n p =
        subst (λ (m : FlatState). turn_of (setting_of m (turn n)) m.code p ≡ turn_of (at (turn n)) code p) (machine_is n)
        (λ i. turn_of ((stage n).reaches.settings (turn n) i) ((stage n).reaches.code_is i) p)

    made_on : (n : ℕ) → RefersAfter first.machine turn n → (turn n ≡ mover (stage n).made) × ((stage (suc n)).made ≡ suc (stage n).made)
    made_on n w = by (kind n)
      where
        there : slice_get (stage n).machine.processors (turn n) ≡ Some w.processor
        there = subst (λ (m : FlatState). slice_get m.processors (turn n) ≡ Some w.processor) (sym (machine_is n)) w.there

        by : Kind n → (turn n ≡ mover (stage n).made) × ((stage (suc n)).made ≡ suc (stage n).made)
        by (inr x) = (x.2, x.3)
        by (inl x) =
            absurd (x.0.2.1 (subst (λ p. IsReference (turn_of (at (turn n)) code p)) (some_inj w.processor x.0.0 (sym there ∙ x.0.1))
            (subst IsReference (refers_by n w.processor) w.refers)))

    made_same : (n : ℕ) → (RefersAfter first.machine turn n → ⊥) → (stage (suc n)).made ≡ (stage n).made
    made_same n not = by (kind n)
      where
        by : Kind n → (stage (suc n)).made ≡ (stage n).made
        by (inl x) = x.1
        by (inr x) = absurd (not (record {
          processor = x.1.0;
          there = subst (λ (m : FlatState). slice_get m.processors (turn n) ≡ Some x.1.0) (machine_is n) x.1.1;
          runs = x.1.2;
          refers = subst IsReference (sym (refers_by n x.1.0)) x.1.3;
        }))

    are_references : AreReferencesOf first.machine turn mover
    unfolding stage
    are_references = record {
      made = λ n. (stage n).made;
      none = none_made;
      refers = made_on;
      alone = made_same;
      endless = λ i. let x = due i 0 in (x.at_turn, x.before ∙ (let none = none_made in omega (arith, none)));
    }

-- If the flat machine reaches the first state of such a way, some fair schedule never ends, and its references are the
-- moves of the way.
pub way_endless : (at : ℕ → Setting) (code : List ℕ) (kept : LocalState → LocalState) (state : ℕ → MacroState) (mover : ℕ → ℕ) (m : FlatState)
    (consoles : ℕ → List ℕ) → IsForgetful at code kept → ReachesMacroState at code kept m consoles (state 0) → IsFairWay at code kept state mover →
    (schedule : ℕ → ℕ) × IsFair m schedule × NeverEnds m schedule × AreReferencesOf m schedule mover
way_endless at code kept state mover m consoles f reaches way = (
  turn at code kept f state mover way first refl,
  is_fair at code kept f state mover way first refl,
  never_ends at code kept f state mover way first refl,
  are_references at code kept f state mover way first refl,
)
  where
    first : Stage at code kept f state mover way
    first =
        let x = counted at code kept m consoles (state 0) reaches in
        record { made = 0; machine = m; consoles = consoles; counts = x.0; reaches = x.1 }
