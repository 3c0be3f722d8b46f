-- How a turn of one processor changes the state that the flat machine reaches.
use Rattle.std.proofs.Common.{◌≡◌, ◌≢◌, ◌⊎◌, inl, inr, ℕ, ◌<◌, Bool, true, false, cond, zero, suc, List, [], ◌∷◌}
use Rattle.std.proofs.Common.{◌++◌, Option, Some, None, length, refl, sym, ap, subst, ◌∙◌, arith, eqb, eq-eqb, ne_eqb}
use Rattle.std.specs.Prelude.{slice_get, slice_set, slice_index}
use Rattle.std.proofs.lemmas.Bool.{cases_lt, cases_eq}
use Rattle.std.proofs.lemmas.List.{length-set}
use Rattle.flat_machine.specs.declared.setting.Setting.{Setting}
use Rattle.flat_machine.specs.declared.event.Event.{Event}
use Rattle.flat_machine.specs.declared.event.Retired.{Retired}
use Rattle.flat_machine.specs.declared.poke.Entry.TheVariants as entry
use Rattle.flat_machine.specs.State.{FlatState, Processor, is_running, setting_of}
use Rattle.flat_machine.specs.Turns.{Turn, Retires, Reaches, Stops, turn_of}
use Rattle.flat_machine.specs.Flat.{taken, with_taken, turned, turn_event, flat_step, flat_event, with_processor_number}
use Rattle.flat_machine.proofs.Lemmas.{set_other}
use Rattle.local_reduction.specs.LocalStates.{printed_after, console_after, consoles_after, LocalState, retire, stopped_by}
use Rattle.local_reduction.specs.LocalStates.{alone_by, alone_once, alone, IsReference, GoesOn, Spins, IsAtReference}
use Rattle.local_reduction.specs.Closing.{IsAlike, IsForgetful, MacroState, gone, HasSpinner, local_state_of, ReachesMacroState}
use Rattle.local_reduction.proofs.Spinning.{alone_processor}

-- A number below n + 1 is below n, or is n.
pub below : (n k : ℕ) → k < suc n → (k < n) ⊎ (k ≡ n)
below n k l = elim (cases_lt k n) [ inl less ↦ inl less | inr past ↦ inr (omega (arith, l, past)) ]

-- ---- processors that have stopped or are about to refer

-- The processor has stopped, or its next turn is a reference.
abbrev pub Stands : Setting → List ℕ → Processor → Type 0
Stands s code p = is_running p.status ≡ true → IsReference (turn_of s code p)

reference_changes_nothing : (a : LocalState) (t : Turn) → IsReference t → alone_by a t ≡ a
reference_changes_nothing a (Retires after retired) w = absurd w
reference_changes_nothing a (Reaches word change after) w = refl
reference_changes_nothing a (Stops cause) w = absurd w

-- A turn alone changes nothing if the processor has stopped or its next turn is a reference,
pub standing_once : (s : Setting) (code : List ℕ) (a : LocalState) → Stands s code a.processor → alone_once s code a ≡ a
standing_once s code a h = by_running (is_running a.processor.status) refl
  where
    by_running : (b : Bool) → is_running a.processor.status ≡ b → cond b (alone_by a (turn_of s code a.processor)) a ≡ a
    by_running true e = reference_changes_nothing a (turn_of s code a.processor) (h e)
    by_running false e = refl

-- Any number of turns alone changes nothing if the processor has stopped or its next turn is a reference.
pub standing_stays : (n : ℕ) (s : Setting) (code : List ℕ) (a : LocalState) → Stands s code a.processor → alone n s code a ≡ a
standing_stays zero s code a h = refl
standing_stays (suc n) s code a h = ap (alone n s code) (standing_once s code a h) ∙ standing_stays n s code a h

-- ---- lists

-- If `Some` of two elements is the same, so are the elements.
pub some_inj : {X : Type 0} (x y : X) → Some x ≡ Some y → x ≡ y
some_inj x y e = cc

-- An element found after a write is the one written, or was there before at another place.
pub set_get : {X : Type 0} (xs : List X) (k j : ℕ) (x y : X) → slice_get (slice_set xs k x) j ≡ Some y →
    ((j ≡ k) × (y ≡ x)) ⊎ ((j ≢ k) × (slice_get xs j ≡ Some y))
set_get [] k j x y e = inr (λ same. absurd (cc), e)
set_get (z ∷ zs) zero zero x y e = inl (refl, sym (some_inj x y e))
set_get (z ∷ zs) zero (suc j) x y e = inr (λ same. omega arith, e)
set_get (z ∷ zs) (suc k) zero x y e = inr (λ same. omega arith, e)
set_get (z ∷ zs) (suc k) (suc j) x y e = up (set_get zs k j x y e)
  where
    up : ((j ≡ k) × (y ≡ x)) ⊎ ((j ≢ k) × (slice_get zs j ≡ Some y)) → ((suc j ≡ suc k) × (y ≡ x)) ⊎ ((suc j ≢ suc k) × (slice_get zs j ≡ Some y))
    up (inl h) = inl (ap suc h.0, h.1)
    up (inr h) = inr (λ same. h.0 (omega arith), h.1)

-- An element that is written at a place that a list has is found there.
pub set_there : {X : Type 0} (xs : List X) (k : ℕ) (x y : X) → slice_get xs k ≡ Some y → slice_get (slice_set xs k x) k ≡ Some x
set_there [] k x y e = absurd (cc)
set_there (z ∷ zs) zero x y e = refl
set_there (z ∷ zs) (suc k) x y e = set_there zs k x y e

-- A place at which a list has an element is below the list's length.
pub found_within : {X : Type 0} (xs : List X) (k : ℕ) (x : X) → slice_get xs k ≡ Some x → k < length xs
found_within [] k x e = absurd (cc)
found_within (y ∷ ys) zero x e = omega arith
found_within (y ∷ ys) (suc k) x e = let less = found_within ys k x e in omega (arith, less)

-- A list has an element at each place below its length.
pub found_there : {X : Type 0} (xs : List X) (k : ℕ) → k < length xs → (x : X) × (slice_get xs k ≡ Some x)
found_there [] k less = absurd (omega (arith, less))
found_there (y ∷ ys) zero less = (y, refl)
found_there (y ∷ ys) (suc k) less = found_there ys k (omega (arith, less))

-- ---- steps of the flat machine

abbrev pub one_events : FlatState → ℕ → List (ℕ × Event)
one_events m k = with_processor_number (entry.Processor k) (flat_event m (entry.Processor k))

-- A step of a processor that runs takes its next turn.
pub stepped : (m : FlatState) (k : ℕ) (p : Processor) → slice_get m.processors k ≡ Some p → is_running p.status ≡ true →
    flat_step m (entry.Processor k) ≡ with_taken m k (taken p m.shared (turn_of (setting_of m k) m.code p))
unfolding flat_step
stepped m k p there runs = ap (turned m k) there ∙ rw runs refl

-- A step of a processor that runs shows the event of its next turn.
pub showed : (m : FlatState) (k : ℕ) (p : Processor) → slice_get m.processors k ≡ Some p → is_running p.status ≡ true →
    one_events m k ≡ (k, (taken p m.shared (turn_of (setting_of m k) m.code p)).2) ∷ []
unfolding flat_event
showed m k p there runs = ap (λ o. with_processor_number (entry.Processor k) (turn_event m k o)) there ∙ rw runs refl

-- A step of a processor that runs shows one event.
pub one_event : (m : FlatState) (k : ℕ) (p : Processor) → slice_get m.processors k ≡ Some p → is_running p.status ≡ true → length (one_events m k) ≡ 1
one_event m k p there runs = ap length (showed m k p there runs)

-- After a step of a processor that runs, there are as many processors as before.
pub one_length : (m : FlatState) (k : ℕ) (p : Processor) → slice_get m.processors k ≡ Some p → is_running p.status ≡ true →
    length (flat_step m (entry.Processor k)).processors ≡ length m.processors
one_length m k p there runs =
    ap (λ (z : FlatState). length z.processors) (stepped m k p there runs)
    ∙ length-set m.processors k (taken p m.shared (turn_of (setting_of m k) m.code p)).0

-- A step of a processor that has stopped changes nothing.
pub stays : (m : FlatState) (k : ℕ) (p : Processor) → slice_get m.processors k ≡ Some p → is_running p.status ≡ false → flat_step m (entry.Processor k) ≡ m
unfolding flat_step
stays m k p there stopped = ap (turned m k) there ∙ rw stopped refl

-- A step of a processor that has stopped shows no event.
pub silent : (m : FlatState) (k : ℕ) (p : Processor) → slice_get m.processors k ≡ Some p → is_running p.status ≡ false → one_events m k ≡ []
unfolding flat_event
silent m k p there stopped = ap (λ o. with_processor_number (entry.Processor k) (turn_event m k o)) there ∙ rw stopped refl

-- A step of a number that no processor has changes nothing.
pub absent : (m : FlatState) (k : ℕ) → slice_get m.processors k ≡ None → flat_step m (entry.Processor k) ≡ m
unfolding flat_step
absent m k none = ap (turned m k) none

-- A step of a number that no processor has shows no event.
pub absent_silent : (m : FlatState) (k : ℕ) → slice_get m.processors k ≡ None → one_events m k ≡ []
unfolding flat_event
absent_silent m k none = ap (λ o. with_processor_number (entry.Processor k) (turn_event m k o)) none

-- ---- consoles

-- After an event of a processor, its console has what the event prints.
pub console_here : (consoles : ℕ → List ℕ) (k : ℕ) (e : Event) → consoles_after consoles ((k, e) ∷ []) k ≡ printed_after (consoles k) e
console_here consoles k e = ap (λ b. cond b (printed_after (consoles k) e) (consoles k)) (eq-eqb k k refl)

-- After an event of a processor, the consoles of the others are as before.
pub console_other : (consoles : ℕ → List ℕ) (k : ℕ) (e : Event) (j : ℕ) → j ≢ k → consoles_after consoles ((k, e) ∷ []) j ≡ consoles j
console_other consoles k e j ne = ap (λ b. cond b (printed_after (consoles j) e) (consoles j)) (ne_eqb k j (λ same. ne (sym same)))

console_more : (k : ℕ) (console : List ℕ) (first second : List (ℕ × Event)) →
    console_after k console (first ++ second) ≡ console_after k (console_after k console first) second
console_more k console [] second = refl
console_more k console ((j, e) ∷ first) second = console_more k (cond (eqb j k) (printed_after console e) console) first second

-- The consoles after two lists of events are those that the second makes of the consoles after the first.
pub consoles_more : (consoles : ℕ → List ℕ) (first second : List (ℕ × Event)) →
    consoles_after consoles (first ++ second) ≡ consoles_after (consoles_after consoles first) second
consoles_more consoles first second = λ i k. console_more k (consoles k) first second i

-- ---- numbers of turns

-- the counts with processor k's replaced
abbrev pub put : (counts : ℕ → ℕ) → (k n : ℕ) → ℕ → ℕ
put counts k n j = cond (eqb j k) n (counts j)

-- A count that is put at a number is read there.
pub put_here : (counts : ℕ → ℕ) (k n : ℕ) → put counts k n k ≡ n
put_here counts k n = ap (λ b. cond b n (counts k)) (eq-eqb k k refl)

-- If a count is put at a number, the counts of the others are as before.
pub put_other : (counts : ℕ → ℕ) (k n j : ℕ) → j ≢ k → put counts k n j ≡ counts j
put_other counts k n j ne = ap (λ b. cond b n (counts j)) (ne_eqb j k ne)

-- ---- what is forgotten

module _ (at : ℕ → Setting) (code : List ℕ) (kept : LocalState → LocalState) where
  module _ (f : IsForgetful at code kept) where
    -- Local states of which the same is kept go the same way.
    turn_alike : (a b c : LocalState) (x y z : Turn) → IsAlike kept a b x y → IsAlike kept a c x z → IsAlike kept b c y z
    turn_alike a b c (Retires p r) (Retires p' r') (Retires p'' r'') h i = sym h ∙ i
    turn_alike a b c (Retires p r) (Retires p' r') (Reaches w d g) h i = absurd i
    turn_alike a b c (Retires p r) (Retires p' r') (Stops e) h i = absurd i
    turn_alike a b c (Retires p r) (Reaches w d g) z h i = absurd h
    turn_alike a b c (Retires p r) (Stops e) z h i = absurd h
    turn_alike a b c (Reaches w d g) (Retires p r) z h i = absurd h
    turn_alike a b c (Reaches w d g) (Reaches w' d' g') (Retires p r) h i = absurd i
    turn_alike a b c (Reaches w d g) (Reaches w' d' g') (Reaches w'' d'' g'') h i = (sym h.0 ∙ i.0, sym h.1 ∙ i.1, λ x. sym (h.2 x) ∙ i.2 x)
    turn_alike a b c (Reaches w d g) (Reaches w' d' g') (Stops e) h i = absurd i
    turn_alike a b c (Reaches w d g) (Stops e) z h i = absurd h
    turn_alike a b c (Stops e) (Retires p r) z h i = absurd h
    turn_alike a b c (Stops e) (Reaches w d g) z h i = absurd h
    turn_alike a b c (Stops e) (Stops e') (Retires p r) h i = absurd i
    turn_alike a b c (Stops e) (Stops e') (Reaches w d g) h i = absurd i
    turn_alike a b c (Stops e) (Stops e') (Stops e'') h i = sym h ∙ i

    run_alike : (a b : LocalState) → kept a ≡ kept b → is_running a.processor.status ≡ is_running b.processor.status
    run_alike a b e = sym (f.running a) ∙ (ap (λ (c : LocalState). is_running c.processor.status) e ∙ f.running b)

    abbrev next : ℕ → LocalState → Turn
    next k a = turn_of (at k) code a.processor

    turns_alike : (k : ℕ) (a b : LocalState) → kept a ≡ kept b → is_running a.processor.status ≡ true → IsAlike kept a b (next k a) (next k b)
    turns_alike k a b e runs =
        turn_alike (kept a) a b (next k (kept a)) (next k a) (next k b) (f.turn k a runs)
        (subst (λ c. IsAlike kept c b (next k c) (next k b)) (sym e) (f.turn k b (sym (run_alike a b e) ∙ runs)))

    by_alike : (a b : LocalState) (x y : Turn) → kept a ≡ kept b → IsAlike kept a b x y → kept (alone_by a x) ≡ kept (alone_by b y)
    by_alike a b (Retires c r) (Retires d q) e h = h
    by_alike a b (Retires c r) (Reaches w d g) e h = absurd h
    by_alike a b (Retires c r) (Stops d) e h = absurd h
    by_alike a b (Reaches w d g) (Retires c r) e h = absurd h
    by_alike a b (Reaches w d g) (Reaches v c k) e h = e
    by_alike a b (Reaches w d g) (Stops c) e h = absurd h
    by_alike a b (Stops c) (Retires d q) e h = absurd h
    by_alike a b (Stops c) (Reaches w d g) e h = absurd h
    by_alike a b (Stops c) (Stops d) e h =
        sym (f.stopped a c) ∙ (ap (λ z. kept (stopped_by z c)) e ∙ (f.stopped b c ∙ ap (λ z. kept (stopped_by b z)) h))

    once_alike : (k : ℕ) (a b : LocalState) → kept a ≡ kept b → kept (alone_once (at k) code a) ≡ kept (alone_once (at k) code b)
    once_alike k a b e = by (is_running a.processor.status) refl
      where
        by : (r : Bool) → is_running a.processor.status ≡ r → kept (alone_once (at k) code a) ≡ kept (alone_once (at k) code b)
        by true runs =
            let runs_b : is_running b.processor.status ≡ true = sym (run_alike a b e) ∙ runs in
            ap (λ r. kept (cond r (alone_by a (next k a)) a)) runs
            ∙ (by_alike a b (next k a) (next k b) e (turns_alike k a b e runs)
            ∙ sym (ap (λ r. kept (cond r (alone_by b (next k b)) b)) runs_b))
        by false stands =
            let stands_b : is_running b.processor.status ≡ false = sym (run_alike a b e) ∙ stands in
            ap (λ r. kept (cond r (alone_by a (next k a)) a)) stands ∙ (e ∙ sym (ap (λ r. kept (cond r (alone_by b (next k b)) b)) stands_b))

    -- If the same is kept of two local states, the same is kept of them after equally many turns alone.
    pub alone_alike : (n k : ℕ) (a b : LocalState) → kept a ≡ kept b → kept (alone n (at k) code a) ≡ kept (alone n (at k) code b)
    alone_alike zero k a b e = e
    alone_alike (suc n) k a b e = alone_alike n k (alone_once (at k) code a) (alone_once (at k) code b) (once_alike k a b e)

    -- If two turns go the same way, and one is a reference, so is the other.
    pub reference_alike : (a b : LocalState) (x y : Turn) → IsAlike kept a b x y → IsReference x → IsReference y
    reference_alike a b (Retires p r) y h w = absurd w
    reference_alike a b (Reaches w d g) (Retires p q) h i = absurd h
    reference_alike a b (Reaches w d g) (Reaches v c k) h i = tt
    reference_alike a b (Reaches w d g) (Stops c) h i = absurd h
    reference_alike a b (Stops c) y h w = absurd w

    -- If the same is kept of two local states, and one goes on, so does the other.
    pub goes_alike : (k : ℕ) (a b : LocalState) → kept a ≡ kept b → GoesOn (at k) code a.processor → GoesOn (at k) code b.processor
    goes_alike k a b e h =
        let runs_b : is_running b.processor.status ≡ true = sym (run_alike a b e) ∙ h.0 in
        (runs_b, λ refers. h.1 (reference_alike b a (next k b) (next k a) (turns_alike k b a (sym e) runs_b) refers))

    -- If the same is kept of two local states, and one spins, so does the other.
    spins_alike : (k : ℕ) (a b : LocalState) → kept a ≡ kept b → Spins (at k) code a.processor → Spins (at k) code b.processor
    spins_alike k a b e h = λ n.
        subst (GoesOn (at k) code) (alone_processor n (at k) code b (local_state_of b.processor []) refl)
        (goes_alike k (alone n (at k) code a) (alone n (at k) code b) (alone_alike n k a b e)
        (subst (GoesOn (at k) code) (alone_processor n (at k) code (local_state_of a.processor []) a refl) (h n)))

    -- If the same is kept of two local states, and one is at its reference, so is the other.
    pub at_reference_alike : (k : ℕ) (a b : LocalState) → kept a ≡ kept b → IsAtReference (at k) code a.processor → IsAtReference (at k) code b.processor
    at_reference_alike k a b e h runs = by (h runs_a)
      where
        runs_a : is_running a.processor.status ≡ true
        runs_a = run_alike a b e ∙ runs

        by : IsReference (turn_of (at k) code a.processor) ⊎ Spins (at k) code a.processor →
            IsReference (turn_of (at k) code b.processor) ⊎ Spins (at k) code b.processor
        by (inl refers) = inl (reference_alike a b (next k a) (next k b) (turns_alike k a b e runs_a) refers)
        by (inr spins) = inr (spins_alike k a b e spins)

  -- ---- a turn

  settings_kept : (m n : FlatState) → ((k : ℕ) → setting_of m k ≡ at k) → length n.processors ≡ length m.processors → length n.shared ≡ length m.shared →
      (k : ℕ) → setting_of n k ≡ at k
  settings_kept m n h ps ws k =
      let same : setting_of n k ≡ setting_of m k = λ i. record { number = k; processors = ps i; shared_words = ws i } in
      same ∙ h k

  -- State s has at j what is kept of local state a after n turns alone, and it is at its reference then.
  abbrev pub StandsIn : MacroState → (j n : ℕ) → LocalState → Type 0
  StandsIn s j n a = (slice_get s.local_states j ≡ Some (kept (alone n (at j) code a))) × IsAtReference (at j) code (alone n (at j) code a).processor

  stands_same : (s : MacroState) (j i n o : ℕ) (a b : LocalState) → i ≡ j → o ≡ n → b ≡ a → StandsIn s i o b → StandsIn s j n a
  stands_same s j i n o a b ij on ab x = subst (λ (z : (ℕ × ℕ) × LocalState). StandsIn s z.0.0 z.0.1 z.1) (λ d. ((ij d, on d), ab d)) x

  -- The flat machine reaches the state, each processor by its count of turns alone.
  pub record ReachesIn (m : FlatState) (consoles : ℕ → List ℕ) (counts : ℕ → ℕ) (s : MacroState) : Type 0 where
    -- Each processor has the setting that is given for its number.
    pub settings : (k : ℕ) → setting_of m k ≡ at k
    -- The machine has the given code.
    pub code_is : m.code ≡ code
    -- The shared words are the machine's.
    pub shared : s.shared ≡ m.shared
    -- There is a local state for each processor.
    pub all : length s.local_states ≡ length m.processors
    -- Each processor reaches its local state by its count of turns alone, and is at its reference there.
    pub each : (k : ℕ) (p : Processor) → slice_get m.processors k ≡ Some p → StandsIn s k (counts k) (local_state_of p (consoles k))

  module _ (m : FlatState) (consoles : ℕ → List ℕ) (s : MacroState) where
    -- If a flat machine reaches a state by some counts of turns, it reaches it.
    pub uncounted : (counts : ℕ → ℕ) → ReachesIn m consoles counts s → ReachesMacroState at code kept m consoles s
    uncounted counts h = record {
      settings = h.settings;
      code_is = h.code_is;
      shared = h.shared;
      all = h.all;
      each = λ k p e. (counts k, (h.each k p e).0, (h.each k p e).1);
    }

    -- If a flat machine reaches a state, it does so by some counts of turns.
    pub counted : ReachesMacroState at code kept m consoles s → (counts : ℕ → ℕ) × ReachesIn m consoles counts s
    counted h = (
      λ k. (pick k (slice_get m.processors k) refl).0,
      record {
        settings = h.settings;
        code_is = h.code_is;
        shared = h.shared;
        all = h.all;
        each = λ k p e. (pick k (slice_get m.processors k) refl).1 p e;
      },
    )
      where
        pick : (k : ℕ) (o : Option Processor) → slice_get m.processors k ≡ o →
            (n : ℕ) × ((p : Processor) → slice_get m.processors k ≡ Some p →
            (slice_get s.local_states k ≡ Some (kept (alone n (at k) code (local_state_of p (consoles k)))))
            × IsAtReference (at k) code (alone n (at k) code (local_state_of p (consoles k))).processor)
        pick k None none = (zero, λ p e. absurd (cc))
        pick k (Some q) there =
            let x = h.each k q there in (
              x.0,
              λ p e. subst (λ r. (slice_get s.local_states k ≡ Some (kept (alone x.0 (at k) code (local_state_of r (consoles k)))))
                  × IsAtReference (at k) code (alone x.0 (at k) code (local_state_of r (consoles k))).processor) (some_inj q p (sym there ∙ e)) (x.1, x.2),
            )

  -- After a turn alone, a local state is one turn nearer to its next reference, or no turn was left, and the processor
  -- spins.
  on_its_way : IsForgetful at code kept → (s : MacroState) (k n : ℕ) (a b : LocalState) → is_running a.processor.status ≡ true →
      (IsReference (turn_of (at k) code a.processor) → ⊥) → alone_by a (turn_of (at k) code a.processor) ≡ b → StandsIn s k n a →
      ((i : ℕ) × (n ≡ suc i) × StandsIn s k i b) ⊎ ((n ≡ 0) × HasSpinner at code s)
  on_its_way f s k zero a b runs own is x = inr (
    refl,
    record { processor = k; local_state = kept a; there = x.0; goes_on = goes_alike f k a (kept a) (sym (f.once a)) (runs, own) },
  )
  on_its_way f s k (suc n) a b runs own is x =
      let once : alone_once (at k) code a ≡ b = rw runs is in
      inl (
        n,
        refl,
        (
          x.0 ∙ ap (λ z. Some (kept (alone n (at k) code z))) once,
          subst (λ z. IsAtReference (at k) code (alone n (at k) code z).processor) once x.1,
        ),
      )

  module _ (m : FlatState) (consoles : ℕ → List ℕ) (s : MacroState) (k : ℕ) (p : Processor) (later : ℕ → List ℕ) (counts : ℕ → ℕ)
      (h : ReachesIn m consoles counts s) (there : slice_get m.processors k ≡ Some p) (others : (j : ℕ) → j ≢ k → later j ≡ consoles j) where
    abbrev here : LocalState
    here = local_state_of p (consoles k)

    -- If the processor has stopped or is about to refer, it needs no turn.
    pub none_counted : Stands (at k) code p → ((j : ℕ) → later j ≡ consoles j) → ReachesIn m consoles (put counts k 0) s
    none_counted stands same = record {
      settings = h.settings;
      code_is = h.code_is;
      shared = h.shared;
      all = h.all;
      each = λ j y e. by j y e (cases_eq j k);
    }
      where
        stood : StandsIn s k 0 here
        stood =
            let x = h.each k p there in
            let stays = standing_stays (counts k) (at k) code here stands in
            (x.0 ∙ ap (λ z. Some (kept z)) stays, subst (λ z. IsAtReference (at k) code z.processor) stays x.1)

        by : (j : ℕ) (y : Processor) → slice_get m.processors j ≡ Some y → (j ≡ k) ⊎ (j ≡ k → ⊥) →
            StandsIn s j (put counts k 0 j) (local_state_of y (consoles j))
        by j y e (inl at_k) =
            let is : p ≡ y = some_inj p y (sym there ∙ (ap (slice_get m.processors) (sym at_k) ∙ e)) in
            stands_same s j k (put counts k 0 j) 0 (local_state_of y (consoles j)) here (sym at_k) (sym (put_here counts k 0) ∙ ap (put counts k 0) (sym at_k))
            (λ i. local_state_of (is i) (ap consoles (sym at_k) i)) stood
        by j y e (inr ne) =
            stands_same s j j (put counts k 0 j) (counts j) (local_state_of y (consoles j)) (local_state_of y (consoles j)) refl
            (sym (put_other counts k 0 j ne)) refl (h.each j y e)

    own_went : (b : LocalState) → later k ≡ b.console → (n : ℕ) → StandsIn s k n b →
        ReachesIn (record m { processors = slice_set m.processors k b.processor; shared = m.shared }) later (put counts k n) s
    own_went b printed n went =
        record {
          settings = settings_kept m (record m { processors = slice_set m.processors k b.processor; shared = m.shared }) h.settings long refl;
          code_is = h.code_is;
          shared = h.shared;
          all = h.all ∙ sym long;
          each = λ j y e. by_place j y (set_get m.processors k j b.processor y e);
        }
      where
        long : length (slice_set m.processors k b.processor) ≡ length m.processors
        long = simp length-set

        by_place : (j : ℕ) (y : Processor) → ((j ≡ k) × (y ≡ b.processor)) ⊎ ((j ≢ k) × (slice_get m.processors j ≡ Some y)) →
            StandsIn s j (put counts k n j) (local_state_of y (later j))
        by_place j y (inl x) =
            stands_same s j k (put counts k n j) n (local_state_of y (later j)) b (sym x.0)
            (sym (put_here counts k n) ∙ ap (put counts k n) (sym x.0)) (λ i. local_state_of (sym x.1 i) ((sym printed ∙ ap later (sym x.0)) i)) went
        by_place j y (inr x) =
            stands_same s j j (put counts k n j) (counts j) (local_state_of y (later j)) (local_state_of y (consoles j)) refl
            (sym (put_other counts k n j x.0)) (ap (local_state_of y) (sym (others j x.0))) (h.each j y x.1)

    -- After a turn that is no reference, the machine reaches the same state by one turn less of that processor; or
    -- none was left, and a processor spins in the state.
    pub own_counted : IsForgetful at code kept → (b : LocalState) → is_running p.status ≡ true → (IsReference (turn_of (at k) code p) → ⊥) →
        alone_by here (turn_of (at k) code p) ≡ b → later k ≡ b.console →
        ((n : ℕ) × (counts k ≡ suc n)
        × ReachesIn (record m { processors = slice_set m.processors k b.processor; shared = m.shared }) later (put counts k n) s)
        ⊎ ((counts k ≡ 0) × HasSpinner at code s)
    own_counted f b runs own is printed = either (on_its_way f s k (counts k) here b runs own is (h.each k p there))
      where
        either : ((i : ℕ) × (counts k ≡ suc i) × StandsIn s k i b) ⊎ ((counts k ≡ 0) × HasSpinner at code s) →
            ((n : ℕ) × (counts k ≡ suc n)
            × ReachesIn (record m { processors = slice_set m.processors k b.processor; shared = m.shared }) later (put counts k n) s)
            ⊎ ((counts k ≡ 0) × HasSpinner at code s)
        either (inl went) = inl (went.0, went.1, own_went b printed went.0 went.2)
        either (inr spins) = inr spins

    -- If a processor refers to a word, and is at its reference n turns after that, the machine reaches it, by n turns of
    -- that processor, to the state with its new local state and the word written.
    pub reach_counted : (f : IsForgetful at code kept) (word : ℕ) (change : ℕ → ℕ) (after : ℕ → Processor × Retired) (other : ℕ → LocalState) (n : ℕ) →
        ((x : ℕ) → kept (other x) ≡ kept (retire here (after x))) →
        IsAtReference (at k) code (alone n (at k) code (other (slice_index s.shared word))).processor →
        later k ≡ (retire here (after (slice_index m.shared word))).console →
        ReachesIn
        (record m {
          processors = slice_set m.processors k (after (slice_index m.shared word)).0;
          shared = slice_set m.shared word (change (slice_index m.shared word));
        }) later (put counts k n)
        (gone s k (kept (alone n (at k) code (other (slice_index s.shared word)))) word (change (slice_index s.shared word)))
    reach_counted f word change after other n alike at_reference printed =
        let long : length (slice_set m.processors k (after (slice_index m.shared word)).0) ≡ length m.processors = simp length-set in
        let wide : length (slice_set m.shared word (change (slice_index m.shared word))) ≡ length m.shared = simp length-set in
        let long_s : length (slice_set s.local_states k (kept q)) ≡ length s.local_states = simp length-set in
        record {
          settings = settings_kept m new h.settings long wide;
          code_is = h.code_is;
          shared = ap (λ ws. slice_set ws word (change (slice_index ws word))) h.shared;
          all = long_s ∙ (h.all ∙ sym long);
          each = λ j y e. by_place j y (set_get m.processors k j (after (slice_index m.shared word)).0 y e);
        }
      where
        new : FlatState
        new = record m {
          processors = slice_set m.processors k (after (slice_index m.shared word)).0;
          shared = slice_set m.shared word (change (slice_index m.shared word));
        }

        q : LocalState
        q = alone n (at k) code (other (slice_index s.shared word))

        t : MacroState
        t = gone s k (kept (alone n (at k) code (other (slice_index s.shared word)))) word (change (slice_index s.shared word))

        same : kept (alone n (at k) code (other (slice_index s.shared word))) ≡ kept (alone n (at k) code (retire here (after (slice_index s.shared word))))
        same = alone_alike f n k (other (slice_index s.shared word)) (retire here (after (slice_index s.shared word))) (alike (slice_index s.shared word))

        old_same : retire here (after (slice_index s.shared word)) ≡ retire here (after (slice_index m.shared word))
        old_same = ap (λ ws. retire here (after (slice_index ws word))) h.shared

        by_place : (j : ℕ) (y : Processor) → ((j ≡ k) × (y ≡ (after (slice_index m.shared word)).0)) ⊎ ((j ≢ k) × (slice_get m.processors j ≡ Some y)) →
            StandsIn t j (put counts k n j) (local_state_of y (later j))
        by_place j y (inl x) =
            let stood = h.each k p there in
            let is : retire here (after (slice_index m.shared word)) ≡ local_state_of y (later j) =
            λ i. local_state_of (sym x.1 i) ((sym printed ∙ ap later (sym x.0)) i) in
            stands_same t j k (put counts k n j) n (local_state_of y (later j)) (retire here (after (slice_index s.shared word))) (sym x.0)
            (sym (put_here counts k n) ∙ ap (put counts k n) (sym x.0)) (old_same ∙ is) (
              set_there s.local_states k (kept q) _ stood.0 ∙ ap Some same,
              at_reference_alike f k q (alone n (at k) code (retire here (after (slice_index s.shared word)))) same at_reference,
            )
        by_place j y (inr x) =
            let stood = h.each j y x.1 in
            stands_same t j j (put counts k n j) (counts j) (local_state_of y (later j)) (local_state_of y (consoles j)) refl (sym (put_other counts k n j x.0))
            (ap (local_state_of y) (sym (others j x.0))) (set_other s.local_states k j (kept q) x.0 ∙ stood.0, stood.1)
