-- Runs in turns of processor 0, with one more instruction.
use Rattle.std.proofs.Common.{◌≡◌, ℕ, zero, suc, ◌+◌, ◌^◌, ◌<◌, Bool, true, false, cond, List, [], ◌∷◌, ◌++◌, length}
use Rattle.std.proofs.Common.{Option, Some, None, refl, sym, ap, subst, ◌∙◌, arith, append_assoc, get_or-set_same}
use Rattle.std.specs.Prelude.{count_by, slice_get, slice_index_or, if◌then◌else◌}
use Rattle.std.proofs.lemmas.Bool.{true≢false}
use Rattle.std.proofs.lemmas.List.{append-nil}
use Rattle.std.proofs.lemmas.List.Sums.{sum_by-append}
use Rattle.flat_machine.specs.declared.event.Event.{Event}
use Rattle.flat_machine.specs.declared.event.Event.TheVariants.{Retired, Stopped}
use Rattle.flat_machine.specs.declared.event.Cause.{Cause}
use Rattle.flat_machine.specs.declared.event.Cause.TheVariants as cause
use Rattle.flat_machine.specs.declared.poke.Entry.TheVariants as entry
use Rattle.flat_machine.specs.State.{Processor, FlatState, is_running, status_of}
use Rattle.flat_machine.specs.Turns.{Turn, Retires, Reaches, Stops, turn_of}
use Rattle.flat_machine.specs.Flat.{flat_run, flat_step, flat_event, flat_events, taken, with_taken, step_of, turned, turn_event, with_processor_number}
use Rattle.steps.specs.declared.step.Outcome.{Outcome}
use Rattle.steps.specs.declared.step.Outcome.TheVariants as outcome
use Rattle.machine_steps.specs.machine_theory.Processors.{no_processor}
use Rattle.machine_steps.proofs.Lemmas.machine_theory.{read_found}
use Rattle.machine_steps.specs.Machines.{MachineLists, IsMachine}
use Rattle.machine_steps.specs.Runs.{flat_state}
use Rattle.machine_steps.specs.Whole.{event_of, IsOne}
use Rattle.machine_steps.proofs.Lemmas.{count_is, state_at}
use Rattle.words_command.specs.Command.{HasProcessor}
use Rattle.words_command.specs.Running.{HasRunAlone, is_retirement, is_retired, retirements, turns_of_zero, processor_of}

-- ---- one more turn

count_append : (p : ℕ × Event → Bool) (xs ys : List (ℕ × Event)) → count_by p (xs ++ ys) ≡ count_by p xs + count_by p ys
count_append p xs ys = sum_by-append (λ x. cond (p x) 1 0) xs ys

state_more : (m : FlatState) (n : ℕ) → flat_run m (turns_of_zero (suc n)) ≡ flat_step (flat_run m (turns_of_zero n)) (entry.Processor 0)
state_more m zero = refl
state_more m (suc n) = state_more (flat_step m (entry.Processor 0)) n

events_more : (m : FlatState) (n : ℕ) →
    flat_events m (turns_of_zero (suc n)) ≡ flat_events m (turns_of_zero n)
    ++ with_processor_number (entry.Processor 0) (flat_event (flat_run m (turns_of_zero n)) (entry.Processor 0))
events_more m zero = append-nil (with_processor_number (entry.Processor 0) (flat_event m (entry.Processor 0)))
events_more m (suc n) =
    let first = with_processor_number (entry.Processor 0) (flat_event m (entry.Processor 0)) in
    let after = flat_step m (entry.Processor 0) in
    ap (λ rest. first ++ rest) (events_more after n)
    ∙ sym (append_assoc first (flat_events after (turns_of_zero n))
    (with_processor_number (entry.Processor 0) (flat_event (flat_run after (turns_of_zero n)) (entry.Processor 0))))

-- 1 for a retirement, and otherwise 0
abbrev pub worth : Option Event → ℕ
worth None = 0
worth (Some event) = cond (is_retirement event) 1 0

run_more : (a b c : FlatState) (retired : ℕ) (shown : Option Event) → HasRunAlone a b retired → c ≡ flat_step b (entry.Processor 0) →
    shown ≡ flat_event b (entry.Processor 0) → HasRunAlone a c (retired + worth shown)
run_more a b c retired shown run is fact =
    let n : ℕ = run.turns in
    let there : flat_event (flat_run a (turns_of_zero n)) (entry.Processor 0) ≡ shown = ap (λ f. flat_event f (entry.Processor 0)) (sym run.state) ∙ sym fact in
    let all : flat_events a (turns_of_zero (suc n)) ≡ flat_events a (turns_of_zero n) ++ with_processor_number (entry.Processor 0) shown =
    events_more a n ∙ ap (λ e. flat_events a (turns_of_zero n) ++ with_processor_number (entry.Processor 0) e) there in
    record {
      turns = suc n;
      state = is ∙ ap (λ f. flat_step f (entry.Processor 0)) run.state ∙ sym (state_more a n);
      count =
          ap retirements all ∙ count_append (λ (e : ℕ × Event). is_retirement e.1) (flat_events a (turns_of_zero n))
          (with_processor_number (entry.Processor 0) shown)
          ∙ ap (λ k. k + retirements (with_processor_number (entry.Processor 0) shown)) run.count ∙ ap (λ k. retired + k) (counts_as shown);
    }
  where
    counts_as : (shown : Option Event) → retirements (with_processor_number (entry.Processor 0) shown) ≡ worth shown
    counts_as None = refl
    counts_as (Some (Retired r)) = refl
    counts_as (Some (Stopped cause)) = refl

worth_retired : (o : Outcome) → is_retired o ≡ true → worth (event_of o) ≡ 1
worth_retired (outcome.Retired r) e = refl
worth_retired outcome.Issued e = absurd (true≢false (sym e))
worth_retired (outcome.Stopped cause) e = absurd (true≢false (sym e))
worth_retired outcome.Moved e = absurd (true≢false (sym e))
worth_retired (outcome.Combined first second) e = absurd (true≢false (sym e))
worth_retired (outcome.Served leader) e = absurd (true≢false (sym e))
worth_retired (outcome.Answered to) e = absurd (true≢false (sym e))
worth_retired outcome.Poked e = absurd (true≢false (sym e))
worth_retired outcome.Stalled e = absurd (true≢false (sym e))

worth_else : (o : Outcome) → is_retired o ≡ false → worth (event_of o) ≡ 0
worth_else (outcome.Retired r) e = absurd (true≢false e)
worth_else outcome.Issued e = refl
worth_else (outcome.Stopped cause) e = refl
worth_else outcome.Moved e = refl
worth_else (outcome.Combined first second) e = refl
worth_else (outcome.Served leader) e = refl
worth_else (outcome.Answered to) e = refl
worth_else outcome.Poked e = refl
worth_else outcome.Stalled e = refl

-- If a run of processor 0 alone takes one more turn that retires an instruction, it has retired one more.
pub run_retired : (a : FlatState) (old new : MachineLists) (o : Outcome) (retired : ℕ) → HasRunAlone a (flat_state old) retired → IsOne old 0 o new →
    is_retired o ≡ true → HasRunAlone a (flat_state new) (retired + 1)
run_retired a old new o retired run one e =
    subst (λ n. HasRunAlone a (flat_state new) (retired + n)) (worth_retired o e)
    (run_more a (flat_state old) (flat_state new) retired (event_of o) run one.flat one.event)

-- If a run of processor 0 alone takes one more turn that retires no instruction, it has retired as many as before.
pub run_stopped : (a : FlatState) (old new : MachineLists) (o : Outcome) (retired : ℕ) → HasRunAlone a (flat_state old) retired → IsOne old 0 o new →
    is_retired o ≡ false → HasRunAlone a (flat_state new) retired
run_stopped a old new o retired run one e =
    let same : retired + worth (event_of o) ≡ retired = (let none = worth_else o e in omega (arith, none)) in
    subst (HasRunAlone a (flat_state new)) same (run_more a (flat_state old) (flat_state new) retired (event_of o) run one.flat one.event)

-- ---- the processor after a stop

abbrev first : FlatState → Processor
first F = slice_index_or F.processors 0 no_processor

stopped_is : (why : Cause) → is_running (status_of why) ≡ false
stopped_is (cause.Halt byte) = refl
stopped_is (cause.Fault fault) = refl

taken_stops : (p : Processor) (shared : List ℕ) (t : Turn) (why : Cause) → (taken p shared t).2 ≡ Stopped why → is_running (taken p shared t).0.status ≡ false
taken_stops p shared (Retires after retired) why e = absurd (cc)
taken_stops p shared (Reaches word change after) why e = absurd (cc)
taken_stops p shared (Stops c) why e = stopped_is c

-- After a turn that shows a stop, the processor does not run.
turn_stops : (F : FlatState) (o : Option Processor) → slice_get F.processors 0 ≡ o → (why : Cause) → turn_event F 0 o ≡ Some (Stopped why) →
    is_running (first (turned F 0 o)).status ≡ false
turn_stops F None at why e = absurd (cc)
turn_stops F (Some p) at why e = by (is_running p.status) refl e
  where
    by : (b : Bool) → is_running p.status ≡ b → (if b then Some (step_of F 0 p).2 else None) ≡ Some (Stopped why) →
        is_running (first (if b then with_taken F 0 (step_of F 0 p) else F)).status ≡ false
    by false runs shown = absurd (cc)
    by true runs shown =
        let there : 0 < length F.processors = (read_found F.processors 0 p no_processor at).1 in
        let same : (step_of F 0 p).2 ≡ Stopped why = cc in
        ap (λ (s : Processor). is_running s.status) (get_or-set_same F.processors 0 (step_of F 0 p).0 no_processor there)
        ∙ taken_stops p F.shared (turn_of (record { number = 0; processors = length F.processors; shared_words = length F.shared }) F.code p) why same

-- A processor that runs shows an event in its turn.
turn_shows : (F : FlatState) (o : Option Processor) → slice_get F.processors 0 ≡ o → is_running (first F).status ≡ true → turn_event F 0 o ≡ None → ⊥
turn_shows F None at runs e = none F.processors at runs
  where
    none : (ps : List Processor) → slice_get ps 0 ≡ None → is_running (slice_index_or ps 0 no_processor).status ≡ true → ⊥
    none [] at runs = true≢false (sym runs)
    none (p ∷ ps) at runs = cc
turn_shows F (Some p) at runs e =
    let same : is_running p.status ≡ true = ap (λ (s : Processor). is_running s.status) (sym (read_found F.processors 0 p no_processor at).0) ∙ runs in
    let some : Some (step_of F 0 p).2 ≡ None = ap (λ b. if b then Some (step_of F 0 p).2 else None) (sym same) ∙ e in
    cc

step_stops : (F : FlatState) (why : Cause) → flat_event F (entry.Processor 0) ≡ Some (Stopped why) →
    is_running (first (flat_step F (entry.Processor 0))).status ≡ false
unfolding flat_step flat_event
step_stops F why e = turn_stops F (slice_get F.processors 0) refl why e

step_shows : (F : FlatState) → is_running (first F).status ≡ true → flat_event F (entry.Processor 0) ≡ None → ⊥
unfolding flat_event
step_shows F runs e = turn_shows F (slice_get F.processors 0) refl runs e

module _ (old new : MachineLists) (is : IsMachine old) (is' : IsMachine new) (runs : is_running (processor_of old).status ≡ true) where
  shows : flat_event (flat_state old) (entry.Processor 0) ≡ None → ⊥
  shows = step_shows (flat_state old) (ap (λ (s : Processor). is_running s.status) (state_at old is 0) ∙ runs)

  -- After an instruction that did not retire, the processor does not run.
  pub one_stops : (o : Outcome) → IsOne old 0 o new → is_retired o ≡ false → is_running (processor_of new).status ≡ false
  one_stops (outcome.Retired r) one e = absurd (true≢false e)
  one_stops (outcome.Stopped why) one e =
      ap (λ (s : Processor). is_running s.status) (sym (state_at new is' 0)) ∙ ap (λ F. is_running (first F).status) one.flat
      ∙ step_stops (flat_state old) why (sym one.event)
  one_stops outcome.Issued one e = absurd (shows (sym one.event))
  one_stops outcome.Moved one e = absurd (shows (sym one.event))
  one_stops (outcome.Combined x y) one e = absurd (shows (sym one.event))
  one_stops (outcome.Served x) one e = absurd (shows (sym one.event))
  one_stops (outcome.Answered x) one e = absurd (shows (sym one.event))
  one_stops outcome.Poked one e = absurd (shows (sym one.event))
  one_stops outcome.Stalled one e = absurd (shows (sym one.event))

-- ---- a machine of one processor

single : (ps : List Processor) → length ps ≡ 1 → ps ≡ slice_index_or ps 0 no_processor ∷ []
single [] n = absurd (omega (arith, n))
single (p ∷ []) n = refl
single (p ∷ q ∷ ps) n = absurd (omega (arith, n))

pub alone : (m : MachineLists) → IsMachine m → m.config.k ≡ 0 → HasProcessor (flat_state m) (processor_of m)
alone m is one =
    let count : length (flat_state m).processors ≡ 1 = count_is m is ∙ ap (λ k. 2 ^ k) one in
    single (flat_state m).processors count ∙ ap (λ p. p ∷ []) (state_at m is 0)
