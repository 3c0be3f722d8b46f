-- The flat machine on lists does what the theory's flat machine does.
use Rattle.std.proofs.Common.{◌≡◌, ℕ, ◌^◌, ◌<◌, Bool, true, false, List, [], ◌∷◌, ◌++◌, length, length-set, Option, Some, None, refl, sym, ap, ap₂, ◌∙◌, subst}
use Rattle.std.specs.Prelude.{slice_get, slice_index, if◌then◌else◌}
use Rattle.machine_ports.specs.flat_machine.declared.config.Config.{Config}
use Rattle.machine_ports.specs.flat_machine.declared.event.Event.{Event}
use Rattle.machine_ports.specs.flat_machine.declared.event.Event.TheVariants as event
use Rattle.machine_ports.specs.flat_machine.declared.event.Retired as retirement
use Rattle.machine_ports.specs.flat_machine.declared.poke.Poke.{Poke}
use Rattle.machine_ports.specs.flat_machine.declared.poke.Entry.{Entry}
use Rattle.machine_ports.specs.flat_machine.declared.poke.Entry.TheVariants as entry
use Rattle.machine_ports.specs.flat_machine.State as flat
use Rattle.machine_ports.specs.flat_machine.State.{Processor, FlatState, is_running, status_of}
use Rattle.machine_ports.specs.flat_machine.Turns.{Turn, Retires, Reaches, Stops, turn_of}
use Rattle.machine_ports.specs.flat_machine.Flat.{flat_step, flat_event, flat_run, flat_events, taken, with_taken}
use Rattle.machine_ports.specs.flat_machine.Flat.{step_of, turned, turn_event, written, is_lawful}
use Rattle.machine_ports.specs.flat_machine.Flat.{with_processor_number}
use Rattle.machine_ports.specs.flat_machine.Laws.{HasWords}
use Rattle.machine_ports.proofs.Lemmas.flat_machine.{all_get, step_in_range}
use Rattle.serialization.specs.phi_algebra.Functions.{apply}
use Rattle.machine_ports.specs.hart.Deciding.{after_reply}
use Rattle.machine_ports.specs.Ports.{reference_phi}
use Rattle.serialization.specs.messages.Places.{put}
use Rattle.serialization.specs.messages.Queues.{applied}
use Rattle.serialization.specs.Order as theory
use Rattle.serialization.specs.Order.{FlatMachine, flat_turn}
use Rattle.machine_theory.specs.Processors.{ObservedCore, no_processor, setting_of, kind_of, kind_of_turn, alone_by}
use Rattle.machine_theory.specs.Processors.{word_by, retired_by, is_lawful_poke, next, program}
use Rattle.machine_theory.specs.FlatSizes.{HasSize, IsSoundFlat}
use Rattle.machine_theory.proofs.ServeSteps.{applied_word}
use Rattle.machine_theory.proofs.FlatPokes.{lawful_same, lawful_writes, size_written, written_agrees}
use Rattle.machine_theory.proofs.Reading.{read_found, read_none, read_set, observed_set}
use Rattle.machine_theory.specs.Flatness.{read_flat, with_events, IsLawful, AreLawful}

-- If a turn is a reference, its function does to a word what the turn does, and the word is there.
pub record MeansChange (c : Config) (code : List ℕ) (j : ℕ) (p : Processor) : Type 0 where
  -- the word that the turn reaches is a shared word, and the function does to each word what the turn does
  pub change : (word : ℕ) (change : ℕ → ℕ) (after : ℕ → Processor × retirement.Retired) → next c code j p ≡ Reaches word change after →
      (word < c.shared_words) × ((x : ℕ) → x < 2 ^ 32 → apply (reference_phi (setting_of c j) code p) x ≡ change x)

module _ (c : Config) (code : List ℕ) where
  -- ---- turns

  turn_agrees : (F : FlatState) (shown : ℕ → List Event) (j : ℕ) (p : Processor) → j < length F.processors → HasSize c code F → MeansChange c code j p →
      ((w : ℕ) → slice_index F.shared w < 2 ^ 32) →
      (t : Turn) → next c code j p ≡ t →
      flat_turn (program c code) (read_flat F shown) j (record { state = p; events = shown j }) (kind_of_turn t)
      ≡ read_flat (with_taken F j (taken p F.shared t)) (put shown j (shown j ++ (taken p F.shared t).2 ∷ []))
  turn_agrees F shown j p within size means words (Retires after retired) e =
      ap (λ t. record { mem = slice_index F.shared; core = put (read_flat F shown).core j (alone_by (record { state = p; events = shown j }) t) }) e
      ∙ ap (λ f. record { mem = slice_index F.shared; core = f }) (sym (observed_set F.processors j after shown (shown j ++ event.Retired retired ∷ []) within))
  turn_agrees F shown j p within size means words (Stops cause) e =
      ap (λ t. record { mem = slice_index F.shared; core = put (read_flat F shown).core j (alone_by (record { state = p; events = shown j }) t) }) e
      ∙ ap (λ f. record { mem = slice_index F.shared; core = f })
      (sym (observed_set F.processors j (record p { status = status_of cause }) shown (shown j ++ event.Stopped cause ∷ []) within))
  turn_agrees F shown j p within size means words (Reaches word change after) e =
      let g : ObservedCore = record { state = p; events = shown j } in
      let old : ℕ = slice_index F.shared word in
      let m = means.change word change after e in
      let there : word < length F.shared = subst (λ n. word < n) (sym size.shared) m.0 in
      let value : applied (reference_phi (setting_of c j) code p) old ≡ change old =
      applied_word (reference_phi (setting_of c j) code p) old (words word) ∙ m.1 old (words word) in
      ap (λ t. record {
        mem = put (slice_index F.shared) (word_by t) (applied (reference_phi (setting_of c j) code p) (slice_index F.shared (word_by t)));
        core = put (read_flat F shown).core j (retired_by g (after_reply t (slice_index F.shared (word_by t))));
      }) e
      ∙ ap₂ (λ f h. record { mem = f; core = h })
      (ap (put (slice_index F.shared) word) value ∙ sym (read_set F.shared word (change old) 0 there))
      (sym (observed_set F.processors j (after old).0 shown (shown j ++ event.Retired (after old).1 ∷ []) within))

  step_processor : (F : FlatState) (shown : ℕ → List Event) (j : ℕ) → HasSize c code F →
      ((p : Processor) → slice_get F.processors j ≡ Some p → MeansChange c code j p) → ((w : ℕ) → slice_index F.shared w < 2 ^ 32) →
      theory.flat_step (program c code) (read_flat F shown) (entry.Processor j)
      ≡ read_flat (flat_step F (entry.Processor j)) (with_events shown (with_processor_number (entry.Processor j) (flat_event F (entry.Processor j))))
  unfolding flat_step flat_event
  step_processor F shown j size means words = at (slice_get F.processors j) refl
    where
      f : FlatMachine ObservedCore
      f = read_flat F shown

      runs : (p : Processor) → slice_get F.processors j ≡ Some p → (b : Bool) → is_running p.status ≡ b →
          flat_turn (program c code) f j (record { state = p; events = shown j }) (kind_of b (next c code j p))
          ≡ read_flat (if b then with_taken F j (step_of F j p)
          else F) (with_events shown (with_processor_number (entry.Processor j) (if b then Some (step_of F j p).2 else None)))
      runs p found false r = refl
      runs p found true r =
          let within : j < length F.processors = (read_found F.processors j p no_processor found).1 in
          let same : next c code j p ≡ turn_of (flat.setting_of F j) F.code p =
          (λ i. turn_of (record { number = j; processors = sym size.processors i; shared_words = sym size.shared i }) (sym size.code_is i) p) in
          turn_agrees F shown j p within size (means p found) words (next c code j p) refl
          ∙ ap (λ t. read_flat (with_taken F j (taken p F.shared t)) (put shown j (shown j ++ (taken p F.shared t).2 ∷ []))) same

      at : (o : Option Processor) → slice_get F.processors j ≡ o →
          theory.flat_step (program c code) f (entry.Processor j)
          ≡ read_flat (turned F j o) (with_events shown (with_processor_number (entry.Processor j) (turn_event F j o)))
      at None e = ap (λ p. flat_turn (program c code) f j (record { state = p; events = shown j }) (kind_of (is_running p.status) (next c code j p)))
          (read_none F.processors j no_processor e)
      at (Some p) e =
          ap (λ p. flat_turn (program c code) f j (record { state = p; events = shown j }) (kind_of (is_running p.status) (next c code j p)))
          (read_found F.processors j p no_processor e).0
          ∙ runs p e (is_running p.status) refl

  -- ---- pokes

  step_poke : (F : FlatState) (shown : ℕ → List Event) (q : Poke) → HasSize c code F → is_lawful_poke c q ≡ true →
      theory.flat_step (program c code) (read_flat F shown) (entry.Poke q) ≡ read_flat (flat_step F (entry.Poke q)) shown
  unfolding flat_step
  step_poke F shown q size h =
      ap (λ (x : (ℕ → ℕ) × (ℕ → ObservedCore)). record { mem = x.0; core = x.1 }) (written_agrees c code F shown q size h)
      ∙ ap (λ b. read_flat (if b then written F q else F) shown) (sym (lawful_same c code F q size h))

  -- ---- sizes

  taken_length : (p : Processor) (shared : List ℕ) (t : Turn) → length (taken p shared t).1 ≡ length shared
  taken_length p shared (Retires after retired) = refl
  taken_length p shared (Stops cause) = refl
  taken_length p shared (Reaches word change after) = length-set shared word (change (slice_index shared word))

  size_turned : (F : FlatState) (j : ℕ) (o : Option Processor) → HasSize c code F → HasSize c code (turned F j o)
  size_turned F j None size = size
  size_turned F j (Some p) size = at (is_running p.status)
    where
      at : (b : Bool) → HasSize c code (if b then with_taken F j (step_of F j p) else F)
      at false = size
      at true = record {
        processors = length-set F.processors j (step_of F j p).0 ∙ size.processors;
        shared = taken_length p F.shared (turn_of (flat.setting_of F j) F.code p) ∙ size.shared;
        code_is = size.code_is;
      }

  pub size_kept : (F : FlatState) (e : Entry) → HasSize c code F → HasSize c code (flat_step F e)
  unfolding flat_step
  size_kept F (entry.Processor j) size = size_turned F j (slice_get F.processors j) size
  size_kept F (entry.Poke q) size = at (is_lawful F q)
    where
      at : (b : Bool) → HasSize c code (if b then written F q else F)
      at true = size_written c code F q size
      at false = size

  -- ---- runs

  module _ (law : (j : ℕ) (p : Processor) → HasWords p → MeansChange c code j p) where
    sound_kept : (F : FlatState) (e : Entry) → IsLawful c e → IsSoundFlat c code F → IsSoundFlat c code (flat_step F e)
    sound_kept F (entry.Processor j) lawful h =
        record { size = size_kept F (entry.Processor j) h.size; ranges = step_in_range F (entry.Processor j) tt h.ranges }
    sound_kept F (entry.Poke q) lawful h =
        record { size = size_kept F (entry.Poke q) h.size; ranges = step_in_range F (entry.Poke q) (lawful_writes c code q lawful) h.ranges }

    means_of : (F : FlatState) (j : ℕ) (p : Processor) → IsSoundFlat c code F → slice_get F.processors j ≡ Some p → MeansChange c code j p
    means_of F j p h found =
        law j p (all_get HasWords F.processors j p h.ranges.processors found)

    step_agrees : (F : FlatState) (shown : ℕ → List Event) (e : Entry) → IsLawful c e → IsSoundFlat c code F →
        theory.flat_step (program c code) (read_flat F shown) e ≡ read_flat (flat_step F e) (with_events shown (with_processor_number e (flat_event F e)))
    step_agrees F shown (entry.Processor j) lawful h = step_processor F shown j h.size (λ p found. means_of F j p h found) h.ranges.shared
    step_agrees F shown (entry.Poke q) lawful h = step_poke F shown q h.size lawful

    with_events_append : (shown : ℕ → List Event) (xs ys : List (ℕ × Event)) → with_events shown (xs ++ ys) ≡ with_events (with_events shown xs) ys
    with_events_append shown [] ys = refl
    with_events_append shown ((p, x) ∷ xs) ys = with_events_append (put shown p (shown p ++ x ∷ [])) xs ys

    -- The theory's run of lawful entries is the flat machine's.
    pub run_agrees : (es : List Entry) (F : FlatState) (shown : ℕ → List Event) → AreLawful c es → IsSoundFlat c code F →
        theory.flat_run (program c code) (read_flat F shown) es ≡ read_flat (flat_run F es) (with_events shown (flat_events F es))
    unfolding theory.flat_run
    run_agrees [] F shown lawful h = refl
    run_agrees (e ∷ es) F shown lawful h =
        ap (λ f. theory.flat_run (program c code) f es) (step_agrees F shown e lawful.0 h)
        ∙ run_agrees es (flat_step F e) (with_events shown (with_processor_number e (flat_event F e))) lawful.1 (sound_kept F e lawful.0 h)
        ∙ ap (read_flat (flat_run (flat_step F e) es))
        (sym (with_events_append shown (with_processor_number e (flat_event F e)) (flat_events (flat_step F e) es)))

    -- A sound flat machine is sound after each list of lawful entries.
    pub run_sound : (es : List Entry) (F : FlatState) → AreLawful c es → IsSoundFlat c code F → IsSoundFlat c code (flat_run F es)
    run_sound [] F lawful h = h
    run_sound (e ∷ es) F lawful h = run_sound es (flat_step F e) lawful.1 (sound_kept F e lawful.0 h)
