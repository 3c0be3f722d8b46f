-- A flat machine with a processor that spins never stops.
use Rattle.std.proofs.Common.{◌≡◌, ◌⊎◌, inl, inr, ℕ, ◌<◌, Bool, true, false, cond, zero, suc, List, [], ◌∷◌, Option, Some, None}
use Rattle.std.proofs.Common.{length, refl, sym, ap, subst, ◌∙◌, true≢false}
use Rattle.std.specs.Prelude.{slice_get, slice_set}
use Rattle.std.proofs.lemmas.Bool.{cases_eq}
use Rattle.std.proofs.lemmas.List.{length-set}
use Rattle.flat_machine.specs.declared.setting.Setting.{Setting}
use Rattle.flat_machine.specs.declared.poke.Entry.TheVariants as entry
use Rattle.flat_machine.specs.State.{FlatState, Processor, is_running, setting_of}
use Rattle.flat_machine.specs.Turns.{Turn, Retires, Reaches, Stops, turn_of}
use Rattle.flat_machine.specs.Flat.{taken, with_taken, flat_step, flat_run}
use Rattle.flat_machine.proofs.Lemmas.{set_other}
use Rattle.local_reduction.specs.LocalStates.{LocalState, alone_by, alone_once, alone, turns, IsReference, GoesOn, Spins}
use Rattle.local_reduction.specs.Closing.{IsForgetful, MacroState, HasSpinner, local_state_of, ReachesMacroState, HasStopped}
use Rattle.local_reduction.proofs.Spinning.{made, by_made, spins_on, spins_from}
use Rattle.local_reduction.proofs.OneTurn.{standing_once, some_inj, set_there, found_within, found_there, stepped, stays, absent, goes_alike}

-- Some processor spins.
abbrev pub Endless : FlatState → Type 0
Endless m = (k : ℕ) × (p : Processor) × (slice_get m.processors k ≡ Some p) × Spins (setting_of m k) m.code p

-- ---- a turn

module _ (m : FlatState) (j : ℕ) (q : Processor) (there : slice_get m.processors j ≡ Some q) (runs : is_running q.status ≡ true) where
  as_many_words : (x : Turn) → length (taken q m.shared x).1 ≡ length m.shared
  as_many_words (Retires after retired) = refl
  as_many_words (Reaches word change after) = simp length-set
  as_many_words (Stops cause) = refl

  setting_kept : (x : Turn) (k : ℕ) → setting_of (with_taken m j (taken q m.shared x)) k ≡ setting_of m k
  setting_kept x k =
      let many : length (slice_set m.processors j (taken q m.shared x).0) ≡ length m.processors = simp length-set in
      λ i. record { number = k; processors = many i; shared_words = as_many_words x i }

  is_made : (x : Turn) → (IsReference x → ⊥) → (taken q m.shared x).0 ≡ made q x
  is_made (Retires after retired) none = refl
  is_made (Reaches word change after) none = absurd (none tt)
  is_made (Stops cause) none = refl

  -- If it is the turn of the processor that spins, it still spins after it.
  own_spins : Spins (setting_of m j) m.code q → Spins (setting_of m j) m.code (taken q m.shared (turn_of (setting_of m j) m.code q)).0
  own_spins h =
      let x = turn_of (setting_of m j) m.code q in
      subst (Spins (setting_of m j) m.code)
      (ap (λ b. (cond b (alone_by (local_state_of q []) x) (local_state_of q [])).processor) runs
      ∙ (by_made (local_state_of q []) x ∙ sym (is_made x (h 0).1)))
      (spins_on (setting_of m j) m.code (local_state_of q []) h)

  endless_taken : Endless m → Endless (with_taken m j (taken q m.shared (turn_of (setting_of m j) m.code q)))
  endless_taken h = by (cases_eq h.0 j)
    where
      x : Turn
      x = turn_of (setting_of m j) m.code q

      by : (h.0 ≡ j) ⊎ (h.0 ≡ j → ⊥) → Endless (with_taken m j (taken q m.shared (turn_of (setting_of m j) m.code q)))
      by (inl same) =
          let is : h.1 ≡ q = some_inj h.1 q (sym h.2 ∙ (ap (slice_get m.processors) same ∙ there)) in
          let spins : Spins (setting_of m j) m.code q =
          subst (λ (z : ℕ × Processor). Spins (setting_of m z.0) m.code z.1) (λ i. (same i, is i)) h.3 in (
            j,
            (taken q m.shared (turn_of (setting_of m j) m.code q)).0,
            set_there m.processors j (taken q m.shared (turn_of (setting_of m j) m.code q)).0 q there,
            subst (λ s. Spins s m.code (taken q m.shared (turn_of (setting_of m j) m.code q)).0)
                (sym (setting_kept (turn_of (setting_of m j) m.code q) j)) (own_spins spins),
          )
      by (inr other) = (
        h.0,
        h.1,
        set_other m.processors j h.0 (taken q m.shared (turn_of (setting_of m j) m.code q)).0 other ∙ h.2,
        subst (λ s. Spins s m.code h.1) (sym (setting_kept (turn_of (setting_of m j) m.code q) h.0)) h.3,
      )

endless_step : (m : FlatState) (j : ℕ) → Endless m → Endless (flat_step m (entry.Processor j))
endless_step m j h = by_processor (slice_get m.processors j) refl
  where
    by_running : (q : Processor) → slice_get m.processors j ≡ Some q → (b : Bool) → is_running q.status ≡ b → Endless (flat_step m (entry.Processor j))
    by_running q there true runs = subst Endless (sym (stepped m j q there runs)) (endless_taken m j q there runs h)
    by_running q there false stopped = subst Endless (sym (stays m j q there stopped)) h

    by_processor : (o : Option Processor) → slice_get m.processors j ≡ o → Endless (flat_step m (entry.Processor j))
    by_processor None none = subst Endless (sym (absent m j none)) h
    by_processor (Some q) there = by_running q there (is_running q.status) refl

-- ---- runs

-- If a processor spins, no order of turns stops all processors.
pub never_stops : (order : List ℕ) (m : FlatState) → Endless m → HasStopped (flat_run m (turns order)) → ⊥
never_stops [] m h stopped = true≢false (sym (h.3 0).0 ∙ stopped h.0 h.1 h.2)
never_stops (k ∷ ks) m h stopped = never_stops ks (flat_step m (entry.Processor k)) (endless_step m k h) stopped

-- ---- states in which a processor spins

-- A processor that spins after a turn alone spins.
spins_before_once : (s : Setting) (code : List ℕ) (a : LocalState) → Spins s code (alone_once s code a).processor → Spins s code a.processor
spins_before_once s code a h = by_running (is_running a.processor.status) refl
  where
    stood : (is_running a.processor.status ≡ true → IsReference (turn_of s code a.processor)) → Spins s code a.processor
    stood stands = subst (λ (b : LocalState). Spins s code b.processor) (standing_once s code a stands) h

    by_turn : is_running a.processor.status ≡ true → (x : Turn) → turn_of s code a.processor ≡ x → Spins s code a.processor
    by_turn runs (Retires after retired) e = spins_from s code a (runs, λ refers. subst IsReference e refers) h
    by_turn runs (Reaches word change after) e = stood (λ _. subst IsReference (sym e) tt)
    by_turn runs (Stops cause) e = spins_from s code a (runs, λ refers. subst IsReference e refers) h

    by_running : (b : Bool) → is_running a.processor.status ≡ b → Spins s code a.processor
    by_running true runs = by_turn runs (turn_of s code a.processor) refl
    by_running false stops = stood (λ runs. absurd (true≢false (sym runs ∙ stops)))

spins_before : (n : ℕ) (s : Setting) (code : List ℕ) (a : LocalState) → Spins s code (alone n s code a).processor → Spins s code a.processor
spins_before zero s code a h = h
spins_before (suc n) s code a h = spins_before_once s code a (spins_before n s code (alone_once s code a) h)

-- If a flat machine reaches a state in which a processor spins, one of its processors spins.
pub spinner_endless : (at : ℕ → Setting) (code : List ℕ) (kept : LocalState → LocalState) (m : FlatState) (consoles : ℕ → List ℕ) (s : MacroState) →
    IsForgetful at code kept → ReachesMacroState at code kept m consoles s → HasSpinner at code s → Endless m
spinner_endless at code kept m consoles s f h spinner = by found.0 found.1
  where
    found : (p : Processor) × (slice_get m.processors spinner.processor ≡ Some p)
    found =
        let less = found_within s.local_states spinner.processor spinner.local_state spinner.there in
        found_there m.processors spinner.processor (subst (λ n. spinner.processor < n) h.all less)

    by : (p : Processor) → slice_get m.processors spinner.processor ≡ Some p → Endless m
    by p there = (spinner.processor, p, there, spins)
      where
        goes : (n : ℕ) →
            slice_get s.local_states spinner.processor ≡ Some (kept (alone n (at spinner.processor) code (local_state_of p (consoles spinner.processor)))) →
            GoesOn (at spinner.processor) code (alone n (at spinner.processor) code (local_state_of p (consoles spinner.processor))).processor
        goes n e =
            let here = alone n (at spinner.processor) code (local_state_of p (consoles spinner.processor)) in
            let is : spinner.local_state ≡ kept here = some_inj spinner.local_state (kept here) (sym spinner.there ∙ e) in
            goes_alike at code kept f spinner.processor (kept here) here (f.once here)
            (subst (λ (b : LocalState). GoesOn (at spinner.processor) code b.processor) is spinner.goes_on)

        spins : Spins (setting_of m spinner.processor) m.code p
        spins =
            let x = h.each spinner.processor p there in
            let here = alone x.0 (at spinner.processor) code (local_state_of p (consoles spinner.processor)) in
            let on = goes x.0 x.1 in
            subst (λ (z : Setting × List ℕ). Spins z.0 z.1 p) (λ i. (sym (h.settings spinner.processor) i, sym h.code_is i))
            (spins_before x.0 (at spinner.processor) code (local_state_of p (consoles spinner.processor)) (spun here on (x.2 on.0)))
          where
            spun : (here : LocalState) → GoesOn (at spinner.processor) code here.processor →
                IsReference (turn_of (at spinner.processor) code here.processor) ⊎ Spins (at spinner.processor) code here.processor →
                Spins (at spinner.processor) code here.processor
            spun here on (inl refers) = absurd (on.1 refers)
            spun here on (inr spins) = spins
